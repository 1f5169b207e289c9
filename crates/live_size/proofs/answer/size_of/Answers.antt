use Rattle.live_size.proofs.Posed.{its_functions, its_permissions, its_slots}
use Rattle.live_size.proofs.answer.size_of.Goals as goal

pub size_reads_back-requires-clause-of_these : goal.size_reads_back-requires-clause-of_these
size_reads_back-requires-clause-of_these c = its_permissions c.args.settings.now c.args.farm.now c.requires

pub size_reads_back-requires-clause-slots : goal.size_reads_back-requires-clause-slots
size_reads_back-requires-clause-slots c = its_slots c.args.settings.now c.args.farm.now c.requires

pub size_reads_back-requires-clause-functions : goal.size_reads_back-requires-clause-functions
size_reads_back-requires-clause-functions c = its_functions c.args.settings.now c.args.farm.now c.requires c.facts.ensures

pub size_text-requires-clause-of_these : goal.size_text-requires-clause-of_these
size_text-requires-clause-of_these c = its_permissions c.args.settings.now c.args.farm.now c.requires

pub size_text-requires-clause-slots : goal.size_text-requires-clause-slots
size_text-requires-clause-slots c = its_slots c.args.settings.now c.args.farm.now c.requires
