use Rattle.pool_commands.proofs.Lines.{words_none, words_some}
use Rattle.pool_commands.proofs.line.cut_word.Goals as goal

pub returns-in-Some-clause-words : goal.returns-in-Some-clause-words
returns-in-Some-clause-words c = words_some c.args.text.now c.in-Some.word.now c.in-Some.rest.now c.in-Some.ensures.parts

pub returns-in-None-clause-words : goal.returns-in-None-clause-words
returns-in-None-clause-words c = words_none c.args.text.now c.in-None.ensures.parts
