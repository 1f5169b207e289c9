use Rattle.std.proofs.Common.{rules, sym, ap, ◌∙◌}
use Rattle.worker_state.specs.declared.slot.WorkerName.{WorkerName}
use Rattle.pool_core.specs.declared.event.Event.{Event}
use Rattle.agreed_history.specs.declared.known.View.{View}
use Rattle.agreed_history.specs.Agreed.{is_own}
use Rattle.agreed_history.proofs.Moves.{adds_other}
use Rattle.agreed_history.proofs.history.HistoryKept.add_other.Goals as goal

pub split_pass-nobody-requires : goal.split_pass-nobody-requires
split_pass-nobody-requires g c =
    let i = c.self.invariant in
    let none = λ (k : WorkerName). ap (λ (e : Event). is_own k e) (sym c.requires.name) ∙ c.requires.other k in
    (search rules, (search rules, (i.1 ∙ sym i.0, adds_other _ _ _ (ap (λ (v : View). v.keeps) i.2) none)))
