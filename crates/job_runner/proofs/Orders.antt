-- Packets that change the function keep one function at a time.
use Rattle.std.proofs.Common.{◌≡◌, ℕ, ◌<◌, ◌≤◌, Bool, true, false, List, [], ◌∷◌, length, Option, Some, None, refl, sym, ap, subst, ◌∙◌, arith}
use Rattle.std.specs.List.{filter}
use Rattle.std.specs.Prelude.{IfSome}
use Rattle.std.specs.Option.{option_to_list}
use Rattle.std.specs.Cmp.Lexicographic.{same_text}
use Rattle.std.proofs.lemmas.Bool.{eq-eqb}
use Rattle.gear_packets.specs.Request.{cant_do}
use Rattle.gear_packets.specs.Text.{is_same_name, is_work, register, registered_by}
use Rattle.worker_state.specs.OrderParts.{OrderParts}
use Rattle.job_runner.specs.declared.answering.Tally.{Tally}
use Rattle.job_runner.specs.Book.{Ledger, after_order}
use Rattle.job_runner.specs.Course.{OneAtATime, Even, Chain, obeying, name_of, known, IsServing}
use Rattle.job_runner.specs.Following.{phase_with}
use Rattle.job_runner.proofs.Steps.{Leads}

text_self : (text : List ℕ) → is_same_name text text ≡ true
text_self [] = refl
text_self (b ∷ text) = rw (eq-eqb b b refl) (text_self text)

pub known_few : (functions : List (List ℕ)) (f : Option ℕ) → length (known functions f) ≤ 1
known_few functions f = by (name_of functions f)
  where
    by : (o : Option (List ℕ)) → length (option_to_list o) ≤ 1
    by None = omega arith
    by (Some name) = omega arith

-- what a session waits for goes with its function
pub serves_with : (count : ℕ) (registered : Option ℕ) → IfSome registered (λ f. f < count) → IsServing count (phase_with registered) registered
serves_with count None h = tt
serves_with count (Some f) h = h

-- what obeying keeps
pub record Keeps (from to : Option (List ℕ)) : Type 0 where
  pub registered_is : registered_by (option_to_list from) (obeying from to) ≡ option_to_list to
  pub one : OneAtATime (option_to_list from) (obeying from to)
  pub works : filter is_work (obeying from to) ≡ []

given_up : (name : List ℕ) → register (name ∷ []) (cant_do name) ≡ []
given_up name = rw (text_self name) refl

same_kept : (from to : List ℕ) (b : Bool) → is_same_name from to ≡ b → Keeps (Some from) (Some to)
same_kept from to true e =
    let same : from ≡ to = same_text from to (sym e) in
    record {
      registered_is = rw e (ap (λ (n : List ℕ). n ∷ []) same);
      one = rw e (omega arith, λ asked. refl, tt);
      works = rw e refl;
    }
same_kept from to false e = record {
  registered_is = rw (e, given_up from) refl;
  one = rw (e, given_up from) (omega arith, λ asked. absurd cc, (omega arith, λ asked. refl, (omega arith, λ asked. refl, tt)));
  works = rw e refl;
}

pub obeying_keeps : (from to : Option (List ℕ)) → Keeps from to
obeying_keeps None None = record { registered_is = refl; one = tt; works = refl }
obeying_keeps None (Some to) = record { registered_is = refl; one = (omega arith, λ asked. refl, (omega arith, λ asked. refl, tt)); works = refl }
obeying_keeps (Some from) None = record { registered_is = given_up from; one = (rw (given_up from) (omega arith), λ asked. absurd cc, tt); works = refl }
obeying_keeps (Some from) (Some to) = same_kept from to (is_same_name from to) refl

few_named : (o : Option (List ℕ)) → length (option_to_list o) ≤ 1
few_named None = omega arith
few_named (Some name) = omega arith

pub order_leads : (from to : Option (List ℕ)) → Leads (option_to_list from) (obeying from to) (option_to_list to) []
order_leads from to =
    let keeps = obeying_keeps from to in
    record { registered_is = keeps.registered_is; one = keeps.one; works = keeps.works; few = few_named to }

pub even_order : (t : Tally) (b new : Ledger) (order : OrderParts) (n : ℕ) → new ≡ after_order b order → Even t b n → Even t new n
even_order t b new order n e even = subst (λ (x : Ledger). Even t x n) (sym e) (record { grabbed = even.grabbed; answered = even.answered; reported = even.reported; grabs = even.grabs; begins = even.begins; reports = even.reports })

pub even_chain : (t : Tally) (b : Ledger) (n : ℕ) → Even t b n → Chain t b n 0
even_chain t b n even = record {
  answered_is = even.answered;
  reported = omega (arith, even.answered, even.reported);
  begins = omega (arith, even.answered, even.begins);
  grabbed = omega (arith, even.begins, even.grabbed);
  one_open = omega (arith, even.grabbed, even.reported);
  grabs = even.grabs ∙ sym even.grabbed;
  reports = even.reports ∙ sym even.reported;
}
