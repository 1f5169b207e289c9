use Rattle.slot_turns.proofs.Coming.{as_many_come, each_comes_again, each_comes_once, each_is_a_slot, none_comes_twice, none_has_come, none_is_passed_over, one_more_comes}
use Rattle.slot_turns.proofs.law.slots_take_turns.Goals as goal

pub returns : goal.returns
returns c = record {
  none = none_has_come;
  one_more = one_more_comes;
  as_many = as_many_come;
  slot = each_is_a_slot;
  again = each_comes_again;
  twice = none_comes_twice;
  once = each_comes_once;
  passed = none_is_passed_over;
}
