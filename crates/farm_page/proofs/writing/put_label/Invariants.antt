use Rattle.std.proofs.Common.{◌≡◌, ◌++◌, drop}
use Rattle.farm_page.specs.Escaping.{label_text}
use Rattle.farm_page.proofs.writing.put_label.Given as goal

-- what is written, and what is left to write
abbrev pub invariant-loop-byte : goal.invariant-loop-byte
invariant-loop-byte l = l.out.items ++ label_text (drop l.byte-index l.value) ≡ l.fn.out.items ++ label_text l.value
