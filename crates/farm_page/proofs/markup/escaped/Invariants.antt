use Rattle.std.proofs.Common.{◌≡◌, ◌++◌, drop}
use Rattle.farm_page.specs.Escaping.{page_text}
use Rattle.farm_page.proofs.markup.escaped.Given as goal

-- what is written, and what is left to write
abbrev pub invariant-loop-byte : goal.invariant-loop-byte
invariant-loop-byte l = l.words.items ++ page_text (drop l.byte-index l.text) ≡ page_text l.text
