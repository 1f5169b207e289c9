use Rattle.std.proofs.Common.{rules, ◌≡◌, map, sym, subst}
use Rattle.std.specs.Prelude.{string_bytes}
use Rattle.pool_settings.specs.Names.{IsInByteOrder}
use Rattle.pool_settings.specs.Reading.{names_of}
use Rattle.pool_settings.specs.Entries.{table_entries}
use Rattle.pool_settings.proofs.Tables.{names_in_order}
use Rattle.pool_settings.proofs.names.Names.of_table.Goals as goal

pub invariant_of-result : goal.invariant_of-result
invariant_of-result c =
    let all : map (λ s. string_bytes s) c.loop-name.names.items ≡ names_of (table_entries c.args.table.now) = search rules in
    subst IsInByteOrder (sym all) (names_in_order c.args.table.now.entries c.len.ensures.ordered)

pub returns-clause-ordered : goal.returns-clause-ordered
returns-clause-ordered c =
    let all : map (λ s. string_bytes s) c.loop-name.names.items ≡ names_of (table_entries c.args.table.now) = search rules in
    subst IsInByteOrder (sym all) (names_in_order c.args.table.now.entries c.len.ensures.ordered)
