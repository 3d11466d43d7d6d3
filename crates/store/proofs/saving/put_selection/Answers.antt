use Rattle.std.specs.Prelude.{IfOk}
use Rattle.std.proofs.Common.{subst, string_bytes}
use Rattle.cells.specs.Cell.{PlainTable}
use Rattle.store_changes.specs.Change.{change_of, IsPut}
use Rattle.store.proofs.saving.put_selection.Goals as goal

pub returns : goal.returns
returns c = subst (λ (t : PlainTable). IfOk c.put_table.result (λ change. IsPut (string_bytes c.args.to) t (change_of change))) c.in_ok-table.ensures.ok c.put_table.ensures
