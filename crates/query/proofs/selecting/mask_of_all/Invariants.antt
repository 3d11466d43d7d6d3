use Rattle.std.proofs.Common.{suc, map, take}
use Rattle.values.specs.TableView.{table_of}
use Rattle.query.specs.Selection.{holds_all}
use Rattle.query.specs.inner.BoundView.{bound_in}
use Rattle.query.specs.inner.Masks.{IsMask}
use Rattle.query.proofs.selecting.mask_of_all.Given as goal

-- the first condition and those that the loop has met
abbrev pub invariant-loop-bound : goal.invariant-loop-bound
invariant-loop-bound l = IsMask l.mask.items (map (holds_all (map bound_in (take (suc l.bound-index) l.fn.bounds))) (table_of l.table).rows)
