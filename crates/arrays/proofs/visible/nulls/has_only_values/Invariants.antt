use Rattle.std.proofs.Common.{◌≡◌, false, take}
use Rattle.std.specs.List.{list_any}
use Rattle.arrow_schema.specs.View.{kind_of}
use Rattle.columns.specs.CellAt.{entries_of_kind}
use Rattle.columns.specs.View.{placed_dictionary}
use Rattle.columns.specs.Visible.{is_null}
use Rattle.arrays.proofs.visible.nulls.has_only_values.Given as goal

-- no entry of the arrays so far is a null
abbrev pub invariant-loop-array : goal.invariant-loop-array
invariant-loop-array l = list_any is_null (entries_of_kind (kind_of l.data_type) (placed_dictionary l.view.bytes.now (take l.array-index l.array-items))) ≡ false
