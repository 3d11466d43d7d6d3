-- Columns that share their entries, from a place on.
use Rattle.std.proofs.Common.{◌+◌, ℕ, sym, subst}
use Rattle.arrays.specs.Shared.{SharesEntries, ShareEntries}
use Rattle.arrow_schema.specs.Column.{Column, Columns, and_column}
use Rattle.columns.specs.Array.{Arrays, first_array, other_arrays}
use Rattle.table_cut.specs.declared.row_run.RowRun.{RowRun}
use Rattle.table_cut.specs.inner.Columns.{arrays_from_place}
use Rattle.table_cut.proofs.ColumnLemmas.{arrays_next}

-- if the first shares its entries, and the others do
pub next_shares : (c : Column) (cs : Columns) (own others : RowRun) (i : ℕ) → SharesEntries c (first_array (arrays_from_place i own)) (first_array (arrays_from_place i others))
    → ShareEntries cs (arrays_from_place (i + 1) own) (arrays_from_place (i + 1) others) → ShareEntries (and_column c cs) (arrays_from_place i own) (arrays_from_place i others)
unfolding ShareEntries
next_shares c cs own others i first rest = (
  first,
  subst (λ (a : Arrays). ShareEntries cs a (other_arrays (arrays_from_place i others))) (sym (arrays_next i own))
      (subst (λ (b : Arrays). ShareEntries cs (arrays_from_place (i + 1) own) b) (sym (arrays_next i others)) rest),
)
