-- Columns of runs: one by one, and of a field whatever its name.
use Rattle.std.specs.Prelude.{Option, None, option_map, string_bytes, ◌&&◌, Vec}
use Rattle.std.specs.List.{list_all}
use Rattle.std.specs.Global.{Global}
use Rattle.std.proofs.Common.{◌≡◌, ℕ, ◌+◌, ◌≤◌, ◌<◌, Bool, true, List, [], ◌∷◌, ◌++◌, map, length, drop, refl, ap, ap₂, sym, subst, ◌∙◌, inl, inr, arith}
use Rattle.std.proofs.lemmas.Bool.{and_parts, cases_lt}
use Rattle.std.proofs.lemmas.List.{drop_all}
use Rattle.arrow_schema.specs.Column.{Pair, Kind, Column, Columns, no_column, and_column, column, columns_of}
use Rattle.arrow_schema.specs.View.{column_of, kind_of, index_of, pair_of}
use Rattle.arrow_schema.specs.declared.types.DictSpec.{DictSpec}
use Rattle.arrow_schema.specs.declared.types.Field.{Field}
use Rattle.arrow_schema.specs.laws.Parts.{field_parts}
use Rattle.batch_build.specs.laws.Fields.{plain_can_be_built, plain_field}
use Rattle.batch_build.specs.Batch.{PlainBatch, built_at, built_below, plain_column, with_arrays}
use Rattle.dictionary_codes.specs.Masks.{masked, masked_cells, slots_mask}
use Rattle.array_build.specs.inner.Runs.{built_columns, kind_cells}
use Rattle.batch_build.specs.laws.Joined.{more_arrays, no_arrays}
use Rattle.columns.specs.Runs.{HaveRuns, are_columns_sound, are_runs_sound, can_build_columns, has_validity, is_run_sound, run_cells, runs_cells}
use Rattle.columns.specs.laws.ReadableRuns.{sound_have_validity}
use Rattle.columns.specs.declared.slot_runs.SlotRun.{SlotRun}
use Rattle.columns.specs.declared.slot_runs.SlotRun.TheVariants.{Slots, Nulls}
use Rattle.cells.specs.Cell.{Cell}
use Rattle.columns.specs.Buildable.{can_build}
use Rattle.columns.specs.Built.{built, other_cells}
use Rattle.columns.specs.CellAt.{cell_at}
use Rattle.columns.specs.Sound.{is_sound}
use Rattle.columns.specs.Tests.{Typed, every_array}

-- ---- runs without a null among their slots

pub have_validity : (kind : Kind) (runs : List SlotRun) → are_runs_sound (plain_column kind None) runs ≡ true → list_all has_validity runs ≡ true
have_validity kind runs h = sound_have_validity (plain_column kind None) runs h

-- ---- a column of any name

name_cells : (name : List ℕ) (nullable : Bool) (kind : Kind) (pairs : List Pair) (run : SlotRun) → run_cells (column name nullable kind None pairs) run ≡ run_cells (plain_column kind None) run
unfolding cell_at
name_cells name nullable kind pairs (Slots v from n) = refl
name_cells name nullable kind pairs (Nulls n) = refl

names_cells : (name : List ℕ) (nullable : Bool) (kind : Kind) (pairs : List Pair) (runs : List SlotRun) → runs_cells (column name nullable kind None pairs) runs ≡ kind_cells kind runs
names_cells name nullable kind pairs [] = refl
names_cells name nullable kind pairs (run ∷ runs) = ap₂ (λ (xs ys : List Cell). xs ++ ys) (name_cells name nullable kind pairs run) (names_cells name nullable kind pairs runs)

name_sound : (name : List ℕ) (nullable : Bool) (kind : Kind) (pairs : List Pair) (run : SlotRun) → is_run_sound (column name nullable kind None pairs) run ≡ is_run_sound (plain_column kind None) run
unfolding is_sound
name_sound name nullable kind pairs (Slots v from n) = refl
name_sound name nullable kind pairs (Nulls n) = refl

names_sound : (name : List ℕ) (nullable : Bool) (kind : Kind) (pairs : List Pair) (runs : List SlotRun)
    → are_runs_sound (column name nullable kind None pairs) runs ≡ are_runs_sound (plain_column kind None) runs
names_sound name nullable kind pairs [] = refl
names_sound name nullable kind pairs (run ∷ runs) = ap₂ (λ (a b : Bool). a && b) (name_sound name nullable kind pairs run) (names_sound name nullable kind pairs runs)

plain_form : (f : Field) → f.dictionary ≡ None → column_of f ≡ column (string_bytes f.name) f.nullable (kind_of f.data_type) None (map pair_of f.pairs.items)
plain_form f none =
    field_parts f ∙ ap (λ (o : Option DictSpec). column (string_bytes f.name) f.nullable (kind_of f.data_type) (option_map index_of o) (map pair_of f.pairs.items)) none

field_cells : (f : Field) (runs : List SlotRun) → f.dictionary ≡ None → runs_cells (column_of f) runs ≡ kind_cells (kind_of f.data_type) runs
field_cells f runs none =
    ap (λ (c : Column). runs_cells c runs) (plain_form f none) ∙ names_cells (string_bytes f.name) f.nullable (kind_of f.data_type) (map pair_of f.pairs.items) runs

pub field_sound : (f : Field) (runs : List SlotRun) → f.dictionary ≡ None → are_runs_sound (column_of f) runs ≡ true → are_runs_sound (plain_column (kind_of f.data_type) None) runs ≡ true
field_sound f runs none h =
    sym (ap (λ (c : Column). are_runs_sound c runs) (plain_form f none) ∙ names_sound (string_bytes f.name) f.nullable (kind_of f.data_type) (map pair_of f.pairs.items) runs) ∙ h

field_masked : (f : Field) (mask : List ℕ) (runs : List SlotRun) → f.dictionary ≡ None → masked_cells (column_of f) mask runs ≡ masked_cells (plain_column (kind_of f.data_type) None) mask runs
field_masked f mask runs none = ap (masked (slots_mask mask runs)) (field_cells f runs none)

pub field_fits : (f : Field) (mask : List ℕ) (runs : List SlotRun) → f.dictionary ≡ None → can_build (column_of f) (masked_cells (column_of f) mask runs) ≡ true
    → can_build (plain_column (kind_of f.data_type) None) (masked_cells (plain_column (kind_of f.data_type) None) mask runs) ≡ true
field_fits f mask runs none h =
    ap (can_build (plain_column (kind_of f.data_type) None)) (sym (field_masked f mask runs none)) ∙ plain_can_be_built f (masked_cells (column_of f) mask runs) none h

pub field_built : (p : PlainBatch) (f : Field) (mask : List ℕ) (runs : List SlotRun) → f.dictionary ≡ None
    → with_arrays p (built_at (plain_column (kind_of f.data_type) None) (masked_cells (plain_column (kind_of f.data_type) None) mask runs))
    ≡ with_arrays p (built_at (column_of f) (masked_cells (column_of f) mask runs))
field_built p f mask runs none =
    ap (λ (cells : List Cell). with_arrays p (built_at (plain_column (kind_of f.data_type) None) cells)) (sym (field_masked f mask runs none)) ∙ plain_field p f (masked_cells (column_of f) mask runs) none

-- ---- columns, one after another

abbrev pub lists_of : List (Vec SlotRun Global) → List (List SlotRun)
lists_of columns = map (λ v. v.items) columns

-- what is left is sound, can be built, and completes the batch
pub record AreLeft (fields : List Field) (rs : List (List SlotRun)) : Type 0 where
  pub sound : are_columns_sound (columns_of (map column_of fields)) rs ≡ true
  pub fits : can_build_columns (columns_of (map column_of fields)) rs ≡ true

-- there is a list of runs for each field
some_left : (f : Field) (fields : List Field) (rs : List (List SlotRun)) → are_columns_sound (columns_of (map column_of (f ∷ fields))) rs ≡ true → 1 ≤ length rs
unfolding are_columns_sound
some_left f fields [] h = cc
some_left f fields (r ∷ rs) h = omega arith

pub place_left : (all : List Field) (i : ℕ) (f : Field) (columns : List (Vec SlotRun Global)) → drop i all ≡ f ∷ drop (i + 1) all
    → AreLeft (drop i all) (lists_of (drop i columns)) → i < length columns
place_left all i f columns item left =
    elim (cases_lt i (length columns)) [
      | inl lt ↦ lt
      | inr end ↦
          let none : lists_of (drop i columns) ≡ [] = ap lists_of (drop_all i columns end) in
          let sound : are_columns_sound (columns_of (map column_of (f ∷ drop (i + 1) all))) [] ≡ true =
          subst (λ (rs : List (List SlotRun)). are_columns_sound (columns_of (map column_of (f ∷ drop (i + 1) all))) rs ≡ true) none
          (subst (λ (fs : List Field). are_columns_sound (columns_of (map column_of fs)) (lists_of (drop i columns)) ≡ true) item left.sound) in
          let short = some_left f (drop (i + 1) all) [] sound in
          absurd (omega (arith, short))
    ]

-- of the first column that is left, and of the others
pub record IsFirst (f : Field) (r : List SlotRun) : Type 0 where
  pub sound : are_runs_sound (column_of f) r ≡ true
  pub fits : can_build (column_of f) (runs_cells (column_of f) r) ≡ true

pub first_left : (f : Field) (fields : List Field) (r : List SlotRun) (rs : List (List SlotRun)) → AreLeft (f ∷ fields) (r ∷ rs) → IsFirst f r × AreLeft fields rs
unfolding are_columns_sound can_build_columns
first_left f fields r rs left =
    let c : Column = column_of f in
    let cs : Columns = columns_of (map column_of fields) in
    let s = and_parts (are_runs_sound c r) (are_columns_sound cs rs) left.sound in
    let t = and_parts (can_build c (runs_cells c r)) (can_build_columns cs rs) left.fits in
    (record { sound = s.0; fits = t.0 }, record { sound = s.1; fits = t.1 })

-- the column at a place, and those after it
pub next_left : (all : List Field) (i : ℕ) (f : Field) (columns : List (Vec SlotRun Global)) (v : Vec SlotRun Global) → drop i all ≡ f ∷ drop (i + 1) all → drop i columns ≡ v ∷ drop (i + 1) columns
    → AreLeft (drop i all) (lists_of (drop i columns)) → IsFirst f v.items × AreLeft (drop (i + 1) all) (lists_of (drop (i + 1) columns))
next_left all i f columns v item here left =
    first_left f (drop (i + 1) all) v.items (lists_of (drop (i + 1) columns))
    (subst (λ (vs : List (Vec SlotRun Global)). AreLeft (f ∷ drop (i + 1) all) (lists_of vs)) here (subst (λ (fs : List Field). AreLeft fs (lists_of (drop i columns))) item left))

abbrev pub built_left : List Field → List (Vec SlotRun Global) → List Typed
built_left fields columns = built_columns (columns_of (map column_of fields)) (lists_of columns)

-- the arrays of this column, and then those of the others
pub column_arrays : (all : List Field) (i : ℕ) (f : Field) (columns : List (Vec SlotRun Global)) (v : Vec SlotRun Global) (p q : PlainBatch)
    → drop i all ≡ f ∷ drop (i + 1) all → drop i columns ≡ v ∷ drop (i + 1) columns → q ≡ with_arrays p (built_at (column_of f) (runs_cells (column_of f) v.items))
    → with_arrays q (built_left (drop (i + 1) all) (drop (i + 1) columns)) ≡ with_arrays p (built_left (drop i all) (drop i columns))
unfolding built_columns
column_arrays all i f columns v p q item here h =
    let own : List Typed = built_at (column_of f) (runs_cells (column_of f) v.items) in
    let others : List Typed = built_left (drop (i + 1) all) (drop (i + 1) columns) in
    let both : built_left (drop i all) (drop i columns) ≡ own ++ others = ap₂ (λ (fs : List Field) (vs : List (Vec SlotRun Global)). built_left fs vs) item here in
    ap (λ (x : PlainBatch). with_arrays x others) h ∙ more_arrays p own others ∙ ap (with_arrays p) (sym both)

-- after the last field there is nothing
pub last_column : (all : List Field) (i : ℕ) (columns : List (Vec SlotRun Global)) (p : PlainBatch) → length all ≤ i → with_arrays p (built_left (drop i all) columns) ≡ p
unfolding built_columns
last_column all i columns p end = ap (λ (fs : List Field). with_arrays p (built_left fs columns)) (drop_all i all end) ∙ no_arrays p

-- ---- the arrays of rows that have these runs

pub rows_built : (cs : Columns) (rs : List (List SlotRun)) (rows : List (List Cell)) → HaveRuns cs rs rows → built_columns cs rs ≡ built_below cs rows
unfolding HaveRuns built_columns built every_array
rows_built no_column [] rows have = refl
rows_built no_column (r ∷ rs) rows have = absurd have
rows_built (and_column c cs) [] rows have = absurd have
rows_built (and_column c cs) (r ∷ rs) rows have = ap₂ (λ (xs ys : List Typed). xs ++ ys) (ap (built_at c) (sym have.0)) (rows_built cs rs (map other_cells rows) have.1)
