-- Runs of structs, field by field: the runs of a field, and what they build.
use Rattle.std.specs.Prelude.{None, nat_le, option_map, replicate, if◌then◌else◌}
use Rattle.std.specs.List.{flat_map, list_all, range_with_len}
use Rattle.std.proofs.Common.{◌≡◌, ℕ, zero, suc, ◌+◌, ◌<◌, ◌≤◌, Bool, true, false, List, [], ◌∷◌, ◌++◌, map, length, length-append, drop, get_or, refl, sym, ap, ap₂, subst, ◌∙◌, arith, append_assoc, append-nil}
use Rattle.std.proofs.lemmas.Bool.{and_parts, and_from, leb-true}
use Rattle.std.proofs.lemmas.List.{drop_all, length-replicate, map-append}
use Rattle.std.proofs.lemmas.List.FromFn.{length-map-range_with_len}
use Rattle.std.proofs.lemmas.List.Folds.{list_all-append}
use Rattle.facts.specs.laws.Lists.{flat_map-push}
use Rattle.batch_build.specs.laws.Arrays.{structs_are}
use Rattle.dictionary_codes.specs.laws.MaskedItems.{alike_kept, masked_append, masked_map, masked_twice}
use Rattle.dictionary_codes.specs.laws.MaskedRuns.{cells_counted}
use Rattle.dictionary_codes.specs.laws.Bitmaps.{bits_counted}
use Rattle.batch_build.specs.laws.Premises.{parts_can_be_built}
use Rattle.dictionary_codes.specs.laws.Repeated.{repeated_map, repeated_more}
use Rattle.array_build.proofs.RunArrays.{masked_kind_slots, no_value}
use Rattle.batch_build.specs.Batch.{PlainBatch, built_at, built_below, plain_column, with_arrays}
use Rattle.dictionary_codes.specs.Masks.{IsMask, bitmap_bits, masked, masked_by, masked_cells, slots_mask, bitmap_of, run_bits, runs_bits}
use Rattle.array_build.specs.inner.Masked.{masked_parts, masked_slots}
use Rattle.array_build.specs.inner.RunParts.{arrays_from, children_behind, child_at, parts_behind, part_cells_behind, has_sound_part, IsPartOf, IsPart, IsPartIn}
use Rattle.array_build.specs.inner.Runs.{kind_cells, with_run_slots}
use Rattle.batch_build.specs.laws.Joined.{no_arrays, more_arrays}
use Rattle.columns.specs.Runs.{run_cells, runs_cells, is_run_sound, are_runs_sound}
use Rattle.columns.specs.declared.slot_runs.SlotRun.{SlotRun}
use Rattle.columns.specs.declared.slot_runs.SlotRun.TheVariants.{Slots, Nulls}
use Rattle.arrow_schema.specs.Column.{Column, Columns, column, nulls, and_column, columns_of, structs}
use Rattle.arrow_schema.specs.Parts.{kind_of_column, index_of_column}
use Rattle.arrow_schema.specs.laws.Parts.{kind_of_field, index_of_field}
use Rattle.arrow_schema.specs.View.{column_of, kind_of, index_of}
use Rattle.arrow_schema.specs.declared.types.Field.{Field}
use Rattle.cells.specs.Cell.{Cell, null}
use Rattle.cells.specs.Dictionary.{part_list}
use Rattle.columns.specs.Array.{Array, Arrays, slots_in, children_in, first_array, other_arrays}
use Rattle.columns.specs.Buildable.{can_build, can_build_parts}
use Rattle.columns.specs.Built.{first_cell, other_cells, built}
use Rattle.columns.specs.CellAt.{cell_at, kind_cell, cells_from, is_valid, row_at}
use Rattle.columns.specs.Sound.{is_sound, are_sound, has_sound_children}
use Rattle.columns.specs.Tests.{Typed, every_array}
use Rattle.columns.specs.View.{view_array, array_in, arrays_in, placed_arrays}
use Rattle.columns.specs.declared.array.Dictionary.{Dictionary}
use Rattle.columns.specs.declared.array.PlacedArray.{PlacedArray}
use Rattle.columns.specs.declared.view.ArrayView.{ArrayView}
use Rattle.columns.specs.laws.SoundParts.{sound_children}
use Rattle.columns.specs.laws.Rows.{fewer_sound, first_cells, other_rows}

-- ---- the array at a place

pub next_arrays : (arrays : Arrays) (j : ℕ) → other_arrays (arrays_from j arrays) ≡ arrays_from (j + 1) arrays
next_arrays arrays zero = refl
next_arrays arrays (suc j) = let e : suc j + 1 ≡ suc (j + 1) = omega arith in rw e (next_arrays (other_arrays arrays) j)

child_there : (bytes : List ℕ) (all : List Dictionary) (xs : List PlacedArray) (j : ℕ) (x : PlacedArray) → j < length xs → x ≡ get_or xs j x
    → first_array (arrays_from j (placed_arrays bytes all xs)) ≡ array_in bytes (arrays_in bytes all) x
child_there bytes all [] j x lt is = absurd (omega arith)
child_there bytes all (y ∷ xs) zero x lt is = ap (array_in bytes (arrays_in bytes all)) (sym is)
child_there bytes all (y ∷ xs) (suc j) x lt is = child_there bytes all xs j x (omega arith) is

child_absent : (bytes : List ℕ) (all : List Dictionary) (xs : List PlacedArray) (j : ℕ) → length xs ≤ j → slots_in (first_array (arrays_from j (placed_arrays bytes all xs))) ≡ 0
child_absent bytes all [] zero le = refl
child_absent bytes all [] (suc j) le = child_absent bytes all [] j (omega arith)
child_absent bytes all (y ∷ xs) zero le = absurd (omega arith)
child_absent bytes all (y ∷ xs) (suc j) le = child_absent bytes all xs j (omega arith)

-- ---- one run

pub part_found : (j : ℕ) (v child : ArrayView) (from n : ℕ) (xs : List PlacedArray) (x : PlacedArray) → placed_arrays v.bytes.now v.dictionaries.now xs ≡ children_in (view_array v)
    → j < length xs → x ≡ get_or xs j x → view_array child ≡ array_in v.bytes.now (arrays_in v.bytes.now v.dictionaries.now) x → IsPartOf j (Slots v from n) (Slots child from n)
part_found j v child from n xs x children lt is same = λ c h.
    let here : view_array child ≡ child_at j v =
    same ∙ sym (child_there v.bytes.now v.dictionaries.now xs j x lt is) ∙ ap (λ (arrays : Arrays). first_array (arrays_from j arrays)) children in
    let parts = and_parts (nat_le (from + n) (slots_in (child_at j v))) (is_sound c (child_at j v)) h in
    let sound : is_sound c (view_array child) ≡ true = ap (is_sound c) here ∙ parts.1 in
    let long : nat_le (from + n) (slots_in (view_array child)) ≡ true = ap (λ (a : Array). nat_le (from + n) (slots_in a)) here ∙ parts.0 in
    (ap (λ (a : Array). cells_from (cell_at c a) from n) here, and_from _ _ sound long)

pub part_absent : (j : ℕ) (v : ArrayView) (from n : ℕ) (xs : List PlacedArray) → placed_arrays v.bytes.now v.dictionaries.now xs ≡ children_in (view_array v) → length xs ≤ j
    → IsPartOf j (Slots v from n) (Nulls 0)
part_absent j v from n xs children le = λ c h.
    let parts = and_parts (nat_le (from + n) (slots_in (child_at j v))) (is_sound c (child_at j v)) h in
    let none : slots_in (child_at j v) ≡ 0 = ap (λ (arrays : Arrays). slots_in (first_array (arrays_from j arrays))) (sym children) ∙ child_absent v.bytes.now v.dictionaries.now xs j le in
    let most : from + n ≤ slots_in (child_at j v) = leb-true _ _ parts.0 in
    let short : 0 ≡ n = omega (arith, none, most) in
    (ap (cells_from (cell_at c (child_at j v)) from) short, refl)

-- ---- the runs of the field at a place

-- those of the runs so far, and what is left
abbrev pub ArePartsLeft : ℕ → (all left parts : List SlotRun) → Type 0
ArePartsLeft j all left parts = (c : Column) → list_all (has_sound_part j c) all ≡ true
    → (runs_cells c parts ++ flat_map (part_cells_behind j c) left ≡ flat_map (part_cells_behind j c) all) × ((are_runs_sound c parts ≡ true) × (list_all (has_sound_part j c) left ≡ true))

pub no_part_yet : (j : ℕ) (all : List SlotRun) → ArePartsLeft j all all []
no_part_yet j all = λ c h. (refl, (refl, h))

pub part_more : (j : ℕ) (all left rest : List SlotRun) (run part : SlotRun) (old new : List SlotRun) → left ≡ run ∷ rest → new ≡ old ++ part ∷ [] → IsPartOf j run part
    → ArePartsLeft j all left old → ArePartsLeft j all rest new
part_more j all left rest run part old new item pushed is was = λ c h.
    let before = was c h in
    let both = and_parts (has_sound_part j c run) (list_all (has_sound_part j c) rest) (sym (ap (list_all (has_sound_part j c)) item) ∙ before.1.1) in
    let own = is c both.0 in
    let others : List Cell = flat_map (part_cells_behind j c) rest in
    let joined : runs_cells c new ++ others ≡ flat_map (part_cells_behind j c) all =
    ap (λ (rs : List SlotRun). runs_cells c rs ++ others) pushed
    ∙ ap (λ (xs : List Cell). xs ++ others) (flat_map-push (run_cells c) old part)
    ∙ append_assoc (runs_cells c old) (run_cells c part) others
    ∙ ap (λ (xs : List Cell). runs_cells c old ++ (xs ++ others)) own.0
    ∙ ap (λ (rs : List SlotRun). runs_cells c old ++ flat_map (part_cells_behind j c) rs) (sym item)
    ∙ before.0 in
    let good : are_runs_sound c new ≡ true =
    ap (are_runs_sound c) pushed ∙ list_all-append (is_run_sound c) old (part ∷ []) ∙ and_from _ _ before.1.0 (and_from _ _ own.1 refl) in
    (joined, (good, both.1))

pub is_part : (j : ℕ) (all left parts : List SlotRun) → left ≡ [] → ArePartsLeft j all left parts → IsPart j all parts
is_part j all left parts none was = λ c h.
    let before = was c h in
    let end : runs_cells c parts ++ flat_map (part_cells_behind j c) left ≡ runs_cells c parts =
    ap (λ (rs : List SlotRun). runs_cells c parts ++ flat_map (part_cells_behind j c) rs) none ∙ append-nil (runs_cells c parts) in
    (sym end ∙ before.0, before.1.0)

-- ---- nulls, whatever stands in their array

null_slots : (c : Column) (a : Array) (from n : ℕ) → kind_of_column c ≡ nulls → index_of_column c ≡ None → cells_from (cell_at c a) from n ≡ replicate n null
unfolding cell_at kind_cell
null_slots c a from zero kind plain = refl
null_slots (column name nullable nulls None pairs) a from (suc n) kind plain =
    ap₂ (λ (x : Cell) (xs : List Cell). x ∷ xs) (no_value (is_valid a from)) (null_slots (column name nullable nulls None pairs) a (from + 1) n kind plain)
null_slots c a from (suc n) kind plain = cc

null_part : (j : ℕ) (c : Column) (run : SlotRun) → kind_of_column c ≡ nulls → index_of_column c ≡ None → part_cells_behind j c run ≡ replicate (length (run_bits run)) null
null_part j c (Slots v from n) kind plain =
    null_slots c (child_at j v) from n kind plain ∙ ap (λ (k : ℕ). replicate k null) (sym (length-map-range_with_len (is_valid (view_array v)) from n))
null_part j c (Nulls n) kind plain = ap (λ (k : ℕ). replicate k null) (sym (length-replicate n false))

null_parts : (j : ℕ) (c : Column) (runs : List SlotRun) → kind_of_column c ≡ nulls → index_of_column c ≡ None
    → flat_map (part_cells_behind j c) runs ≡ replicate (length (runs_bits runs)) null
null_parts j c [] kind plain = refl
null_parts j c (run ∷ runs) kind plain =
    ap₂ (λ (xs ys : List Cell). xs ++ ys) (null_part j c run kind plain) (null_parts j c runs kind plain)
    ∙ sym (repeated_more (length (run_bits run)) (length (runs_bits runs)) null)
    ∙ ap (λ (k : ℕ). replicate k null) (sym (length-append (run_bits run) (runs_bits runs)))

column_nulls : (j : ℕ) (c : Column) (runs parts : List SlotRun) → kind_of_column c ≡ nulls → index_of_column c ≡ None → parts ≡ Nulls (length (runs_bits runs)) ∷ [] → IsPartIn c j runs parts
column_nulls j c runs parts kind plain is = λ h. (
  ap (runs_cells c) is ∙ append-nil (replicate (length (runs_bits runs)) null) ∙ sym (null_parts j c runs kind plain),
  ap (are_runs_sound c) is,
)

-- all slots of a field of nulls are one run
pub nulls_are_part : (j : ℕ) (f : Field) (runs parts : List SlotRun) → kind_of f.data_type ≡ nulls → f.dictionary ≡ None → parts ≡ Nulls (length (runs_bits runs)) ∷ []
    → IsPartIn (column_of f) j runs parts
nulls_are_part j f runs parts kind plain is = column_nulls j (column_of f) runs parts (kind_of_field f ∙ kind) (index_of_field f ∙ ap (option_map index_of) plain) is

-- ---- the rows of parts, field by field

first_of_run : (j : ℕ) (c : Column) (cs : Columns) (run : SlotRun) → map first_cell (parts_behind j (and_column c cs) run) ≡ part_cells_behind j c run
first_of_run j c cs (Slots v from n) = first_cells c cs (children_behind j v) (range_with_len from n)
first_of_run j c cs (Nulls n) = repeated_map first_cell n []

others_of_run : (j : ℕ) (c : Column) (cs : Columns) (run : SlotRun) → map other_cells (parts_behind j (and_column c cs) run) ≡ parts_behind (j + 1) cs run
others_of_run j c cs (Slots v from n) =
    other_rows c cs (children_behind j v) (range_with_len from n)
    ∙ ap (λ (arrays : Arrays). map (row_at cs arrays) (range_with_len from n)) (next_arrays (children_in (view_array v)) j)
others_of_run j c cs (Nulls n) = repeated_map other_cells n []

rows_first : (j : ℕ) (c : Column) (cs : Columns) (runs : List SlotRun) → map first_cell (flat_map (parts_behind j (and_column c cs)) runs) ≡ flat_map (part_cells_behind j c) runs
rows_first j c cs [] = refl
rows_first j c cs (r ∷ runs) =
    map-append first_cell (parts_behind j (and_column c cs) r) (flat_map (parts_behind j (and_column c cs)) runs)
    ∙ ap₂ (λ (xs ys : List Cell). xs ++ ys) (first_of_run j c cs r) (rows_first j c cs runs)

rows_others : (j : ℕ) (c : Column) (cs : Columns) (runs : List SlotRun) → map other_cells (flat_map (parts_behind j (and_column c cs)) runs) ≡ flat_map (parts_behind (j + 1) cs) runs
rows_others j c cs [] = refl
rows_others j c cs (r ∷ runs) =
    map-append other_cells (parts_behind j (and_column c cs) r) (flat_map (parts_behind j (and_column c cs)) runs)
    ∙ ap₂ (λ (xs ys : List (List Cell)). xs ++ ys) (others_of_run j c cs r) (rows_others j c cs runs)

-- the fields from a place on can be looked up in a run
abbrev is_sound_behind : ℕ → Columns → SlotRun → Bool
is_sound_behind j cs (Slots v from n) = are_sound cs (from + n) (children_behind j v)
is_sound_behind j cs (Nulls n) = true

own_part : (j : ℕ) (c : Column) (cs : Columns) (run : SlotRun) → is_sound_behind j (and_column c cs) run ≡ true → (has_sound_part j c run ≡ true) × (is_sound_behind (j + 1) cs run ≡ true)
unfolding are_sound
own_part j c cs (Nulls n) h = (refl, refl)
own_part j c cs (Slots v from n) h =
    let long = and_parts (nat_le (from + n) (slots_in (child_at j v))) _ h in
    let parts = and_parts (is_sound c (child_at j v)) _ long.1 in
    (and_from _ _ long.0 parts.0, sym (ap (are_sound cs (from + n)) (next_arrays (children_in (view_array v)) j)) ∙ parts.1)

own_parts : (j : ℕ) (c : Column) (cs : Columns) (runs : List SlotRun) → list_all (is_sound_behind j (and_column c cs)) runs ≡ true
    → (list_all (has_sound_part j c) runs ≡ true) × (list_all (is_sound_behind (j + 1) cs) runs ≡ true)
own_parts j c cs [] h = (refl, refl)
own_parts j c cs (r ∷ runs) h =
    let both = and_parts (is_sound_behind j (and_column c cs) r) (list_all (is_sound_behind j (and_column c cs)) runs) h in
    let here = own_part j c cs r both.0 in
    let more = own_parts j c cs runs both.1 in
    (and_from _ _ here.0 more.0, and_from _ _ here.1 more.1)

-- ---- the parts of structs, whatever stands below nulls

slot_parts : (b : Bool) (cs : Columns) (a : Array) (i : ℕ) → is_valid a i ≡ b → part_list (cell_at (plain_column (structs cs) None) a i) ≡ (if b then row_at cs (children_in a) i else [])
unfolding cell_at kind_cell
slot_parts true cs a i valid = rw valid refl
slot_parts false cs a i valid = rw valid refl

slots_parts : (cs : Columns) (a : Array) (from n : ℕ) → map part_list (cells_from (cell_at (plain_column (structs cs) None) a) from n)
    ≡ masked_by [] (map (is_valid a) (range_with_len from n)) (map (row_at cs (children_in a)) (range_with_len from n))
slots_parts cs a from zero = refl
slots_parts cs a from (suc n) = ap₂ (λ (row : List Cell) (rows : List (List Cell)). row ∷ rows) (slot_parts (is_valid a from) cs a from refl) (slots_parts cs a (from + 1) n)

run_parts : (cs : Columns) (run : SlotRun) → map part_list (run_cells (plain_column (structs cs) None) run) ≡ masked_by [] (run_bits run) (parts_behind 0 cs run)
run_parts cs (Slots v from n) = slots_parts cs (view_array v) from n
run_parts cs (Nulls n) = repeated_map part_list n null ∙ sym (alike_kept [] (replicate n false) n)

parts_counted : (j : ℕ) (cs : Columns) (run : SlotRun) → length (run_bits run) ≡ length (parts_behind j cs run)
parts_counted j cs (Slots v from n) = length-map-range_with_len (is_valid (view_array v)) from n ∙ sym (length-map-range_with_len (row_at cs (children_behind j v)) from n)
parts_counted j cs (Nulls n) = length-replicate n false ∙ sym (length-replicate n [])

runs_parts : (cs : Columns) (runs : List SlotRun) → map part_list (kind_cells (structs cs) runs) ≡ masked_by [] (runs_bits runs) (flat_map (parts_behind 0 cs) runs)
runs_parts cs [] = refl
runs_parts cs (run ∷ runs) =
    map-append part_list (run_cells (plain_column (structs cs) None) run) (kind_cells (structs cs) runs)
    ∙ ap₂ (λ (xs ys : List (List Cell)). xs ++ ys) (run_parts cs run) (runs_parts cs runs)
    ∙ sym (masked_append [] (run_bits run) (runs_bits runs) (parts_behind 0 cs run) (flat_map (parts_behind 0 cs) runs) (parts_counted 0 cs run))

-- and under a mask, if this is the mask of what is below
pub parts_masked : (cs : Columns) (mask below : List ℕ) (runs : List SlotRun) → slots_mask below runs ≡ masked_slots mask runs
    → map part_list (masked_cells (plain_column (structs cs) None) mask runs) ≡ masked_parts cs below runs
parts_masked cs mask below runs is =
    masked_map part_list null (slots_mask mask runs) (kind_cells (structs cs) runs)
    ∙ ap (masked_by [] (slots_mask mask runs)) (runs_parts cs runs)
    ∙ masked_twice [] (slots_mask mask runs) (runs_bits runs) (flat_map (parts_behind 0 cs) runs) (bits_counted mask (length (runs_bits runs)))
    ∙ ap (λ (bits : List Bool). masked_by [] bits (flat_map (parts_behind 0 cs) runs)) (sym is)

pub parts_can_be_masked : (cs : Columns) (mask below : List ℕ) (runs : List SlotRun) → slots_mask below runs ≡ masked_slots mask runs
    → can_build (plain_column (structs cs) None) (masked_cells (plain_column (structs cs) None) mask runs) ≡ true → can_build_parts cs (masked_parts cs below runs) ≡ true
parts_can_be_masked cs mask below runs is h =
    ap (can_build_parts cs) (sym (parts_masked cs mask below runs is)) ∙ parts_can_be_built cs (masked_cells (plain_column (structs cs) None) mask runs) h

children_sound : (cs : Columns) (a : Array) → is_sound (plain_column (structs cs) None) a ≡ true → are_sound cs (slots_in a) (children_in a) ≡ true
unfolding is_sound has_sound_children
children_sound cs a h = sound_children (structs cs) a h

run_sound : (cs : Columns) (run : SlotRun) → is_run_sound (plain_column (structs cs) None) run ≡ true → is_sound_behind 0 cs run ≡ true
run_sound cs (Nulls n) h = refl
run_sound cs (Slots v from n) h =
    let both = and_parts (is_sound (plain_column (structs cs) None) (view_array v)) (nat_le (from + n) (slots_in (view_array v))) h in
    fewer_sound cs (children_in (view_array v)) (slots_in (view_array v)) (from + n) (children_sound cs (view_array v) both.0) (leb-true _ _ both.1)

runs_sound : (cs : Columns) (runs : List SlotRun) → are_runs_sound (plain_column (structs cs) None) runs ≡ true → list_all (is_sound_behind 0 cs) runs ≡ true
runs_sound cs [] h = refl
runs_sound cs (run ∷ runs) h =
    let both = and_parts (is_run_sound (plain_column (structs cs) None) run) (are_runs_sound (plain_column (structs cs) None) runs) h in
    and_from _ _ (run_sound cs run both.0) (runs_sound cs runs both.1)

-- ---- field by field

-- the rows of the parts that the fields from a place on have under bits
abbrev pub rows_behind : ℕ → Columns → List Bool → List SlotRun → List (List Cell)
rows_behind j cs bits runs = masked_by [] bits (flat_map (parts_behind j cs) runs)

-- the arrays of the fields from a place on can be built
pub record AreBehind (j : ℕ) (cs : Columns) (bits : List Bool) (runs : List SlotRun) : Type 0 where
  pub sound : list_all (is_sound_behind j cs) runs ≡ true
  pub fit : can_build_parts cs (rows_behind j cs bits runs) ≡ true

pub all_behind : (cs : Columns) (bits : List Bool) (runs : List SlotRun) → are_runs_sound (plain_column (structs cs) None) runs ≡ true → can_build_parts cs (rows_behind 0 cs bits runs) ≡ true
    → AreBehind 0 cs bits runs
all_behind cs bits runs sound fit = record { sound = runs_sound cs runs sound; fit = fit }

masked_first : (j : ℕ) (c : Column) (cs : Columns) (bits : List Bool) (runs : List SlotRun)
    → map first_cell (rows_behind j (and_column c cs) bits runs) ≡ masked bits (flat_map (part_cells_behind j c) runs)
masked_first j c cs bits runs = masked_map first_cell [] bits (flat_map (parts_behind j (and_column c cs)) runs) ∙ ap (masked bits) (rows_first j c cs runs)

masked_others : (j : ℕ) (c : Column) (cs : Columns) (bits : List Bool) (runs : List SlotRun)
    → map other_cells (rows_behind j (and_column c cs) bits runs) ≡ rows_behind (j + 1) cs bits runs
masked_others j c cs bits runs = masked_map other_cells [] bits (flat_map (parts_behind j (and_column c cs)) runs) ∙ ap (masked_by [] bits) (rows_others j c cs runs)

-- the field has a slot for each of the structs
own_counted : (j : ℕ) (c : Column) (runs : List SlotRun) → length (flat_map (part_cells_behind j c) runs) ≡ length (runs_bits runs)
own_counted j c [] = refl
own_counted j c (run ∷ runs) =
    length-append (part_cells_behind j c run) (flat_map (part_cells_behind j c) runs)
    ∙ ap₂ (λ (m n : ℕ). m + n) (one run) (own_counted j c runs) ∙ sym (length-append (run_bits run) (runs_bits runs))
  where
    one : (run : SlotRun) → length (part_cells_behind j c run) ≡ length (run_bits run)
    one (Slots v from n) = length-map-range_with_len (cell_at c (child_at j v)) from n ∙ sym (length-map-range_with_len (is_valid (view_array v)) from n)
    one (Nulls n) = length-replicate n null ∙ sym (length-replicate n false)

-- of the field at a place, and of those after it
pub record IsNext (j : ℕ) (c : Column) (cs : Columns) (mask : List ℕ) (runs part : List SlotRun) : Type 0 where
  pub sound : are_runs_sound c part ≡ true
  pub whole : IsMask mask part
  pub fits : can_build c (masked_cells c mask part) ≡ true
  pub cells : masked_cells c mask part ≡ masked (slots_mask mask runs) (flat_map (part_cells_behind j c) runs)
  pub behind : AreBehind (j + 1) cs (slots_mask mask runs) runs

next_part : (j : ℕ) (c : Column) (cs : Columns) (mask : List ℕ) (runs part : List SlotRun) → IsPartIn c j runs part → IsMask mask runs → AreBehind j (and_column c cs) (slots_mask mask runs) runs
    → IsNext j c cs mask runs part
unfolding can_build
next_part j c cs mask runs part is whole behind =
    let bits : List Bool = slots_mask mask runs in
    let parts = own_parts j c cs runs behind.sound in
    let own = is parts.0 in
    let rows : List (List Cell) = rows_behind j (and_column c cs) bits runs in
    let can = and_parts (can_build c (map first_cell rows)) (can_build_parts cs (map other_cells rows)) behind.fit in
    let count : length (runs_bits part) ≡ length (runs_bits runs) = sym (cells_counted c part) ∙ ap length own.0 ∙ own_counted j c runs in
    let cells : masked_cells c mask part ≡ masked bits (flat_map (part_cells_behind j c) runs) = ap₂ (λ (n : ℕ) (xs : List Cell). masked (bitmap_bits mask n) xs) count own.0 in
    record {
      sound = own.1;
      whole = whole ∙ ap (λ (n : ℕ). bitmap_of (bitmap_bits mask n)) (sym count);
      fits = ap (can_build c) (cells ∙ sym (masked_first j c cs bits runs)) ∙ can.0;
      cells = cells;
      behind = record { sound = parts.1; fit = ap (can_build_parts cs) (sym (masked_others j c cs bits runs)) ∙ can.1 };
    }

next_built : (j : ℕ) (c : Column) (cs : Columns) (mask : List ℕ) (runs part : List SlotRun) → IsNext j c cs mask runs part
    → built_below (and_column c cs) (rows_behind j (and_column c cs) (slots_mask mask runs) runs)
    ≡ built_at c (masked_cells c mask part) ++ built_below cs (rows_behind (j + 1) cs (slots_mask mask runs) runs)
unfolding built every_array
next_built j c cs mask runs part next =
    ap₂ (λ (cells : List Cell) (rows : List (List Cell)). built_at c cells ++ built_below cs rows) (masked_first j c cs (slots_mask mask runs) runs ∙ sym next.cells)
    (masked_others j c cs (slots_mask mask runs) runs)

abbrev pub columns_behind : ℕ → List Field → Columns
columns_behind j fields = columns_of (map column_of (drop j fields))

pub place_next : (fields : List Field) (j : ℕ) (f : Field) (mask : List ℕ) (runs part : List SlotRun) → drop j fields ≡ f ∷ drop (j + 1) fields → IsPartIn (column_of f) j runs part → IsMask mask runs
    → AreBehind j (columns_behind j fields) (slots_mask mask runs) runs → IsNext j (column_of f) (columns_behind (j + 1) fields) mask runs part
place_next fields j f mask runs part item is whole behind =
    next_part j (column_of f) (columns_behind (j + 1) fields) mask runs part is whole (subst (λ (fs : List Field). AreBehind j (columns_of (map column_of fs)) (slots_mask mask runs) runs) item behind)

-- the arrays of this field, and then those of the others
pub place_built : (fields : List Field) (j : ℕ) (f : Field) (mask : List ℕ) (runs part : List SlotRun) (p q : PlainBatch) → drop j fields ≡ f ∷ drop (j + 1) fields
    → IsNext j (column_of f) (columns_behind (j + 1) fields) mask runs part → q ≡ with_arrays p (built_at (column_of f) (masked_cells (column_of f) mask part))
    → with_arrays q (built_below (columns_behind (j + 1) fields) (rows_behind (j + 1) (columns_behind (j + 1) fields) (slots_mask mask runs) runs))
    ≡ with_arrays p (built_below (columns_behind j fields) (rows_behind j (columns_behind j fields) (slots_mask mask runs) runs))
place_built fields j f mask runs part p q item next h =
    let bits : List Bool = slots_mask mask runs in
    let own : List Typed = built_at (column_of f) (masked_cells (column_of f) mask part) in
    let others : List Typed = built_below (columns_behind (j + 1) fields) (rows_behind (j + 1) (columns_behind (j + 1) fields) bits runs) in
    let all : built_below (columns_behind j fields) (rows_behind j (columns_behind j fields) bits runs) ≡ own ++ others =
    ap (λ (fs : List Field). built_below (columns_of (map column_of fs)) (rows_behind j (columns_of (map column_of fs)) bits runs)) item
    ∙ next_built j (column_of f) (columns_behind (j + 1) fields) mask runs part next in
    ap (λ (x : PlainBatch). with_arrays x others) h ∙ more_arrays p own others ∙ ap (with_arrays p) (sym all)

-- after the last field there is nothing
pub no_field : (fields : List Field) (j : ℕ) (bits : List Bool) (runs : List SlotRun) (p : PlainBatch) → length fields ≤ j
    → with_arrays p (built_below (columns_behind j fields) (rows_behind j (columns_behind j fields) bits runs)) ≡ p
unfolding built every_array
no_field fields j bits runs p end =
    ap (λ (fs : List Field). with_arrays p (built_below (columns_of (map column_of fs)) (rows_behind j (columns_of (map column_of fs)) bits runs))) (drop_all j fields end) ∙ no_arrays p

-- the node and the validity bitmap of structs, and the arrays of their parts
pub struct_runs_are : (p q : PlainBatch) (cs : Columns) (mask below : List ℕ) (runs : List SlotRun) → slots_mask below runs ≡ masked_slots mask runs → q ≡ with_run_slots p (masked_slots mask runs)
    → with_arrays q (built_below cs (masked_parts cs below runs)) ≡ with_arrays p (built_at (plain_column (structs cs) None) (masked_cells (plain_column (structs cs) None) mask runs))
struct_runs_are p q cs mask below runs is slots =
    let cells : List Cell = masked_cells (plain_column (structs cs) None) mask runs in
    ap₂ (λ (x : PlainBatch) (rows : List (List Cell)). with_arrays x (built_below cs rows)) (slots ∙ masked_kind_slots p (structs cs) mask runs refl) (sym (parts_masked cs mask below runs is))
    ∙ structs_are cs p cells
