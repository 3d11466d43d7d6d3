-- The rows of a record batch that was read are rows of its schema.
use Rattle.std.specs.Prelude.{◌||◌, nat_lt, nat_le}
use Rattle.std.specs.List.{list_any, list_all, AllPass}
use Rattle.std.proofs.Common.{◌≡◌, ℕ, ◌+◌, ◌≤◌, Bool, true, false, List, [], ◌∷◌, ◌++◌, map, None, Ok, refl, ap, subst}
use Rattle.std.proofs.lemmas.Bool.{and_parts, and_from, or_parts, ltb-false, le-leb}
use Rattle.std.proofs.lemmas.List.Sums.{AllPass-from_list_all}
use Rattle.facts.specs.Checks.{when, first_some, unless}
use Rattle.facts.specs.laws.Checks.{unless_passed, first_some-both}
use Rattle.arrow_schema.specs.Column.{Columns, columns_of, PlainSchema}
use Rattle.arrow_schema.specs.Limits.{IsWithinLimits}
use Rattle.cells.specs.declared.limits.TheConstants.{MAX_ROW_WEIGHT, MAX_TABLE_WEIGHT}
use Rattle.cells.specs.Cell.{Cell}
use Rattle.cells.specs.Dictionary.{dictionaries_fit}
use Rattle.cells.specs.Row.{row_fits, is_row}
use Rattle.cells.specs.Weight.{row_weight, table_weight}
use Rattle.ipc_message.specs.declared.fault.Fault.{Fault}
use Rattle.ipc_message.specs.Raw.{RawBatch}
use Rattle.columns.specs.Array.{Array, Arrays}
use Rattle.columns.specs.CellAt.{rows_in}
use Rattle.columns.specs.Visible.{visible_in, is_no_text, is_forbidden, names_no_entry}
use Rattle.arrays.specs.Bytes.{are_bytes, has_bytes}
use Rattle.arrays.specs.Checks.{plain_node, buffer_bytes, batch_arrays, array_checks, arrays_read, slot_checks, batch_checks, batch_read, batch_weight}
use Rattle.arrays.specs.Known.{are_readable, dictionary_values}
use Rattle.arrays.proofs.BatchRead.{read_sound}
use Rattle.arrays.proofs.KnownRead.{known_sound, known_texts}
use Rattle.arrays.proofs.BytesRead.{batch_bytes}
use Rattle.arrays.proofs.RowsFit.{rows_fit}
use Rattle.arrays.proofs.RowsNamed.{rows_named}

passed : (t : Bool) (f : Fault) (rest : List _) → first_some (when t f ∷ rest) ≡ None → (t ≡ false) × (first_some rest ≡ None)
passed true f rest h = absurd cc
passed false f rest h = (refl, h)

all_rows : (s : PlainSchema) (rows : List (List Cell)) → list_all (row_fits s) rows ≡ true → list_any (λ row. nat_lt MAX_ROW_WEIGHT (row_weight s row)) rows ≡ false
    → list_all (λ row. dictionaries_fit s (row ∷ [])) rows ≡ true → list_all (is_row s) rows ≡ true
unfolding is_row
all_rows s [] fit light few = refl
all_rows s (row ∷ rows) fit light few =
    let fits = and_parts (row_fits s row) (list_all (row_fits s) rows) fit in
    let lights = or_parts (nat_lt MAX_ROW_WEIGHT (row_weight s row)) (list_any (λ r. nat_lt MAX_ROW_WEIGHT (row_weight s r)) rows) light in
    let fews = and_parts (dictionaries_fit s (row ∷ [])) (list_all (λ r. dictionaries_fit s (r ∷ [])) rows) few in
    let weighs : nat_le (row_weight s row) MAX_ROW_WEIGHT ≡ true = le-leb (row_weight s row) MAX_ROW_WEIGHT (ltb-false MAX_ROW_WEIGHT (row_weight s row) lights.0) in
    and_from _ _ (and_from _ _ fits.0 (and_from _ _ weighs fews.0)) (all_rows s rows fits.1 lights.1 fews.1)

pub rows_read : (s : PlainSchema) (before : ℕ) (b : RawBatch) (body : List ℕ) (known : List (List Array)) (arrays : Arrays) → IsWithinLimits s → are_bytes body ≡ true → list_all (list_all has_bytes) known ≡ true
    → are_readable (dictionary_values (columns_of s.columns)) known ≡ true → batch_read s before b body known ≡ Ok arrays
    → AllPass (is_row s) (rows_in (columns_of s.columns) arrays b.length) × (before + batch_weight s b.length arrays ≤ MAX_TABLE_WEIGHT)
unfolding batch_read batch_checks arrays_read
rows_read s before b body known arrays limits small smalls readable read =
    let cs : Columns = columns_of s.columns in
    let own : Arrays = batch_arrays cs b body known in
    let whole = unless_passed (first_some (array_checks cs b body own ++ slot_checks s before b.length own)) (Ok own) arrays read in
    let same : own ≡ arrays = cc in
    let both = first_some-both (array_checks cs b body own) (slot_checks s before b.length own) whole.0 in
    let ok : arrays_read cs b body known ≡ Ok own = ap (λ o. unless o (Ok own)) both.0 in
    let sound = read_sound cs b body known own ok (known_sound cs (map plain_node b.nodes) (map (buffer_bytes body) b.buffers) known readable) in
    let entries = known_texts cs (map plain_node b.nodes) (map (buffer_bytes body) b.buffers) known readable in
    let bytes = batch_bytes cs b body known small smalls in
    let one = passed (list_any names_no_entry (visible_in cs own b.length)) _ _ both.1 in
    let two = passed (list_any is_no_text (visible_in cs own b.length)) _ _ one.1 in
    let three = passed (list_any is_forbidden (visible_in cs own b.length)) _ _ two.1 in
    let rows : List (List Cell) = rows_in cs own b.length in
    let four = passed (list_any (λ row. nat_lt MAX_ROW_WEIGHT (row_weight s row)) rows || nat_lt MAX_TABLE_WEIGHT (before + table_weight s rows)) _ _ three.1 in
    let weights = or_parts (list_any (λ row. nat_lt MAX_ROW_WEIGHT (row_weight s row)) rows) (nat_lt MAX_TABLE_WEIGHT (before + table_weight s rows)) four.0 in
    let all = all_rows s rows (rows_fit s own b.length limits sound bytes entries two.0 three.0) weights.0 (rows_named s own b.length limits bytes) in
    subst (λ (a : Arrays). AllPass (is_row s) (rows_in cs a b.length) × (before + batch_weight s b.length a ≤ MAX_TABLE_WEIGHT)) same
    (AllPass-from_list_all (is_row s) rows all, ltb-false MAX_TABLE_WEIGHT (before + table_weight s rows) weights.1)
