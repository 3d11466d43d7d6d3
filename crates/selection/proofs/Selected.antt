-- The batches of the columns asked for of a table, and the runs that are kept of them.
use Rattle.std.proofs.Common.{◌≡◌, ◌<◌, ◌-◌, ◌^◌, ℕ, true, List, [], ◌∷◌, map, length, take, refl, sym, ap, subst, ◌∙◌, arith}
use Rattle.std.specs.Prelude.{sum_by, unwrap_or}
use Rattle.std.specs.List.{flat_map, list_all}
use Rattle.std.proofs.lemmas.List.{length-map}
use Rattle.arrow_schema.specs.Column.{Columns, columns_of, PlainSchema}
use Rattle.arrow_schema.specs.View.{column_of}
use Rattle.arrow_schema.specs.declared.types.Field.{Field}
use Rattle.cells.specs.Cell.{PlainTable}
use Rattle.columns.specs.View.{fields_of}
use Rattle.query.specs.BoundQuery.{PlainBoundQuery, rows_held, rows_selected, selected_by}
use Rattle.query.specs.Choice.{rows_set}
use Rattle.query.specs.Selection.{pick}
use Rattle.query.specs.laws.Limits.{rows_chosen}
use Rattle.table_cut.specs.Rows.{runs_table}
use Rattle.selection.specs.declared.kept.KeptRuns.{KeptRuns}
use Rattle.selection.specs.declared.picked.PickedBatch.{PickedBatch}
use Rattle.selection.specs.inner.Kept.{AreKept}
use Rattle.selection.specs.inner.Picked.{picked_columns, picked_rows, is_picked_sound}
use Rattle.selection.proofs.Batches.{rows_counted}
use Rattle.selection.proofs.Runs.{kept_same}
use Rattle.values.specs.Parts.{parts_rows, parts_table, are_parts_sound}
use Rattle.values.specs.declared.table_part.TablePart.{TablePart}

-- the columns at some places
abbrev pub own_columns : PlainTable → List ℕ → Columns
own_columns t places = columns_of (pick places t.schema.columns)

-- these batches have the rows of a table in the columns at some places, and their slots can be looked up
pub record ArePicked (t : PlainTable) (places : List ℕ) (batches : List PickedBatch) : Type 0 where
  pub rows_are : flat_map (picked_rows (own_columns t places)) batches ≡ map (pick places) t.rows
  pub sound : list_all (is_picked_sound (own_columns t places)) batches ≡ true

-- those that are picked of the record batches of a table
pub are_picked : (t : PlainTable) (places : List ℕ) (parts given_parts : List TablePart) (fields : List Field) (given_places : List ℕ) (batches given : List PickedBatch)
    → t ≡ parts_table t.schema parts → are_parts_sound (columns_of t.schema.columns) parts ≡ true
    → given_parts ≡ parts → map column_of fields ≡ t.schema.columns → given_places ≡ places → given ≡ batches
    → flat_map (picked_rows (picked_columns fields given_places)) batches ≡ map (pick given_places) (parts_rows (fields_of fields) given_parts)
    → (are_parts_sound (fields_of fields) given_parts ≡ true → list_all (is_picked_sound (picked_columns fields given_places)) batches ≡ true)
    → ArePicked t places given
are_picked t places parts given_parts fields given_places batches given whole sound same_parts columns same_places same rows sounds =
    let own : own_columns t places ≡ picked_columns fields given_places = sym (λ i. columns_of (pick (same_places i) (columns i))) in
    record {
      rows_are = (λ i. flat_map (picked_rows (own i)) (same i))
          ∙ rows
          ∙ (λ i. map (pick (same_places i)) (parts_rows (columns_of (columns i)) (same_parts i)))
          ∙ ap (λ (u : PlainTable). map (pick places) u.rows) (sym whole);
      sound = (λ i. list_all (is_picked_sound (own i)) (same i)) ∙ sounds ((λ i. are_parts_sound (columns_of (columns i)) (same_parts i)) ∙ sound);
    }

-- they have as many rows as the table
pub picked_counted : (t : PlainTable) (places : List ℕ) (batches : List PickedBatch) → ArePicked t places batches → sum_by (λ b. b.rows) batches ≡ length t.rows
picked_counted t places batches are = sym (rows_counted (own_columns t places) batches) ∙ ap length are.rows_are ∙ length-map t.rows (pick places)

-- what is set of them is what is selected
pub rows_picked : (t : PlainTable) (q : PlainBoundQuery) (most : ℕ) (given mask : List ℕ) (batches : List PickedBatch) → ArePicked t q.places batches → given ≡ mask
    → rows_set mask 0 (map (pick q.places) t.rows) ≡ map (pick q.places) (rows_held q t.rows) → most ≡ unwrap_or q.limit (2 ^ 64 - 1) → length t.rows < 2 ^ 64
    → take most (rows_set given 0 (flat_map (picked_rows (own_columns t q.places)) batches)) ≡ rows_selected q t.rows
rows_picked t q most given mask batches are same held is few =
    (λ i. take most (rows_set (same i) 0 (are.rows_are i))) ∙ rows_chosen q most t.rows (rows_set mask 0 (map (pick q.places) t.rows)) held is few

-- the runs that are kept of them have the rows that are selected
pub runs_are : (t : PlainTable) (q : PlainBoundQuery) (s : PlainSchema) (most : ℕ) (given : List ℕ) (batches : List PickedBatch) (k : KeptRuns) → ArePicked t q.places batches
    → s ≡ (selected_by q t).schema → take most (rows_set given 0 (flat_map (picked_rows (own_columns t q.places)) batches)) ≡ rows_selected q t.rows
    → ((cs : Columns) → list_all (is_picked_sound cs) batches ≡ true → AreKept cs (take most (rows_set given 0 (flat_map (picked_rows cs) batches))) k)
    → AreKept (columns_of s.columns) (rows_selected q t.rows) k
runs_are t q s most given batches k are schema rows kept =
    let cs : Columns = own_columns t q.places in
    let P : Columns → Type 0 = λ c. AreKept c (rows_selected q t.rows) k in
    subst P (ap (λ (x : PlainSchema). columns_of x.columns) (sym schema)) (kept_same cs _ (rows_selected q t.rows) k rows (kept cs are.sound))

pub runs_table_is : (t : PlainTable) (q : PlainBoundQuery) (s : PlainSchema) (k : KeptRuns) → s ≡ (selected_by q t).schema → AreKept (columns_of s.columns) (rows_selected q t.rows) k
    → runs_table s k.runs.items ≡ selected_by q t
runs_table_is t q s k schema kept = λ i. record { schema = schema i; rows = kept.rows_are i }

pub none_of : {X : Type 0} (xs : List X) → length xs ≡ 0 → xs ≡ []
none_of [] h = refl
none_of (x ∷ xs) h = absurd (omega (arith, h))
