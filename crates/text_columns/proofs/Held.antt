-- Rows that the record batches of a text hold.
use Rattle.std.specs.List.{AllPass, flat_map, list_all}
use Rattle.std.proofs.Common.{◌≡◌, ℕ, ◌+◌, Bool, true, List, [], ◌∷◌, ◌++◌, arith, ap, sym, subst, ◌∙◌, append_assoc, length-append}
use Rattle.std.proofs.lemmas.Bool.{and_from, and_parts}
use Rattle.std.proofs.lemmas.Grind.{flat_map-append}
use Rattle.std.proofs.lemmas.List.Folds.{list_all-append}
use Rattle.std.proofs.lemmas.List.Sums.{AllPass-from_list_all, list_all-from_AllPass, sum_by-append}
use Rattle.arrow_schema.specs.Column.{PlainSchema, columns_of}
use Rattle.cells.specs.Cell.{Cell, PlainTable}
use Rattle.cells.specs.Row.{is_row}
use Rattle.cells.specs.Weight.{row_weight}
use Rattle.values.specs.Parts.{part_rows}
use Rattle.values.specs.Table.{IsTable}
use Rattle.values.specs.declared.table_part.TablePart.{TablePart}
use Rattle.text_columns.specs.declared.batches.Batches.{Batches}
use Rattle.text_columns.specs.inner.Batches.{AddsRow, ArePartsOf, HoldRows}
use Rattle.text_columns.specs.inner.Kept.{KeepAll}
use Rattle.text_columns.specs.inner.Tables.{IsPartOf}

-- ---- the first and the last of rows

both_pass : (p : List Cell → Bool) (xs ys : List (List Cell)) → AllPass p (xs ++ ys) → (list_all p xs ≡ true) × (list_all p ys ≡ true)
both_pass p xs ys h = and_parts (list_all p xs) (list_all p ys) (sym (list_all-append p xs ys) ∙ list_all-from_AllPass p (xs ++ ys) h)

first_table : (s : PlainSchema) (xs ys : List (List Cell)) → IsTable (record { schema = s; rows = xs ++ ys }) → IsTable (record { schema = s; rows = xs })
first_table s xs ys t =
    let sum = sum_by-append (row_weight s) xs ys in
    record { schema = t.schema; rows = AllPass-from_list_all (is_row s) xs (both_pass (is_row s) xs ys t.rows).0; weight = omega (arith, sum, t.weight) }

last_table : (s : PlainSchema) (xs ys : List (List Cell)) → IsTable (record { schema = s; rows = xs ++ ys }) → IsTable (record { schema = s; rows = ys })
last_table s xs ys t =
    let sum = sum_by-append (row_weight s) xs ys in
    record { schema = t.schema; rows = AllPass-from_list_all (is_row s) ys (both_pass (is_row s) xs ys t.rows).1; weight = omega (arith, sum, t.weight) }

-- one more part
pub parts_more : (s : PlainSchema) (rows : List (List Cell)) (b : Batches) (part : TablePart) → HoldRows s rows b → IsPartOf b.builders.items b.rows part → ArePartsOf s rows (b.parts.items ++ part ∷ [])
parts_more s rows b part h is t =
    let cs = columns_of s.columns in
    let whole : IsTable (record { schema = s; rows = h.ended ++ h.last }) = subst (λ (r : List (List Cell)). IsTable (record { schema = s; rows = r })) h.all t in
    let before = h.parts (first_table s h.ended h.last whole) in
    let own = is s h.last h.keeps h.count (last_table s h.ended h.last whole) in
    let front : flat_map (part_rows cs) b.parts.items ≡ h.ended = ap (λ (u : PlainTable). u.rows) before.0 in
    let back : flat_map (part_rows cs) (part ∷ []) ≡ h.last = ap (λ (u : PlainTable). u.rows) own.0 in
    let joined : flat_map (part_rows cs) (b.parts.items ++ part ∷ []) ≡ rows =
    flat_map-append (part_rows cs) b.parts.items (part ∷ []) ∙ (λ j. front j ++ back j) ∙ sym h.all in (
      ap (λ (r : List (List Cell)). record { schema = s; rows = r }) joined,
      list_all-append _ b.parts.items (part ∷ []) ∙ and_from _ _ before.1 own.1,
    )

-- one more row
pub held_more : (s : PlainSchema) (rows : List (List Cell)) (row : List Cell) (old new : Batches) → (h : HoldRows s rows old) → AddsRow old new → KeepAll s.columns (h.last ++ row ∷ []) new.builders.items
    → HoldRows s (rows ++ row ∷ []) new
held_more s rows row old new h adds keeps = record {
  ended = h.ended;
  last = h.last ++ row ∷ [];
  all = ap (λ (r : List (List Cell)). r ++ row ∷ []) h.all ∙ append_assoc h.ended h.last (row ∷ []);
  parts = subst (ArePartsOf s h.ended) (sym adds.parts) h.parts;
  count = length-append h.last (row ∷ []) ∙ ap (λ (n : ℕ). n + 1) h.count ∙ sym adds.count;
  keeps = keeps;
}
