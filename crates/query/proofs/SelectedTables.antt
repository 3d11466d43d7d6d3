-- The selection of a table is a table.
use Rattle.std.proofs.Common.{◌≡◌, ℕ, zero, suc, ◌+◌, ◌≤◌, ◌<◌, ◌==◌, Bool, true, false, cond, List, [], ◌∷◌, map, length, refl, sym, ap, subst, ◌∙◌, arith}
use Rattle.std.specs.Prelude.{Option, Some, None, Result, Ok, Err, filter}
use Rattle.std.specs.List.{list_all, list_any, range_with_len, AllPass}
use Rattle.std.proofs.lemmas.Bool.{and_from, and_parts, ne_eqb, or_from, not_from_false}
use Rattle.std.proofs.lemmas.List.Sums.{sum_by-cons, sum_by-take-le, AllPass-from_list_all, list_all-from_AllPass}
use Rattle.std.proofs.lemmas.List.Elements.{All-take}
use Rattle.std.proofs.lemmas.Option.{cond_some, option_and_then_some}
use Rattle.arrow_schema.specs.Column.{Column, PlainSchema}
use Rattle.cells.specs.Cell.{Cell, PlainTable}
use Rattle.cells.specs.Row.{is_row}
use Rattle.cells.specs.Weight.{row_weight, table_weight}
use Rattle.values.specs.Table.{IsTable}
use Rattle.query.specs.Query.{PlainQuery}
use Rattle.query.specs.Bound.{SelectionRefusal, Bound, bound, place_of}
use Rattle.query.specs.Selection.{pick, is_distinct, where_distinct, all_some, chosen, all_ok, limited, holds_all, selected, selected_where, selection}
use Rattle.query.proofs.PickedSchemas.{picked_schema, limits_picked}
use Rattle.query.proofs.PickedRows.{picked}

-- the rows of which a test holds, each with the columns at some places
abbrev pub kept_rows : List ℕ → (List Cell → Bool) → List (List Cell) → List (List Cell)
kept_rows ps p rows = map (pick ps) (filter p rows)

row_kept : (ps : List ℕ) (s : PlainSchema) (row : List Cell) (rows : List (List Cell)) → is_distinct ps ≡ true → is_row s row ≡ true
    → list_all (is_row (picked_schema ps s)) (map (pick ps) rows) ≡ true → (b : Bool) → list_all (is_row (picked_schema ps s)) (map (pick ps) (cond b (row ∷ rows) rows)) ≡ true
row_kept ps s row rows d h rest true = and_from _ _ (picked ps s row d h).taken rest
row_kept ps s row rows d h rest false = rest

rows_kept : (ps : List ℕ) (s : PlainSchema) (p : List Cell → Bool) (rows : List (List Cell)) → is_distinct ps ≡ true → list_all (is_row s) rows ≡ true
    → list_all (is_row (picked_schema ps s)) (kept_rows ps p rows) ≡ true
rows_kept ps s p [] d h = refl
rows_kept ps s p (row ∷ rows) d h =
    let both = and_parts (is_row s row) (list_all (is_row s) rows) h in
    row_kept ps s row (filter p rows) d both.0 (rows_kept ps s p rows d both.1) (p row)

row_weight_kept : (ps : List ℕ) (s : PlainSchema) (row : List Cell) (rows : List (List Cell)) (n : ℕ) → is_distinct ps ≡ true → is_row s row ≡ true
    → table_weight (picked_schema ps s) (map (pick ps) rows) ≤ n → (b : Bool)
    → table_weight (picked_schema ps s) (map (pick ps) (cond b (row ∷ rows) rows)) ≤ row_weight s row + n
row_weight_kept ps s row rows n d h rest true =
    omega (arith, (picked ps s row d h).lighter, rest, sum_by-cons (row_weight (picked_schema ps s)) (pick ps row) (map (pick ps) rows))
row_weight_kept ps s row rows n d h rest false = omega (arith, rest)

weight_kept : (ps : List ℕ) (s : PlainSchema) (p : List Cell → Bool) (rows : List (List Cell)) → is_distinct ps ≡ true → list_all (is_row s) rows ≡ true
    → table_weight (picked_schema ps s) (kept_rows ps p rows) ≤ table_weight s rows
weight_kept ps s p [] d h = omega arith
weight_kept ps s p (row ∷ rows) d h =
    let both = and_parts (is_row s row) (list_all (is_row s) rows) h in
    let rest = row_weight_kept ps s row (filter p rows) (table_weight s rows) d both.0 (weight_kept ps s p rows d both.1) (p row) in
    omega (arith, rest, sum_by-cons (row_weight s) row rows)

-- the first rows of a table are one
limit_kept : (most : Option ℕ) (s : PlainSchema) (rows : List (List Cell)) (n : ℕ) → AllPass (is_row s) rows → table_weight s rows ≤ n
    → AllPass (is_row s) (limited most rows) × (table_weight s (limited most rows) ≤ n)
limit_kept None s rows n all light = (all, light)
limit_kept (Some most) s rows n all light = (All-take (λ x. is_row s x ≡ true) most rows all, omega (arith, light, sum_by-take-le (row_weight s) rows most))

pub selected_is_table : (ps : List ℕ) (bs : List Bound) (most : Option ℕ) (t : PlainTable) → is_distinct ps ≡ true → IsTable t → IsTable (selected ps bs most t)
selected_is_table ps bs most t d h =
    let all = list_all-from_AllPass (is_row t.schema) t.rows h.rows in
    let rows = rows_kept ps t.schema (holds_all bs) t.rows d all in
    let weight = weight_kept ps t.schema (holds_all bs) t.rows d all in
    let both = limit_kept most (picked_schema ps t.schema) (kept_rows ps (holds_all bs) t.rows) _ (AllPass-from_list_all _ _ rows) (omega (arith, weight, h.weight)) in
    record { schema = limits_picked ps t.schema d h.schema; rows = both.0; weight = both.1 }

-- numbers in a row are distinct
none_before : (a b n : ℕ) → a < b → list_any (λ y. a == y) (range_with_len b n) ≡ false
none_before a b zero h = refl
none_before a b (suc n) h = or_from _ _ (ne_eqb a b (λ e. absurd (omega (arith, e, h)))) (none_before a (b + 1) n (omega (arith, h)))

range_distinct : (a n : ℕ) → is_distinct (range_with_len a n) ≡ true
range_distinct a zero = refl
range_distinct a (suc n) = and_from _ _ (not_from_false _ (none_before a (a + 1) n (omega arith))) (range_distinct (a + 1) n)

distinct_there : (xs ps : List ℕ) → where_distinct xs ≡ Some ps → is_distinct ps ≡ true
distinct_there xs ps h =
    let both = cond_some (is_distinct xs) xs ps h in
    ap is_distinct (sym both.1) ∙ both.0

pub chosen_distinct : (cs : List Column) (names : List (List ℕ)) (ps : List ℕ) → chosen cs names ≡ Some ps → is_distinct ps ≡ true
unfolding chosen
chosen_distinct cs [] ps h = let same : range_with_len 0 (length cs) ≡ ps = cc in ap is_distinct (sym same) ∙ range_distinct 0 (length cs)
chosen_distinct cs (name ∷ names) ps h =
    option_and_then_some where_distinct (all_some (map (place_of cs) (name ∷ names))) ps h (λ xs e f. distinct_there xs ps f)

selection_from : (o : Option (List ℕ)) (r : Result (List Bound) SelectionRefusal) (most : Option ℕ) (t s : PlainTable) → ((ps : List ℕ) → o ≡ Some ps → is_distinct ps ≡ true) → IsTable t
    → selected_where o r most t ≡ Ok s → IsTable s
selection_from None r most t s d h e = cc
selection_from (Some ps) (Err x) most t s d h e = cc
selection_from (Some ps) (Ok bs) most t s d h e =
    let same : selected ps bs most t ≡ s = cc in
    subst (λ (x : PlainTable). IsTable x) same (selected_is_table ps bs most t (d ps refl) h)

pub selection_is_table : (t : PlainTable) (q : PlainQuery) (s : PlainTable) → IsTable t → selection t q ≡ Ok s → IsTable s
unfolding selection
selection_is_table t q s h e =
    selection_from (chosen t.schema.columns q.columns) (all_ok (map (bound q.dates t.schema.columns) q.conditions)) q.limit t s
    (λ ps. chosen_distinct t.schema.columns q.columns ps) h e
