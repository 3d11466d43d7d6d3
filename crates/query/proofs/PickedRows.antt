-- Rows of some columns of a table's rows are rows of these columns.
use Rattle.std.proofs.Common.{◌≡◌, ℕ, ◌+◌, ◌≤◌, true, List, [], ◌∷◌, ◌++◌, map, length, refl, sym, ap, subst, ◌∙◌, arith, append_assoc, length-append}
use Rattle.std.specs.Prelude.{◌&&◌, sum_by, slice_get, Some}
use Rattle.std.specs.List.{list_all}
use Rattle.std.proofs.lemmas.Bool.{and_from, and_parts, leb-true, le-leb}
use Rattle.std.proofs.lemmas.List.{length-map}
use Rattle.std.proofs.lemmas.List.Sums.{sum_by-cons}
use Rattle.std.proofs.lemmas.List.Folds.{list_all-append}
use Rattle.arrow_schema.specs.Column.{Pair, Column, columns_of, PlainSchema}
use Rattle.cells.specs.Cell.{Cell, cells_of}
use Rattle.cells.specs.Fit.{fits, each_fits}
use Rattle.cells.specs.Weight.{weight, parts_weight, row_weight}
use Rattle.cells.specs.Dictionary.{holdings, holdings_from, has_few_entries, cells_at}
use Rattle.cells.specs.Row.{is_row}
use Rattle.query.specs.Selection.{pick, is_distinct}
use Rattle.query.specs.laws.Picks.{pick-map, sum_by-pick, list_all-pick}
use Rattle.query.proofs.PickedSchemas.{picked_schema}

-- columns beside their cells
abbrev Beside : Type 0
Beside = Column × Cell

abbrev columns_in : List Beside → List Column
columns_in zs = map (λ z. z.0) zs

abbrev cells_in : List Beside → List Cell
cells_in zs = map (λ z. z.1) zs

abbrev AreBeside : List Column → List Cell → Type 0
AreBeside cs row = (zs : List Beside) × ((columns_in zs ≡ cs) × (cells_in zs ≡ row))

beside : (cs : List Column) (row : List Cell) → each_fits (columns_of cs) (cells_of row) ≡ true → AreBeside cs row
unfolding each_fits
beside [] [] h = ([], (refl, refl))
beside [] (c ∷ row) h = absurd cc
beside (f ∷ cs) [] h = absurd cc
beside (f ∷ cs) (c ∷ row) h =
    let rest = beside cs row (and_parts _ _ h).1 in
    ((f, c) ∷ rest.0, (ap (λ (xs : List Column). f ∷ xs) rest.1.0, ap (λ (xs : List Cell). c ∷ xs) rest.1.1))

fit_each : (zs : List Beside) → each_fits (columns_of (columns_in zs)) (cells_of (cells_in zs)) ≡ list_all (λ z. fits z.0 z.1) zs
unfolding each_fits
fit_each [] = refl
fit_each (z ∷ zs) = ap (λ b. fits z.0 z.1 && b) (fit_each zs)

weigh_each : (zs : List Beside) → parts_weight (columns_of (columns_in zs)) (cells_of (cells_in zs)) ≡ sum_by (λ z. weight z.0 z.1) zs
unfolding parts_weight
weigh_each [] = refl
weigh_each (z ∷ zs) = ap (λ n. weight z.0 z.1 + n) (weigh_each zs) ∙ sym (sum_by-cons (λ z. weight z.0 z.1) z zs)

-- the cell after the first ones
get_after : (front : List Cell) (c : Cell) (row : List Cell) → slice_get (front ++ c ∷ row) (length front) ≡ Some c
get_after [] c row = refl
get_after (x ∷ front) c row = get_after front c row

hold_each : (front : List Cell) (zs : List Beside)
    → list_all has_few_entries (holdings_from (length front) (columns_of (columns_in zs)) ((front ++ cells_in zs) ∷ []))
    ≡ list_all (λ z. list_all has_few_entries (holdings z.0 (z.1 ∷ []))) zs
unfolding holdings_from
hold_each front [] = refl
hold_each front (z ∷ zs) =
    let here : cells_at (length front) ((front ++ z.1 ∷ cells_in zs) ∷ []) ≡ z.1 ∷ [] = rw (get_after front z.1 (cells_in zs)) refl in
    let longer : length (front ++ z.1 ∷ []) ≡ length front + 1 = length-append front (z.1 ∷ []) in
    let moved : (front ++ z.1 ∷ []) ++ cells_in zs ≡ front ++ z.1 ∷ cells_in zs = append_assoc front (z.1 ∷ []) (cells_in zs) in
    let last = hold_each (front ++ z.1 ∷ []) zs in
    let rest = rw (longer, moved) at last in
    list_all-append has_few_entries (holdings z.0 (cells_at (length front) ((front ++ z.1 ∷ cells_in zs) ∷ []))) _
    ∙ rw (here, rest) refl

fills_none : (zs : List Beside) → list_all has_few_entries (holdings_from 0 (columns_of (columns_in zs)) (cells_in zs ∷ [])) ≡ list_all (λ z. list_all has_few_entries (holdings z.0 (z.1 ∷ []))) zs
fills_none zs = hold_each [] zs

-- the same of what stands at some places
columns_picked : (ps : List ℕ) (zs : List Beside) → pick ps (columns_in zs) ≡ columns_in (pick ps zs)
columns_picked ps zs = pick-map (λ (z : Beside). z.0) ps zs

cells_picked : (ps : List ℕ) (zs : List Beside) → pick ps (cells_in zs) ≡ cells_in (pick ps zs)
cells_picked ps zs = pick-map (λ (z : Beside). z.1) ps zs

pub record IsPicked (ps : List ℕ) (s : PlainSchema) (row : List Cell) : Type 0 where
  pub taken : is_row (picked_schema ps s) (pick ps row) ≡ true
  pub lighter : row_weight (picked_schema ps s) (pick ps row) ≤ row_weight s row
  pub long : length (pick ps row) ≡ length (pick ps s.columns)

abbrev schema_with : List Column → List Pair → PlainSchema
schema_with cs pairs = record { columns = cs; pairs = pairs }

on_pairs : (ps : List ℕ) (zs : List Beside) (pairs : List Pair) → is_distinct ps ≡ true → is_row (schema_with (columns_in zs) pairs) (cells_in zs) ≡ true
    → IsPicked ps (schema_with (columns_in zs) pairs) (cells_in zs)
unfolding is_row
on_pairs ps zs pairs d h =
    let fit_and = and_parts _ _ h in
    let limits = and_parts _ _ fit_and.1 in
    let fit : each_fits (columns_of (pick ps (columns_in zs))) (cells_of (pick ps (cells_in zs))) ≡ true =
    rw (columns_picked ps zs, cells_picked ps zs) (fit_each (pick ps zs) ∙ list_all-pick (λ z. fits z.0 z.1) ps zs (sym (fit_each zs) ∙ fit_and.0)) in
    let light : parts_weight (columns_of (pick ps (columns_in zs))) (cells_of (pick ps (cells_in zs))) ≤ parts_weight (columns_of (columns_in zs)) (cells_of (cells_in zs)) =
    rw (columns_picked ps zs, cells_picked ps zs) (omega (arith, weigh_each zs, weigh_each (pick ps zs), sum_by-pick (λ z. weight z.0 z.1) ps zs d)) in
    let filled : list_all has_few_entries (holdings_from 0 (columns_of (pick ps (columns_in zs))) (pick ps (cells_in zs) ∷ [])) ≡ true =
    rw (columns_picked ps zs, cells_picked ps zs)
    (fills_none (pick ps zs) ∙ list_all-pick (λ z. list_all has_few_entries (holdings z.0 (z.1 ∷ []))) ps zs (sym (fills_none zs) ∙ limits.1)) in
    let within = leb-true _ _ limits.0 in
    record {
      taken = and_from _ _ fit (and_from _ _ (le-leb _ _ (omega (arith, within, light))) filled);
      lighter = omega (arith, light);
      long = rw (columns_picked ps zs, cells_picked ps zs) (length-map (pick ps zs) (λ (z : Beside). z.1) ∙ sym (length-map (pick ps zs) (λ (z : Beside). z.0)));
    }

pub picked : (ps : List ℕ) (s : PlainSchema) (row : List Cell) → is_distinct ps ≡ true → is_row s row ≡ true → IsPicked ps s row
unfolding is_row
picked ps s row d h =
    let zs = beside s.columns row (and_parts _ _ h).0 in
    let at_cells : is_row (schema_with (columns_in zs.0) s.pairs) row ≡ true → IsPicked ps (schema_with (columns_in zs.0) s.pairs) row =
    subst (λ (y : List Cell). is_row (schema_with (columns_in zs.0) s.pairs) y ≡ true → IsPicked ps (schema_with (columns_in zs.0) s.pairs) y) zs.1.1 (on_pairs ps zs.0 s.pairs d) in
    subst (λ (x : List Column). is_row (schema_with x s.pairs) row ≡ true → IsPicked ps (schema_with x s.pairs) row) zs.1.0 at_cells h
