-- Nulls among cells are no entries, and have nothing below them.
use Rattle.std.specs.Prelude.{slice_get, option_to_list}
use Rattle.std.specs.List.{flat_map, list_all}
use Rattle.std.proofs.Common.{◌≡◌, ℕ, zero, suc, ◌+◌, true, List, [], ◌∷◌, ◌++◌, map, length, replicate, subst, Option, Some, None, refl, arith, ap, sym, ◌∙◌}
use Rattle.std.proofs.lemmas.Bool.{and_parts, and_from}
use Rattle.std.proofs.lemmas.Option.{slice_get_past}
use Rattle.std.proofs.lemmas.Grind.{flat_map-append}
use Rattle.arrow_schema.specs.Column.{Kind, Column, Columns, lists, large_lists, fixed_lists, structs, column, no_column, and_column}
use Rattle.cells.specs.Cell.{Cell, null, boolean, number, text, bytes, items, parts}
use Rattle.cells.specs.Dictionary.{Holding, item_list, part_list, cells_at, holdings, holdings_below, holdings_from, entries_of, with_entries, with_entry, has_few_entries, is_within, entry_limit}
use Rattle.columns.specs.Built.{fixed_items, first_cell, other_cells}
use Rattle.columns.specs.laws.Held.{HaveFew}

-- the cells that are no nulls
abbrev pub kept : Cell → List Cell
kept null = []
kept (boolean b) = boolean b ∷ []
kept (number n) = number n ∷ []
kept (text t) = text t ∷ []
kept (bytes t) = bytes t ∷ []
kept (items cs) = items cs ∷ []
kept (parts cs) = parts cs ∷ []

abbrev pub without_nulls : List Cell → List Cell
without_nulls cells = flat_map kept cells

-- a function of each cell that gives nothing for a null
pub skips_nulls : {Y : Type 0} (f : Cell → List Y) → f null ≡ [] → (cells : List Cell) → flat_map f cells ≡ flat_map f (without_nulls cells)
skips_nulls f none [] = refl
skips_nulls f none (null ∷ cells) = ap (λ (ys : List _). ys ++ flat_map f cells) none ∙ skips_nulls f none cells
skips_nulls f none ((boolean b) ∷ cells) = ap (λ (ys : List _). f (boolean b) ++ ys) (skips_nulls f none cells)
skips_nulls f none ((number n) ∷ cells) = ap (λ (ys : List _). f (number n) ++ ys) (skips_nulls f none cells)
skips_nulls f none ((text t) ∷ cells) = ap (λ (ys : List _). f (text t) ++ ys) (skips_nulls f none cells)
skips_nulls f none ((bytes t) ∷ cells) = ap (λ (ys : List _). f (bytes t) ++ ys) (skips_nulls f none cells)
skips_nulls f none ((items cs) ∷ cells) = ap (λ (ys : List _). f (items cs) ++ ys) (skips_nulls f none cells)
skips_nulls f none ((parts cs) ∷ cells) = ap (λ (ys : List _). f (parts cs) ++ ys) (skips_nulls f none cells)

entries_same : (entries cells : List Cell) → with_entries entries cells ≡ with_entries entries (without_nulls cells)
unfolding with_entries
entries_same entries [] = refl
entries_same entries (null ∷ cells) = entries_same entries cells
entries_same entries ((boolean b) ∷ cells) = entries_same (with_entry entries (boolean b)) cells
entries_same entries ((number n) ∷ cells) = entries_same (with_entry entries (number n)) cells
entries_same entries ((text t) ∷ cells) = entries_same (with_entry entries (text t)) cells
entries_same entries ((bytes t) ∷ cells) = entries_same (with_entry entries (bytes t)) cells
entries_same entries ((items cs) ∷ cells) = entries_same (with_entry entries (items cs)) cells
entries_same entries ((parts cs) ∷ cells) = entries_same (with_entry entries (parts cs)) cells

pub same_entries : (xs ys : List Cell) → without_nulls xs ≡ without_nulls ys → entries_of xs ≡ entries_of ys
same_entries xs ys e = entries_same [] xs ∙ ap (with_entries []) e ∙ sym (entries_same [] ys)

same_below : {Y : Type 0} (f : Cell → List Y) → f null ≡ [] → (xs ys : List Cell) → without_nulls xs ≡ without_nulls ys → flat_map f xs ≡ flat_map f ys
same_below f none xs ys e = skips_nulls f none xs ∙ ap (flat_map f) e ∙ sym (skips_nulls f none ys)

-- ---- dictionaries below

-- the cells at a place of the parts of each cell
abbrev pub part_of : ℕ → Cell → List Cell
part_of i c = option_to_list (slice_get (part_list c) i)

at_parts : (i : ℕ) (cells : List Cell) → cells_at i (map part_list cells) ≡ flat_map (part_of i) cells
at_parts i [] = refl
at_parts i (c ∷ cells) = ap (λ (ys : List Cell). option_to_list (slice_get (part_list c) i) ++ ys) (at_parts i cells)

from_same : (i : ℕ) (cs : Columns) (rows others : List (List Cell)) → ((j : ℕ) → cells_at j rows ≡ cells_at j others) → holdings_from i cs rows ≡ holdings_from i cs others
unfolding holdings
from_same i no_column rows others h = refl
from_same i (and_column c cs) rows others h =
    ap (λ (xs : List Cell). holdings c xs ++ holdings_from (i + 1) cs rows) (h i) ∙ ap (λ (hs : List Holding). holdings c (cells_at i others) ++ hs) (from_same (i + 1) cs rows others h)

below_same : (k : Kind) (xs ys : List Cell) → without_nulls xs ≡ without_nulls ys → holdings_below k xs ≡ holdings_below k ys
unfolding holdings
below_same (lists item) xs ys e = ap (holdings item) (same_below item_list refl xs ys e)
below_same (large_lists item) xs ys e = ap (holdings item) (same_below item_list refl xs ys e)
below_same (fixed_lists size item) xs ys e = ap (holdings item) (same_below item_list refl xs ys e)
below_same (structs columns) xs ys e =
    from_same 0 columns (map part_list xs) (map part_list ys) (λ j. at_parts j xs ∙ same_below (part_of j) refl xs ys e ∙ sym (at_parts j ys))
below_same _ xs ys e = refl

pub few_same : (c : Column) (xs ys : List Cell) → without_nulls xs ≡ without_nulls ys → HaveFew (holdings c xs) → HaveFew (holdings c ys)
unfolding holdings
few_same (column name nullable kind None pairs) xs ys e h =
    let below : holdings_below kind xs ≡ holdings_below kind ys = below_same kind xs ys e in
    subst (λ (hs : List Holding). HaveFew hs) below h
few_same (column name nullable kind (Some index) pairs) xs ys e h =
    let p = and_parts (has_few_entries (record { index = index; cells = xs })) (list_all has_few_entries (holdings_below kind xs)) h in
    let below : holdings_below kind xs ≡ holdings_below kind ys = below_same kind xs ys e in
    let own : entries_of xs ≡ entries_of ys = same_entries xs ys e in
    and_from _ _
    (subst (λ (es : List Cell). is_within (entry_limit index) (length es) ≡ true) own p.0)
    (subst (λ (hs : List Holding). HaveFew hs) below p.1)

-- ---- nulls that stand below null structs and fixed lists

no_kept : (n : ℕ) → without_nulls (replicate n null) ≡ []
no_kept zero = refl
no_kept (suc n) = no_kept n

kept_one : (size : ℕ) (c : Cell) → without_nulls (fixed_items size c) ≡ without_nulls (item_list c)
kept_one size null = no_kept size
kept_one size _ = refl

pub fixed_kept : (size : ℕ) (cells : List Cell) → without_nulls (flat_map item_list cells) ≡ without_nulls (flat_map (fixed_items size) cells)
fixed_kept size [] = refl
fixed_kept size (c ∷ cells) =
    flat_map-append kept (item_list c) (flat_map item_list cells)
    ∙ ap (λ (zs : List Cell). zs ++ without_nulls (flat_map item_list cells)) (sym (kept_one size c))
    ∙ ap (λ (zs : List Cell). without_nulls (fixed_items size c) ++ zs) (fixed_kept size cells)
    ∙ sym (flat_map-append kept (fixed_items size c) (flat_map (fixed_items size) cells))

pub first_kept : (rows : List (List Cell)) → without_nulls (cells_at 0 rows) ≡ without_nulls (map first_cell rows)
first_kept [] = refl
first_kept ([] ∷ rows) = first_kept rows
first_kept ((c ∷ cs) ∷ rows) = ap (λ (zs : List Cell). kept c ++ zs) (first_kept rows)

one_on : (i : ℕ) (row : List Cell) → slice_get row (i + 1) ≡ slice_get (other_cells row) i
one_on i [] = slice_get_past [] (i + 1) (omega arith) ∙ sym (slice_get_past [] i (omega arith))
one_on i (c ∷ cs) = let e : i + 1 ≡ suc i = omega arith in rw e (next c cs i)
  where
    next : (c : Cell) (cs : List Cell) (i : ℕ) → slice_get (c ∷ cs) (suc i) ≡ slice_get cs i
    next c cs i = refl

at_next : (i : ℕ) (rows : List (List Cell)) → cells_at (i + 1) rows ≡ cells_at i (map other_cells rows)
at_next i [] = refl
at_next i (row ∷ rows) =
    ap (λ (o : Option Cell). option_to_list o ++ cells_at (i + 1) rows) (one_on i row) ∙ ap (λ (zs : List Cell). option_to_list (slice_get (other_cells row) i) ++ zs) (at_next i rows)

pub from_next : (i : ℕ) (cs : Columns) (rows : List (List Cell)) → holdings_from (i + 1) cs rows ≡ holdings_from i cs (map other_cells rows)
unfolding holdings
from_next i no_column rows = refl
from_next i (and_column c cs) rows =
    ap (λ (xs : List Cell). holdings c xs ++ holdings_from (i + 1 + 1) cs rows) (at_next i rows)
    ∙ ap (λ (hs : List Holding). holdings c (cells_at i (map other_cells rows)) ++ hs) (from_next (i + 1) cs rows)
