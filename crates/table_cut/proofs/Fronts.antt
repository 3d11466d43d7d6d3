-- Where the dictionaries of rows have room for all of their values, so have those of the first of these rows.
use Rattle.std.specs.Prelude.{Option, Some, None}
use Rattle.std.specs.List.{list_all, flat_map}
use Rattle.std.proofs.Common.{◌≡◌, ◌≤◌, ◌+◌, ℕ, true, List, [], ◌∷◌, ◌++◌, map, length, refl, sym, ap, ◌∙◌, arith}
use Rattle.std.proofs.lemmas.Bool.{and_parts, and_from, le-leb, leb-true}
use Rattle.std.proofs.lemmas.List.{map-append}
use Rattle.arrow_schema.specs.Column.{Index, Kind, Column, Columns, columns_of, lists, large_lists, fixed_lists, structs, column, no_column, and_column, PlainSchema}
use Rattle.cells.specs.Cell.{Cell}
use Rattle.cells.specs.Dictionary.{Holding, own_holding, has_few_entries, holdings, holdings_below, holdings_from, holdings_of, with_entries, entries_of, entry_limit, is_within, item_list, part_list, cells_at, dictionaries_fit}
use Rattle.cells.specs.laws.Entries.{entries_grow, entries_append}
use Rattle.table_cut.proofs.SeenLemmas.{AreJoined, all_joined}

-- ---- entries are never fewer

within_less : (limit : Option ℕ) (m n : ℕ) → m ≤ n → is_within limit n ≡ true → is_within limit m ≡ true
within_less None m n less h = refl
within_less (Some most) m n less h = let few = leb-true n most h in le-leb m most (omega (arith, few, less))

front_fits : (index : Index) (front others all : List Cell) → all ≡ front ++ others → is_within (entry_limit index) (length (entries_of all)) ≡ true
    → is_within (entry_limit index) (length (entries_of front)) ≡ true
front_fits index front others all is h =
    let more : entries_of all ≡ with_entries (entries_of front) others = ap entries_of is ∙ entries_append [] front others in
    let grown = entries_grow (entries_of front) others in
    within_less (entry_limit index) (length (entries_of front)) (length (entries_of all)) (omega (arith, ap length more, grown)) h

-- ---- the dictionaries of a schema have the same indices in any rows

abbrev indices : List Holding → List Index
indices hs = map (λ (h : Holding). h.index) hs

own_same : (o : Option Index) (a b : List Cell) → indices (own_holding o a) ≡ indices (own_holding o b)
own_same None a b = refl
own_same (Some i) a b = refl

both_same : (xs ys xs' ys' : List Holding) → indices xs ≡ indices xs' → indices ys ≡ indices ys' → indices (xs ++ ys) ≡ indices (xs' ++ ys')
both_same xs ys xs' ys' h k = map-append (λ (x : Holding). x.index) xs ys ∙ (λ i. h i ++ k i) ∙ sym (map-append (λ (x : Holding). x.index) xs' ys')

mutual
  unfolding holdings holdings_below holdings_from

  same_at : (c : Column) (a b : List Cell) → indices (holdings c a) ≡ indices (holdings c b)
  same_at (column name nullable kind dictionary pairs) a b = both_same (own_holding dictionary a) (holdings_below kind a) (own_holding dictionary b) (holdings_below kind b) (own_same dictionary a b) (same_below kind a b)

  same_below : (k : Kind) (a b : List Cell) → indices (holdings_below k a) ≡ indices (holdings_below k b)
  same_below (lists item) a b = same_at item (flat_map item_list a) (flat_map item_list b)
  same_below (large_lists item) a b = same_at item (flat_map item_list a) (flat_map item_list b)
  same_below (fixed_lists size item) a b = same_at item (flat_map item_list a) (flat_map item_list b)
  same_below (structs columns) a b = same_from 0 columns (map part_list a) (map part_list b)
  same_below _ a b = refl

  same_from : (i : ℕ) (cs : Columns) (a b : List (List Cell)) → indices (holdings_from i cs a) ≡ indices (holdings_from i cs b)
  same_from i no_column a b = refl
  same_from i (and_column c cs) a b =
      both_same (holdings c (cells_at i a)) (holdings_from (i + 1) cs a) (holdings c (cells_at i b)) (holdings_from (i + 1) cs b) (same_at c (cells_at i a) (cells_at i b)) (same_from (i + 1) cs a b)

-- ---- so those of the first rows have room

few_of_front : (xs ys zs : List Holding) → AreJoined xs ys zs → indices xs ≡ indices zs → list_all has_few_entries zs ≡ true → list_all has_few_entries xs ≡ true
few_of_front [] [] [] h same few = refl
few_of_front [] [] (z ∷ zs) h same few = absurd h
few_of_front [] (y ∷ ys) zs h same few = absurd h
few_of_front (x ∷ xs) [] zs h same few = absurd h
few_of_front (x ∷ xs) (y ∷ ys) [] h same few = absurd h
few_of_front (x ∷ xs) (y ∷ ys) (z ∷ zs) h same few =
    let p = and_parts (has_few_entries z) (list_all has_few_entries zs) few in
    let index : x.index ≡ z.index = cc in
    let others : indices xs ≡ indices zs = cc in
    let room : is_within (entry_limit x.index) (length (entries_of z.cells)) ≡ true = ap (λ (i : Index). is_within (entry_limit i) (length (entries_of z.cells))) index ∙ p.0 in
    and_from _ _ (front_fits x.index x.cells y.cells z.cells h.1.0 room) (few_of_front xs ys zs h.1.1 others p.1)

pub dictionaries_of_fronts : (s : PlainSchema) (front others : List (List Cell)) → dictionaries_fit s (front ++ others) ≡ true → dictionaries_fit s front ≡ true
dictionaries_of_fronts s front others h =
    few_of_front (holdings_of s front) (holdings_of s others) (holdings_of s (front ++ others)) (all_joined s front others) (same_from 0 (columns_of s.columns) front (front ++ others)) h
