-- The entries that dictionary columns have in rows, and in rows after them.
use Rattle.std.proofs.Common.{◌≡◌, ℕ, suc, ◌+◌, List, [], ◌∷◌, ◌++◌, map, length, take, drop, set, refl, ap, sym, ◌∙◌, append_assoc, add-one, arith, ◌<◌}
use Rattle.std.proofs.Math.Seq.{take-suc-set, take-length}
use Rattle.std.specs.Prelude.{Option, Some, None}
use Rattle.std.specs.List.{list_all, flat_map}
use Rattle.std.proofs.lemmas.List.{append-nil, map-append, drop-set-lt, length-map, drop_all}
use Rattle.std.proofs.lemmas.List.Concat.{flat_map-append}
use Rattle.arrow_schema.specs.Column.{Index, Kind, Column, Columns, columns_of, lists, large_lists, fixed_lists, structs, column, no_column, and_column, PlainSchema}
use Rattle.cells.specs.Cell.{Cell}
use Rattle.cells.specs.Dictionary.{Holding, own_holding, has_few_entries, holdings, holdings_below, holdings_from, holdings_of, entries_of, with_entries, item_list, part_list, cells_at, dictionaries_fit}
use Rattle.cells.specs.laws.Entries.{entries_append}
use Rattle.table_cut.specs.inner.Seen.{LimitedCells, held_of, entries_held, with_all, are_within}

-- `append-nil` by a name that an attribute can have
pub append_none : {A : Type 0} (xs : List A) → xs ++ [] ≡ xs
append_none xs = append-nil xs

pub held_append : (hs ks : List Holding) → map held_of (hs ++ ks) ≡ map held_of hs ++ map held_of ks
held_append hs ks = map-append held_of hs ks

-- what is held of some columns, and then of others
pub held_more : (old new : List LimitedCells) (own rest : List Holding) → new ≡ old ++ map held_of own → new ++ map held_of rest ≡ old ++ map held_of (own ++ rest)
held_more old new own rest more =
    ap (λ (x : List LimitedCells). x ++ map held_of rest) more ∙ append_assoc old (map held_of own) (map held_of rest) ∙ ap (λ (x : List LimitedCells). old ++ x) (sym (held_append own rest))

-- the dictionary columns of some rows, of rows after them, and of all of these
abbrev pub AreJoined : List Holding → List Holding → List Holding → Type 0
AreJoined [] [] [] = Unit {0}
AreJoined (x ∷ xs) (y ∷ ys) (z ∷ zs) = (z.index ≡ y.index) × ((z.cells ≡ x.cells ++ y.cells) × AreJoined xs ys zs)
AreJoined _ _ _ = ⊥

both_joined : (xs ys zs xs' ys' zs' : List Holding) → AreJoined xs ys zs → AreJoined xs' ys' zs' → AreJoined (xs ++ xs') (ys ++ ys') (zs ++ zs')
both_joined [] [] [] xs' ys' zs' h k = k
both_joined [] [] (z ∷ zs) xs' ys' zs' h k = absurd h
both_joined [] (y ∷ ys) zs xs' ys' zs' h k = absurd h
both_joined (x ∷ xs) [] zs xs' ys' zs' h k = absurd h
both_joined (x ∷ xs) (y ∷ ys) [] xs' ys' zs' h k = absurd h
both_joined (x ∷ xs) (y ∷ ys) (z ∷ zs) xs' ys' zs' h k = (h.0, (h.1.0, both_joined xs ys zs xs' ys' zs' h.1.1 k))

own_joined : (o : Option Index) (a b : List Cell) → AreJoined (own_holding o a) (own_holding o b) (own_holding o (a ++ b))
own_joined None a b = tt
own_joined (Some i) a b = (refl, (refl, tt))

mutual
  unfolding holdings holdings_below holdings_from

  joined : (c : Column) (a b all : List Cell) → all ≡ a ++ b → AreJoined (holdings c a) (holdings c b) (holdings c all)
  joined (column name nullable kind dictionary pairs) a b all is =
      rw is (both_joined _ _ _ _ _ _ (own_joined dictionary a b) (joined_below kind a b (a ++ b) refl))

  joined_below : (k : Kind) (a b all : List Cell) → all ≡ a ++ b → AreJoined (holdings_below k a) (holdings_below k b) (holdings_below k all)
  joined_below (lists item) a b all is = joined item _ _ _ (ap (flat_map item_list) is ∙ flat_map-append item_list a b)
  joined_below (large_lists item) a b all is = joined item _ _ _ (ap (flat_map item_list) is ∙ flat_map-append item_list a b)
  joined_below (fixed_lists size item) a b all is = joined item _ _ _ (ap (flat_map item_list) is ∙ flat_map-append item_list a b)
  joined_below (structs columns) a b all is = joined_from 0 columns _ _ _ (ap (map part_list) is ∙ map-append part_list a b)
  joined_below _ a b all is = tt

  joined_from : (i : ℕ) (cs : Columns) (a b all : List (List Cell)) → all ≡ a ++ b → AreJoined (holdings_from i cs a) (holdings_from i cs b) (holdings_from i cs all)
  joined_from i no_column a b all is = tt
  joined_from i (and_column c cs) a b all is =
      both_joined _ _ _ _ _ _ (joined c _ _ _ (ap (cells_at i) is ∙ flat_map-append _ a b)) (joined_from (i + 1) cs a b all is)

pub all_joined : (s : PlainSchema) (a b : List (List Cell)) → AreJoined (holdings_of s a) (holdings_of s b) (holdings_of s (a ++ b))
all_joined s a b = joined_from 0 (columns_of s.columns) a b (a ++ b) refl

joined_entries : (xs ys zs : List Holding) → AreJoined xs ys zs → with_all (map (λ h. entries_of h.cells) xs) (map held_of ys) ≡ map (λ h. entries_of h.cells) zs
joined_entries [] [] [] h = refl
joined_entries [] [] (z ∷ zs) h = absurd h
joined_entries [] (y ∷ ys) zs h = absurd h
joined_entries (x ∷ xs) [] zs h = absurd h
joined_entries (x ∷ xs) (y ∷ ys) [] h = absurd h
joined_entries (x ∷ xs) (y ∷ ys) (z ∷ zs) h = rw (h.1.0) (λ i. sym (entries_append [] x.cells y.cells) i ∷ joined_entries xs ys zs h.1.1 i)

joined_fit : (xs ys zs : List Holding) → AreJoined xs ys zs → are_within (map held_of ys) (map (λ h. entries_of h.cells) zs) ≡ list_all has_few_entries zs
joined_fit [] [] [] h = refl
joined_fit [] [] (z ∷ zs) h = absurd h
joined_fit [] (y ∷ ys) zs h = absurd h
joined_fit (x ∷ xs) [] zs h = absurd h
joined_fit (x ∷ xs) (y ∷ ys) [] h = absurd h
joined_fit (x ∷ xs) (y ∷ ys) (z ∷ zs) h = rw (← h.0, joined_fit xs ys zs h.1.1) refl

-- what is seen with one row more
pub row_more : (s : PlainSchema) (rows : List (List Cell)) (row : List Cell)
    → with_all (map (λ h. entries_of h.cells) (holdings_of s rows)) (map held_of (holdings_of s (row ∷ []))) ≡ map (λ h. entries_of h.cells) (holdings_of s (rows ++ row ∷ []))
row_more s rows row = joined_entries _ _ _ (joined_from 0 (columns_of s.columns) rows (row ∷ []) (rows ++ row ∷ []) refl)

pub row_fits : (s : PlainSchema) (rows : List (List Cell)) (row : List Cell)
    → are_within (map held_of (holdings_of s (row ∷ []))) (map (λ h. entries_of h.cells) (holdings_of s (rows ++ row ∷ []))) ≡ dictionaries_fit s (rows ++ row ∷ [])
row_fits s rows row = joined_fit _ _ _ (joined_from 0 (columns_of s.columns) rows (row ∷ []) (rows ++ row ∷ []) refl)

joined_length : (xs ys zs : List Holding) → AreJoined xs ys zs → length xs ≡ length ys
joined_length [] [] [] h = refl
joined_length [] [] (z ∷ zs) h = absurd h
joined_length [] (y ∷ ys) zs h = absurd h
joined_length (x ∷ xs) [] zs h = absurd h
joined_length (x ∷ xs) (y ∷ ys) [] h = absurd h
joined_length (x ∷ xs) (y ∷ ys) (z ∷ zs) h = ap suc (joined_length xs ys zs h.1.1)

-- a schema has as many dictionary columns in a row as in any rows
pub as_many : (s : PlainSchema) (rows : List (List Cell)) (row : List Cell) → length (holdings_of s rows) ≡ length (holdings_of s (row ∷ []))
as_many s rows row = joined_length _ _ _ (joined_from 0 (columns_of s.columns) rows (row ∷ []) (rows ++ row ∷ []) refl)

pub held_entries : (hs : List Holding) → map entries_held (map held_of hs) ≡ map (λ h. entries_of h.cells) hs
held_entries [] = refl
held_entries (h ∷ hs) = ap (λ (x : List (List Cell)). entries_of h.cells ∷ x) (held_entries hs)

-- a column more is noted
pub one_noted : (es : List (List Cell)) (helds rest : List LimitedCells) (i : ℕ) (h : LimitedCells) (before after : List Cell) → i < length es → drop i es ≡ before ∷ drop (i + 1) es
    → helds ≡ h ∷ rest → after ≡ with_entries before h.cells
    → take (i + 1) (set es i after) ++ with_all (drop (i + 1) (set es i after)) rest ≡ take i es ++ with_all (drop i es) helds
one_noted es helds rest i h before after inside here is noted =
    let done : take (i + 1) (set es i after) ≡ take i es ++ after ∷ [] = rw add-one (take-suc-set es i after inside) in
    let left : drop (i + 1) (set es i after) ≡ drop (i + 1) es = drop-set-lt (i + 1) es i after (omega arith) in
    rw (done, left, here, is, ← noted) (append_assoc (take i es) (after ∷ []) (with_all (drop (i + 1) es) rest))

pub length_with_all : (es : List (List Cell)) (hs : List LimitedCells) → length (with_all es hs) ≡ length es
length_with_all [] hs = refl
length_with_all (e ∷ es) [] = refl
length_with_all (e ∷ es) (h ∷ hs) = ap suc (length_with_all es hs)

-- as many columns have entries as have cells in a row
pub same_count : (s : PlainSchema) (rows : List (List Cell)) (row : List Cell) (es : List (List Cell)) (hs : List LimitedCells)
    → es ≡ map (λ h. entries_of h.cells) (holdings_of s rows) → hs ≡ map held_of (holdings_of s (row ∷ [])) → length es ≡ length hs
same_count s rows row es hs seen held =
    ap length seen ∙ length-map (holdings_of s rows) (λ (h : Holding). entries_of h.cells) ∙ as_many s rows row
    ∙ sym (ap length held ∙ length-map (holdings_of s (row ∷ [])) held_of)

joined_longer : (xs ys zs : List Holding) → AreJoined xs ys zs → length zs ≡ length xs
joined_longer [] [] [] h = refl
joined_longer [] [] (z ∷ zs) h = absurd h
joined_longer [] (y ∷ ys) zs h = absurd h
joined_longer (x ∷ xs) [] zs h = absurd h
joined_longer (x ∷ xs) (y ∷ ys) [] h = absurd h
joined_longer (x ∷ xs) (y ∷ ys) (z ∷ zs) h = ap suc (joined_longer xs ys zs h.1.1)

pub as_many_more : (s : PlainSchema) (rows : List (List Cell)) (row : List Cell) → length (holdings_of s (rows ++ row ∷ [])) ≡ length (holdings_of s rows)
as_many_more s rows row = joined_longer _ _ _ (joined_from 0 (columns_of s.columns) rows (row ∷ []) (rows ++ row ∷ []) refl)

-- a vector of which all is written anew
pub all_written : {A : Type 0} (new old : List A) (n : ℕ) → length new ≡ n → length old ≡ n → take n (new ++ drop (length new) old) ≡ new
all_written new old n a b =
    ap (λ x. take n (new ++ x)) (drop_all (length new) old (omega (arith, a, b))) ∙ ap (take n) (append-nil new) ∙ ap (λ (m : ℕ). take m new) (sym a) ∙ take-length new
