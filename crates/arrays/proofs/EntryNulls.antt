-- Dictionaries none of whose entries is a null.
use Rattle.std.specs.Prelude.{◌||◌, ◌&&◌, not, nat_le, ℤ, pos, negsuc, if◌then◌else◌}
use Rattle.std.specs.List.{list_all, list_any, range_with_len}
use Rattle.std.proofs.Common.{◌≡◌, ℕ, zero, suc, ◌+◌, ◌<◌, ◌≤◌, Bool, true, false, List, [], ◌∷◌, ◌++◌, Some, None, length, length-append, get_or, map, take, refl, arith, ap, sym, ◌∙◌}
use Rattle.std.proofs.Math.Bool.{or-false, or_assoc}
use Rattle.std.proofs.lemmas.Bool.{or_parts, and_parts}
use Rattle.std.proofs.lemmas.Bool.Decides.{nat_tests}
use Rattle.std.proofs.lemmas.List.{get_or_past, take_more}
use Rattle.std.proofs.lemmas.List.FromFn.{length-map-range_with_len}
use Rattle.std.proofs.lemmas.List.Folds.{list_any-append}
use Rattle.arrow_schema.specs.Column.{Index, Kind}
use Rattle.arrow_schema.specs.Parts.{is_nulls}
use Rattle.cells.specs.Cell.{Cell, null}
use Rattle.columns.specs.declared.array.PlacedArray.{PlacedArray}
use Rattle.columns.specs.Array.{Array, arrays_of, dictionary_in, slots_in}
use Rattle.columns.specs.CellAt.{cells_from, entries_of_kind, entry_at, index_at, indexed_cell, is_valid, kind_cell, named_number, unless_null}
use Rattle.columns.specs.View.{array_in, no_dictionary}
use Rattle.columns.specs.Visible.{is_null, is_past}
use Rattle.arrays.proofs.EntryWeights.{only_entry}
use Rattle.arrays.proofs.Ranges.{or_both}
use Rattle.arrays.proofs.VisibleSlots.{any_same, null_at}

-- ---- an index of such a dictionary names a null only where it names no entry

none_before : (n : ℕ) → true ≡ nat_le 0 n
none_before n = grind (arith, nat_tests)

not_past : (n : ℕ) → false ≡ nat_le (suc n) 0
not_past n = grind (arith, nat_tests)

past_next : (n i : ℕ) → nat_le n i ≡ nat_le (suc n) (suc i)
past_next n i = grind (arith, nat_tests)

null_past : (entries : List Cell) (n : ℕ) → list_any is_null entries ≡ false → is_null (get_or entries n null) ≡ nat_le (length entries) n
null_past [] n h = none_before n
null_past (c ∷ cs) zero h = (or_parts (is_null c) (list_any is_null cs) h).0 ∙ not_past (length cs)
null_past (c ∷ cs) (suc n) h = null_past cs n (or_parts (is_null c) (list_any is_null cs) h).1 ∙ past_next (length cs) n

entry_past : (entries : List Cell) (z : ℤ) → list_any is_null entries ≡ false → is_null (entry_at entries z) ≡ is_past z entries
entry_past entries (pos n) h = null_past entries n h
entry_past entries (negsuc n) h = refl

if_either : (b : Bool) (c : Cell) (p : Bool) → is_null c ≡ p → is_null (if b then c else null) ≡ (not b || (b && p))
if_either true c p h = h
if_either false c p h = refl

-- a slot without a value is not valid, or it names no entry
no_value : (index : Index) (kind : Kind) (a : Array) (i : ℕ) → list_any is_null (entries_of_kind kind (dictionary_in a)) ≡ false
    → is_null (unless_null (indexed_cell index kind) a i)
    ≡ (not (is_valid a i) || (is_valid a i && is_past (index_at index a i) (entries_of_kind kind (dictionary_in a))))
no_value index kind a i h =
    let entries : List Cell = entries_of_kind kind (dictionary_in a) in
    if_either (is_valid a i) (indexed_cell index kind a i) (is_past (index_at index a i) entries) (entry_past entries (index_at index a i) h)

any_either : (p q : ℕ → Bool) (xs : List ℕ) → list_any (λ i. p i || q i) xs ≡ (list_any p xs || list_any q xs)
any_either p q [] = refl
any_either p q (x ∷ xs) = ap (λ (b : Bool). (p x || q x) || b) (any_either p q xs) ∙ or_both (p x) (q x) (list_any p xs) (list_any q xs)

pub no_values : (index : Index) (kind : Kind) (a : Array) (from n : ℕ) → list_any is_null (entries_of_kind kind (dictionary_in a)) ≡ false
    → list_any (λ i. is_null (unless_null (indexed_cell index kind) a i)) (range_with_len from n)
    ≡ (list_any (λ i. not (is_valid a i)) (range_with_len from n)
    || list_any (λ i. is_valid a i && is_past (index_at index a i) (entries_of_kind kind (dictionary_in a))) (range_with_len from n))
no_values index kind a from n h =
    let unset : ℕ → Bool = λ i. not (is_valid a i) in
    let past : ℕ → Bool = λ i. is_valid a i && is_past (index_at index a i) (entries_of_kind kind (dictionary_in a)) in
    any_same (λ i. is_null (unless_null (indexed_cell index kind) a i)) (λ i. unset i || past i) (range_with_len from n) (λ i. no_value index kind a i h)
    ∙ any_either unset past (range_with_len from n)

-- ---- the entries of one array

pub unnamed_null : (z : ℤ) (cells : List Cell) → None ≡ named_number z → true ≡ is_null (entry_at cells z)
unnamed_null (pos n) cells is = cc
unnamed_null (negsuc n) cells is = refl

pub named_null : (z : ℤ) (cells : List Cell) (n : ℕ) → Some n ≡ named_number z → is_null (get_or cells n null) ≡ is_null (entry_at cells z)
named_null (pos m) cells n is = let same : n ≡ m = cc in ap (λ (k : ℕ). is_null (get_or cells k null)) same
named_null (negsuc m) cells n is = cc

pub only_null : (kind : Kind) (a : Array) (n : ℕ) → n < slots_in a
    → is_null (get_or (entries_of_kind kind (arrays_of (a ∷ []))) n null) ≡ (is_nulls kind || not (is_valid a n))
only_null kind a n lt = ap is_null (only_entry (unless_null (kind_cell kind) a) (slots_in a) n lt) ∙ null_at kind a n

pub only_past : (kind : Kind) (a : Array) (n : ℕ) → slots_in a ≤ n → is_null (get_or (entries_of_kind kind (arrays_of (a ∷ []))) n null) ≡ true
only_past kind a n le =
    let own : List Cell = cells_from (unless_null (kind_cell kind) a) 0 (slots_in a) in
    let long : length (own ++ []) ≡ length own + 0 = length-append own [] in
    let many : length own ≡ slots_in a = length-map-range_with_len (unless_null (kind_cell kind) a) 0 (slots_in a) in
    ap is_null (get_or_past (own ++ []) n null (omega (arith, long, many, le)))

-- ---- the entries of arrays whose slots are all valid

abbrev entries : List ℕ → Kind → List PlacedArray → List Cell
entries bytes kind arrays = entries_of_kind kind (arrays_of (map (array_in bytes no_dictionary) arrays))

any_of_cells : (p : Cell → Bool) (f : ℕ → Cell) (xs : List ℕ) → list_any p (map f xs) ≡ list_any (λ i. p (f i)) xs
any_of_cells p f [] = refl
any_of_cells p f (x ∷ xs) = ap (λ (b : Bool). p (f x) || b) (any_of_cells p f xs)

own_nulls : (kind : Kind) (a : Array) → is_nulls kind ≡ false → list_any (λ i. not (is_valid a i)) (range_with_len 0 (slots_in a)) ≡ false
    → list_any is_null (cells_from (unless_null (kind_cell kind) a) 0 (slots_in a)) ≡ false
own_nulls kind a filled h =
    any_of_cells is_null (unless_null (kind_cell kind) a) (range_with_len 0 (slots_in a))
    ∙ any_same (λ i. is_null (unless_null (kind_cell kind) a i)) (λ i. not (is_valid a i)) (range_with_len 0 (slots_in a))
    (λ i. null_at kind a i ∙ ap (λ (b : Bool). b || not (is_valid a i)) filled)
    ∙ h

more_nulls : (bytes : List ℕ) (kind : Kind) (xs : List PlacedArray) (x : PlacedArray)
    → let a = array_in bytes no_dictionary x in
    list_any is_null (entries bytes kind (xs ++ x ∷ []))
    ≡ (list_any is_null (entries bytes kind xs) || list_any is_null (cells_from (unless_null (kind_cell kind) a) 0 (slots_in a)))
more_nulls bytes kind [] x =
    let a : Array = array_in bytes no_dictionary x in
    let own : List Cell = cells_from (unless_null (kind_cell kind) a) 0 (slots_in a) in
    list_any-append is_null own [] ∙ or-false (list_any is_null own)
more_nulls bytes kind (y ∷ ys) x =
    let a : Array = array_in bytes no_dictionary x in
    let b : Array = array_in bytes no_dictionary y in
    let own : List Cell = cells_from (unless_null (kind_cell kind) a) 0 (slots_in a) in
    let first : List Cell = cells_from (unless_null (kind_cell kind) b) 0 (slots_in b) in
    list_any-append is_null first (entries bytes kind (ys ++ x ∷ []))
    ∙ ap (λ (r : Bool). list_any is_null first || r) (more_nulls bytes kind ys x)
    ∙ sym (or_assoc (list_any is_null first) (list_any is_null (entries bytes kind ys)) (list_any is_null own))
    ∙ ap (λ (r : Bool). r || list_any is_null own) (sym (list_any-append is_null first (entries bytes kind ys)))

-- one array more
pub values_next : (bytes : List ℕ) (kind : Kind) (xs : List PlacedArray) (i : ℕ) (x : PlacedArray) → i < length xs → x ≡ get_or xs i x → is_nulls kind ≡ false
    → let a = array_in bytes no_dictionary x in
    list_any (λ k. not (is_valid a k)) (range_with_len 0 (slots_in a)) ≡ false
    → list_any is_null (entries bytes kind (take i xs)) ≡ false → list_any is_null (entries bytes kind (take (i + 1) xs)) ≡ false
values_next bytes kind xs i x lt is filled full before =
    let a : Array = array_in bytes no_dictionary x in
    let next : take (i + 1) xs ≡ take i xs ++ x ∷ [] = take_more xs i x lt ∙ ap (λ (y : PlacedArray). take i xs ++ y ∷ []) (sym is) in
    ap (λ (ys : List PlacedArray). list_any is_null (entries bytes kind ys)) next
    ∙ more_nulls bytes kind (take i xs) x
    ∙ (λ j. before j || own_nulls kind a filled full j)

-- the array at a place of those that are sound
pub sound_there : (p : Array → Bool) (g : PlacedArray → Array) (xs : List PlacedArray) (i : ℕ) (x : PlacedArray) → i < length xs → x ≡ get_or xs i x
    → list_all p (map g xs) ≡ true → p (g x) ≡ true
sound_there p g [] i x lt is h = absurd (omega arith)
sound_there p g (y ∷ ys) zero x lt is h = ap (λ (z : PlacedArray). p (g z)) is ∙ (and_parts (p (g y)) (list_all p (map g ys)) h).0
sound_there p g (y ∷ ys) (suc i) x lt is h = sound_there p g ys i x (omega arith) is (and_parts (p (g y)) (list_all p (map g ys)) h).1
