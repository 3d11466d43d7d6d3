-- The entries of a dictionary, array by array.
use Rattle.std.specs.Prelude.{nat_le, not, ℤ, pos, negsuc, Some, None}
use Rattle.std.proofs.Common.{◌≡◌, ℕ, ◌+◌, ◌-◌, ◌≤◌, ◌<◌, Bool, true, List, ◌∷◌, ◌++◌, length, get_or, map, drop, false, length-append, refl, ap, arith, sym, ◌∙◌}
use Rattle.std.specs.List.{list_all}
use Rattle.std.proofs.lemmas.Bool.{and_parts}
use Rattle.std.proofs.lemmas.Bool.Decides.{nat_tests}
use Rattle.std.proofs.lemmas.List.{get_or_append_left, get_or-append_right, drop_all}
use Rattle.std.proofs.lemmas.List.FromFn.{length-map-range_with_len, get_or-map-range_with_len}
use Rattle.facts.specs.laws.Lists.{drop-item}
use Rattle.arrow_schema.specs.Column.{Kind}
use Rattle.cells.specs.Cell.{Cell, null}
use Rattle.columns.specs.declared.array.PlacedArray.{PlacedArray}
use Rattle.columns.specs.Array.{Array, arrays_of, slots_in}
use Rattle.columns.specs.CellAt.{cells_from, unless_null, kind_cell, entries_of_kind, entry_at, named_number}
use Rattle.columns.specs.Visible.{is_past}
use Rattle.columns.specs.View.{array_in, no_dictionary}
use Rattle.columns.specs.laws.Places.{slots_is}

-- an entry of the first array, and one of the others
entry_here : (f : ℕ → Cell) (n i : ℕ) (others : List Cell) → i < n → get_or (cells_from f 0 n ++ others) i null ≡ f i
entry_here f n i others lt =
    let long : length (cells_from f 0 n) ≡ n = length-map-range_with_len f 0 n in
    let e : 0 + i ≡ i = omega arith in
    let left : get_or (cells_from f 0 n ++ others) i null ≡ get_or (cells_from f 0 n) i null = grind (arith, get_or_append_left) in
    left ∙ get_or-map-range_with_len f 0 n i i null lt e

entry_later : (f : ℕ → Cell) (n i : ℕ) (others : List Cell) → n ≤ i → get_or (cells_from f 0 n ++ others) i null ≡ get_or others (i - n) null
entry_later f n i others le = get_or-append_right (cells_from f 0 n) others n i null (length-map-range_with_len f 0 n) le

abbrev pub entries : List ℕ → Kind → List PlacedArray → List Cell
entries bytes kind arrays = entries_of_kind kind (arrays_of (map (array_in bytes no_dictionary) arrays))

pub found_here : (bytes : List ℕ) (kind : Kind) (xs : List PlacedArray) (i r : ℕ) (x : PlacedArray) → i < length xs → x ≡ get_or xs i x → r < x.slots
    → unless_null (kind_cell kind) (array_in bytes no_dictionary x) r ≡ get_or (entries bytes kind (drop i xs)) r null
found_here bytes kind xs i r x lt is below =
    let a : Array = array_in bytes no_dictionary x in
    let e = slots_is bytes no_dictionary x in
    let within : r < slots_in a = rw e below in
    rw (drop-item xs i x lt is) (sym (entry_here (unless_null (kind_cell kind) a) (slots_in a) r (entries bytes kind (drop (i + 1) xs)) within))

pub found_later : (bytes : List ℕ) (kind : Kind) (xs : List PlacedArray) (i r : ℕ) (x : PlacedArray) → i < length xs → x ≡ get_or xs i x → x.slots ≤ r
    → get_or (entries bytes kind (drop (i + 1) xs)) (r - x.slots) null ≡ get_or (entries bytes kind (drop i xs)) r null
found_later bytes kind xs i r x lt is above =
    let a : Array = array_in bytes no_dictionary x in
    let e = slots_is bytes no_dictionary x in
    let past : slots_in a ≤ r = rw e above in
    ap (λ (n : ℕ). get_or (entries bytes kind (drop (i + 1) xs)) (r - n) null) (sym e)
    ∙ rw (drop-item xs i x lt is) (sym (entry_later (unless_null (kind_cell kind) a) (slots_in a) r (entries bytes kind (drop (i + 1) xs)) past))

pub found_nowhere : (bytes : List ℕ) (kind : Kind) (xs : List PlacedArray) (i r : ℕ) → length xs ≤ i → null ≡ get_or (entries bytes kind (drop i xs)) r null
found_nowhere bytes kind xs i r le = rw (drop_all i xs le) refl

-- ---- how many there are

pub many : (f : ℕ → Cell) (n : ℕ) (others : List Cell) → length (cells_from f 0 n ++ others) ≡ n + length others
many f n others = length-append (cells_from f 0 n) others ∙ ap (λ (k : ℕ). k + length others) (length-map-range_with_len f 0 n)

below : (r n m : ℕ) → r < n → not (nat_le (n + m) r) ≡ true
below r n m lt = grind (arith, nat_tests)

above : (r n m : ℕ) → n ≤ r → nat_le m (r - n) ≡ nat_le (n + m) r
above r n m le = grind (arith, nat_tests)

next_many : (bytes : List ℕ) (kind : Kind) (xs : List PlacedArray) (i : ℕ) (x : PlacedArray) → i < length xs → x ≡ get_or xs i x
    → length (entries bytes kind (drop i xs)) ≡ x.slots + length (entries bytes kind (drop (i + 1) xs))
next_many bytes kind xs i x lt is =
    let a : Array = array_in bytes no_dictionary x in
    let e = slots_is bytes no_dictionary x in
    rw (drop-item xs i x lt is)
    (many (unless_null (kind_cell kind) a) (slots_in a) (entries bytes kind (drop (i + 1) xs)) ∙ ap (λ (n : ℕ). n + length (entries bytes kind (drop (i + 1) xs))) e)

-- whether a number is below that
abbrev is_below : ℕ → ℕ → Bool
is_below many r = not (nat_le many r)

pub present_here : (bytes : List ℕ) (kind : Kind) (xs : List PlacedArray) (i r : ℕ) (x : PlacedArray) → i < length xs → x ≡ get_or xs i x → r < x.slots
    → not (nat_le (length (entries bytes kind (drop i xs))) r) ≡ true
present_here bytes kind xs i r x lt is under =
    ap (λ (n : ℕ). is_below n r) (next_many bytes kind xs i x lt is) ∙ below r x.slots (length (entries bytes kind (drop (i + 1) xs))) under

pub present_later : (bytes : List ℕ) (kind : Kind) (xs : List PlacedArray) (i r : ℕ) (x : PlacedArray) → i < length xs → x ≡ get_or xs i x → x.slots ≤ r
    → not (nat_le (length (entries bytes kind (drop (i + 1) xs))) (r - x.slots)) ≡ not (nat_le (length (entries bytes kind (drop i xs))) r)
present_later bytes kind xs i r x lt is over =
    ap not (above r x.slots (length (entries bytes kind (drop (i + 1) xs))) over) ∙ ap (λ (n : ℕ). is_below n r) (sym (next_many bytes kind xs i x lt is))

none_below : (r : ℕ) → not (nat_le 0 r) ≡ false
none_below r = grind (arith, nat_tests)

pub present_nowhere : (bytes : List ℕ) (kind : Kind) (xs : List PlacedArray) (i r : ℕ) → length xs ≤ i → not (nat_le (length (entries bytes kind (drop i xs))) r) ≡ false
present_nowhere bytes kind xs i r le = rw (drop_all i xs le) (none_below r)

-- by the number that an index is
pub named : (k : ℕ) (z : ℤ) → Some k ≡ named_number z → z ≡ pos k
named k (pos n) is = cc
named k (negsuc n) is = cc

pub unnamed_is_past : (z : ℤ) (entries : List Cell) → None ≡ named_number z → false ≡ not (is_past z entries)
unnamed_is_past (pos n) entries is = cc
unnamed_is_past (negsuc n) entries is = refl

pub unnamed_is_null : (z : ℤ) (entries : List Cell) → None ≡ named_number z → null ≡ entry_at entries z
unnamed_is_null (pos n) entries is = cc
unnamed_is_null (negsuc n) entries is = refl

-- a test that holds of all holds of the next
pub sound_here : (p : Array → Bool) (g : PlacedArray → Array) (xs : List PlacedArray) (i : ℕ) (x : PlacedArray) → i < length xs → x ≡ get_or xs i x
    → list_all p (map g (drop i xs)) ≡ true → (p (g x) ≡ true) × (list_all p (map g (drop (i + 1) xs)) ≡ true)
sound_here p g xs i x lt is h =
    let all : list_all p (map g (x ∷ drop (i + 1) xs)) ≡ true = rw (drop-item xs i x lt is) at h in
    let parts = and_parts (p (g x)) (list_all p (map g (drop (i + 1) xs))) all in
    (parts.0, parts.1)
