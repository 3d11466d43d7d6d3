-- The ends of the arrays of a dictionary, and the entry that an index names by them.
use Rattle.std.specs.Prelude.{not, nat_le}
use Rattle.std.specs.List.{list_all}
use Rattle.std.proofs.Common.{◌≡◌, ◌≢◌, ℕ, zero, suc, ◌+◌, ◌-◌, ◌*◌, ◌^◌, ◌≤◌, ◌<◌, Bool, true, List, [], ◌∷◌, ◌++◌, length, get_or, map, take, drop, refl, ap, arith, sym, ◌∙◌, subst, length-append}
use Rattle.std.specs.List.Sorted.{IsNonDecreasingBy}
use Rattle.std.proofs.lemmas.Bool.{and_parts}
use Rattle.std.proofs.lemmas.List.{take_more}
use Rattle.std.proofs.lemmas.List.Sums.{sum_by-cons, sum_by_push}
use Rattle.arrow_schema.specs.Column.{Kind}
use Rattle.cells.specs.Cell.{null}
use Rattle.columns.specs.declared.array.PlacedArray.{PlacedArray}
use Rattle.columns.specs.Array.{Array, slots_in}
use Rattle.columns.specs.CellAt.{kind_cell, unless_null}
use Rattle.columns.specs.Ends.{entry_count, ends_from}
use Rattle.columns.specs.inner.ArrayPlaces.{IsArrayPlace}
use Rattle.columns.specs.View.{array_in, no_dictionary}
use Rattle.columns.specs.laws.Places.{slots_is}
use Rattle.columns.proofs.Entries.{entries, found_later, many, present_later}

pub ends_taken : (before : ℕ) (xs : List PlacedArray) (k : ℕ) → take k (ends_from before xs) ≡ ends_from before (take k xs)
ends_taken before xs zero = refl
ends_taken before [] (suc k) = refl
ends_taken before (x ∷ xs) (suc k) = ap (λ (ends : List ℕ). (before + x.slots) ∷ ends) (ends_taken (before + x.slots) xs k)

pub ends_pushed : (before : ℕ) (xs : List PlacedArray) (a : PlacedArray) → ends_from before (xs ++ a ∷ []) ≡ ends_from before xs ++ (before + (entry_count xs + a.slots)) ∷ []
ends_pushed before [] a = let e : before + a.slots ≡ before + (entry_count [] + a.slots) = omega arith in ap (λ (n : ℕ). n ∷ []) e
ends_pushed before (x ∷ xs) a =
    let cons : entry_count (x ∷ xs) ≡ x.slots + entry_count xs = sum_by-cons (λ (y : PlacedArray). y.slots) x xs in
    let e : (before + x.slots) + (entry_count xs + a.slots) ≡ before + (entry_count (x ∷ xs) + a.slots) = omega arith in
    ap (λ (ends : List ℕ). (before + x.slots) ∷ ends) (ends_pushed (before + x.slots) xs a ∙ ap (λ (n : ℕ). ends_from (before + x.slots) xs ++ n ∷ []) e)

-- the end of an array is how many entries it and those before it have
pub end_is : (before : ℕ) (xs : List PlacedArray) (k d : ℕ) → k < length xs → get_or (ends_from before xs) k d ≡ before + entry_count (take (suc k) xs)
end_is before [] k d lt = absurd (omega arith)
end_is before (x ∷ xs) zero d lt =
    let cons : entry_count (x ∷ []) ≡ x.slots + entry_count [] = sum_by-cons (λ (y : PlacedArray). y.slots) x [] in
    omega arith
end_is before (x ∷ xs) (suc k) d lt =
    let cons : entry_count (x ∷ take (suc k) xs) ≡ x.slots + entry_count (take (suc k) xs) = sum_by-cons (λ (y : PlacedArray). y.slots) x (take (suc k) xs) in
    let rest = end_is (before + x.slots) xs k d (omega arith) in
    let e : (before + x.slots) + entry_count (take (suc k) xs) ≡ before + entry_count (x ∷ take (suc k) xs) = omega arith in
    rest ∙ e

pub ends_many : (before : ℕ) (xs : List PlacedArray) → length (ends_from before xs) ≡ length xs
ends_many before [] = refl
ends_many before (x ∷ xs) = ap suc (ends_many (before + x.slots) xs)

pub count_next : (xs : List PlacedArray) (i : ℕ) (x : PlacedArray) → i < length xs → x ≡ get_or xs i x → entry_count (take (i + 1) xs) ≡ entry_count (take i xs) + x.slots
count_next xs i x lt is =
    ap entry_count (take_more xs i x lt) ∙ sum_by_push (λ (y : PlacedArray). y.slots) (take i xs) (get_or xs i x)
    ∙ ap (λ (y : PlacedArray). entry_count (take i xs) + y.slots) (sym is)

-- that many entries there are
pub all_counted : (bytes : List ℕ) (kind : Kind) (xs : List PlacedArray) → entry_count xs ≡ length (entries bytes kind xs)
all_counted bytes kind [] = refl
all_counted bytes kind (x ∷ xs) =
    let a : Array = array_in bytes no_dictionary x in
    let cons : entry_count (x ∷ xs) ≡ x.slots + entry_count xs = sum_by-cons (λ (y : PlacedArray). y.slots) x xs in
    let first : length (entries bytes kind (x ∷ xs)) ≡ slots_in a + length (entries bytes kind xs) = many (unless_null (kind_cell kind) a) (slots_in a) (entries bytes kind xs) in
    let slots : slots_in a ≡ x.slots = slots_is bytes no_dictionary x in
    let others = all_counted bytes kind xs in
    omega arith

-- ---- what is found from an array on is what is found from the first on

next_left : (r s n m : ℕ) → m ≡ s + n → (r - s) - n ≡ r - m
next_left r s n m e = omega arith

pub found_from : (bytes : List ℕ) (kind : Kind) (xs : List PlacedArray) (i r : ℕ) → i ≤ length xs → entry_count (take i xs) ≤ r
    → get_or (entries bytes kind (drop i xs)) (r - entry_count (take i xs)) null ≡ get_or (entries bytes kind xs) r null
found_from bytes kind xs zero r le before = let e : r - 0 ≡ r = omega arith in ap (λ (n : ℕ). get_or (entries bytes kind xs) n null) e
found_from bytes kind [] (suc i) r le before = absurd (omega arith)
found_from bytes kind (x ∷ xs) (suc i) r le before =
    let cons : entry_count (x ∷ take i xs) ≡ x.slots + entry_count (take i xs) = sum_by-cons (λ (y : PlacedArray). y.slots) x (take i xs) in
    let past : x.slots ≤ r = omega arith in
    ap (λ (n : ℕ). get_or (entries bytes kind (drop i xs)) n null) (sym (next_left r x.slots (entry_count (take i xs)) (entry_count (x ∷ take i xs)) cons))
    ∙ found_from bytes kind xs i (r - x.slots) (omega arith) (omega arith)
    ∙ found_later bytes kind (x ∷ xs) 0 r x (omega arith) refl past

pub present_from : (bytes : List ℕ) (kind : Kind) (xs : List PlacedArray) (i r : ℕ) → i ≤ length xs → entry_count (take i xs) ≤ r
    → not (nat_le (length (entries bytes kind (drop i xs))) (r - entry_count (take i xs))) ≡ not (nat_le (length (entries bytes kind xs)) r)
present_from bytes kind xs zero r le before = let e : r - 0 ≡ r = omega arith in ap (λ (n : ℕ). not (nat_le (length (entries bytes kind xs)) n)) e
present_from bytes kind [] (suc i) r le before = absurd (omega arith)
present_from bytes kind (x ∷ xs) (suc i) r le before =
    let cons : entry_count (x ∷ take i xs) ≡ x.slots + entry_count (take i xs) = sum_by-cons (λ (y : PlacedArray). y.slots) x (take i xs) in
    let past : x.slots ≤ r = omega arith in
    ap (λ (n : ℕ). not (nat_le (length (entries bytes kind (drop i xs))) n)) (sym (next_left r x.slots (entry_count (take i xs)) (entry_count (x ∷ take i xs)) cons))
    ∙ present_from bytes kind xs i (r - x.slots) (omega arith) (omega arith)
    ∙ present_later bytes kind (x ∷ xs) 0 r x (omega arith) refl past

pub all_from : (p : Array → Bool) (g : PlacedArray → Array) (xs : List PlacedArray) (i : ℕ) → list_all p (map g xs) ≡ true → list_all p (map g (drop i xs)) ≡ true
all_from p g xs zero h = h
all_from p g [] (suc i) h = refl
all_from p g (x ∷ xs) (suc i) h = all_from p g xs i (and_parts (p (g x)) (list_all p (map g xs)) h).1

-- ---- the array that has an entry, by the ends

least : (before : ℕ) (xs : List PlacedArray) (k d : ℕ) → k < length (ends_from before xs) → before ≤ get_or (ends_from before xs) k d
least before xs k d lt =
    let within : k < length xs = subst (λ (n : ℕ). k < n) (ends_many before xs) lt in
    let e = end_is before xs k d within in
    omega arith

rise : (before : ℕ) (xs : List PlacedArray) (i j d : ℕ) → i ≤ j → j < length (ends_from before xs) → get_or (ends_from before xs) i d ≤ get_or (ends_from before xs) j d
rise before [] i j d le lt = absurd (omega arith)
rise before (x ∷ xs) zero zero d le lt = omega arith
rise before (x ∷ xs) zero (suc j) d le lt =
    let rest : before + x.slots ≤ get_or (ends_from (before + x.slots) xs) j d = least (before + x.slots) xs j d (omega arith) in
    rest
rise before (x ∷ xs) (suc i) zero d le lt = absurd (omega arith)
rise before (x ∷ xs) (suc i) (suc j) d le lt = rise (before + x.slots) xs i j d (omega arith) (omega arith)

pub ends_rise : (xs : List PlacedArray) (ends : List ℕ) → ends ≡ ends_from 0 xs → IsNonDecreasingBy (λ (n : ℕ). n) ends
ends_rise xs ends is = subst (λ (es : List ℕ). IsNonDecreasingBy (λ (n : ℕ). n) es) (sym is) (λ i j d le lt. rise 0 xs i j d le lt)

pub positive : (n : ℕ) → n ≢ 0 → 0 < n
positive zero some = absurd (some refl)
positive (suc n) some = omega arith

-- the end of the array before a place
pub end_there : (xs : List PlacedArray) (ends : List ℕ) (i d : ℕ) → ends ≡ ends_from 0 xs → i < length xs → get_or ends i d ≡ entry_count (take (i + 1) xs)
end_there xs ends i d is lt =
    let e : i + 1 ≡ suc i = omega arith in
    let none : 0 + entry_count (take (suc i) xs) ≡ entry_count (take (suc i) xs) = omega arith in
    ap (λ (es : List ℕ). get_or es i d) is ∙ end_is 0 xs i d lt ∙ none ∙ ap (λ (k : ℕ). entry_count (take k xs)) (sym e)

before_place : (xs : List PlacedArray) (ends : List ℕ) (index i : ℕ) → ends ≡ ends_from 0 xs → i ≤ length xs → ((k d : ℕ) → k < i → get_or ends k d ≤ index) → entry_count (take i xs) ≤ index
before_place xs ends index zero is le low = omega arith
before_place xs ends index (suc i) is le low =
    let lt : i < length xs = omega arith in
    let e : i + 1 ≡ suc i = omega arith in
    let there : get_or ends i 0 ≡ entry_count (take (suc i) xs) = end_there xs ends i 0 is lt ∙ ap (λ (k : ℕ). entry_count (take k xs)) e in
    let at : get_or ends i 0 ≤ index = low i 0 (omega arith) in
    omega arith

pub is_array_place : (xs : List PlacedArray) (ends : List ℕ) (index i : ℕ) → ends ≡ ends_from 0 xs → i ≤ length ends → ((k d : ℕ) → k < i → get_or ends k d ≤ index)
    → ((k d : ℕ) → i ≤ k → k < length ends → index < get_or ends k d) → IsArrayPlace xs index i
is_array_place xs ends index i is le low high =
    let many : length ends ≡ length xs = ap length is ∙ ends_many 0 xs in
    let within : i ≤ length xs = omega arith in record {
      within = within;
      before = before_place xs ends index i is within low;
      up_to = λ lt.
          let e = end_there xs ends i 0 is lt in
          let above : index < get_or ends i 0 = high i 0 (omega arith) (omega arith) in
          omega arith;
    }

-- ---- an array more

pub pushed_count : (xs ys : List PlacedArray) (a : PlacedArray) (entries : ℕ) → ys ≡ xs ++ a ∷ [] → entries ≡ entry_count xs → entries + a.slots ≡ entry_count ys
pushed_count xs ys a entries more is =
    ap (λ (n : ℕ). n + a.slots) is ∙ sym (sum_by_push (λ (y : PlacedArray). y.slots) xs a) ∙ ap entry_count (sym more)

pub pushed_ends : (xs ys : List PlacedArray) (ends longer : List ℕ) (a : PlacedArray) (entries : ℕ) → ys ≡ xs ++ a ∷ [] → entries ≡ entry_count xs → ends ≡ ends_from 0 xs
    → longer ≡ ends ++ (entries + a.slots) ∷ [] → longer ≡ ends_from 0 ys
pushed_ends xs ys ends longer a entries more is ended with_end =
    let e : entries + a.slots ≡ 0 + (entry_count xs + a.slots) = omega arith in
    with_end ∙ ap (λ (es : List ℕ). es ++ (entries + a.slots) ∷ []) ended ∙ ap (λ (n : ℕ). ends_from 0 xs ++ n ∷ []) e ∙ sym (ends_pushed 0 xs a) ∙ ap (ends_from 0) (sym more)

pub pushed_few : (xs ys : List PlacedArray) (a : PlacedArray) (entries : ℕ) → ys ≡ xs ++ a ∷ [] → entries ≤ length xs * 2 ^ 64 → a.slots < 2 ^ 64 → entries + a.slots ≤ length ys * 2 ^ 64
pushed_few xs ys a entries more few fits =
    let long : length ys ≡ length xs + 1 = ap length more ∙ length-append xs (a ∷ []) in
    rw long (omega arith)

pub first_ends : (xs : List PlacedArray) (ends : List ℕ) (n m : ℕ) → ends ≡ ends_from 0 xs → n ≡ m → take n ends ≡ ends_from 0 (take m xs)
first_ends xs ends n m is e = ap (take n) is ∙ ends_taken 0 xs n ∙ ap (λ (k : ℕ). ends_from 0 (take k xs)) e

-- ---- at the array that has an entry

pub place_below : (xs : List PlacedArray) (i index before : ℕ) (x : PlacedArray) → i < length xs → x ≡ get_or xs i x → IsArrayPlace xs index i → before ≡ entry_count (take i xs) → index - before < x.slots
place_below xs i index before x lt is place e =
    let next = count_next xs i x lt is in
    let up_to = place.up_to lt in
    let from = place.before in
    omega arith

pub found_before : (bytes : List ℕ) (kind : Kind) (xs : List PlacedArray) (i index before : ℕ) → IsArrayPlace xs index i → before ≡ entry_count (take i xs)
    → get_or (entries bytes kind (drop i xs)) (index - before) null ≡ get_or (entries bytes kind xs) index null
found_before bytes kind xs i index before place e =
    ap (λ (n : ℕ). get_or (entries bytes kind (drop i xs)) (index - n) null) e ∙ found_from bytes kind xs i index place.within place.before

pub present_before : (bytes : List ℕ) (kind : Kind) (xs : List PlacedArray) (i index before : ℕ) → IsArrayPlace xs index i → before ≡ entry_count (take i xs)
    → not (nat_le (length (entries bytes kind (drop i xs))) (index - before)) ≡ not (nat_le (length (entries bytes kind xs)) index)
present_before bytes kind xs i index before place e =
    ap (λ (n : ℕ). not (nat_le (length (entries bytes kind (drop i xs))) (index - n))) e ∙ present_from bytes kind xs i index place.within place.before
