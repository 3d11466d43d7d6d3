-- Entries that were seen, their numbers, and the places of those that are named.
use Rattle.std.specs.Prelude.{IfSome, Option, Some, None, not, set, slice_get, get_or, ◌||◌, if◌then◌else◌}
use Rattle.std.specs.List.{All, AllByRecursion, IsDistinct, list_any, position_from}
use Rattle.std.proofs.Common.{◌≡◌, ◌≢◌, ◌<◌, ℕ, zero, suc, ◌+◌, ◌++◌, ◌⊎◌, Bool, true, false, List, [], ◌∷◌, map, length, inl, inr, refl, ap, ap₂, sym, ◌∙◌, subst, arith}
use Rattle.std.proofs.Math.Bool.{or-true}
use Rattle.std.proofs.lemmas.Bool.{cases_lt}
use Rattle.std.proofs.lemmas.Bool.Decides.{Decides-int_eq}
use Rattle.std.proofs.lemmas.Iterator.Adapters.{position_from-zero}
use Rattle.std.proofs.lemmas.List.{get_or-set_other, get_or-set_same, map-append}
use Rattle.std.proofs.lemmas.List.Elements.{All-append}
use Rattle.std.proofs.lemmas.Slice.Eq.{bytes_eq-Decides}
use Rattle.dictionary_codes.specs.inner.Codes.{code_in}
use Rattle.dictionary_codes.specs.inner.Seen.{AreDistinct, ArePlaces, HavePlaces, cells_numbered}
use Rattle.cells.specs.Cell.{Cell, null, boolean, number, text, bytes, items, parts}
use Rattle.cells.specs.Dictionary.{entry_in, is_entry, with_entry, with_option}
use Rattle.cells.specs.Entry.{entry_cell}
use Rattle.cells.specs.declared.entry.Entry.{Entry}
use Rattle.cells.specs.laws.EntryEquality.{entry_eq, entry_eq_is}

-- ---- cells that are one entry

same_bits : (x y : Bool) → (if x then y else not y) ≡ true → x ≡ y
same_bits true true is = refl
same_bits true false is = cc
same_bits false true is = cc
same_bits false false is = refl

-- two cells that are one entry are one cell
pub same_entry : (a b : Cell) → is_entry a b ≡ true → a ≡ b
same_entry (boolean x) (boolean y) is = ap boolean (same_bits x y is)
same_entry (number x) (number y) is = ap number ((Decides-int_eq x y).0 is)
same_entry (text x) (text y) is = ap text ((bytes_eq-Decides x y).0 is)
same_entry (bytes x) (bytes y) is = ap bytes ((bytes_eq-Decides x y).0 is)
same_entry _ _ is = cc

-- a cell that is an entry is one
pub is_one : (c d : Cell) → is_entry c d ≡ true → entry_in c ≡ Some c
is_one null d is = cc
is_one (items x) d is = cc
is_one (parts x) d is = cc
is_one _ d is = refl

never_null : (c : Cell) → is_entry c null ≡ false
never_null null = refl
never_null _ = refl

-- ---- numbers

pub is_within : (seen : List Cell) (c : Cell) (n : ℕ) → is_entry c (get_or seen n null) ≡ true → n < length seen
is_within [] c n is = let never : true ≡ false = sym is ∙ never_null c in cc
is_within (x ∷ xs) c zero is = omega arith
is_within (x ∷ xs) c (suc n) is = let lt = is_within xs c n is in omega (arith, lt)

-- of distinct entries only one is a cell
only_one : (seen : List Cell) (c : Cell) (n m : ℕ) → AreDistinct seen → is_entry c (get_or seen n null) ≡ true → is_entry c (get_or seen m null) ≡ true → n ≡ m
only_one seen c n m distinct own other =
    distinct n m (ap (λ (x : Cell). is_entry x (get_or seen m null)) (sym (same_entry c (get_or seen n null) own)) ∙ other)

turned : (a b : Cell) → is_entry a b ≡ true → is_entry b a ≡ true
turned a b is = let e : a ≡ b = same_entry a b is in ap (λ (x : Cell). is_entry b x) e ∙ ap (λ (x : Cell). is_entry x b) (sym e) ∙ is

none_equal : (k : Entry) (ks : List Entry) (j : ℕ) → AllByRecursion (λ y. entry_eq k y ≡ false) ks → is_entry (entry_cell k) (get_or (map entry_cell ks) j null) ≡ false
none_equal k [] j h = never_null (entry_cell k)
none_equal k (x ∷ xs) zero h = sym (entry_eq_is k x) ∙ h.0
none_equal k (x ∷ xs) (suc j) h = none_equal k xs j h.1

-- the keys of a set are distinct entries
pub keys_distinct : (ks : List Entry) → IsDistinct entry_eq ks → AreDistinct (map entry_cell ks)
unfolding IsDistinct
keys_distinct [] h i j is = cc
keys_distinct (k ∷ ks) h zero zero is = refl
keys_distinct (k ∷ ks) h zero (suc j) is = let never : true ≡ false = sym is ∙ none_equal k ks j h.0 in cc
keys_distinct (k ∷ ks) h (suc i) zero is =
    let never : true ≡ false = sym (turned (get_or (map entry_cell ks) i null) (entry_cell k) is) ∙ none_equal k ks i h.0 in cc
keys_distinct (k ∷ ks) h (suc i) (suc j) is = ap suc (keys_distinct ks h.1 i j is)

-- the cell of a key
pub key_cell : (ks : List Entry) (n : ℕ) (k : Entry) → slice_get ks n ≡ Some k → get_or (map entry_cell ks) n null ≡ entry_cell k
key_cell [] n k at = cc
key_cell (x ∷ xs) zero k at = let e : x ≡ k = cc in ap entry_cell e
key_cell (x ∷ xs) (suc n) k at = key_cell xs n k at

-- ---- lists

within_places : (places : List (Option ℕ)) (n p : ℕ) → get_or places n None ≡ Some p → n < length places
within_places [] n p is = cc
within_places (x ∷ xs) zero p is = omega arith
within_places (x ∷ xs) (suc n) p is = let lt = within_places xs n p is in omega (arith, lt)

pushed : (xs : List ℕ) (x y q : ℕ) → slice_get (xs ++ x ∷ []) q ≡ Some y → (slice_get xs q ≡ Some y) ⊎ ((q ≡ length xs) × (y ≡ x))
pushed [] x y zero is = inr (refl, cc)
pushed [] x y (suc q) is = cc
pushed (z ∷ xs) x y zero is = inl is
pushed (z ∷ xs) x y (suc q) is = elim (pushed xs x y q is) [
  | inl before ↦ inl before
  | inr last ↦ inr (let e : q ≡ length xs = last.0 in ap suc e, last.1)
]

pub pushed_last : (xs : List ℕ) (x : ℕ) → slice_get (xs ++ x ∷ []) (length xs) ≡ Some x
pushed_last [] x = refl
pushed_last (z ∷ xs) x = pushed_last xs x

pushed_before : (xs : List ℕ) (x y q : ℕ) → slice_get xs q ≡ Some y → slice_get (xs ++ x ∷ []) q ≡ Some y
pushed_before [] x y q is = cc
pushed_before (z ∷ xs) x y zero is = is
pushed_before (z ∷ xs) x y (suc q) is = pushed_before xs x y q is

-- the one place at which a test passes is the first
first_at : (test : Cell → Bool) (f : ℕ → Cell) (xs : List ℕ) (p x i : ℕ) → slice_get xs p ≡ Some x → test (f x) ≡ true
    → ((q y : ℕ) → slice_get xs q ≡ Some y → test (f y) ≡ true → q ≡ p) → position_from test i (map f xs) ≡ Some (i + p)
first_at test f [] p x i at is only = cc
first_at test f (y ∷ xs) zero x i at is only =
    let e : y ≡ x = cc in
    let here : test (f y) ≡ true = ap (λ (z : ℕ). test (f z)) e ∙ is in
    let same : i ≡ i + 0 = omega arith in
    rw here (ap Some same)
first_at test f (y ∷ xs) (suc p) x i at is only =
    let later : (q z : ℕ) → slice_get xs q ≡ Some z → test (f z) ≡ true → q ≡ p = λ q z found passes. let e : suc q ≡ suc p = only (suc q) z found passes in omega (arith, e) in
    by (first_at test f xs p x (i + 1) at is later) (test (f y)) refl
  where
    by : position_from test (i + 1) (map f xs) ≡ Some (i + 1 + p) → (b : Bool) → test (f y) ≡ b
        → (if b then Some i else position_from test (i + 1) (map f xs)) ≡ Some (i + suc p)
    by rest true here = let never : 0 ≡ suc p = only 0 y refl here in absurd (omega (arith, never))
    by rest false here = let same : i + 1 + p ≡ i + suc p = omega arith in rest ∙ ap Some same

none_at : (test : Cell → Bool) (f : ℕ → Cell) (xs : List ℕ) → ((q y : ℕ) → slice_get xs q ≡ Some y → test (f y) ≡ false) → list_any test (map f xs) ≡ false
none_at test f [] none = refl
none_at test f (y ∷ xs) none = rw (none 0 y refl) (none_at test f xs (λ q z found. none (suc q) z found))

any_at : (test : Cell → Bool) (f : ℕ → Cell) (xs : List ℕ) (p x : ℕ) → slice_get xs p ≡ Some x → test (f x) ≡ true → list_any test (map f xs) ≡ true
any_at test f [] p x at is = cc
any_at test f (y ∷ xs) zero x at is =
    let e : y ≡ x = cc in
    let here : test (f y) ≡ true = ap (λ (z : ℕ). test (f z)) e ∙ is in
    rw here refl
any_at test f (y ∷ xs) (suc p) x at is = ap (λ (b : Bool). test (f y) || b) (any_at test f xs p x at is) ∙ or-true (test (f y))

-- ---- places of what is named

pub record AreNumbered (seen : List Cell) (places : List (Option ℕ)) (named : List ℕ) : Type 0 where
  pub distinct : AreDistinct seen
  pub placed : HavePlaces places named
  pub taken : ArePlaces places named

-- an entry that has a place is named, and has that place
pub named_already : (seen : List Cell) (places : List (Option ℕ)) (named : List ℕ) (c : Cell) (n p : ℕ) → AreNumbered seen places named
    → is_entry c (get_or seen n null) ≡ true → get_or places n None ≡ Some p
    → (cells_numbered seen named ≡ with_entry (cells_numbered seen named) c) × (Some p ≡ code_in (cells_numbered seen named) c)
named_already seen places named c n p h is at =
    let f : ℕ → Cell = λ m. get_or seen m null in
    let cells : List Cell = cells_numbered seen named in
    let own : slice_get named p ≡ Some n = h.taken n p at in
    let only : (q y : ℕ) → slice_get named q ≡ Some y → is_entry c (f y) ≡ true → q ≡ p = λ q y found passes.
    let e : n ≡ y = only_one seen c n y h.distinct is passes in
    let there : get_or places y None ≡ Some q = h.placed q y found in
    let both : Some q ≡ Some p = sym there ∙ ap (λ (m : ℕ). get_or places m None) (sym e) ∙ at in
    cc in
    let found : list_any (is_entry c) cells ≡ true = any_at (is_entry c) f named p n own is in
    let zero_up : 0 + p ≡ p = omega arith in
    let one : entry_in c ≡ Some c = is_one c (f n) is in (
      sym (ap (with_option cells) one ∙ rw found refl),
      sym (position_from-zero (is_entry c) cells ∙ first_at (is_entry c) f named p n 0 own is only ∙ ap Some zero_up),
    )

-- the place of a number, if it has one
pub place_is_named : (seen : List Cell) (places : List (Option ℕ)) (named : List ℕ) (n : ℕ) (place : Option ℕ) → AreNumbered seen places named
    → place ≡ get_or places n None
    → IfSome place (λ p. (c : Cell) → is_entry c (get_or seen n null) ≡ true
    → (cells_numbered seen named ≡ with_entry (cells_numbered seen named) c) × (Some p ≡ code_in (cells_numbered seen named) c))
place_is_named seen places named n None h at = tt
place_is_named seen places named n (Some p) h at = λ c is. named_already seen places named c n p h is (sym at)

-- one that has none is the next
pub named_now : (seen : List Cell) (places : List (Option ℕ)) (named : List ℕ) (c : Cell) (n : ℕ) → AreNumbered seen places named
    → is_entry c (get_or seen n null) ≡ true → get_or places n None ≡ None → cells_numbered seen (named ++ n ∷ []) ≡ with_entry (cells_numbered seen named) c
named_now seen places named c n h is free =
    let f : ℕ → Cell = λ m. get_or seen m null in
    let cells : List Cell = cells_numbered seen named in
    let one : entry_in c ≡ Some c = is_one c (f n) is in
    let other : (q y : ℕ) → slice_get named q ≡ Some y → is_entry c (f y) ≡ false = λ q y found. by q y found (is_entry c (f y)) refl in
    let none : list_any (is_entry c) cells ≡ false = none_at (is_entry c) f named other in
    map-append f named (n ∷ []) ∙ ap (λ (x : Cell). cells ++ x ∷ []) (sym (same_entry c (f n) is)) ∙ sym (ap (with_option cells) one ∙ rw none refl)
  where
    by : (q y : ℕ) → slice_get named q ≡ Some y → (b : Bool) → is_entry c (get_or seen y null) ≡ b → b ≡ false
    by q y found true passes =
        let e : n ≡ y = only_one seen c n y h.distinct is passes in
        let there : get_or places y None ≡ Some q = h.placed q y found in
        let both : None ≡ Some q = sym free ∙ ap (λ (m : ℕ). get_or places m None) e ∙ there in
        cc
    by q y found false passes = refl

pub next_taken : (places : List (Option ℕ)) (named : List ℕ) (n len : ℕ) → len ≡ length named → n < length places → ArePlaces places named
    → ArePlaces (set places n (Some len)) (named ++ n ∷ [])
next_taken places named n len count within h y q there = elim (cases_lt y n) [
  | inl below ↦ other (λ e. omega (arith, below, e))
  | inr le ↦ elim (cases_lt n y) [
    | inl above ↦ other (λ e. omega (arith, above, e))
    | inr ge ↦
        let e : y ≡ n = omega (arith, le, ge) in
        let own : get_or (set places n (Some len)) n None ≡ Some len = get_or-set_same places n (Some len) None within in
        let both : Some len ≡ Some q = sym own ∙ ap (λ (m : ℕ). get_or (set places n (Some len)) m None) (sym e) ∙ there in
        let p : len ≡ q = cc in
        ap (λ (m : ℕ). slice_get (named ++ n ∷ []) m) (sym p ∙ count) ∙ pushed_last named n ∙ ap Some (sym e)
  ]
]
  where
    other : y ≢ n → slice_get (named ++ n ∷ []) q ≡ Some y
    other differ = pushed_before named n y q (h y q (sym (get_or-set_other places n y (Some len) None differ) ∙ there))

-- a number that has a place is one of them
pub placed_within : (places : List (Option ℕ)) (named : List ℕ) (q n : ℕ) → HavePlaces places named → slice_get named q ≡ Some n → n < length places
placed_within places named q n h found = within_places places n q (h q n found)

-- and so is one that is named
pub named_within : (places : List (Option ℕ)) (named : List ℕ) (q : ℕ) → HavePlaces places named → q < length named → get_or named q 0 < length places
named_within places named q h lt = placed_within places named q (get_or named q 0) h (at named q lt)
  where
    at : (xs : List ℕ) (i : ℕ) → i < length xs → slice_get xs i ≡ Some (get_or xs i 0)
    at [] i within = absurd (omega (arith, within))
    at (x ∷ xs) zero within = refl
    at (x ∷ xs) (suc i) within = at xs i (omega (arith, within))

-- the cells of what is named stay, if those of all numbers do
pub cells_stay : (seen after : List Cell) (places : List (Option ℕ)) (named : List ℕ) → length places ≡ length seen → HavePlaces places named
    → ((n : ℕ) → n < length seen → get_or after n null ≡ get_or seen n null) → cells_numbered after named ≡ cells_numbered seen named
cells_stay seen after places named count placed stay = each named (λ q n found. stay n (rw (← count) (placed_within places named q n placed found)))
  where
    each : (ns : List ℕ) → ((q n : ℕ) → slice_get ns q ≡ Some n → get_or after n null ≡ get_or seen n null) → cells_numbered after ns ≡ cells_numbered seen ns
    each [] same = refl
    each (n ∷ ns) same = ap₂ (λ (x : Cell) (xs : List Cell). x ∷ xs) (same 0 n refl) (each ns (λ q m found. same (suc q) m found))

pub all_pushed : {X : Type 0} (P : X → Type 0) (b : Bool) (old new : List X) (x : X) → new ≡ (if b then old ++ x ∷ [] else old) → All P old → P x → All P new
all_pushed P true old new x is all own = subst (All P) (sym is) (All-append P old (x ∷ []) all one)
  where
    one : All P (x ∷ [])
    one zero d lt = own
    one (suc k) d lt = absurd (omega (arith, lt))
all_pushed P false old new x is all own = subst (All P) (sym is) all
