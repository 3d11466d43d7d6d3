-- A search in a list of entries that are in order of their names.
use Rattle.std.proofs.Common.{◌≡◌, ◌<◌, ◌+◌, ℕ, zero, suc, true, List, [], ◌∷◌, length, map, drop, get_or, Option, Some, None, Result, Ok, Err, Ordering, Less, Equal, Greater, refl, sym, ap, ◌∙◌, arith}
use Rattle.std.specs.Str.{bytes_eq}
use Rattle.std.specs.Ordering.{match_ordering, ordering_reverse}
use Rattle.std.proofs.lemmas.Bool.{cond-true, cond-false, and_parts}
use Rattle.std.proofs.lemmas.Cmp.{nat_list_cmp_total}
use Rattle.std.proofs.lemmas.List.{length-map}
use Rattle.catalogue.specs.declared.entry.TableEntry.{TableEntry}
use Rattle.catalogue.specs.Entries.{PlainEntry, PlainCatalogue, plain_entry, names_of, comes_before, ascends}
use Rattle.catalogue.specs.inner.Places.{place_of, seat_of}
use Rattle.catalogue.proofs.Standing.{map_at}
use Rattle.catalogue.specs.laws.Order.{order, by_order, less_is, turned, other_name, same_name}

-- a name that is less than an equal one
equal_below : (a b name : List ℕ) → order a b ≡ Less → order b name ≡ Equal → order a name ≡ Less
equal_below a b name lt is = nat_list_cmp_total.antisymm a name ∙ ap ordering_reverse (sym (nat_list_cmp_total.congr b name a is)) ∙ sym (nat_list_cmp_total.antisymm a b) ∙ lt

-- the first name is less than each later one
pub all_later : (low : List ℕ) (c : PlainCatalogue) (k : ℕ) (d : PlainEntry) → comes_before low (names_of c) ≡ true → ascends (names_of c) ≡ true → k < length c → order low (get_or c k d).name ≡ Less
all_later low [] k d first rises lt = absurd (omega arith)
all_later low (x ∷ xs) zero d first rises lt = less_is (order low x.name) first
all_later low (x ∷ xs) (suc k) d first rises lt =
    let parts = and_parts (comes_before x.name (names_of xs)) (ascends (names_of xs)) rises in
    nat_list_cmp_total.trans low x.name (get_or xs k d).name (less_is (order low x.name) first) (all_later x.name xs k d parts.0 parts.1 (omega (arith, lt)))

-- an entry with a lesser name is passed, and those before it
pub passed : (c : PlainCatalogue) (name : List ℕ) (at k : ℕ) (d : PlainEntry) → ascends (names_of c) ≡ true → k < length c → order (get_or c k d).name name ≡ Less
    → seat_of name (suc (at + k)) (drop (suc k) c) ≡ seat_of name at c
passed [] name at k d rises lt is = absurd (omega arith)
passed (x ∷ xs) name at zero d rises lt is =
    ap (λ (n : ℕ). seat_of name n xs) (let same : suc (at + 0) ≡ suc at = omega arith in same) ∙ sym (ap (λ o. match_ordering o (seat_of name (suc at) xs) (Ok at) (Err at)) is)
passed (x ∷ xs) name at (suc k) d rises lt is =
    let parts = and_parts (comes_before x.name (names_of xs)) (ascends (names_of xs)) rises in
    let here = nat_list_cmp_total.trans x.name (get_or xs k d).name name (all_later x.name xs k d parts.0 parts.1 (omega (arith, lt))) is in
    ap (λ (n : ℕ). seat_of name n (drop (suc k) xs)) (let same : suc (at + suc k) ≡ suc (suc at + k) = omega arith in same)
    ∙ passed xs name (suc at) k d parts.1 (omega (arith, lt)) is
    ∙ sym (ap (λ o. match_ordering o (seat_of name (suc at) xs) (Ok at) (Err at)) here)

-- an entry with the name is found
pub found : (c : PlainCatalogue) (name : List ℕ) (at k : ℕ) (d : PlainEntry) → ascends (names_of c) ≡ true → k < length c → order (get_or c k d).name name ≡ Equal → seat_of name at c ≡ Ok (at + k)
found [] name at k d rises lt is = absurd (omega arith)
found (x ∷ xs) name at zero d rises lt is =
    ap (λ o. match_ordering o (seat_of name (suc at) xs) (Ok at) (Err at)) is ∙ ap (λ (n : ℕ). Ok n) (let same : at ≡ at + 0 = omega arith in same)
found (x ∷ xs) name at (suc k) d rises lt is =
    let parts = and_parts (comes_before x.name (names_of xs)) (ascends (names_of xs)) rises in
    let here = equal_below x.name (get_or xs k d).name name (all_later x.name xs k d parts.0 parts.1 (omega (arith, lt))) is in
    ap (λ o. match_ordering o (seat_of name (suc at) xs) (Ok at) (Err at)) here ∙ found xs name (suc at) k d parts.1 (omega (arith, lt)) is ∙ ap (λ (n : ℕ). Ok n) (let same : suc at + k ≡ at + suc k = omega arith in same)

-- from an entry with a greater name on, none is passed
pub stopped : (c : PlainCatalogue) (name : List ℕ) (at k : ℕ) (d : PlainEntry) → k < length c → order (get_or c k d).name name ≡ Greater → seat_of name at (drop k c) ≡ Err at
stopped [] name at k d lt is = absurd (omega arith)
stopped (x ∷ xs) name at zero d lt is = ap (λ o. match_ordering o (seat_of name (suc at) xs) (Ok at) (Err at)) is
stopped (x ∷ xs) name at (suc k) d lt is = stopped xs name at k d (omega (arith, lt)) is

-- ---- the same, counted from the start

module _ (es : List TableEntry) (name : List ℕ) (place : ℕ) (e : TableEntry) (within : place < length es) (is : e ≡ get_or es place e) where
  abbrev c : PlainCatalogue
  c = map plain_entry es

  here : (o : Ordering) → order (plain_entry e).name name ≡ o → order (get_or c place (plain_entry e)).name name ≡ o
  here o compared = ap (λ (x : PlainEntry). order x.name name) (map_at plain_entry es place e ∙ ap plain_entry (sym is)) ∙ compared

  listed : place < length c
  listed = let same = length-map es plain_entry in omega (arith, within, same)

  pub passed_here : ascends (names_of c) ≡ true → order (plain_entry e).name name ≡ Less → seat_of name (place + 1) (drop (place + 1) c) ≡ seat_of name 0 c
  passed_here rises compared =
      (λ i. seat_of name ((let same : place + 1 ≡ suc (0 + place) = omega arith in same) i) (drop ((let same : place + 1 ≡ suc place = omega arith in same) i) c))
      ∙ passed c name 0 place (plain_entry e) rises listed (here Less compared)

  pub found_here : ascends (names_of c) ≡ true → order (plain_entry e).name name ≡ Equal → Ok place ≡ seat_of name 0 c
  found_here rises compared = ap (λ (n : ℕ). Ok n) (let same : place ≡ 0 + place = omega arith in same) ∙ sym (found c name 0 place (plain_entry e) rises listed (here Equal compared))

  pub stopped_here : order (plain_entry e).name name ≡ Greater → seat_of name place (drop place c) ≡ Err place
  stopped_here compared = stopped c name place place (plain_entry e) listed (here Greater compared)

-- ---- the place of an entry, by its seat

abbrev pub taken : Result ℕ ℕ → Option ℕ
taken r = elim r [ Ok place ↦ Some place | Err place ↦ None ]

-- behind a greater name, a name does not occur
none_placed : (c : PlainCatalogue) (low name : List ℕ) (at : ℕ) → comes_before low (names_of c) ≡ true → ascends (names_of c) ≡ true → order name low ≡ Less → place_of name at c ≡ None
none_placed [] low name at first rises lt = refl
none_placed (x ∷ xs) low name at first rises lt =
    let parts = and_parts (comes_before x.name (names_of xs)) (ascends (names_of xs)) rises in
    let below = nat_list_cmp_total.trans name low x.name lt (less_is (order low x.name) first) in
    cond-false (bytes_eq x.name name) (Some at) (place_of name (suc at) xs) (other_name x.name name Greater (turned name x.name Less below) refl)
    ∙ none_placed xs x.name name (suc at) parts.0 parts.1 below

pub place_is : (c : PlainCatalogue) (name : List ℕ) (at : ℕ) → ascends (names_of c) ≡ true → place_of name at c ≡ taken (seat_of name at c)
place_is [] name at rises = refl
place_is (x ∷ xs) name at rises =
    let parts = and_parts (comes_before x.name (names_of xs)) (ascends (names_of xs)) rises in
    by_order (order x.name name)
    (λ is.
    cond-false (bytes_eq x.name name) (Some at) (place_of name (suc at) xs) (other_name x.name name Less is refl)
    ∙ place_is xs name (suc at) parts.1
    ∙ sym (ap (λ o. taken (match_ordering o (seat_of name (suc at) xs) (Ok at) (Err at))) is))
    (λ is.
    cond-true (bytes_eq x.name name) (Some at) (place_of name (suc at) xs) (same_name x.name name is)
    ∙ sym (ap (λ o. taken (match_ordering o (seat_of name (suc at) xs) (Ok at) (Err at))) is))
    (λ is.
    cond-false (bytes_eq x.name name) (Some at) (place_of name (suc at) xs) (other_name x.name name Greater is refl)
    ∙ none_placed xs x.name name (suc at) parts.0 parts.1 (turned x.name name Greater is)
    ∙ sym (ap (λ o. taken (match_ordering o (seat_of name (suc at) xs) (Ok at) (Err at))) is))
