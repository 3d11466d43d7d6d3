-- The first of the rows whose bits are set, gathered row by row or run by run.
use Rattle.std.proofs.Common.{◌≡◌, ℕ, inl, inr, zero, suc, ◌+◌, ◌-◌, ◌≤◌, ◌<◌, Bool, true, false, List, [], ◌∷◌, ◌++◌, length, take, drop, get_or, refl, sym, ap, ◌∙◌, arith, append_assoc, length-append}
use Rattle.std.specs.Prelude.{if◌then◌else◌}
use Rattle.std.proofs.Math.Seq.{take-nil}
use Rattle.std.proofs.lemmas.Bool.{cases_lt}
use Rattle.std.proofs.lemmas.List.{take_more, take_all, append-nil, length-take-le, length-drop, get_or-drop}
use Rattle.bitmap.specs.Bits.{bit}
use Rattle.cells.specs.Cell.{Cell}
use Rattle.query.specs.Choice.{rows_set}

-- what is kept of the first i rows, after others
abbrev pub kept_front : (most : ℕ) → (others : List (List Cell)) → (mask : List ℕ) → (start : ℕ) → (xs : List (List Cell)) → (i : ℕ) → List (List Cell)
kept_front most others mask start xs i = take most (others ++ rows_set mask start (take i xs))

-- one more at the end
take-room : {X : Type 0} (most : ℕ) (xs : List X) (x : X) → length (take most xs) < most → take most (xs ++ x ∷ []) ≡ take most xs ++ x ∷ []
take-room {X = X} zero xs x h = absurd (omega (arith, h))
take-room {X = X} (suc most) [] x h = ap (λ (ys : List X). x ∷ ys) (take-nil most)
take-room {X = X} (suc most) (y ∷ xs) x h = ap (λ (ys : List X). y ∷ ys) (take-room most xs x (omega (arith, h)))

take-full : {X : Type 0} (most : ℕ) (xs ys : List X) → most ≤ length (take most xs) → take most (xs ++ ys) ≡ take most xs
take-full {X = X} zero xs ys h = refl
take-full {X = X} (suc most) [] ys h = absurd (omega (arith, h))
take-full {X = X} (suc most) (y ∷ xs) ys h = ap (λ (zs : List X). y ∷ zs) (take-full most xs ys (omega (arith, h)))

-- the rows of two lists
pub set_append : (mask : List ℕ) (from : ℕ) (xs ys : List (List Cell)) → rows_set mask from (xs ++ ys) ≡ rows_set mask from xs ++ rows_set mask (from + length xs) ys
set_append mask from [] ys = let e : from ≡ from + 0 = omega arith in ap (λ n. rows_set mask n ys) e
set_append mask from (x ∷ xs) ys =
    let e : from + 1 + length xs ≡ from + suc (length xs) = omega arith in
    by (bit mask from) (set_append mask (from + 1) xs ys ∙ ap (λ n. rows_set mask (from + 1) xs ++ rows_set mask n ys) e)
  where
    by : (b : Bool) → rows_set mask (from + 1) (xs ++ ys) ≡ rows_set mask (from + 1) xs ++ rows_set mask (from + suc (length xs)) ys
        → (if b then x ∷ rows_set mask (from + 1) (xs ++ ys) else rows_set mask (from + 1) (xs ++ ys))
        ≡ (if b then x ∷ rows_set mask (from + 1) xs else rows_set mask (from + 1) xs) ++ rows_set mask (from + suc (length xs)) ys
    by true h = ap (λ (zs : List (List Cell)). x ∷ zs) h
    by false h = h

-- those of one more row
one_more : (mask : List ℕ) (start : ℕ) (xs : List (List Cell)) (i : ℕ) → i < length xs
    → rows_set mask start (take (i + 1) xs) ≡ rows_set mask start (take i xs) ++ rows_set mask (start + i) (get_or xs i [] ∷ [])
one_more mask start xs i h =
    let long : length (take i xs) ≡ i = length-take-le i xs (omega (arith, h)) in
    ap (rows_set mask start) (take_more xs i [] h) ∙ set_append mask start (take i xs) (get_or xs i [] ∷ [])
    ∙ ap (λ n. rows_set mask start (take i xs) ++ rows_set mask (start + n) (get_or xs i [] ∷ [])) long

-- what is kept with one more row, whose bit is this
with_bit : (most : ℕ) (others : List (List Cell)) (mask : List ℕ) (start : ℕ) (xs : List (List Cell)) (i : ℕ) (b : Bool) → i < length xs → bit mask (start + i) ≡ b
    → kept_front most others mask start xs (i + 1) ≡ take most ((others ++ rows_set mask start (take i xs)) ++ (if b then get_or xs i [] ∷ [] else []))
with_bit most others mask start xs i b h is =
    ap (λ (ys : List (List Cell)). take most (others ++ ys)) (one_more mask start xs i h)
    ∙ ap (λ (set : Bool). take most (others ++ (rows_set mask start (take i xs) ++ (if set then get_or xs i [] ∷ [] else [])))) is
    ∙ ap (take most) (sym (append_assoc others (rows_set mask start (take i xs)) (if b then get_or xs i [] ∷ [] else [])))

pub kept_one : (most : ℕ) (others : List (List Cell)) (mask : List ℕ) (start : ℕ) (xs : List (List Cell)) (i : ℕ) → i < length xs → bit mask (start + i) ≡ true
    → length (kept_front most others mask start xs i) < most → kept_front most others mask start xs (i + 1) ≡ kept_front most others mask start xs i ++ get_or xs i [] ∷ []
kept_one most others mask start xs i h set room = with_bit most others mask start xs i true h set ∙ take-room most (others ++ rows_set mask start (take i xs)) (get_or xs i []) room

kept_not : (most : ℕ) (others : List (List Cell)) (mask : List ℕ) (start : ℕ) (xs : List (List Cell)) (i : ℕ) → i < length xs → bit mask (start + i) ≡ false
    → kept_front most others mask start xs (i + 1) ≡ kept_front most others mask start xs i
kept_not most others mask start xs i h unset = with_bit most others mask start xs i false h unset ∙ ap (take most) (append-nil (others ++ rows_set mask start (take i xs)))

kept_full : (most : ℕ) (others : List (List Cell)) (mask : List ℕ) (start : ℕ) (xs : List (List Cell)) (i : ℕ) → i < length xs → most ≤ length (kept_front most others mask start xs i)
    → kept_front most others mask start xs (i + 1) ≡ kept_front most others mask start xs i
kept_full most others mask start xs i h full =
    with_bit most others mask start xs i (bit mask (start + i)) h refl
    ∙ take-full most (others ++ rows_set mask start (take i xs)) (if bit mask (start + i) then get_or xs i [] ∷ [] else []) full

-- rows that are passed over
kept_over : (most : ℕ) (others : List (List Cell)) (mask : List ℕ) (start : ℕ) (xs : List (List Cell)) (from n : ℕ) → from + n ≤ length xs
    → ((i : ℕ) → from ≤ i → i < from + n → bit mask (start + i) ≡ false) → kept_front most others mask start xs (from + n) ≡ kept_front most others mask start xs from
kept_over most others mask start xs from zero within unset = let e : from + 0 ≡ from = omega arith in ap (kept_front most others mask start xs) e
kept_over most others mask start xs from (suc n) within unset =
    let e : from + suc n ≡ from + n + 1 = omega arith in
    ap (kept_front most others mask start xs) e
    ∙ kept_not most others mask start xs (from + n) (omega arith) (unset (from + n) (omega arith) (omega arith))
    ∙ kept_over most others mask start xs from n (omega arith) (λ i above below. unset i above (omega (arith, below)))

-- where there is room for no more
full_over : (most : ℕ) (others : List (List Cell)) (mask : List ℕ) (start : ℕ) (xs : List (List Cell)) (from n : ℕ) → from + n ≤ length xs → most ≤ length (kept_front most others mask start xs from)
    → kept_front most others mask start xs (from + n) ≡ kept_front most others mask start xs from
full_over most others mask start xs from zero within full = let e : from + 0 ≡ from = omega arith in ap (kept_front most others mask start xs) e
full_over most others mask start xs from (suc n) within full =
    let e : from + suc n ≡ from + n + 1 = omega arith in
    let before = full_over most others mask start xs from n (omega arith) full in
    ap (kept_front most others mask start xs) e
    ∙ kept_full most others mask start xs (from + n) (omega arith) (omega (arith, full, ap (λ (rs : List (List Cell)). length rs) before)) ∙ before

-- no row yet
pub front_start : (most : ℕ) (others : List (List Cell)) (mask : List ℕ) (start : ℕ) (xs : List (List Cell)) → take most others ≡ kept_front most others mask start xs 0
front_start most others mask start xs = ap (take most) (sym (append-nil others))

-- up to the next row whose bit is set
pub front_next : (most : ℕ) (others : List (List Cell)) (mask : List ℕ) (start : ℕ) (xs : List (List Cell)) (from to : ℕ) → from ≤ to → to ≤ length xs
    → ((i : ℕ) → from ≤ i → i < to → bit mask (start + i) ≡ false) → kept_front most others mask start xs from ≡ kept_front most others mask start xs to
front_next most others mask start xs from to order within unset =
    let e : from + (to - from) ≡ to = omega arith in
    let over = kept_over most others mask start xs from (to - from) (omega arith) (λ i above below. unset i above (omega (arith, below, e))) in
    sym over ∙ ap (kept_front most others mask start xs) e

-- a run of rows whose bits are set
pub front_run : (most : ℕ) (others : List (List Cell)) (mask : List ℕ) (start : ℕ) (xs : List (List Cell)) (i n : ℕ) → i + n ≤ length xs
    → ((j : ℕ) → i ≤ j → j < i + n → bit mask (start + j) ≡ true) → length (kept_front most others mask start xs i) + n ≤ most
    → kept_front most others mask start xs (i + n) ≡ kept_front most others mask start xs i ++ take n (drop i xs)
front_run most others mask start xs i zero within set room =
    let e : i + 0 ≡ i = omega arith in
    ap (kept_front most others mask start xs) e ∙ sym (append-nil (kept_front most others mask start xs i))
front_run most others mask start xs i (suc n) within set room =
    let e : i + suc n ≡ i + n + 1 = omega arith in
    let g : n + 1 ≡ suc n = omega arith in
    let c : n + i ≡ i + n = omega arith in
    let behind : length (drop i xs) ≡ length xs - i = length-drop i xs in
    let before = front_run most others mask start xs i n (omega (arith, within)) (λ j above below. set j above (omega (arith, below))) (omega (arith, room)) in
    let own : length (take n (drop i xs)) ≡ n = length-take-le n (drop i xs) (omega (arith, within, behind)) in
    let size : length (kept_front most others mask start xs (i + n)) ≡ length (kept_front most others mask start xs i) + n =
    ap length before ∙ length-append (kept_front most others mask start xs i) (take n (drop i xs)) ∙ ap (λ k. length (kept_front most others mask start xs i) + k) own in
    let more : take (n + 1) (drop i xs) ≡ take n (drop i xs) ++ get_or xs (i + n) [] ∷ [] =
    take_more (drop i xs) n [] (omega (arith, within, behind)) ∙ ap (λ (x : List Cell). take n (drop i xs) ++ x ∷ []) (get_or-drop i xs n []) in
    ap (kept_front most others mask start xs) e
    ∙ kept_one most others mask start xs (i + n) (omega (arith, within)) (set (i + n) (omega arith) (omega arith)) (omega (arith, size, room))
    ∙ ap (λ (ys : List (List Cell)). ys ++ get_or xs (i + n) [] ∷ []) before
    ∙ append_assoc (kept_front most others mask start xs i) (take n (drop i xs)) (get_or xs (i + n) [] ∷ [])
    ∙ ap (λ (ys : List (List Cell)). kept_front most others mask start xs i ++ ys) (sym more)
    ∙ ap (λ k. kept_front most others mask start xs i ++ take k (drop i xs)) g

-- where no row is left, or there is room for no more
pub front_done : (most : ℕ) (others : List (List Cell)) (mask : List ℕ) (start : ℕ) (xs : List (List Cell)) (i : ℕ) → i ≤ length xs
    → (i < length xs → most ≤ length (kept_front most others mask start xs i)) → kept_front most others mask start xs i ≡ take most (others ++ rows_set mask start xs)
front_done most others mask start xs i within full =
    sym all ∙ ap (λ (ys : List (List Cell)). take most (others ++ rows_set mask start ys)) (take_all (length xs) xs (omega arith))
  where
    all : kept_front most others mask start xs (length xs) ≡ kept_front most others mask start xs i
    all = elim (cases_lt i (length xs)) [
      | inl lt ↦
          (let whole : i + (length xs - i) ≡ length xs = omega arith in
          ap (kept_front most others mask start xs) (sym whole) ∙ full_over most others mask start xs i (length xs - i) (omega arith) (full lt))
      | inr le ↦ (let whole : length xs ≡ i = omega arith in ap (kept_front most others mask start xs) whole)
    ]
