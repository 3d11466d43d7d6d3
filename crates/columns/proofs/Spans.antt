-- Bytes and items one after another: where those of one element stand among those of all.
use Rattle.std.proofs.Common.{◌≡◌, ℕ, zero, suc, ◌+◌, ◌*◌, ◌^◌, ◌<◌, ◌≤◌, List, [], ◌∷◌, ◌++◌, map, length, get_or, take, drop, refl, arith, ap, sym, ◌∙◌, length-append}
use Rattle.std.specs.List.{flat_map}
use Rattle.std.proofs.lemmas.List.{length-map}
use Rattle.std.proofs.lemmas.List.Concat.{flat_map-cons}
use Rattle.std.proofs.Math.Seq.{drop-append-add, take-append_seam, drop-cons}
use Rattle.byteorder.specs.Endian.{little_number, little_bytes}
use Rattle.byteorder.specs.Numbers.{little_number-reads_back, length-bytes_low_first}
use Rattle.cells.specs.Cell.{Cell, null}
use Rattle.columns.specs.Built.{sums_from, offsets_of}
use Rattle.columns.specs.CellAt.{cells_from, number_at}

-- ---- elements that are all of one width

abbrev pub HaveWidth : {X A : Type 0} → (X → List A) → ℕ → List X → Type 0
HaveWidth f w [] = Unit {0}
HaveWidth f w (x ∷ xs) = (length (f x) ≡ w) × HaveWidth f w xs

pub have_width : {X A : Type 0} (f : X → List A) (w : ℕ) → ((x : X) → length (f x) ≡ w) → (xs : List X) → HaveWidth f w xs
have_width f w h [] = tt
have_width f w h (x ∷ xs) = (h x, have_width f w h xs)

pub all_width : {X A : Type 0} (f : X → List A) (w : ℕ) (xs : List X) → HaveWidth f w xs → length (flat_map f xs) ≡ length xs * w
all_width f w [] h = let e : length (flat_map f []) ≡ 0 = refl in omega (arith, e)
all_width f w (x ∷ xs) h =
    let rest = all_width f w xs h.1 in
    let whole = ap length (flat_map-cons f x xs) ∙ length-append (f x) (flat_map f xs) in
    omega (arith, rest, whole, h.0)

-- behind those before it stands the one at a place, and then others
pub at_width : {X A : Type 0} (f : X → List A) (w : ℕ) (xs : List X) (k : ℕ) (d : X) → HaveWidth f w xs → k < length xs
    → (rest : List A) × (drop (k * w) (flat_map f xs) ≡ f (get_or xs k d) ++ rest)
at_width f w [] k d h lt = absurd (omega arith)
at_width f w (x ∷ xs) zero d h lt = let e : 0 * w ≡ 0 = omega arith in (flat_map f xs, ap (λ (n : ℕ). drop n (flat_map f (x ∷ xs))) e ∙ flat_map-cons f x xs)
at_width f w (x ∷ xs) (suc k) d h lt =
    let r = at_width f w xs k d h.1 (omega arith) in
    let e : suc k * w ≡ length (f x) + k * w = omega (arith, h.0) in
    (r.0, ap (λ (n : ℕ). drop n (flat_map f (x ∷ xs))) e ∙ ap (drop (length (f x) + k * w)) (flat_map-cons f x xs) ∙ drop-append-add (f x) (flat_map f xs) (k * w) ∙ r.1)

pub taken : {X A : Type 0} (f : X → List A) (w : ℕ) (xs : List X) (k : ℕ) (d : X) → HaveWidth f w xs → length (f (get_or xs k d)) ≡ w → k < length xs
    → take w (drop (k * w) (flat_map f xs)) ≡ f (get_or xs k d)
taken f w xs k d h is lt =
    let r = at_width f w xs k d h lt in
    ap (take w) r.1 ∙ ap (λ (n : ℕ). take n (f (get_or xs k d) ++ r.0)) (sym is) ∙ take-append_seam (f (get_or xs k d)) r.0

-- numbers of one width
pub number_there : (w : ℕ) (ns : List ℕ) (k : ℕ) → k < length ns → get_or ns k 0 < 256 ^ w → number_at w (flat_map (little_bytes w) ns) k ≡ get_or ns k 0
number_there w ns k lt small =
    let r = at_width (little_bytes w) w ns k 0 (have_width (little_bytes w) w (length-bytes_low_first 0 w) ns) lt in
    ap (little_number w) r.1 ∙ little_number-reads_back w (get_or ns k 0) r.0 small

-- ---- elements of any size, and the offsets that say where each begins

-- how many stand before the one at a place
abbrev pub before : {X A : Type 0} → (X → List A) → List X → ℕ → ℕ
before f xs k = length (flat_map f (take k xs))

sum_at : {X A : Type 0} (f : X → List A) (sum : ℕ) (xs : List X) (k : ℕ) → k ≤ length xs → get_or (sums_from sum (map (λ x. length (f x)) xs)) k 0 ≡ sum + before f xs k
sum_at f sum [] zero le = omega arith
sum_at f sum [] (suc k) le = absurd (omega arith)
sum_at f sum (x ∷ xs) zero le = omega arith
sum_at f sum (x ∷ xs) (suc k) le =
    let rest = sum_at f (sum + length (f x)) xs k (omega arith) in
    let whole = ap length (flat_map-cons f x (take k xs)) ∙ length-append (f x) (flat_map f (take k xs)) in
    rest ∙ (let e : sum + length (f x) + before f xs k ≡ sum + before f (x ∷ xs) (suc k) = omega (arith, whole) in e)

pub count_sums : (sum : ℕ) (ns : List ℕ) → length (sums_from sum ns) ≡ length ns + 1
count_sums sum [] = refl
count_sums sum (n ∷ ns) = let rest = count_sums (sum + n) ns in omega (arith, rest)

pub next_before : {X A : Type 0} (f : X → List A) (xs : List X) (k : ℕ) (d : X) → k < length xs → before f xs (k + 1) ≡ before f xs k + length (f (get_or xs k d))
next_before f [] k d lt = absurd (omega arith)
next_before f (x ∷ xs) zero d lt =
    let whole : length (flat_map f (x ∷ [])) ≡ length (f x) + length (flat_map f []) = ap length (flat_map-cons f x []) ∙ length-append (f x) (flat_map f []) in
    omega (arith, whole)
next_before f (x ∷ xs) (suc k) d lt =
    let e : suc k + 1 ≡ suc (k + 1) = omega arith in
    let rest = next_before f xs k d (omega arith) in
    let one = ap length (flat_map-cons f x (take (k + 1) xs)) ∙ length-append (f x) (flat_map f (take (k + 1) xs)) in
    let two = ap length (flat_map-cons f x (take k xs)) ∙ length-append (f x) (flat_map f (take k xs)) in
    rw e (omega (arith, rest, one, two))

pub before_all : {X A : Type 0} (f : X → List A) (xs : List X) (k : ℕ) → k ≤ length xs → before f xs k ≤ length (flat_map f xs)
before_all f xs zero le = omega arith
before_all f [] (suc k) le = absurd (omega arith)
before_all f (x ∷ xs) (suc k) le =
    let rest = before_all f xs k (omega arith) in
    let one = ap length (flat_map-cons f x (take k xs)) ∙ length-append (f x) (flat_map f (take k xs)) in
    let two = ap length (flat_map-cons f x xs) ∙ length-append (f x) (flat_map f xs) in
    omega (arith, rest, one, two)

pub offset_at : {X A : Type 0} (f : X → List A) (w : ℕ) (xs : List X) (k : ℕ) → k ≤ length xs → length (flat_map f xs) < 256 ^ w
    → number_at w (offsets_of w (map (λ x. length (f x)) xs)) k ≡ before f xs k
offset_at f w xs k le small =
    let ns : List ℕ = sums_from 0 (map (λ x. length (f x)) xs) in
    let sum : get_or ns k 0 ≡ before f xs k = sum_at f 0 xs k le ∙ (let z : 0 + before f xs k ≡ before f xs k = omega arith in z) in
    let count : length ns ≡ length xs + 1 = count_sums 0 (map (λ x. length (f x)) xs) ∙ ap (λ (n : ℕ). n + 1) (length-map xs (λ x. length (f x))) in
    let low = before_all f xs k le in
    number_there w ns k (omega (arith, count)) (omega (arith, sum, low)) ∙ sum

pub slice_there : {X A : Type 0} (f : X → List A) (xs : List X) (k : ℕ) (d : X) → k < length xs → take (length (f (get_or xs k d))) (drop (before f xs k) (flat_map f xs)) ≡ f (get_or xs k d)
slice_there f [] k d lt = absurd (omega arith)
slice_there f (x ∷ xs) zero d lt = ap (take (length (f x))) (flat_map-cons f x xs) ∙ take-append_seam (f x) (flat_map f xs)
slice_there f (x ∷ xs) (suc k) d lt =
    let whole = ap length (flat_map-cons f x (take k xs)) ∙ length-append (f x) (flat_map f (take k xs)) in
    let moved : drop (before f (x ∷ xs) (suc k)) (flat_map f (x ∷ xs)) ≡ drop (before f xs k) (flat_map f xs) =
    ap (λ (n : ℕ). drop n (flat_map f (x ∷ xs))) whole ∙ ap (drop (length (f x) + before f xs k)) (flat_map-cons f x xs) ∙ drop-append-add (f x) (flat_map f xs) (before f xs k) in
    ap (take (length (f (get_or xs k d)))) moved ∙ slice_there f xs k d (omega arith)

-- ---- a run of cells that are found one by one

pub run_is : (g : ℕ → Cell) (xs : List Cell) (start n : ℕ) → ((j : ℕ) → j < length xs → g j ≡ get_or xs j null) → start + n ≤ length xs → cells_from g start n ≡ take n (drop start xs)
run_is g xs start zero h le = refl
run_is g xs start (suc n) h le =
    let here : drop start xs ≡ get_or xs start null ∷ drop (suc start) xs = drop-cons xs start null (omega arith) in
    let next : start + 1 ≡ suc start = omega arith in
    let rest : cells_from g (suc start) n ≡ take n (drop (suc start) xs) = run_is g xs (suc start) n h (omega arith) in
    let first : g start ≡ get_or xs start null = h start (omega arith) in
    rw (next, here, first, rest) refl

pub run_all : (g : ℕ → Cell) (xs : List Cell) → ((j : ℕ) → j < length xs → g j ≡ get_or xs j null) → cells_from g 0 (length xs) ≡ xs
run_all g xs h = run_is g xs 0 (length xs) h (omega arith) ∙ whole xs
  where
    whole : (ys : List Cell) → take (length ys) ys ≡ ys
    whole [] = refl
    whole (y ∷ ys) = ap (λ (zs : List Cell). y ∷ zs) (whole ys)
