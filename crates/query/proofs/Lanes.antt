-- Lanes of numbers, and the bits of their answers.
use Rattle.std.proofs.Common.{◌≡◌, ℕ, zero, suc, ◌+◌, ◌-◌, ◌*◌, ◌/◌, ◌%◌, ◌^◌, ◌<◌, ◌≤◌, Bool, true, false, cond, List, [], ◌∷◌, ◌==◌, length, get_or, map, take, drop, refl, sym, ap, ◌∙◌, arith, w8, Fits}
use Rattle.std.specs.Prelude.{nat_lt, replicate}
use Rattle.std.specs.List.{range_with_len}
use Rattle.std.specs.Simd.Lanes.{zip2, chunk, top, sel_l, mask_l, number_l, digits_l}
use Rattle.std.proofs.lemmas.Simd.{map-map, tops_compared, zip2_splat, bitmask_splat, get_or_wider, length-chunk, get_or-chunk, chunk-fits, below_from_Fits}
use Rattle.std.proofs.lemmas.List.{drop_more, drop-drop, drop-take, take-take, length-map, length-drop, get_or-drop, ext_get_or}
use Rattle.std.proofs.lemmas.List.FromFn.{get_or-map-range_with_len, length-map-range_with_len}
use Rattle.facts.specs.laws.Lists.{maps_same}
use Rattle.byteorder.specs.Endian.{little_from}
use Rattle.query.specs.declared.order_answers.OrderAnswers.{OrderAnswers}
use Rattle.columns.specs.CellAt.{number_at}
use Rattle.query.specs.inner.OrderAnswers.{answer, moved, answer_at}
use mir.Syntax.{Width}
use mir.Val.{bits, hbits, bool_byte}

-- ---- numbers of bytes

-- a number of bytes, read as lanes are and as slots are
pub little_is : (n i : ℕ) (xs : List ℕ) → i + n ≤ length xs → number_l 256 (take n (drop i xs)) ≡ little_from i n xs
little_is zero i xs room = refl
little_is (suc n) i xs room =
    ap (λ (ys : List ℕ). number_l 256 (take (suc n) ys)) (drop_more xs i 0 (omega (arith, room)))
    ∙ ap (λ m. get_or xs i 0 + 256 * m) (little_is n (i + 1) xs (omega (arith, room)) ∙ ap (λ j. little_from j n xs) one)
  where
    one : i + 1 ≡ suc i
    one = omega arith

length-digits : (p n x : ℕ) → length (digits_l p n x) ≡ n
length-digits p zero x = refl
length-digits p (suc n) x = ap suc (length-digits p n (x / p))

-- lane j of numbers of k bytes each
lane_is : (k first j : ℕ) (values : List ℕ) → k * j + k ≤ 64 → k * first + 64 ≤ length values
    → number_l 256 (chunk (k * j) k (chunk (k * first) 64 values)) ≡ number_at k values (first + j)
lane_is k first j values within room =
    let rest = 64 - k * j in
    let whole : 64 ≡ k * j + rest = omega (arith, within) in
    let place : k * first + k * j ≡ (first + j) * k = omega arith in
    let here : chunk (k * j) k (chunk (k * first) 64 values) ≡ take k (drop ((first + j) * k) values) =
    ap (λ m. take k (drop (k * j) (take m (drop (k * first) values)))) whole
    ∙ ap (take k) (drop-take (k * j) rest (drop (k * first) values))
    ∙ take-take k rest (drop (k * j) (drop (k * first) values)) (omega (arith, within))
    ∙ ap (take k) (drop-drop (k * j) (k * first) values)
    ∙ ap (λ m. take k (drop m values)) place in
    let long : k ≤ length (drop ((first + j) * k) values) = omega (arith, length-drop ((first + j) * k) values, within, room, place) in
    ap (number_l 256) here ∙ little_is k 0 (drop ((first + j) * k) values) (omega (arith, long))

-- the numbers from a slot on, in the lanes that 64 bytes are
pub lanes_are : (k n p first : ℕ) (values : List ℕ) → p ≡ 256 ^ k → ((j : ℕ) → j < n → k * j + k ≤ 64) → k * first + 64 ≤ length values → ((i : ℕ) → Fits w8 (get_or values i 0))
    → digits_l p n (number_l 256 (chunk (k * first) 64 values)) ≡ map (number_at k values) (range_with_len first n)
lanes_are k n p first values power within room fit =
    let loaded = chunk (k * first) 64 values in
    let f = number_at k values in
    let bytes = below_from_Fits w8 loaded (chunk-fits w8 (k * first) 64 values fit) in
    let count : length (digits_l p n (number_l 256 loaded)) ≡ n = length-digits p n (number_l 256 loaded) in
    ext_get_or 0 (digits_l p n (number_l 256 loaded)) (map f (range_with_len first n)) (count ∙ sym (length-map-range_with_len f first n))
    (λ j h. let lt : j < n = omega (arith, h, count) in
    get_or_wider 256 k p n loaded j power bytes lt
    ∙ lane_is k first j values (within j lt) room
    ∙ sym (get_or-map-range_with_len f first n j (first + j) 0 lt refl))

-- ---- answers

chosen : {X : Type 0} (p q : X → Bool) (xs : List X) (n b e a : ℕ) → length xs ≡ n
    → sel_l (map p xs) (replicate n b) (sel_l (map q xs) (replicate n e) (replicate n a)) ≡ map (λ x. cond (p x) b (cond (q x) e a)) xs
chosen p q [] zero b e a size = refl
chosen p q [] (suc n) b e a size = absurd (omega (arith, size))
chosen p q (x ∷ xs) zero b e a size = absurd (omega (arith, size))
chosen p q (x ∷ xs) (suc n) b e a size = ap (λ (ys : List ℕ). cond (p x) b (cond (q x) e a) ∷ ys) (chosen p q xs n b e a (omega (arith, size)))

test_of : (below equal b e a : Bool) → (cond below (bool_byte b) (cond equal (bool_byte e) (bool_byte a)) == 1) ≡ cond below b (cond equal e a)
test_of true equal true e a = refl
test_of true equal false e a = refl
test_of false true b true a = refl
test_of false true b false a = refl
test_of false false b e true = refl
test_of false false b e false = refl

-- the bits of lanes, where each has the answer of its number
answers_of : (w : Width) (by_order : OrderAnswers) (numbers : List ℕ) (n b e a : ℕ) → b ≡ bool_byte by_order.below → e ≡ bool_byte by_order.equal → a ≡ bool_byte by_order.above → length numbers ≡ n → n ≤ 64
    → mask_l (map (top (hbits w)) (zip2 (λ x y. cond (x == y) (2 ^ bits w - 1) 0)
    (sel_l (map (top (hbits w)) (zip2 (λ x y. cond (nat_lt x y) (2 ^ bits w - 1) 0) numbers (replicate n by_order.key))) (replicate n b)
    (sel_l (map (top (hbits w)) (zip2 (λ x y. cond (x == y) (2 ^ bits w - 1) 0) numbers (replicate n by_order.key))) (replicate n e) (replicate n a)))
    (replicate n 1))) % 2 ^ 64 ≡ mask_l (map (answer by_order) numbers)
answers_of w by_order numbers n b e a b_is e_is a_is size few =
    let key = replicate n by_order.key in
    let below = map (top (hbits w)) (zip2 (λ x y. cond (nat_lt x y) (2 ^ bits w - 1) 0) numbers key) in
    let equal = map (top (hbits w)) (zip2 (λ x y. cond (x == y) (2 ^ bits w - 1) 0) numbers key) in
    let lt : below ≡ map (λ x. nat_lt x by_order.key) numbers = tops_compared w nat_lt numbers key ∙ zip2_splat nat_lt numbers n by_order.key size in
    let eq : equal ≡ map (λ x. x == by_order.key) numbers = tops_compared w (λ x y. x == y) numbers key ∙ zip2_splat (λ x y. x == y) numbers n by_order.key size in
    let lanes = sel_l below (replicate n b) (sel_l equal (replicate n e) (replicate n a)) in
    let f = λ (x : ℕ). cond (nat_lt x by_order.key) b (cond (x == by_order.key) e a) in
    let are : lanes ≡ map f numbers =
    ap (λ (ms : List Bool). sel_l ms (replicate n b) (sel_l equal (replicate n e) (replicate n a))) lt
    ∙ ap (λ (ms : List Bool). sel_l (map (λ x. nat_lt x by_order.key) numbers) (replicate n b) (sel_l ms (replicate n e) (replicate n a))) eq
    ∙ chosen (λ x. nat_lt x by_order.key) (λ x. x == by_order.key) numbers n b e a size in
    let count : length lanes ≡ n = ap length are ∙ length-map numbers f ∙ size in
    let tested : (x : ℕ) → (f x == 1) ≡ answer by_order x =
    λ x. ap (λ y. cond (nat_lt x by_order.key) y (cond (x == by_order.key) e a) == 1) b_is
    ∙ ap (λ y. cond (nat_lt x by_order.key) (bool_byte by_order.below) (cond (x == by_order.key) y a) == 1) e_is
    ∙ ap (λ y. cond (nat_lt x by_order.key) (bool_byte by_order.below) (cond (x == by_order.key) (bool_byte by_order.equal) y) == 1) a_is
    ∙ test_of (nat_lt x by_order.key) (x == by_order.key) by_order.below by_order.equal by_order.above in
    bitmask_splat w (λ x y. x == y) lanes n 1 count few
    ∙ ap (λ (xs : List ℕ). mask_l (map (λ x. x == 1) xs)) are
    ∙ ap mask_l (map-map (λ x. x == 1) f numbers)
    ∙ ap mask_l (maps_same (λ x. f x == 1) (answer by_order) tested numbers)

-- the same of numbers to each of which the bias is added, where they are those from a slot on
pub block_is : (w : Width) (k n first : ℕ) (by_order : OrderAnswers) (values lanes : List ℕ) (b e a : ℕ) → b ≡ bool_byte by_order.below → e ≡ bool_byte by_order.equal → a ≡ bool_byte by_order.above → n ≤ 64
    → lanes ≡ map (number_at k values) (range_with_len first n)
    → mask_l (map (top (hbits w)) (zip2 (λ x y. cond (x == y) (2 ^ bits w - 1) 0)
    (sel_l (map (top (hbits w)) (zip2 (λ x y. cond (nat_lt x y) (2 ^ bits w - 1) 0) (zip2 (λ x y. (x + y) % 256 ^ k) lanes (replicate n by_order.bias)) (replicate n by_order.key))) (replicate n b)
    (sel_l (map (top (hbits w)) (zip2 (λ x y. cond (x == y) (2 ^ bits w - 1) 0) (zip2 (λ x y. (x + y) % 256 ^ k) lanes (replicate n by_order.bias)) (replicate n by_order.key))) (replicate n e) (replicate n a)))
    (replicate n 1))) % 2 ^ 64 ≡ mask_l (map (answer_at by_order k values) (range_with_len first n))
block_is w k n first by_order values lanes b e a b_is e_is a_is few are =
    let numbers = zip2 (λ x y. (x + y) % 256 ^ k) lanes (replicate n by_order.bias) in
    let f = number_at k values in
    let size : length lanes ≡ n = ap length are ∙ length-map-range_with_len f first n in
    let moves : numbers ≡ map (moved by_order k) lanes = zip2_splat (λ x y. (x + y) % 256 ^ k) lanes n by_order.bias size in
    let count : length numbers ≡ n = ap length moves ∙ length-map lanes (moved by_order k) ∙ size in
    answers_of w by_order numbers n b e a b_is e_is a_is count few
    ∙ ap (λ (xs : List ℕ). mask_l (map (answer by_order) xs)) (moves ∙ ap (map (moved by_order k)) are)
    ∙ ap (λ (xs : List ℕ). mask_l (map (answer by_order) xs)) (map-map (moved by_order k) f (range_with_len first n))
    ∙ ap mask_l (map-map (answer by_order) (λ i. moved by_order k (f i)) (range_with_len first n))

-- numbers of one byte are the bytes
pub bytes_are : (n first : ℕ) (values : List ℕ) → first + n ≤ length values → chunk first n values ≡ map (number_at 1 values) (range_with_len first n)
bytes_are n first values room =
    let size : length (chunk first n values) ≡ n = length-chunk first n values room in
    ext_get_or 0 (chunk first n values) (map (number_at 1 values) (range_with_len first n)) (size ∙ sym (length-map-range_with_len (number_at 1 values) first n))
    (λ j h. let lt : j < n = omega (arith, h, size) in
    let place : (first + j) * 1 + 0 ≡ first + j = omega arith in
    let byte : number_at 1 values (first + j) ≡ get_or values (first + j) 0 =
    (let one : number_at 1 values (first + j) ≡ get_or (drop ((first + j) * 1) values) 0 0 = omega arith in
    one ∙ get_or-drop ((first + j) * 1) values 0 0 ∙ ap (λ i. get_or values i 0) place) in
    get_or-chunk first n values j 0 lt ∙ sym byte ∙ sym (get_or-map-range_with_len (number_at 1 values) first n j (first + j) 0 lt refl))
