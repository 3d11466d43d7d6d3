-- An order to a key is that of an integer to a literal.
use Rattle.std.proofs.Common.{◌≡◌, ◌≢◌, inl, inr, ℕ, zero, suc, ◌+◌, ◌-◌, ◌*◌, ◌/◌, ◌%◌, ◌^◌, ◌<◌, Bool, true, false, List, ◌==◌, get_or, map, drop, refl, sym, ap, ◌∙◌, arith}
use Rattle.std.specs.Prelude.{ℤ, pos, negsuc, nat_abs, T, ◌+ℤ◌, ◌-ℤ◌, ◌<ℤ◌, ◌≤ℤ◌, nat_lt, ◌&&◌, if◌then◌else◌}
use Rattle.std.specs.List.{range_with_len}
use Rattle.std.specs.declared.cmp.Ordering.{Ordering}
use Rattle.std.specs.declared.cmp.Ordering.TheVariants.{Less, Equal, Greater}
use Rattle.std.specs.Ordering.{int_cmp}
use Rattle.std.specs.Cmp.{int_cmp_is}
use Rattle.std.proofs.Math.Nat.{pow-suc}
use Rattle.std.proofs.lemmas.Bool.{lt-ltb, le-ltb, eq-eqb, ne_eqb, cases_lt}
use Rattle.std.proofs.lemmas.Int.{ints}
use Rattle.std.proofs.lemmas.List.{get_or-drop}
use Rattle.std.proofs.lemmas.Nat.{mod-mul-add, mod_below}
use Rattle.facts.specs.laws.Lists.{maps_same}
use Rattle.byteorder.specs.Endian.{little_from, twos_complement}
use Rattle.arrow_schema.specs.View.{bits_of}
use Rattle.arrow_schema.specs.declared.types.BitWidth.{BitWidth}
use Rattle.arrow_schema.specs.declared.types.BitWidth.TheVariants.{Eight, Sixteen, ThirtyTwo, SixtyFour}
use Rattle.arrow_schema.specs.declared.types.IntegerType.{IntegerType}
use Rattle.cells.specs.Integers.{integer_of}
use Rattle.columns.specs.CellAt.{number_at}
use Rattle.query.specs.declared.order_answers.OrderAnswers.{OrderAnswers}
use Rattle.query.specs.declared.operator.Operator.{Operator}
use Rattle.query.specs.declared.integer_slots.IntegerComparison.{IntegerComparison}
use Rattle.query.specs.Bound.{accepts}
use Rattle.query.specs.inner.Slots.{width_of, is_valid_in, integer_holds_in}
use lib.Signed.{non_neg}
use Rattle.query.specs.inner.OrderAnswers.{bias_in, moved, answer_at, AreOrderAnswers}

-- ---- numbers that are not negative

pub not_negative : (z : ℤ) → pos 0 ≤ℤ z → T (non_neg z)
not_negative (pos n) h = tt
not_negative (negsuc n) h = absurd (omega (arith, ints, h))

pub absolute : (z : ℤ) → pos 0 ≤ℤ z → pos (nat_abs z) ≡ z
absolute (pos n) h = refl
absolute (negsuc n) h = absurd (omega (arith, ints, h))

pub absolute_below : (z : ℤ) (m : ℕ) → pos 0 ≤ℤ z → z <ℤ pos m → nat_abs z < m
absolute_below (pos n) m h below = omega (arith, ints, below)
absolute_below (negsuc n) m h below = absurd (omega (arith, ints, h))

-- ---- numbers of a width

pub folded_is : (w : BitWidth) (h n : ℕ) → h ≡ 2 ^ (bits_of w - 1) → (if nat_lt n h then pos n else pos n -ℤ pos (2 * h)) ≡ twos_complement (bits_of w / 8) n
folded_is Eight h n e = ap (λ x. if nat_lt n x then pos n else pos n -ℤ pos (2 * x)) e
folded_is Sixteen h n e = ap (λ x. if nat_lt n x then pos n else pos n -ℤ pos (2 * x)) e
folded_is ThirtyTwo h n e = ap (λ x. if nat_lt n x then pos n else pos n -ℤ pos (2 * x)) e
folded_is SixtyFour h n e = ap (λ x. if nat_lt n x then pos n else pos n -ℤ pos (2 * x)) e

-- ---- numbers with a bias

signed_is : (k h n : ℕ) → 2 ^ (8 * k - 1) ≡ h → 2 ^ (8 * k) ≡ 2 * h → n < 2 * h → twos_complement k n ≡ pos ((n + h) % (2 * h)) -ℤ pos h
signed_is k h n half whole below =
    elim (cases_lt n h) [
      | inl lt ↦
          (let sum : n + h ≡ 0 * (2 * h) + (n + h) = omega arith in
          let m : (n + h) % (2 * h) ≡ n + h = ap (λ x. x % (2 * h)) sum ∙ mod-mul-add 0 (2 * h) (n + h) (omega (arith, lt)) in
          let plain : twos_complement k n ≡ pos n =
          ap (λ x. if nat_lt n x then pos n else pos n -ℤ pos (2 ^ (8 * k))) half ∙ ap (λ (b : Bool). if b then pos n else pos n -ℤ pos (2 ^ (8 * k))) (lt-ltb n h lt) in
          let same : pos n ≡ pos (n + h) -ℤ pos h = omega (arith, ints) in
          plain ∙ same ∙ ap (λ x. pos x -ℤ pos h) (sym m))
      | inr le ↦
          (let sum : n + h ≡ 1 * (2 * h) + (n - h) = omega (arith, le) in
          let m : (n + h) % (2 * h) ≡ n - h = ap (λ x. x % (2 * h)) sum ∙ mod-mul-add 1 (2 * h) (n - h) (omega (arith, le, below)) in
          let wrapped : twos_complement k n ≡ pos n -ℤ pos (2 * h) =
          ap (λ x. if nat_lt n x then pos n else pos n -ℤ pos (2 ^ (8 * k))) half ∙ ap (λ (b : Bool). if b then pos n else pos n -ℤ pos (2 ^ (8 * k))) (le-ltb n h le)
          ∙ ap (λ x. pos n -ℤ pos x) whole in
          let same : pos n -ℤ pos (2 * h) ≡ pos (n - h) -ℤ pos h = omega (arith, ints, le) in
          wrapped ∙ same ∙ ap (λ x. pos x -ℤ pos h) (sym m))
    ]

unsigned_is : (p n : ℕ) → n < p → pos n ≡ pos ((n + 0) % p) -ℤ pos 0
unsigned_is p n below =
    let sum : n + 0 ≡ 0 * p + n = omega arith in
    let m : (n + 0) % p ≡ n = ap (λ x. x % p) sum ∙ mod-mul-add 0 p n below in
    let same : pos n ≡ pos n -ℤ pos 0 = omega (arith, ints) in
    same ∙ ap (λ x. pos x -ℤ pos 0) (sym m)

moved_is : (t : IntegerType) (n : ℕ) → n < 256 ^ width_of t → integer_of (width_of t) t.signed n ≡ pos ((n + bias_in t) % 256 ^ width_of t) -ℤ pos (bias_in t)
moved_is t n = by t.width t.signed
  where
    by : (w : BitWidth) (s : Bool) → n < 256 ^ (bits_of w / 8)
        → integer_of (bits_of w / 8) s n ≡ pos ((n + (if s then 2 ^ (bits_of w - 1) else 0)) % 256 ^ (bits_of w / 8)) -ℤ pos (if s then 2 ^ (bits_of w - 1) else 0)
    by Eight true h = signed_is 1 (2 ^ 7) n refl refl h
    by Sixteen true h = signed_is 2 (2 ^ 15) n refl refl h
    by ThirtyTwo true h = signed_is 4 (2 ^ 31) n refl refl h
    by SixtyFour true h = signed_is 8 (2 ^ 63) n refl refl h
    by w false h = unsigned_is (256 ^ (bits_of w / 8)) n h

bias_fits : (t : IntegerType) → bias_in t < 256 ^ width_of t
bias_fits t = by t.width t.signed
  where
    by : (w : BitWidth) (s : Bool) → (if s then 2 ^ (bits_of w - 1) else 0) < 256 ^ (bits_of w / 8)
    by Eight true = omega arith
    by Sixteen true = omega arith
    by ThirtyTwo true = omega arith
    by SixtyFour true = omega arith
    by Eight false = omega arith
    by Sixteen false = omega arith
    by ThirtyTwo false = omega arith
    by SixtyFour false = omega arith

-- ---- orders

abbrev three : (b e a : Bool) (m key : ℕ) → Bool
three b e a m key = if nat_lt m key then b else if m == key then e else a

ordered : (o : Operator) (z literal : ℤ) (m key bias : ℕ) → z ≡ pos m -ℤ pos bias → pos key ≡ literal +ℤ pos bias
    → three (accepts o Less) (accepts o Equal) (accepts o Greater) m key ≡ accepts o (int_cmp z literal)
ordered o z literal m key bias z_is key_is =
    let b = accepts o Less in let e = accepts o Equal in let a = accepts o Greater in
    elim (cases_lt m key) [
      | inl lt ↦
          (let less : z <ℤ literal = omega (arith, ints, lt, z_is, key_is) in
          ap (λ (t : Bool). if t then b else if m == key then e else a) (lt-ltb m key lt) ∙ ap (accepts o) (int_cmp_is z literal Less less))
      | inr le ↦
          ap (λ (t : Bool). if t then b else if m == key then e else a) (le-ltb m key le)
          ∙ elim (cases_lt key m) [
            | inl lt ↦
                (let more : literal <ℤ z = omega (arith, ints, lt, z_is, key_is) in
                let other : m ≢ key = omega (arith, lt) in
                ap (λ (t : Bool). if t then e else a) (ne_eqb m key other) ∙ ap (accepts o) (int_cmp_is z literal Greater more))
            | inr ge ↦
                (let same : z ≡ literal = omega (arith, ints, le, ge, z_is, key_is) in
                let one : m ≡ key = omega (arith, le, ge) in
                ap (λ (t : Bool). if t then e else a) (eq-eqb m key one) ∙ ap (accepts o) (int_cmp_is z literal Equal same))
          ]
    ]

alike : (x s t : Bool) → (if s then x else if t then x else x) ≡ x
alike x true t = refl
alike x false true = refl
alike x false false = refl

-- with a key
pub order_answers_are : (t : IntegerType) (o : Operator) (literal : ℤ) (by_order : OrderAnswers) (half : ℕ) → by_order.bias ≡ bias_in t → 2 * half ≡ 256 ^ width_of t → pos by_order.key ≡ literal +ℤ pos by_order.bias → by_order.key < 2 * half
    → by_order.below ≡ accepts o Less → by_order.equal ≡ accepts o Equal → by_order.above ≡ accepts o Greater → AreOrderAnswers t o literal by_order
order_answers_are t o literal by_order half bias whole key fits below equal above = record {
  bias = omega (arith, bias, bias_fits t);
  key = omega (arith, whole, fits);
  answers = λ n h.
      let m = moved by_order (width_of t) n in
      let z_is : integer_of (width_of t) t.signed n ≡ pos m -ℤ pos by_order.bias = moved_is t n h ∙ ap (λ b. pos ((n + b) % 256 ^ width_of t) -ℤ pos b) (sym bias) in
      ap (λ (x : Bool). three x by_order.equal by_order.above m by_order.key) below
      ∙ ap (λ (x : Bool). three (accepts o Less) x by_order.above m by_order.key) equal
      ∙ ap (λ (x : Bool). three (accepts o Less) (accepts o Equal) x m by_order.key) above
      ∙ ordered o (integer_of (width_of t) t.signed n) literal m by_order.key by_order.bias z_is key;
}

-- where all numbers stand alike to the literal
pub same_order_answers_are : (t : IntegerType) (o : Operator) (literal : ℤ) (by_order : OrderAnswers) (half : ℕ) (order : Ordering) → by_order.bias ≡ bias_in t → 2 * half ≡ 256 ^ width_of t → by_order.key ≡ 0
    → ((n : ℕ) → n < 2 * half → int_cmp (pos n -ℤ pos by_order.bias) literal ≡ order) → by_order.below ≡ accepts o order → by_order.equal ≡ accepts o order → by_order.above ≡ accepts o order → AreOrderAnswers t o literal by_order
same_order_answers_are t o literal by_order half order bias whole key all below equal above = record {
  bias = omega (arith, bias, bias_fits t);
  key = omega (arith, key, bias_fits t);
  answers = λ n h.
      let m = moved by_order (width_of t) n in
      let fits : m < 2 * half = omega (arith, whole, mod_below (n + by_order.bias) (256 ^ width_of t) (omega (arith, h))) in
      let z_is : integer_of (width_of t) t.signed n ≡ pos m -ℤ pos by_order.bias = moved_is t n h ∙ ap (λ b. pos ((n + b) % 256 ^ width_of t) -ℤ pos b) (sym bias) in
      ap (λ (x : Bool). three x by_order.equal by_order.above m by_order.key) below
      ∙ ap (λ (x : Bool). three (accepts o order) x by_order.above m by_order.key) equal
      ∙ ap (λ (x : Bool). three (accepts o order) (accepts o order) x m by_order.key) above
      ∙ alike (accepts o order) (nat_lt m by_order.key) (m == by_order.key)
      ∙ ap (accepts o) (sym (all m fits) ∙ ap (λ (z : ℤ). int_cmp z literal) (sym z_is));
}

-- ---- slots

little_below : (n i : ℕ) (bytes : List ℕ) → ((j : ℕ) → get_or bytes j 0 < 256) → little_from i n bytes < 256 ^ n
little_below zero i bytes fit = omega arith
little_below (suc n) i bytes fit =
    let power : 256 ^ suc n ≡ 256 ^ n * 256 = pow-suc 256 n in
    omega (arith, power, fit i, little_below n (suc i) bytes fit)

number_below : (k i : ℕ) (values : List ℕ) → ((j : ℕ) → get_or values j 0 < 256) → number_at k values i < 256 ^ k
number_below k i values fit = little_below k 0 (drop (i * k) values) (λ j. omega (arith, fit (i * k + j), get_or-drop (i * k) values j 0))

-- what is answered of slots, where they are valid
pub answers_hold : (c : IntegerComparison) (by_order : OrderAnswers) (validity values : List ℕ) (first n : ℕ) → AreOrderAnswers c.integer c.operator c.literal by_order → ((j : ℕ) → get_or values j 0 < 256)
    → map (λ i. is_valid_in validity i && answer_at by_order (width_of c.integer) values i) (range_with_len first n) ≡ map (integer_holds_in c validity values) (range_with_len first n)
answers_hold c by_order validity values first n is fit =
    maps_same (λ i. is_valid_in validity i && answer_at by_order (width_of c.integer) values i) (integer_holds_in c validity values)
    (λ i. ap (λ (b : Bool). is_valid_in validity i && b) (is.answers (number_at (width_of c.integer) values i) (number_below (width_of c.integer) i values fit)))
    (range_with_len first n)
