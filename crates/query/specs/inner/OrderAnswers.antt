-- Comparisons of numbers with a key.
use Rattle.std.specs.Prelude.{◌≡◌, ℕ, ℤ, pos, ◌+◌, ◌-◌, ◌/◌, ◌%◌, ◌^◌, ◌<◌, ◌+ℤ◌, ◌-ℤ◌, Bool, nat_lt, ◌==◌, List, if◌then◌else◌}
use Rattle.std.specs.Ordering.{int_cmp}
use Rattle.std.specs.declared.cmp.Ordering.{Ordering}
use Rattle.arrow_schema.specs.View.{bits_of}
use Rattle.arrow_schema.specs.declared.types.BitWidth.{BitWidth}
use Rattle.arrow_schema.specs.declared.types.IntegerType.{IntegerType}
use Rattle.cells.specs.Integers.{integer_of}
use Rattle.columns.specs.CellAt.{number_at}
use Rattle.query.specs.declared.order_answers.OrderAnswers.{OrderAnswers}
use Rattle.query.specs.declared.operator.Operator.{Operator}
use Rattle.query.specs.Bound.{accepts}
use Rattle.query.specs.inner.Slots.{width_of}

-- how many integers of a width are in 64 bytes
abbrev pub block_slots : BitWidth → ℕ
block_slots width = 512 / bits_of width

-- the bias, which moves the least integer of a type to 0
abbrev pub bias_in : IntegerType → ℕ
bias_in t = if t.signed then 2 ^ (bits_of t.width - 1) else 0

-- the literal with the bias added, if it is one of n numbers
abbrev pub IsKey : ℤ → (bias numbers : ℕ) → ℕ → Type 0
IsKey literal bias numbers key = (pos key ≡ literal +ℤ pos bias) × (key < numbers)

-- how all n numbers compare with a literal that is none of them
abbrev pub AllStand : ℤ → (bias numbers : ℕ) → Ordering → Type 0
AllStand literal bias numbers order = (n : ℕ) → n < numbers → int_cmp (pos n -ℤ pos bias) literal ≡ order

-- the answer for a number to which the bias was added
abbrev pub answer : OrderAnswers → ℕ → Bool
answer by_order n = if nat_lt n by_order.key then by_order.below else if n == by_order.key then by_order.equal else by_order.above

-- a number with the bias added, in n bytes
abbrev pub moved : OrderAnswers → (width : ℕ) → ℕ → ℕ
moved by_order width n = (n + by_order.bias) % 256 ^ width

-- the answer for a slot of numbers
abbrev pub answer_at : OrderAnswers → (width : ℕ) → List ℕ → ℕ → Bool
answer_at by_order width values i = answer by_order (moved by_order width (number_at width values i))

-- the answers are those of a comparison with a literal
pub record AreOrderAnswers (t : IntegerType) (o : Operator) (literal : ℤ) (by_order : OrderAnswers) : Type 0 where
  pub bias : by_order.bias < 256 ^ width_of t
  pub key : by_order.key < 256 ^ width_of t
  pub answers : (n : ℕ) → n < 256 ^ width_of t → answer by_order (moved by_order (width_of t) n) ≡ accepts o (int_cmp (integer_of (width_of t) t.signed n) literal)
