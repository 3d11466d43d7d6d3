-- Flags of slots, block by block.
use Rattle.std.proofs.Common.{◌≡◌, ℕ, ◌+◌, ◌*◌, ◌/◌, ◌^◌, ◌<◌, ◌≤◌, Bool, true, false, List, [], ◌∷◌, ◌++◌, ◌==◌, length, get_or, map, refl, sym, ap, subst, ◌∙◌, append_assoc, arith}
use Rattle.std.specs.List.{range_with_len}
use Rattle.std.specs.Simd.Lanes.{mask_l}
use Rattle.std.proofs.lemmas.List.{map-append}
use Rattle.std.proofs.lemmas.Simd.{mask_l-lt}
use Rattle.std.proofs.lemmas.Nat.{div-add-mod'}
use Rattle.std.proofs.Math.Nat.{mul-le-mul_left, mul_comm}
use Rattle.std.specs.Prelude.{bit_and}
use Rattle.std.specs.Int.{bit_at}
use Rattle.facts.specs.laws.Lists.{range-append}
use Rattle.query.specs.declared.order_answers.OrderAnswers.{OrderAnswers}
use Rattle.query.specs.declared.integer_slots.IntegerComparison.{IntegerComparison}
use Rattle.query.specs.inner.Slots.{width_of, is_valid_in, integer_holds_in}
use Rattle.query.specs.inner.OrderAnswers.{answer_at, AreOrderAnswers}
use Rattle.query.proofs.OrderAnswers.{answers_hold}
use Rattle.query.proofs.Masked.{masked_word}
use mir.Val.{bool_byte}

-- the flags of some more slots
pub more_flags : (f : ℕ → Bool) (m n : ℕ) (start : List Bool) → start ++ map f (range_with_len 0 m) ++ map f (range_with_len m n) ≡ start ++ map f (range_with_len 0 (m + n))
more_flags f m n start =
    let own : 0 + m ≡ m = omega arith in
    append_assoc start (map f (range_with_len 0 m)) (map f (range_with_len m n))
    ∙ ap (λ (bits : List Bool). start ++ bits)
    (ap (λ k. map f (range_with_len 0 m) ++ map f (range_with_len k n)) (sym own) ∙ sym (map-append f (range_with_len 0 m) (range_with_len (0 + m) n)) ∙ ap (map f) (sym (range-append 0 m n)))

-- the whole blocks of some rows are within them
pub blocks_within : (slots block rows : ℕ) → block < rows / slots → slots * block + slots ≤ rows
blocks_within slots block rows h =
    let next : slots * (block + 1) ≤ slots * (rows / slots) = mul-le-mul_left slots (omega (arith, h)) in
    omega (arith, next, div-add-mod' rows slots, mul_comm slots (rows / slots))

-- one flag as a word
pub one_bit : (b : Bool) → mask_l (b ∷ []) ≡ bool_byte b
one_bit true = refl
one_bit false = refl

pub word_fits : (word n : ℕ) (bits : List Bool) → word ≡ mask_l bits → length bits ≡ n → word < 2 ^ n
word_fits word n bits is size = subst (λ k. word < 2 ^ k) size (subst (λ w. w < 2 ^ length bits) (sym is) (mask_l-lt bits))

-- the word of a block: what is answered of its slots, where they are valid
pub word_of_block : (c : IntegerComparison) (by_order : OrderAnswers) (validity values : List ℕ) (first slots own answers valid : ℕ) → AreOrderAnswers c.integer c.operator c.literal by_order → ((j : ℕ) → get_or values j 0 < 256)
    → slots ≡ own → answers ≡ mask_l (map (answer_at by_order (width_of c.integer) values) (range_with_len first own)) → ((j : ℕ) → j < slots → (bit_at valid j == 1) ≡ is_valid_in validity (first + j))
    → bit_and answers valid ≡ mask_l (map (integer_holds_in c validity values) (range_with_len first slots))
word_of_block c by_order validity values first slots own answers valid is fit count are each =
    let answer = answer_at by_order (width_of c.integer) values in
    masked_word answer (is_valid_in validity) slots first answers valid (are ∙ ap (λ n. mask_l (map answer (range_with_len first n))) (sym count)) each
    ∙ ap mask_l (answers_hold c by_order validity values first slots is fit)
