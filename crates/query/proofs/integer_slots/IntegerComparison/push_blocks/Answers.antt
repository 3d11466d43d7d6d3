use Rattle.std.proofs.Common.{◌≡◌, ◌+◌, ◌*◌, ◌/◌, Bool, List, ◌++◌, length, map, sym, ap, subst, ◌∙◌, arith}
use Rattle.std.specs.Prelude.{ℤ, bit_and}
use Rattle.std.specs.List.{range_with_len}
use Rattle.std.proofs.lemmas.Int.{ints}
use Rattle.std.proofs.lemmas.List.{append-nil}
use Rattle.std.proofs.lemmas.List.FromFn.{length-map-range_with_len}
use mir.Syntax.{w128}
use mir.Val.{to_z, of_z}
use Rattle.query.specs.inner.Slots.{integer_holds_in}
use Rattle.query.specs.inner.OrderAnswers.{block_slots, AreOrderAnswers}
use Rattle.query.proofs.BlockFlags.{more_flags, blocks_within, word_of_block, word_fits}
use Rattle.query.proofs.Masked.{whole_bytes}
use Rattle.query.proofs.integer_slots.IntegerComparison.push_blocks.Goals as goal

pub loop-block-init : goal.loop-block-init
loop-block-init c =
    let f = integer_holds_in c.args.self c.args.validity.now c.args.values.now in
    let start = c.args.flags.now in
    let none : c.slots_in_block-slots.result * 0 ≡ 0 = omega arith in
    sym (ap (λ n. start ++ map f (range_with_len 0 n)) none ∙ append-nil start)

pub valid_slots-requires-clause-begins : goal.valid_slots-requires-clause-begins
valid_slots-requires-clause-begins c = whole_bytes c.slots_in_block-slots.result c.loop-block.block c.slots_in_block-slots.ensures.bytes

pub valid_slots-requires-clause-room : goal.valid_slots-requires-clause-room
valid_slots-requires-clause-room c = λ some.
    omega (arith, blocks_within c.slots_in_block-slots.result c.loop-block.block c.args.rows c.loop-block-test.true, c.requires.valid some)

pub push_word-requires-clause-word : goal.push_word-requires-clause-word
push_word-requires-clause-word c =
    let slots = c.slots_in_block-slots.result in
    let first = slots * c.loop-block.block in
    let f = integer_holds_in c.args.self c.args.validity.now c.args.values.now in
    let word = bit_and c.answers_of_block-answers.result c.valid_slots.result in
    word_fits word slots (map f (range_with_len first slots))
    (word_of_block c.args.self c.of-by_order.result c.args.validity.now c.args.values.now first slots (block_slots c.args.self.integer.width) c.answers_of_block-answers.result c.valid_slots.result
    (let same : to_z w128 (of_z w128 c.args.self.literal) ≡ c.args.self.literal = omega (arith, ints) in
    subst (λ (z : ℤ). AreOrderAnswers c.args.self.integer c.args.self.operator z c.of-by_order.result) same c.of-by_order.ensures)
    (λ j. (c.type_inv.values j).fits) c.slots_in_block-slots.ensures.value c.answers_of_block-answers.ensures c.valid_slots.ensures)
    (length-map-range_with_len f first slots)

pub loop-block-preserved : goal.loop-block-preserved
loop-block-preserved c =
    let comparison = c.args.self in
    let start = c.args.flags.now in
    let slots = c.slots_in_block-slots.result in
    let first = slots * c.loop-block.block in
    let f = integer_holds_in comparison c.args.validity.now c.args.values.now in
    let same : to_z w128 (of_z w128 comparison.literal) ≡ comparison.literal = omega (arith, ints) in
    let are_answers = subst (λ (z : ℤ). AreOrderAnswers comparison.integer comparison.operator z c.of-by_order.result) same c.of-by_order.ensures in
    let bits = map f (range_with_len first slots) in
    let size : length bits ≡ slots = length-map-range_with_len f first slots in
    let word =
    word_of_block comparison c.of-by_order.result c.args.validity.now c.args.values.now first slots (block_slots comparison.integer.width) c.answers_of_block-answers.result c.valid_slots.result
    are_answers (λ j. (c.type_inv.values j).fits) c.slots_in_block-slots.ensures.value c.answers_of_block-answers.ensures c.valid_slots.ensures in
    let next : first + slots ≡ slots * (c.loop-block.block + 1) = omega arith in
    c.in_ok-push_word.ensures.ok bits size (sym word)
    ∙ ap (λ (flags : List Bool). flags ++ bits) c.loop-block.invariant
    ∙ more_flags f first slots start
    ∙ ap (λ n. start ++ map f (range_with_len 0 n)) next

pub returns-clause-flags : goal.returns-clause-flags
returns-clause-flags c =
    let f = integer_holds_in c.args.self c.args.validity.now c.args.values.now in
    let slots = c.slots_in_block-slots.result in
    let whole : c.loop-block.block ≡ c.args.rows / slots = omega arith in
    c.loop-block.invariant ∙ ap (λ k. c.args.flags.now ++ map f (range_with_len 0 (slots * k))) whole
