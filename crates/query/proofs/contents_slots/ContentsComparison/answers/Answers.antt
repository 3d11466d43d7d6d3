use Rattle.std.proofs.Common.{◌≡◌, ◌+◌, ◌-◌, ◌*◌, ◌/◌, ◌≤◌, ◌∙◌, map, ap, arith}
use Rattle.std.specs.List.{range_with_len}
use Rattle.std.specs.Simd.Lanes.{mask_l}
use Rattle.std.proofs.Math.Nat.{mul-le-mul_right}
use Rattle.facts.specs.laws.Numbers.{bool_byte-lt}
use Rattle.arrow_schema.specs.View.{bits_of}
use Rattle.query.specs.inner.Contents.{contents_hold_in}
use Rattle.query.proofs.AnswerWords.{no_answers, one_answer, answers_below}
use Rattle.query.proofs.contents_slots.ContentsComparison.answers.Goals as goal
use mir.Val.{bool_byte}

pub loop-j-init : goal.loop-j-init
loop-j-init c =
    no_answers (contents_hold_in c.args.self c.args.validity.now c.args.offsets.now c.args.contents.now) (c.args.first + c.args.count) (c.args.count - c.args.count) (omega arith)

pub holds-holds-requires-clause-long : goal.holds-holds-requires-clause-long
holds-holds-requires-clause-long c =
    let w = bits_of c.args.self.width / 8 in
    let i = c.args.first + (c.loop-j.j - 1) in
    let less : (i + 2) * w ≤ (c.args.first + c.args.count + 1) * w = mul-le-mul_right w (omega arith) in
    omega (arith, less, c.requires.long (omega arith))

pub overflow_mul-answers : goal.overflow_mul-answers
overflow_mul-answers c =
    let f = contents_hold_in c.args.self c.args.validity.now c.args.offsets.now c.args.contents.now in
    record { fits = omega (arith, answers_below f (c.args.first + c.loop-j.j) (c.args.count - c.loop-j.j) c.loop-j.answers (omega arith) c.loop-j.invariant) }

pub overflow_add-answers : goal.overflow_add-answers
overflow_add-answers c =
    let f = contents_hold_in c.args.self c.args.validity.now c.args.offsets.now c.args.contents.now in
    record { fits = omega (arith, answers_below f (c.args.first + c.loop-j.j) (c.args.count - c.loop-j.j) c.loop-j.answers (omega arith) c.loop-j.invariant, bool_byte-lt c.holds-holds.result, c.from.ensures) }

pub loop-j-preserved : goal.loop-j-preserved
loop-j-preserved c =
    let f = contents_hold_in c.args.self c.args.validity.now c.args.offsets.now c.args.contents.now in
    let i = c.loop-j.j - 1 in
    one_answer f c.args.first c.args.count i c.loop-j.j c.loop-j.answers c.from.result (omega arith) (omega arith) c.loop-j.invariant
    (c.from.ensures ∙ ap bool_byte c.holds-holds.ensures)

pub returns : goal.returns
returns c =
    let f = contents_hold_in c.args.self c.args.validity.now c.args.offsets.now c.args.contents.now in
    let start : c.args.first + c.loop-j.j ≡ c.args.first = omega arith in
    let size : c.args.count - c.loop-j.j ≡ c.args.count = omega arith in
    c.loop-j.invariant ∙ ap (λ n. mask_l (map f (range_with_len n (c.args.count - c.loop-j.j)))) start ∙ ap (λ n. mask_l (map f (range_with_len c.args.first n))) size
