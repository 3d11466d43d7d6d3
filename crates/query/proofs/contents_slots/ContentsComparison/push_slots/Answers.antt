use Rattle.std.proofs.Common.{◌≡◌, ℕ, ◌+◌, ◌*◌, ◌/◌, ◌≤◌, List, Bool, ◌++◌, length, map, sym, ap, ◌∙◌, subst, arith}
use Rattle.std.specs.List.{range_with_len}
use Rattle.std.specs.Simd.Lanes.{mask_l}
use Rattle.std.proofs.lemmas.List.FromFn.{length-map-range_with_len}
use Rattle.arrow_schema.specs.View.{bits_of}
use Rattle.columns.specs.Array.{validity_in, offsets_in}
use Rattle.columns.specs.View.{view_array}
use Rattle.query.specs.inner.Contents.{contents_hold_in, contents_hold_at}
use Rattle.query.proofs.AnswerWords.{offsets_there, answers_fit}
use Rattle.query.proofs.BlockFlags.{more_flags}
use Rattle.query.proofs.contents_slots.ContentsComparison.push_slots.Goals as goal

pub answers-answers-requires-clause-long : goal.answers-answers-requires-clause-long
answers-answers-requires-clause-long c =
    let w = bits_of c.args.self.width / 8 in
    λ some.
    (let P : List ℕ → Type 0 = λ offsets. (c.loop-first.first + c.min-count.result + 1) * w ≤ length offsets in
    subst P (sym c.offsets-offsets.ensures)
    (offsets_there w c.args.rows c.loop-first.first c.min-count.result (view_array c.args.view) c.requires (omega (arith, c.min-count.ensures)) some))

pub push_word-requires-clause-word : goal.push_word-requires-clause-word
push_word-requires-clause-word c =
    answers_fit (contents_hold_in c.args.self c.validity-validity.result.now c.offsets-offsets.result.now c.contents-contents.result.now) c.loop-first.first c.min-count.result
    c.answers-answers.result c.answers-answers.ensures

pub loop-first-preserved : goal.loop-first-preserved
loop-first-preserved c =
    let a = view_array c.args.view in
    let first = c.loop-first.first in
    let count = c.min-count.result in
    let start = c.args.flags.now in
    let f = contents_hold_at c.args.self a in
    let bits = map f (range_with_len first count) in
    let word : c.answers-answers.result ≡ mask_l bits =
    c.answers-answers.ensures
    ∙ ap (λ (v : List ℕ). mask_l (map (contents_hold_in c.args.self v c.offsets-offsets.result.now c.contents-contents.result.now) (range_with_len first count))) c.validity-validity.ensures
    ∙ ap (λ (v : List ℕ). mask_l (map (contents_hold_in c.args.self (validity_in a) v c.contents-contents.result.now) (range_with_len first count))) c.offsets-offsets.ensures
    ∙ ap (λ (v : List ℕ). mask_l (map (contents_hold_in c.args.self (validity_in a) (offsets_in a) v) (range_with_len first count))) c.contents-contents.ensures in
    record {
      within = omega (arith, c.min-count.ensures);
      flags = c.in_ok-push_word.ensures.ok bits (length-map-range_with_len f first count) (sym word)
          ∙ ap (λ (flags : List Bool). flags ++ bits) c.loop-first.invariant.flags
          ∙ more_flags f first count start;
    }

pub returns : goal.returns
returns c =
    let whole : c.loop-first.first ≡ c.args.rows = omega arith in
    c.loop-first.invariant.flags ∙ ap (λ n. c.args.flags.now ++ map (contents_hold_at c.args.self (view_array c.args.view)) (range_with_len 0 n)) whole
