use Rattle.std.proofs.Common.{◌≡◌, ◌≢◌, ℕ, ◌+◌, ◌-◌, ◌≤◌, ◌<◌, List, Bool, ◌++◌, length, map, sym, ap, ◌∙◌, subst, arith}
use Rattle.std.specs.Prelude.{not, OnOk, if◌then◌else◌}
use Rattle.std.specs.List.{range_with_len}
use Rattle.std.proofs.lemmas.Bool.{eqb-true, eqb-false}
use Rattle.bitmap.specs.Bits.{bit}
use Rattle.columns.specs.View.{view_array}
use Rattle.query.specs.inner.Nulls.{null_holds_in, null_holds_at}
use Rattle.query.proofs.BlockFlags.{more_flags}
use Rattle.query.proofs.NullTests.{alike, answer_of_bit, answer_of_none}
use Rattle.query.proofs.null_slots.NullTest.push_slots.Goals as goal

pub returns-then-is_empty : goal.returns-then-is_empty
returns-then-is_empty c =
    let t = c.args.self in
    let a = view_array c.args.view in
    let validity = c.validity-validity.result.now in
    let same : (i : ℕ) → null_holds_at t a i ≡ t.valid =
    λ i. ap (λ (v : List ℕ). null_holds_in t v i) (sym c.validity-validity.ensures) ∙ answer_of_none t validity i (eqb-true (length validity) 0 (sym c.if-is_empty.ensures)) in
    let P : List Bool → Type 0 = λ bits. OnOk c.push_alike.result (c.push_alike.new.self ≡ c.args.flags.now ++ bits) in
    subst P (alike (null_holds_at t a) 0 c.args.rows t.valid (λ i from below. same i)) c.push_alike.ensures.ok

pub loop-first-preserved : goal.loop-first-preserved
loop-first-preserved c =
    let t = c.args.self in
    let a = view_array c.args.view in
    let validity = c.validity-validity.result.now in
    let first = c.loop-first.first in
    let end = c.run_end-end.result in
    let count = end - first in
    let start = c.args.flags.now in
    let f = null_holds_at t a in
    let filled : length validity ≢ 0 = eqb-false (length validity) 0 (sym c.if-is_empty.ensures) in
    let some : 0 < length validity = omega (arith, filled) in
    let answer : c.answer-answer.result ≡ (if bit validity first then t.valid else not t.valid) =
    c.answer-answer.ensures ∙ ap (λ (b : Bool). if b then t.valid else not t.valid) c.get.ensures in
    let each : (i : ℕ) → first ≤ i → i < first + count → f i ≡ c.answer-answer.result =
    λ i from below.
    (ap (λ (v : List ℕ). null_holds_in t v i) (sym c.validity-validity.ensures)
    ∙ answer_of_bit t validity i (bit validity first) some (c.run_end-end.ensures.alike i from (omega (arith, c.run_end-end.ensures.begins)))
    ∙ sym answer) in
    let bits = map f (range_with_len first count) in
    let whole : first + count ≡ end = omega (arith, c.run_end-end.ensures.begins) in
    record {
      within = omega (arith, c.run_end-end.ensures.ends);
      flags = c.in_ok-push_alike.ensures.ok
          ∙ ap (λ (xs : List Bool). c.loop-first.flags ++ xs) (alike f first count c.answer-answer.result each)
          ∙ ap (λ (xs : List Bool). xs ++ bits) c.loop-first.invariant.flags
          ∙ more_flags f first count start
          ∙ ap (λ n. start ++ map f (range_with_len 0 n)) whole;
    }

pub returns : goal.returns
returns c =
    let whole : c.loop-first.first ≡ c.args.rows = omega arith in
    c.loop-first.invariant.flags ∙ ap (λ n. c.args.flags.now ++ map (null_holds_at c.args.self (view_array c.args.view)) (range_with_len 0 n)) whole
