use Rattle.std.proofs.Common.{ℕ, List, Bor, map, subst, sym, true≢false}
use Rattle.std.specs.Prelude.{Err}
use Rattle.arrow_schema.specs.View.{column_of}
use Rattle.field_texts.specs.Reported.{IsReported}
use Rattle.field_texts.proofs.Typing.{taken_if_same, not_taken, limit_is_other, bad_is_other}
use Rattle.field_texts.proofs.typed.is_taken_for.Goals as goal

pub returns-in-Ok : goal.returns-in-Ok
returns-in-Ok c =
    let taken = taken_if_same c.args.text.now (column_of c.args.field.now) (map column_of c.in-Ok.fields.items) (rw c.from_ref.ensures.value at c.in-Ok.ensures.reported) in
    let alone = rw c.deref.ensures.value at c.is_alone.ensures in
    (λ t. taken.0 (alone.0 t), λ k. alone.1 (taken.1 k))

pub returns-in-Err-Limit : goal.returns-in-Err-Limit
returns-in-Err-Limit c =
    let e = c.in-Err-Limit.field-0 in
    let reported = subst (λ (ts : List (Bor (List ℕ))). IsReported (map (λ t. t.now) ts) (Err e)) c.from_ref.ensures.value c.in-Err-Limit.ensures.reported in (
      (λ t. absurd (true≢false (sym t))),
      (λ k. absurd (not_taken c.args.text.now (column_of c.args.field.now) e (limit_is_other e c.in-Err-Limit.field-0-is) reported k)),
    )

pub returns-in-Err-BadText : goal.returns-in-Err-BadText
returns-in-Err-BadText c =
    let e = c.in-Err-BadText.field-0 in
    let reported = subst (λ (ts : List (Bor (List ℕ))). IsReported (map (λ t. t.now) ts) (Err e)) c.from_ref.ensures.value c.in-Err-BadText.ensures.reported in (
      (λ t. absurd (true≢false (sym t))),
      (λ k. absurd (not_taken c.args.text.now (column_of c.args.field.now) e (bad_is_other e _ c.in-Err-BadText.field-0-is) reported k)),
    )
