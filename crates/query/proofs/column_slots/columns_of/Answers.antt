use Rattle.std.proofs.Common.{◌≡◌, ℕ, ◌+◌, List, [], ◌∷◌, ◌++◌, length, take, sym, ap, subst, ◌∙◌, arith}
use Rattle.std.proofs.lemmas.List.{length-take-le, take_all, take_more}
use Rattle.arrow_schema.specs.declared.types.Field.{Field}
use Rattle.query.specs.declared.column_slots.ColumnSlots.{ColumnSlots}
use Rattle.query.specs.inner.ColumnSlots.{array_at, IsColumn, AreColumns}
use Rattle.query.proofs.ColumnSlots.{column_more}
use Rattle.query.proofs.column_slots.columns_of.Goals as goal

pub loop-place-init : goal.loop-place-init
loop-place-init c = record {
  columns = rw c.in_ok-columns.ensures.items tt;
  len = c.in_ok-columns.ensures.len;
  room = omega (arith, c.in_ok-columns.ensures.exact);
}

pub loop-place-preserved : goal.loop-place-preserved
loop-place-preserved c =
    let fields = c.args.fields.now in
    let batch = c.args.batch in
    let k = c.loop-place.place in
    let f = c.index-fields-place.result in
    let s = c.column_at.result in
    let before = c.loop-place.columns.items in
    let more = take_more fields k f c.loop-place-test.true ∙ ap (λ (x : Field). take k fields ++ x ∷ []) (sym c.index-fields-place.is) in
    let size : length (take k fields) ≡ k = length-take-le k fields (omega (arith, c.loop-place-test.true)) in
    let place : k ≡ 0 + length (take k fields) = omega (arith, size) in
    let own = subst (λ (n : ℕ). IsColumn c.args.dates f (array_at n batch) s) place c.column_at.ensures in
    record {
      columns = subst (λ (ss : List ColumnSlots). AreColumns c.args.dates batch 0 (take (k + 1) fields) ss) (sym c.push_reserved.ensures.items)
          (subst (λ (fs : List Field). AreColumns c.args.dates batch 0 fs (before ++ s ∷ [])) (sym more) (column_more c.args.dates batch 0 (take k fields) before f s c.loop-place.invariant.columns own));
      len = omega (arith, c.push_reserved.ensures.len, c.loop-place.invariant.len);
      room = omega (arith, c.push_reserved.ensures.capacity, c.loop-place.invariant.room);
    }

pub returns : goal.returns
returns c =
    let all = take_all c.loop-place.place c.args.fields.now (omega (arith, c.loop-place-test.false)) in
    subst (λ (fs : List Field). AreColumns c.args.dates c.args.batch 0 fs c.loop-place.columns.items) all c.loop-place.invariant.columns
