use Rattle.std.proofs.Common.{◌≡◌, ◌+◌, ◌∷◌, ◌++◌, ℕ, List, [], length, map, subst, sym, ap, ◌∙◌, arith}
use Rattle.std.proofs.lemmas.List.{length-map, length_push, map-append}
use Rattle.columns.specs.declared.slot_runs.SlotRun.{SlotRun}
use Rattle.arrow_schema.specs.View.{column_of}
use Rattle.table_cut.specs.inner.Columns.{AreColumns, IsColumn}
use Rattle.table_cut.proofs.ColumnLemmas.{are_more, all_have, run_lists}
use Rattle.table_cut.proofs.columns_of_runs.column_runs.Goals as goal

pub loop-place-init : goal.loop-place-init
loop-place-init c = record {
  are = rw c.in_ok-columns.ensures.items tt;
  count = ap length c.in_ok-columns.ensures.items;
  len = c.in_ok-columns.ensures.len;
  room = omega (arith, c.in_ok-columns.ensures.capacity);
}

pub push_reserved-requires : goal.push_reserved-requires
push_reserved-requires c = omega (arith, c.loop-place-test.true, c.loop-place.auto.place-end, c.loop-place.invariant.len, c.loop-place.invariant.room)

pub loop-place-preserved : goal.loop-place-preserved
loop-place-preserved c =
    let old : List (List SlotRun) = run_lists c.loop-place.columns.items in
    let is = c.loop-place.invariant in
    let given = length-map c.loop-place.columns.items (λ v. v.items) in
    let count : 0 + length old ≡ c.loop-place.place = omega (arith, given, is.count) in
    let pushed : run_lists c.push_reserved.new.self.items ≡ old ++ c.in_ok-column_at.field-0.items ∷ [] = ap run_lists c.push_reserved.ensures.items ∙ map-append (λ v. v.items) c.loop-place.columns.items (c.in_ok-column_at.field-0 ∷ []) in
    let own : IsColumn (0 + length old) c.args.runs.now c.in_ok-column_at.field-0.items = subst (λ (k : ℕ). IsColumn k c.args.runs.now c.in_ok-column_at.field-0.items) (sym count) c.in_ok-column_at.ensures in
    record {
      are = subst (λ (xs : List (List SlotRun)). AreColumns 0 c.args.runs.now xs) (sym pushed) (are_more 0 c.args.runs.now old c.in_ok-column_at.field-0.items is.are own);
      count = omega (arith, ap length c.push_reserved.ensures.items, length_push c.loop-place.columns.items c.in_ok-column_at.field-0, is.count);
      len = omega (arith, c.push_reserved.ensures.len, is.len);
      room = omega (arith, c.push_reserved.ensures.capacity, is.room);
    }

pub returns : goal.returns
returns c =
    let is = c.loop-place.invariant in
    let lists : List (List SlotRun) = run_lists c.loop-place.columns.items in
    let given = length-map c.loop-place.columns.items (λ v. v.items) in
    let fields = length-map c.args.fields.now column_of in
    let count : length lists ≡ length (map column_of c.args.fields.now) = omega (arith, given, fields, is.count, c.loop-place-test.false, c.loop-place.auto.place-end) in
    let all = all_have (map column_of c.args.fields.now) 0 c.args.runs.now lists is.are count c.requires in
    record { have = all.0; sound = all.1 }
