use Rattle.std.specs.Prelude.{IfSome, None, Option, Some, option_map}
use Rattle.std.specs.List.{list_all}
use Rattle.std.proofs.Common.{◌≡◌, ◌+◌, ◌-◌, ◌*◌, ℕ, ◌<◌, ◌≤◌, List, get_or, inl, inr, length, set, subst, take, true, false, map, drop, refl, sym, ap, arith, rules, ◌∙◌}
use Rattle.arrow_schema.specs.declared.types.Field.{Field, the_lemmas as field_lemmas}
use Rattle.arrow_schema.specs.Column.{Kind, Column, Columns, columns_of, lists, large_lists, structs}
use Rattle.arrow_schema.specs.View.{kind_of, column_of, index_of}
use Rattle.std.proofs.lemmas.Bool.{cases_lt}
use Rattle.std.proofs.lemmas.List.{get_or-set_other, get_or-set_same, get_or-take, length-set, length-take-le}
use Rattle.cells.specs.Cell.{Cell, null}
use Rattle.cells.specs.Weight.{kind_weight, capped_weight}
use Rattle.cells.specs.laws.Weights.{capped_product}
use Rattle.columns.specs.Array.{Array, Arrays, array_list, dictionary_in, slots_in, items_in, children_in}
use Rattle.columns.specs.CellAt.{entries_of_kind, is_valid, kind_cell, unless_null, indexed_cell}
use Rattle.columns.specs.Offsets.{width_of}
use Rattle.columns.specs.Located.{IsSoundPlace, located_cell}
use Rattle.columns.specs.Sound.{has_sound_children, is_kind_sound}
use Rattle.columns.specs.View.{array_in, no_dictionary, view_array, placed_arrays}
use Rattle.columns.specs.declared.entry.EntryPlace.{EntryPlace}
use Rattle.columns.specs.declared.view.ArrayView.{ArrayView}
use Rattle.columns.specs.laws.Places.{listed}
use Rattle.columns.specs.laws.Offsets.{spans_fit}
use Rattle.columns.specs.laws.Rows.{fewer_sound}
use Rattle.facts.specs.laws.Lists.{drop-item}
use Rattle.arrays.specs.inner.Varying.{may_vary}
use Rattle.arrays.specs.inner.EntryWeights.{content_weights, weights_in}
use Rattle.arrays.specs.inner.Weights.{AreEntryWeights, masked_parts_weight, masked_weight, plain_weight, sized_width, sum_from, valid_weight}
use Rattle.arrays.specs.declared.masked.SizedType.{SizedType}
use Rattle.arrays.specs.declared.sized_slots.SizedSlots.{SizedSlots}
use Rattle.arrays.proofs.SpanWeights.{plain_sound, plain_spanned, coded_sound, coded_spanned, known_weight, one_slot, valid_weighs, valid_run, null_run, run_more, slot_more, next_total, parts_next, parts_end, sound_next}
use Rattle.arrays.proofs.SameWeights.{alike_cells, alike_masked, field_is_alike}
use Rattle.arrays.proofs.MaskedWeights.{field_null, masked_end, masked_field_sizes, masked_more, masked_next, masked_null_run, masked_valid_run, nulls_more, plain_sizes, sized_sound, structs_masked, valid_more}
use Rattle.columns.specs.laws.SoundParts.{sound_parts, sound_validity}
use Rattle.arrays.proofs.KindWeights.{items_total, fixed_total, fields_total, fixed_within}
use Rattle.arrays.proofs.weights.+weights.Goals as goal

abbrev width_in : SizedType → ℕ
width_in t = width_of t.width

-- the unit is reported as a weight is
unit_of_type : (found : Option SizedType) (sized : SizedType) (unit : ℕ) → found ≡ Some sized → IfSome found (λ t. t.unit ≡ unit) → sized.unit ≡ unit
unit_of_type (Some own) sized unit is h = let same : own ≡ sized = cc in ap (λ (t : SizedType). t.unit) (sym same) ∙ h
unit_of_type None sized unit is h = absurd cc

reported_unit : (result count sizes unit own whole : ℕ) → result ≡ capped_weight (count + sizes * unit) → unit ≡ capped_weight own → whole ≡ count + sizes * own → result ≡ capped_weight whole
reported_unit result count sizes unit own whole is unit_is all =
    let same : capped_weight (sizes * unit) ≡ capped_weight (sizes * own) = ap (λ (n : ℕ). capped_weight (sizes * n)) unit_is ∙ capped_product sizes own in
    omega (arith, is, all, same)

pub span_weight-returns-then-not-may_vary : goal.span_weight-returns-then-not-may_vary
span_weight-returns-then-not-may_vary t c =
    let field : Field = c.args.field.now in
    let alike = field_is_alike field (sym c.may_vary.ensures ∙ c.if-not-may_vary.true) in
    c.nulls_weight.ensures
    ∙ ap capped_weight (ap (λ (n : ℕ). c.args.count * n) (field_null field) ∙ sym (alike_cells (column_of field) (view_array c.args.view) c.args.from c.args.count alike))

pub span_weight-plain_weight-requires : goal.span_weight-plain_weight-requires
span_weight-plain_weight-requires t c = (
  search (rules, field_lemmas),
  (
    c.requires.empty,
    (sym c.may_vary.ensures ∙ c.if-not-may_vary.false, (plain_sound c.args.field.now (view_array c.args.view) c.in-None.is c.requires.sound, c.requires.within)),
  ),
)

pub span_weight-returns-in-None : goal.span_weight-returns-in-None
span_weight-returns-in-None t c =
    c.plain_weight.ensures ∙ ap capped_weight (plain_spanned c.args.field.now (view_array c.args.view) c.args.from c.args.count c.in-None.is)

pub span_weight-entries_weight-requires : goal.span_weight-entries_weight-requires
span_weight-entries_weight-requires t c =
    let parts = coded_sound c.args.field.now c.in-Some.spec (view_array c.args.view) c.in-Some.is c.requires.sound in (
      search (rules, field_lemmas),
      (c.requires.empty, (sym c.may_vary.ensures ∙ c.if-not-may_vary.false, (parts.0, (parts.1, (parts.2, c.requires.within))))),
    )

pub span_weight-returns-in-Some : goal.span_weight-returns-in-Some
span_weight-returns-in-Some t c =
    c.entries_weight.ensures ∙ ap capped_weight (coded_spanned c.args.field.now c.in-Some.spec (view_array c.args.view) c.args.from c.args.count c.in-Some.is)

pub plain_weight-masked_sizes_weight-requires-clause-few : goal.plain_weight-masked_sizes_weight-requires-clause-few
plain_weight-masked_sizes_weight-requires-clause-few t c =
    let kind : Kind = kind_of c.args.field.now.data_type in
    (sized_sound kind (width_of c.in-Some.sized.width) (view_array c.args.view) (sym c.sized_type.ensures.width ∙ ap (option_map width_in) c.in-Some.is) c.requires.sound).0

pub plain_weight-masked_sizes_weight-requires-clause-ordered : goal.plain_weight-masked_sizes_weight-requires-clause-ordered
plain_weight-masked_sizes_weight-requires-clause-ordered t c =
    let kind : Kind = kind_of c.args.field.now.data_type in
    (sized_sound kind (width_of c.in-Some.sized.width) (view_array c.args.view) (sym c.sized_type.ensures.width ∙ ap (option_map width_in) c.in-Some.is) c.requires.sound).1

pub plain_weight-returns-in-Some : goal.plain_weight-returns-in-Some
plain_weight-returns-in-Some t c =
    let kind : Kind = kind_of c.args.field.now.data_type in
    let a : Array = view_array c.args.view in
    let w : ℕ = width_of c.in-Some.sized.width in
    let width : sized_width kind ≡ Some w = sym c.sized_type.ensures.width ∙ ap (option_map width_in) c.in-Some.is in
    let all = plain_sizes kind w a c.args.from c.args.count width c.requires.sound c.requires.within in
    reported_unit _ _ _ _ _ _ c.masked_sizes_weight.ensures (unit_of_type _ _ _ c.in-Some.is c.sized_type.ensures.unit) all

pub runs_weight-loop-start-preserved-then-is_valid : goal.runs_weight-loop-start-preserved-then-is_valid
runs_weight-loop-start-preserved-then-is_valid t c =
    let kind : Kind = kind_of c.args.field.now.data_type in
    let a : Array = view_array c.args.view in
    let start : ℕ = c.loop-start.start in
    let next : ℕ = c.run_to-next.result in
    let seam = c.run_to-next.ensures in
    let more = run_more kind a start next (c.args.from + c.args.count) (omega (arith, seam.begins)) seam.ends in
    let valid = valid_run kind a start (next - start) (sym c.if-is_valid.ensures) (λ i from to. seam.alike i from (omega arith)) in
    let total = valid_more _ _ _ _ _ _ _ _ _ c.loop-start.invariant.sums more (c.valid_weight-run.ensures ∙ ap capped_weight (sym valid)) c.add_weights-total.ensures in
    record { low = omega (arith, seam.begins, c.loop-start.invariant.low); within = seam.ends; few = omega (arith, seam.begins, c.loop-start.invariant.few); sums = total.0; capped = total.1 }

pub runs_weight-loop-start-preserved : goal.runs_weight-loop-start-preserved
runs_weight-loop-start-preserved t c =
    let kind : Kind = kind_of c.args.field.now.data_type in
    let a : Array = view_array c.args.view in
    let start : ℕ = c.loop-start.start in
    let next : ℕ = c.run_to-next.result in
    let seam = c.run_to-next.ensures in
    let more = run_more kind a start next (c.args.from + c.args.count) (omega (arith, seam.begins)) seam.ends in
    let hidden = null_run kind a start (next - start) (sym c.if-is_valid.ensures) (λ i from to. seam.alike i from (omega arith)) in
    let sums = nulls_more _ _ _ _ _ (next - start) _ c.loop-start.invariant.sums (more ∙ ap (λ (n : ℕ). n + plain_weight kind a next (c.args.from + c.args.count - next)) hidden) in
    record {
      low = omega (arith, seam.begins, c.loop-start.invariant.low);
      within = seam.ends;
      few = omega (arith, seam.begins, c.loop-start.invariant.low, c.loop-start.invariant.few);
      sums = sums;
      capped = c.loop-start.invariant.capped;
    }

pub masked_fields_weight-loop-i-init : goal.masked_fields_weight-loop-i-init
unfolding has_sound_children
masked_fields_weight-loop-i-init t c =
    let a : Array = view_array c.args.view in
    let columns : Columns = columns_of (map column_of c.args.fields.now) in
    let same = ap (λ (arrays : Arrays). masked_parts_weight columns a arrays c.args.from c.args.count) c.children-children.ensures in
    let parts = sound_parts _ (structs columns) a refl c.requires.sound in
    record {
      sums = omega (arith, same);
      capped = refl;
      sound = rw c.children-children.ensures (fewer_sound columns (children_in a) (slots_in a) (c.args.from + c.args.count) parts.2 c.requires.within);
    }

pub masked_fields_weight-masked_weight-part-requires : goal.masked_fields_weight-masked_weight-part-requires
masked_fields_weight-masked_weight-part-requires t c =
    let part = sound_next c.args.view.bytes.now c.args.view.dictionaries.now c.args.fields.now c.children-children.result.now c.loop-i.i c.index-fields-i.result _ (c.args.from + c.args.count)
    (drop-item c.args.fields.now c.loop-i.i c.index-fields-i.result c.loop-i-test.true c.index-fields-i.is) (c.array_or.ensures c.args.view.bytes.now c.args.view.dictionaries.now) c.loop-i.invariant.sound in (
      search (rules, field_lemmas),
      (
        c.requires.empty,
        (part.1, (part.0, (sound_validity (structs (columns_of (map column_of c.args.fields.now))) (view_array c.args.view) c.requires.sound, c.requires.within))),
      ),
    )

pub masked_fields_weight-loop-i-preserved : goal.masked_fields_weight-loop-i-preserved
masked_fields_weight-loop-i-preserved t c =
    let bytes : List ℕ = c.args.view.bytes.now in
    let all = c.args.view.dictionaries.now in
    let fields = c.args.fields.now in
    let arrays = c.children-children.result.now in
    let item = drop-item fields c.loop-i.i c.index-fields-i.result c.loop-i-test.true c.index-fields-i.is in
    let array = c.array_or.ensures bytes all in
    let more = masked_next bytes all fields arrays c.loop-i.i c.index-fields-i.result (view_array c.args.view) _ c.args.from c.args.count item array in
    let total = next_total _ _ _ _ _ _ _ c.loop-i.invariant.sums more c.masked_weight-part.ensures c.add_weights-total.ensures in
    let others = sound_next bytes all fields arrays c.loop-i.i c.index-fields-i.result _ (c.args.from + c.args.count) item array c.loop-i.invariant.sound in
    record { sums = total.0; capped = total.1; sound = others.2 }

pub masked_fields_weight-returns : goal.masked_fields_weight-returns
masked_fields_weight-returns t c =
    let a : Array = view_array c.args.view in
    let none = masked_end c.args.fields.now c.loop-i.i a (placed_arrays c.args.view.bytes.now c.args.view.dictionaries.now (drop c.loop-i.i c.children-children.result.now)) c.args.from c.args.count
    c.loop-i-test.false in
    let whole = structs_masked (columns_of (map column_of c.args.fields.now)) a c.args.from c.args.count in
    omega (arith, none, whole, c.loop-i.invariant.sums, c.loop-i.invariant.capped, c.add_weights.ensures)

pub masked_weight-returns-then-not-may_vary : goal.masked_weight-returns-then-not-may_vary
masked_weight-returns-then-not-may_vary t c =
    let same : may_vary (kind_of c.args.field.now.data_type) ≡ false = sym c.may_vary.ensures ∙ c.if-not-may_vary.true in
    c.nulls_weight.ensures
    ∙ ap capped_weight (ap (λ (n : ℕ). c.args.count * n) (field_null c.args.field.now) ∙ sym (alike_masked c.args.field.now (view_array c.args.mask) (view_array c.args.view) c.args.from c.args.count same))

pub masked_weight-masked_sizes_weight-requires-clause-short : goal.masked_weight-masked_sizes_weight-requires-clause-short
masked_weight-masked_sizes_weight-requires-clause-short t c =
    sound_validity (kind_of c.args.field.now.data_type) (view_array c.args.view) (plain_sound c.args.field.now (view_array c.args.view) c.in-None-Some.is-0 c.requires.sound)

pub masked_weight-masked_sizes_weight-requires-clause-few : goal.masked_weight-masked_sizes_weight-requires-clause-few
masked_weight-masked_sizes_weight-requires-clause-few t c =
    let kind : Kind = kind_of c.args.field.now.data_type in
    let a : Array = view_array c.args.view in
    (sized_sound kind (width_of c.in-None-Some.sized.width) a (sym c.sized_type.ensures.width ∙ ap (option_map width_in) c.in-None-Some.is-1) (plain_sound c.args.field.now a c.in-None-Some.is-0 c.requires.sound)).0

pub masked_weight-masked_sizes_weight-requires-clause-ordered : goal.masked_weight-masked_sizes_weight-requires-clause-ordered
masked_weight-masked_sizes_weight-requires-clause-ordered t c =
    let kind : Kind = kind_of c.args.field.now.data_type in
    let a : Array = view_array c.args.view in
    (sized_sound kind (width_of c.in-None-Some.sized.width) a (sym c.sized_type.ensures.width ∙ ap (option_map width_in) c.in-None-Some.is-1) (plain_sound c.args.field.now a c.in-None-Some.is-0 c.requires.sound)).1

pub masked_weight-returns-in-None-Some : goal.masked_weight-returns-in-None-Some
masked_weight-returns-in-None-Some t c =
    let field : Field = c.args.field.now in
    let kind : Kind = kind_of field.data_type in
    let a : Array = view_array c.args.view in
    let w : ℕ = width_of c.in-None-Some.sized.width in
    let width : sized_width kind ≡ Some w = sym c.sized_type.ensures.width ∙ ap (option_map width_in) c.in-None-Some.is-1 in
    let all = masked_field_sizes field w (view_array c.args.mask) a c.args.from c.args.count c.in-None-Some.is-0 width (plain_sound field a c.in-None-Some.is-0 c.requires.sound) c.requires.within in
    reported_unit _ _ _ _ _ _ c.masked_sizes_weight.ensures (unit_of_type _ _ _ c.in-None-Some.is-1 c.sized_type.ensures.unit) all

pub masked_weight-loop-start-preserved-then-is_valid : goal.masked_weight-loop-start-preserved-then-is_valid
masked_weight-loop-start-preserved-then-is_valid t c =
    let column : Column = column_of c.args.field.now in
    let mask : Array = view_array c.args.mask in
    let a : Array = view_array c.args.view in
    let start : ℕ = c.loop-start.start in
    let next : ℕ = c.run_to-next.result in
    let seam = c.run_to-next.ensures in
    let more = masked_more column mask a start next (c.args.from + c.args.count) (omega (arith, seam.begins)) seam.ends in
    let valid = masked_valid_run column mask a start (next - start) (sym c.if-is_valid.ensures) (λ i from to. seam.alike i from (omega arith)) in
    let total = valid_more _ _ _ _ _ _ _ _ _ c.loop-start.invariant.sums more (c.span_weight-run.ensures ∙ ap capped_weight (sym valid)) c.add_weights-total.ensures in
    record { low = omega (arith, seam.begins, c.loop-start.invariant.low); within = seam.ends; few = omega (arith, seam.begins, c.loop-start.invariant.few); sums = total.0; capped = total.1 }

pub masked_weight-loop-start-preserved : goal.masked_weight-loop-start-preserved
masked_weight-loop-start-preserved t c =
    let column : Column = column_of c.args.field.now in
    let mask : Array = view_array c.args.mask in
    let a : Array = view_array c.args.view in
    let start : ℕ = c.loop-start.start in
    let next : ℕ = c.run_to-next.result in
    let seam = c.run_to-next.ensures in
    let more = masked_more column mask a start next (c.args.from + c.args.count) (omega (arith, seam.begins)) seam.ends in
    let hidden = masked_null_run column mask a start (next - start) (sym c.if-is_valid.ensures) (λ i from to. seam.alike i from (omega arith)) in
    let sums = nulls_more _ _ _ _ _ (next - start) _ c.loop-start.invariant.sums (more ∙ ap (λ (n : ℕ). n + masked_weight column mask a next (c.args.from + c.args.count - next)) hidden) in
    record {
      low = omega (arith, seam.begins, c.loop-start.invariant.low);
      within = seam.ends;
      few = omega (arith, seam.begins, c.loop-start.invariant.low, c.loop-start.invariant.few);
      sums = sums;
      capped = c.loop-start.invariant.capped;
    }

pub masked_weight-returns : goal.masked_weight-returns
masked_weight-returns t c =
    let none : c.args.from + c.args.count - c.loop-start.start ≡ 0 = omega (arith, c.loop-start-test.false) in
    let of_nulls = ap (λ (n : ℕ). c.loop-start.nulls * n) (field_null c.args.field.now) in
    omega (arith, rw none at c.loop-start.invariant.sums, c.loop-start.invariant.capped, of_nulls, c.nulls_weight-2.ensures, c.add_weights.ensures)

pub run_weight-is_valid-requires-clause-long : goal.run_weight-is_valid-requires-clause-long
run_weight-is_valid-requires-clause-long t c = sound_validity (kind_of c.args.field.now.data_type) (view_array c.args.view) c.requires.sound

pub run_weight-valid_weight-requires : goal.run_weight-valid_weight-requires
run_weight-valid_weight-requires t c =
    (search (rules, field_lemmas), (c.requires.empty, (c.requires.varied, (c.requires.sound, (c.requires.some, c.requires.within)))))

pub run_weight-returns-then-is_valid : goal.run_weight-returns-then-is_valid
run_weight-returns-then-is_valid t c =
    c.valid_weight.ensures
    ∙ ap capped_weight (sym (valid_run (kind_of c.args.field.now.data_type) (view_array c.args.view) c.args.from c.args.count (sym c.if-is_valid.ensures) c.requires.alike))

pub run_weight-returns-else-is_valid : goal.run_weight-returns-else-is_valid
run_weight-returns-else-is_valid t c =
    c.nulls_weight.ensures
    ∙ ap capped_weight (sym (null_run (kind_of c.args.field.now.data_type) (view_array c.args.view) c.args.from c.args.count (sym c.if-is_valid.ensures) c.requires.alike))

pub items_weight-span_weight-items-requires : goal.items_weight-span_weight-items-requires
items_weight-span_weight-items-requires t c =
    let a : Array = view_array c.args.view in (
      search (rules, field_lemmas),
      (
        c.requires.empty,
        (
          rw c.items_or.ensures c.requires.sound,
          rw (c.items_or.ensures, c.spanned-span.ensures.start, c.spanned-span.ensures.size)
              (spans_fit (width_of c.args.width) (slots_in (items_in a)) a c.args.from c.args.count c.requires.ordered (omega arith) c.requires.within),
        ),
      ),
    )

pub items_weight-returns : goal.items_weight-returns
items_weight-returns t c =
    let both = items_total (width_of c.args.width) (column_of c.args.item.now) (view_array c.args.view) (view_array c.items_or.result) c.args.from c.args.count _ _ _ _ c.items_or.ensures
    c.spanned-span.ensures.start c.spanned-span.ensures.size c.span_weight-items.ensures c.add_weights.ensures c.requires.ordered c.requires.some c.requires.within in
    record { lists = both.0; large_lists = both.1 }

pub fixed_items_weight-span_weight-items-requires : goal.fixed_items_weight-span_weight-items-requires
fixed_items_weight-span_weight-items-requires t c = (
  search (rules, field_lemmas),
  (
    c.requires.empty,
    (
      rw c.items_or.ensures c.requires.sound,
      rw c.items_or.ensures (fixed_within c.args.size c.args.from c.args.count (slots_in (view_array c.args.view)) (slots_in (items_in (view_array c.args.view))) c.requires.long c.requires.within),
    ),
  ),
)

pub fixed_items_weight-returns : goal.fixed_items_weight-returns
fixed_items_weight-returns t c =
    fixed_total c.args.size (column_of c.args.item.now) (view_array c.args.view) (view_array c.items_or.result) c.args.from c.args.count _ _ c.items_or.ensures c.span_weight-items.ensures c.add_weights.ensures

pub fields_weight-parts_weight-parts-requires : goal.fields_weight-parts_weight-parts-requires
fields_weight-parts_weight-parts-requires t c = (
  search (rules, field_lemmas),
  (
    c.requires.empty,
    rw c.children.ensures
        (fewer_sound (columns_of (map column_of c.args.fields.now)) (children_in (view_array c.args.view)) (slots_in (view_array c.args.view)) (c.args.from + c.args.count) c.requires.sound c.requires.within),
  ),
)

pub fields_weight-returns : goal.fields_weight-returns
fields_weight-returns t c =
    fields_total (columns_of (map column_of c.args.fields.now)) (view_array c.args.view) (placed_arrays c.args.view.bytes.now c.args.view.dictionaries.now c.children.result.now) c.args.from c.args.count _ _
    c.children.ensures c.parts_weight-parts.ensures c.add_weights.ensures

pub parts_weight-span_weight-part-requires : goal.parts_weight-span_weight-part-requires
parts_weight-span_weight-part-requires t c =
    let part = sound_next c.args.bytes.now c.args.dictionaries.now c.args.fields.now c.args.arrays.now c.loop-i.i c.index-fields-i.result _ (c.args.from + c.args.count)
    (drop-item c.args.fields.now c.loop-i.i c.index-fields-i.result c.loop-i-test.true c.index-fields-i.is) (c.array_or.ensures c.args.bytes.now c.args.dictionaries.now) c.loop-i.invariant.sound in (
      search (rules, field_lemmas),
      (c.requires.empty, (part.1, part.0)),
    )

pub parts_weight-loop-i-preserved : goal.parts_weight-loop-i-preserved
parts_weight-loop-i-preserved t c =
    let item = drop-item c.args.fields.now c.loop-i.i c.index-fields-i.result c.loop-i-test.true c.index-fields-i.is in
    let array = c.array_or.ensures c.args.bytes.now c.args.dictionaries.now in
    let more = parts_next c.args.bytes.now c.args.dictionaries.now c.args.fields.now c.args.arrays.now c.loop-i.i c.index-fields-i.result _ c.args.from c.args.count item array in
    let total = next_total _ _ _ _ _ _ _ c.loop-i.invariant.sums more c.span_weight-part.ensures c.add_weights-total.ensures in
    let others = sound_next c.args.bytes.now c.args.dictionaries.now c.args.fields.now c.args.arrays.now c.loop-i.i c.index-fields-i.result _ (c.args.from + c.args.count) item array c.loop-i.invariant.sound in
    record { sums = total.0; capped = total.1; sound = others.2 }

pub parts_weight-returns : goal.parts_weight-returns
parts_weight-returns t c =
    let none = parts_end c.args.fields.now c.loop-i.i (placed_arrays c.args.bytes.now c.args.dictionaries.now (drop c.loop-i.i c.args.arrays.now)) c.args.from c.args.count c.loop-i-test.false in
    omega (arith, none, c.loop-i.invariant.sums, c.loop-i.invariant.capped)

pub entries_weight-slots_weight-requires : goal.entries_weight-slots_weight-requires
entries_weight-slots_weight-requires t c =
    let kind : Kind = kind_of c.args.field.now.data_type in
    let entries : SizedSlots = c.in-Some.entries in
    let known : List ℕ = content_weights (width_of entries.width) (view_array entries.view) in
    let same = sym c.new-slots.ensures.view in (
      search (rules, field_lemmas),
      (
        c.requires.empty,
        (
          c.requires.varied,
          (
            subst (λ (v : ArrayView). list_all (is_kind_sound kind) (array_list (dictionary_in (view_array v))) ≡ true) same c.requires.sound,
            (
              subst (λ (v : ArrayView). c.args.from + c.args.count ≤ slots_in (view_array v)) same c.requires.within,
              subst (λ (v : ArrayView). AreEntryWeights kind (dictionary_in (view_array v)) known) same c.in-Some.ensures,
            ),
          ),
        ),
      ),
    )

pub entries_weight-returns-in-Some : goal.entries_weight-returns-in-Some
entries_weight-returns-in-Some t c =
    let kind : Kind = kind_of c.args.field.now.data_type in
    c.slots_weight.ensures
    ∙ λ j. capped_weight (sum_from (kind_weight kind) (unless_null (indexed_cell (index_of (c.new-slots.ensures.spec j)) kind) (view_array (c.new-slots.ensures.view j))) c.args.from c.args.count)

pub entries_weight-slots_weight-requires-then-count-few : goal.entries_weight-slots_weight-requires-then-count-few
entries_weight-slots_weight-requires-then-count-few t c =
    let kind : Kind = kind_of c.args.field.now.data_type in
    let same = sym c.new-slots.ensures.view in (
      search (rules, field_lemmas),
      (
        c.requires.empty,
        (
          c.requires.varied,
          (
            subst (λ (v : ArrayView). list_all (is_kind_sound kind) (array_list (dictionary_in (view_array v))) ≡ true) same c.requires.sound,
            (subst (λ (v : ArrayView). c.args.from + c.args.count ≤ slots_in (view_array v)) same c.requires.within, λ n lt. absurd (omega (arith, lt))),
          ),
        ),
      ),
    )

pub entries_weight-returns-then-count-few : goal.entries_weight-returns-then-count-few
entries_weight-returns-then-count-few t c =
    let kind : Kind = kind_of c.args.field.now.data_type in
    c.slots_weight-then-count-few.ensures
    ∙ λ j. capped_weight (sum_from (kind_weight kind) (unless_null (indexed_cell (index_of (c.new-slots.ensures.spec j)) kind) (view_array (c.new-slots.ensures.view j))) c.args.from c.args.count)

pub entries_weight-first_weights-first-requires : goal.entries_weight-first_weights-first-requires
entries_weight-first_weights-first-requires t c =
    (search (rules, field_lemmas), (c.first_count-few.ensures, (c.requires.empty, (c.requires.varied, c.requires.sound))))

pub entries_weight-slots_weight-requires-2 : goal.entries_weight-slots_weight-requires-2
entries_weight-slots_weight-requires-2 t c =
    let kind : Kind = kind_of c.args.field.now.data_type in
    let known : List ℕ = take c.first_count-few.result c.first_weights-first.result in
    let same = sym c.new-slots.ensures.view in (
      search (rules, field_lemmas),
      (
        c.requires.empty,
        (
          c.requires.varied,
          (
            subst (λ (v : ArrayView). list_all (is_kind_sound kind) (array_list (dictionary_in (view_array v))) ≡ true) same c.requires.sound,
            (
              subst (λ (v : ArrayView). c.args.from + c.args.count ≤ slots_in (view_array v)) same c.requires.within,
              subst (λ (v : ArrayView). AreEntryWeights kind (dictionary_in (view_array v)) known) same c.first_weights-first.ensures,
            ),
          ),
        ),
      ),
    )

pub entries_weight-returns : goal.entries_weight-returns
entries_weight-returns t c =
    let kind : Kind = kind_of c.args.field.now.data_type in
    c.slots_weight-2.ensures
    ∙ λ j. capped_weight (sum_from (kind_weight kind) (unless_null (indexed_cell (index_of (c.new-slots.ensures.spec j)) kind) (view_array (c.new-slots.ensures.view j))) c.args.from c.args.count)

pub slots_weight-slot_weight-entry-requires : goal.slots_weight-slot_weight-entry-requires
slots_weight-slot_weight-entry-requires t c = (
  search (rules, field_lemmas),
  (c.requires.empty, (c.requires.varied, (c.requires.sound, (omega (arith, c.loop-i-test.true, c.requires.within), c.requires.known)))),
)

pub slots_weight-returns : goal.slots_weight-returns
slots_weight-returns t c =
    let none : c.args.from + c.args.count - c.loop-i.i ≡ 0 = omega (arith, c.loop-i-test.false) in
    omega (arith, rw none at c.loop-i.invariant.sums, c.loop-i.invariant.capped)

pub slots_weight-returns-in-Some : goal.slots_weight-returns-in-Some
slots_weight-returns-in-Some t c =
    let kind : Kind = kind_of c.args.field.now.data_type in
    let one : 1 * kind_weight kind null ≡ kind_weight kind null = omega arith in
    c.in-Some.ensures kind c.requires.known (c.nulls_weight-of_null.ensures ∙ ap capped_weight one)

pub slots_weight-loop-i-preserved : goal.slots_weight-loop-i-preserved
slots_weight-loop-i-preserved t c =
    let kind : Kind = kind_of c.args.field.now.data_type in
    let more = slot_more (kind_weight kind) (unless_null (indexed_cell (index_of c.args.slots.spec) kind) (view_array c.args.slots.view)) c.loop-i.i (c.args.from + c.args.count) c.loop-i-test.true in
    let total = next_total _ _ _ _ _ _ _ c.loop-i.invariant.sums more c.slot_weight-entry.ensures c.add_weights-total.ensures in
    record { sums = total.0; capped = total.1 }

pub place_weight-run_weight-requires : goal.place_weight-run_weight-requires
place_weight-run_weight-requires t c =
    let kind : Kind = kind_of c.args.field.now.data_type in
    let place : IsSoundPlace kind (Some c.in-Some.entry) = subst (λ (found : Option EntryPlace). IsSoundPlace kind found) c.in-Some.is c.requires.sound in (
      search (rules, field_lemmas),
      (c.requires.empty, (c.requires.varied, (place.1, (omega arith, (omega (arith, place.0), λ i le lt. let e : i ≡ c.in-Some.entry.place = omega (arith, le, lt) in ap (is_valid (view_array c.in-Some.entry.view)) e))))),
    )

pub place_weight-returns-in-Some : goal.place_weight-returns-in-Some
place_weight-returns-in-Some t c =
    let kind : Kind = kind_of c.args.field.now.data_type in
    let a : Array = view_array c.in-Some.entry.view in
    c.run_weight.ensures
    ∙ ap capped_weight (one_slot (kind_weight kind) (unless_null (kind_cell kind) a) c.in-Some.entry.place)
    ∙ ap (λ (found : Option EntryPlace). capped_weight (kind_weight kind (located_cell kind found))) (sym c.in-Some.is)

pub place_weight-returns-in-None : goal.place_weight-returns-in-None
place_weight-returns-in-None t c =
    let kind : Kind = kind_of c.args.field.now.data_type in
    let one : 1 * kind_weight kind null ≡ kind_weight kind null = omega arith in
    c.nulls_weight.ensures ∙ ap capped_weight one ∙ ap (λ (found : Option EntryPlace). capped_weight (kind_weight kind (located_cell kind found))) (sym c.in-None.is)

pub first_weights-place_weight-requires : goal.first_weights-place_weight-requires
first_weights-place_weight-requires t c =
    let kind : Kind = kind_of c.args.field.now.data_type in
    let arrays : List Array = map (array_in c.args.view.bytes.now no_dictionary) c.dictionary-known.result.arrays.now in
    let same : list_all (is_kind_sound kind) arrays ≡ true =
    ap (list_all (is_kind_sound kind)) (sym (listed arrays)) ∙ ap (λ (d : Arrays). list_all (is_kind_sound kind) (array_list d)) c.dictionary-known.ensures ∙ c.requires.sound in (
      search (rules, field_lemmas),
      (c.requires.empty, (c.requires.varied, c.entry_place.ensures.sound kind same)),
    )

pub first_weights-loop-n-preserved : goal.first_weights-loop-n-preserved
first_weights-loop-n-preserved t c =
    let kind : Kind = kind_of c.args.field.now.data_type in
    let entries : List Cell = entries_of_kind kind (dictionary_in (view_array c.args.view)) in
    let n : ℕ = c.loop-n.n in
    let lt : n < 256 = omega (arith, c.loop-n-test.true, c.requires.few) in
    let own : c.place_weight.result ≡ capped_weight (kind_weight kind (get_or entries n null)) =
    c.place_weight.ensures
    ∙ ap (λ (x : Cell). capped_weight (kind_weight kind x)) (c.entry_place.ensures.cell kind ∙ ap (λ (d : Arrays). get_or (entries_of_kind kind d) n null) c.dictionary-known.ensures) in
    record {
      long = length-set c.loop-n.weights n c.place_weight.result ∙ c.loop-n.invariant.long;
      weights = λ m le.
          let within : n < length c.loop-n.weights = omega (arith, lt, c.loop-n.invariant.long) in
          elim (cases_lt m n) [
            | inl before ↦ get_or-set_other c.loop-n.weights n m c.place_weight.result 0 (omega arith) ∙ c.loop-n.invariant.weights m before
            | inr after ↦
                let here : m ≡ n = omega arith in
                ap (λ (j : ℕ). get_or (set c.loop-n.weights n c.place_weight.result) j 0) here
                ∙ get_or-set_same c.loop-n.weights n c.place_weight.result 0 within
                ∙ own
                ∙ ap (λ (j : ℕ). capped_weight (kind_weight kind (get_or entries j null))) (sym here)
          ];
    }

pub first_weights-returns : goal.first_weights-returns
first_weights-returns t c = λ m lt.
    let few : ℕ = c.args.few in
    let weights : List ℕ = c.loop-n.weights in
    let all : length (take few weights) ≡ few = length-take-le few weights (omega (arith, c.loop-n.invariant.long, c.requires.few)) in
    let within : m < few = omega (arith, lt, all) in
    get_or-take few weights m 0 within ∙ c.loop-n.invariant.weights m (omega (arith, within, c.loop-n-test.false))

pub slot_weight-returns-in-Some : goal.slot_weight-returns-in-Some
slot_weight-returns-in-Some t c =
    let kind : Kind = kind_of c.args.field.now.data_type in
    let valid : is_valid (view_array c.args.slots.view) c.args.i ≡ true = sym c.if-not-is_valid.ensures in
    c.at.ensures ∙ known_weight kind (index_of c.args.slots.spec) (view_array c.args.slots.view) c.args.i c.in-Some.number (weights_in c.args.known) valid (sym c.in-Some.is ∙ c.number.ensures) c.requires.known (omega (arith, c.count.ensures))

pub slot_weight-place_weight-requires : goal.slot_weight-place_weight-requires
slot_weight-place_weight-requires t c = (
  search (rules, field_lemmas),
  (c.requires.empty, (c.requires.varied, c.indexed_entry.ensures.sound (kind_of c.args.field.now.data_type) c.requires.sound)),
)

pub slot_weight-returns-in_default : goal.slot_weight-returns-in_default
slot_weight-returns-in_default t c =
    let kind : Kind = kind_of c.args.field.now.data_type in
    let valid : is_valid (view_array c.args.slots.view) c.args.i ≡ true = sym c.if-not-is_valid.ensures in
    c.place_weight.ensures
    ∙ valid_weighs kind (index_of c.args.slots.spec) (view_array c.args.slots.view) c.args.i (located_cell kind c.indexed_entry.result) valid (c.indexed_entry.ensures.cell kind)
