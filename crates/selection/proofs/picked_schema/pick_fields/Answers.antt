use Rattle.std.proofs.Common.{refl, sym, ap, ◌∙◌, get_or, length, map, arith}
use Rattle.std.specs.Prelude.{Some, option_map}
use Rattle.std.proofs.lemmas.Option.{slice_get-map, slice_get_past, slice_get_read}
use Rattle.arrow_schema.specs.View.{column_of}
use Rattle.selection.proofs.PickedPlaces.{one_picked, none_picked, all_picked}
use Rattle.selection.proofs.picked_schema.pick_fields.Goals as goal

pub loop-place-preserved-then-place-fields : goal.loop-place-preserved-then-place-fields
loop-place-preserved-then-place-fields c =
    let fields = c.args.fields.now in
    let place = get_or c.args.places.now c.loop-place.place-index 0 in
    let none = slice_get-map column_of fields place ∙ ap (option_map column_of) (slice_get_past fields place (omega (arith, c.if-place-fields.true))) in
    record {
      columns = none_picked column_of c.args.places.now c.loop-place.place-index (map column_of fields) c.loop-place.picked.items c.loop-place.picked.items _ c.loop-place-test.true none refl
          c.loop-place.invariant.columns;
      len = omega (arith, c.loop-place.invariant.len);
      room = c.loop-place.invariant.room;
    }

pub loop-place-preserved : goal.loop-place-preserved
loop-place-preserved c =
    let fields = c.args.fields.now in
    let place = get_or c.args.places.now c.loop-place.place-index 0 in
    let copy = c.in_ok-copy.field-0 in
    let field = slice_get_read fields (length fields) place c.index-fields-place.result refl (omega (arith, c.if-place-fields.false)) c.index-fields-place.is in
    let there = slice_get-map column_of fields place ∙ ap (option_map column_of) field ∙ ap Some (sym c.in_ok-copy.ensures) in
    record {
      columns = one_picked column_of c.args.places.now c.loop-place.place-index (map column_of fields) c.loop-place.picked.items _ copy _ c.loop-place-test.true there
          c.push_reserved.ensures.items c.loop-place.invariant.columns;
      len = omega (arith, c.push_reserved.ensures.len, c.loop-place.invariant.len);
      room = omega (arith, c.push_reserved.ensures.capacity, c.loop-place.invariant.room);
    }

pub returns : goal.returns
returns c =
    all_picked column_of c.args.places.now c.loop-place.place-index (map column_of c.args.fields.now) c.loop-place.picked.items _ c.loop-place-test.false c.loop-place.invariant.columns
