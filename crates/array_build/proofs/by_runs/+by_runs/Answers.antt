use Rattle.std.specs.Prelude.{None, is_some}
use Rattle.std.specs.List.{flat_map}
use Rattle.std.proofs.Common.{◌≡◌, ◌*◌, true, ◌∙◌, ℕ, List, [], map, ap, ap₂, refl, subst, sym, rules}
use Rattle.std.proofs.lemmas.Result.{on_ok_weaker}
use Rattle.array_build.proofs.MaskedLists.{masked_list_runs_are}
use Rattle.dictionary_codes.specs.laws.MaskedRuns.{cells_without, no_mask}
use Rattle.array_build.proofs.RunColumns.{field_built, field_fits, field_sound, have_validity}
use Rattle.batch_build.specs.laws.Premises.{items_can_be_built, fixed_items_can_be_built}
use Rattle.array_build.proofs.RunFixedItems.{fixed_list_runs_are, item_masked}
use Rattle.array_build.proofs.RunItems.{list_runs_are}
use Rattle.array_build.proofs.RunParts.{all_behind, no_field, parts_can_be_masked, place_built, place_next, struct_runs_are}
use Rattle.array_build.proofs.by_runs.+by_runs.Goals as goal
use Rattle.batch_build.specs.Batch.{batch_in, built_at, plain_column, with_arrays}
use Rattle.dictionary_codes.specs.Masks.{IsMask, bitmap_bits, masked_cells, slots_mask, bitmap_of}
use Rattle.array_build.specs.inner.Masked.{masked_kind}
use Rattle.batch_build.specs.Nodes.{list_kind, with_buffer}
use Rattle.array_build.specs.inner.RunItems.{fixed_column}
use Rattle.array_build.specs.inner.Runs.{AreAsWritten, kind_cells}
use Rattle.columns.specs.Runs.{are_runs_sound, runs_cells}
use Rattle.columns.specs.declared.slot_runs.SlotRun.{SlotRun}
use Rattle.arrow_schema.specs.Column.{Column, Columns, Kind, columns_of, fixed_lists, structs}
use Rattle.arrow_schema.specs.View.{column_of, kind_of}
use Rattle.arrow_schema.specs.declared.types.Field.{Field, the_lemmas as field_lemmas}
use Rattle.cells.specs.Cell.{Cell}
use Rattle.cells.specs.Dictionary.{item_list}
use Rattle.columns.specs.Buildable.{can_build}
use Rattle.columns.specs.Offsets.{contents_width}
use Rattle.facts.specs.laws.Lists.{drop-item}

-- ---- structs

pub build_run_structs-push_masked_slots-requires : goal.build_run_structs-push_masked_slots-requires
build_run_structs-push_masked_slots-requires t c = record {
  validity = have_validity (structs (columns_of (map column_of c.args.fields.now))) c.args.runs.now c.requires.sound;
  mask = c.requires.mask;
}

pub build_run_structs-build_struct_parts-requires : goal.build_run_structs-build_struct_parts-requires
build_run_structs-build_struct_parts-requires t c =
    let cs : Columns = columns_of (map column_of c.args.fields.now) in
    let below = c.in_ok-below.ensures in
    let value = c.deref.ensures.value in (
      search (rules, field_lemmas),
      (
        c.requires.sound,
        (
          subst (λ (mask : List ℕ). IsMask mask c.args.runs.now) (sym value) below.below,
          parts_can_be_masked cs c.args.mask.now c.deref.result.now c.args.runs.now (ap (λ (mask : List ℕ). slots_mask mask c.args.runs.now) value ∙ below.bits) c.requires.fits,
        ),
      ),
    )

pub build_run_structs-returns : goal.build_run_structs-returns
build_run_structs-returns t c =
    let bits = ap (λ (mask : List ℕ). slots_mask mask c.args.runs.now) c.deref.ensures.value ∙ c.in_ok-below.ensures.bits in
    on_ok_weaker c.build_struct_parts.result
    (λ h. h ∙ struct_runs_are (batch_in c.args.batch.now) (batch_in c.push_masked_slots.new.batch) (columns_of (map column_of c.args.fields.now)) c.args.mask.now c.deref.result.now c.args.runs.now
    bits c.in_ok-below.ensures.batch)
    c.build_struct_parts.ensures

-- ---- the fields of structs, one after another

pub build_struct_parts-loop-place-init : goal.build_struct_parts-loop-place-init
build_struct_parts-loop-place-init t c = record {
  behind = all_behind (columns_of (map column_of c.args.fields.now)) (slots_mask c.args.mask.now c.args.runs.now) c.args.runs.now c.requires.sound c.requires.fits;
  batch = refl;
}

pub build_struct_parts-build_run_column-requires : goal.build_struct_parts-build_run_column-requires
build_struct_parts-build_run_column-requires t c =
    let field : Field = c.index-fields-place.result in
    let mask : List ℕ = c.args.mask.now in
    let item = drop-item c.args.fields.now c.loop-place.place field c.loop-place-test.true c.index-fields-place.is in
    let next = place_next c.args.fields.now c.loop-place.place field mask c.args.runs.now c.in_ok-part.part.items item c.in_ok-part.ensures c.requires.mask c.loop-place.invariant.behind in (
      search (rules, field_lemmas),
      (
        subst (λ (runs : List SlotRun). are_runs_sound (column_of field) runs ≡ true) (sym c.deref.ensures.value) next.sound,
        (
          subst (λ (runs : List SlotRun). IsMask mask runs) (sym c.deref.ensures.value) next.whole,
          subst (λ (runs : List SlotRun). can_build (column_of field) (masked_cells (column_of field) mask runs) ≡ true) (sym c.deref.ensures.value) next.fits,
        ),
      ),
    )

pub build_struct_parts-loop-place-preserved : goal.build_struct_parts-loop-place-preserved
build_struct_parts-loop-place-preserved t c =
    let field : Field = c.index-fields-place.result in
    let mask : List ℕ = c.args.mask.now in
    let part : List SlotRun = c.in_ok-part.part.items in
    let item = drop-item c.args.fields.now c.loop-place.place field c.loop-place-test.true c.index-fields-place.is in
    let next = place_next c.args.fields.now c.loop-place.place field mask c.args.runs.now part item c.in_ok-part.ensures c.requires.mask c.loop-place.invariant.behind in
    let built = c.in_ok-build_run_column.ensures
    ∙ ap (λ (runs : List SlotRun). with_arrays (batch_in c.loop-place.batch) (built_at (column_of field) (masked_cells (column_of field) mask runs))) c.deref.ensures.value in
    record {
      behind = next.behind;
      batch = place_built c.args.fields.now c.loop-place.place field mask c.args.runs.now part (batch_in c.loop-place.batch) (batch_in c.build_run_column.new.batch) item next built
          ∙ c.loop-place.invariant.batch;
    }

pub build_struct_parts-returns : goal.build_struct_parts-returns
build_struct_parts-returns t c =
    sym (no_field c.args.fields.now c.loop-place.place (slots_mask c.args.mask.now c.args.runs.now) c.args.runs.now (batch_in c.loop-place.batch) c.loop-place-test.false) ∙ c.loop-place.invariant.batch

-- ---- lists

pub build_run_lists-push_run_slots-requires : goal.build_run_lists-push_run_slots-requires
build_run_lists-push_run_slots-requires t c = have_validity (list_kind c.args.width (column_of c.args.item.now)) c.args.runs.now c.requires.ready.sound

pub build_run_lists-build_run_column-requires : goal.build_run_lists-build_run_column-requires
build_run_lists-build_run_column-requires t c =
    let item : Column = column_of c.args.item.now in
    let cells : List Cell = kind_cells (list_kind c.args.width item) c.args.runs.now in
    let below : runs_cells item c.deref.result.now ≡ flat_map item_list cells = ap (runs_cells item) c.deref.ensures.value ∙ c.in_ok-items.ensures.cells in (
      search (rules, field_lemmas),
      (
        ap (are_runs_sound item) c.deref.ensures.value ∙ c.in_ok-items.ensures.sound,
        (no_mask [] c.deref.result.now refl, ap (can_build item) (cells_without item [] c.deref.result.now refl ∙ below) ∙ items_can_be_built c.args.width item cells c.requires.ready.fit),
      ),
    )

pub build_run_lists-returns : goal.build_run_lists-returns
build_run_lists-returns t c =
    let item : Column = column_of c.args.item.now in
    let below : runs_cells item c.deref.result.now ≡ flat_map item_list (kind_cells (list_kind c.args.width item) c.args.runs.now) = ap (runs_cells item) c.deref.ensures.value ∙ c.in_ok-items.ensures.cells in
    on_ok_weaker c.build_run_column.result
    (λ h. h ∙ ap (λ (cells : List Cell). with_arrays (batch_in c.push_any_buffer.new.batch) (built_at item cells)) (cells_without item [] c.deref.result.now refl)
    ∙ list_runs_are (batch_in c.args.batch.now) (batch_in c.push_run_slots.new.batch) (batch_in c.push_any_buffer.new.batch) c.args.width item c.args.runs.now c.deref.result.now _
    below c.in_ok-offsets.ensures c.in_ok-push_run_slots.ensures (c.in_ok-push_any_buffer.ensures ∙ ap (with_buffer (batch_in c.push_run_slots.new.batch)) c.kept_buffer.ensures))
    c.build_run_column.ensures

pub build_masked_lists-push_masked_lists-requires : goal.build_masked_lists-push_masked_lists-requires
build_masked_lists-push_masked_lists-requires t c = record { sound = c.requires.sound; mask = c.requires.mask; fits = c.requires.fits }

pub build_masked_lists-build_run_column-requires : goal.build_masked_lists-build_run_column-requires
build_masked_lists-build_run_column-requires t c =
    let item : Column = column_of c.args.item.now in
    let cells : List Cell = masked_kind (list_kind c.args.width item) c.args.mask.now c.args.runs.now in
    let below : runs_cells item c.deref.result.now ≡ flat_map item_list cells = ap (runs_cells item) c.deref.ensures.value ∙ c.in_ok-items.ensures.cells in (
      search (rules, field_lemmas),
      (
        ap (are_runs_sound item) c.deref.ensures.value ∙ c.in_ok-items.ensures.sound,
        (no_mask [] c.deref.result.now refl, ap (can_build item) (cells_without item [] c.deref.result.now refl ∙ below) ∙ items_can_be_built c.args.width item cells c.requires.fits),
      ),
    )

pub build_masked_lists-returns : goal.build_masked_lists-returns
build_masked_lists-returns t c =
    let item : Column = column_of c.args.item.now in
    let below : runs_cells item c.deref.result.now ≡ flat_map item_list (masked_kind (list_kind c.args.width item) c.args.mask.now c.args.runs.now)
    = ap (runs_cells item) c.deref.ensures.value ∙ c.in_ok-items.ensures.cells in
    on_ok_weaker c.build_run_column.result
    (λ h. h ∙ ap (λ (cells : List Cell). with_arrays (batch_in c.push_masked_lists.new.batch) (built_at item cells)) (cells_without item [] c.deref.result.now refl)
    ∙ masked_list_runs_are (batch_in c.args.batch.now) (batch_in c.push_masked_lists.new.batch) c.args.width item c.args.mask.now c.args.runs.now c.deref.result.now below c.in_ok-items.ensures.batch)
    c.build_run_column.ensures

pub build_run_fixed_lists-push_masked_slots-requires : goal.build_run_fixed_lists-push_masked_slots-requires
build_run_fixed_lists-push_masked_slots-requires t c = record {
  validity = have_validity (fixed_lists c.args.size (column_of c.args.item.now)) c.args.runs.now c.requires.sound;
  mask = c.requires.mask;
}

pub build_run_fixed_lists-fixed_item_runs-requires : goal.build_run_fixed_lists-fixed_item_runs-requires
build_run_fixed_lists-fixed_item_runs-requires t c = c.requires.sound

pub build_run_fixed_lists-item_mask-requires : goal.build_run_fixed_lists-item_mask-requires
build_run_fixed_lists-item_mask-requires t c =
    c.deref.ensures.value ∙ c.in_ok-below.ensures.below
    ∙ ap₂ (λ (mask : List ℕ) (n : ℕ). bitmap_of (bitmap_bits mask n)) (sym c.deref.ensures.value) (sym c.in_ok-slots.ensures)

pub build_run_fixed_lists-build_run_column-requires : goal.build_run_fixed_lists-build_run_column-requires
build_run_fixed_lists-build_run_column-requires t c =
    let size : ℕ = c.args.size in
    let item : Column = column_of c.args.item.now in
    let mask : List ℕ = c.args.mask.now in
    let runs : List SlotRun = c.args.runs.now in
    let is = ap (λ (below : List ℕ). slots_mask below runs) c.deref.ensures.value ∙ c.in_ok-below.ensures.bits in
    let cells = ap (runs_cells item) c.deref-2.ensures.value ∙ c.in_ok-items.ensures.cells in
    let bits = ap (λ (own : List ℕ). bitmap_bits own (c.in_ok-slots.slots * size)) c.deref-3.ensures.value ∙ c.in_ok-items_mask.ensures.bits in
    let both = item_masked size item mask c.deref.result.now c.deref-3.result.now c.in_ok-slots.slots runs c.deref-2.result.now c.in_ok-slots.ensures is cells
    (c.deref-3.ensures.value ∙ c.in_ok-items_mask.ensures.exact) bits in (
      search (rules, field_lemmas),
      (
        ap (are_runs_sound item) c.deref-2.ensures.value ∙ c.in_ok-items.ensures.sound,
        (both.0, ap (can_build item) both.1 ∙ fixed_items_can_be_built size item (masked_cells (fixed_column size item) mask runs) c.requires.fits),
      ),
    )

pub build_run_fixed_lists-returns : goal.build_run_fixed_lists-returns
build_run_fixed_lists-returns t c =
    let size : ℕ = c.args.size in
    let item : Column = column_of c.args.item.now in
    let mask : List ℕ = c.args.mask.now in
    let runs : List SlotRun = c.args.runs.now in
    let is = ap (λ (below : List ℕ). slots_mask below runs) c.deref.ensures.value ∙ c.in_ok-below.ensures.bits in
    let cells = ap (runs_cells item) c.deref-2.ensures.value ∙ c.in_ok-items.ensures.cells in
    let bits = ap (λ (own : List ℕ). bitmap_bits own (c.in_ok-slots.slots * size)) c.deref-3.ensures.value ∙ c.in_ok-items_mask.ensures.bits in
    let both = item_masked size item mask c.deref.result.now c.deref-3.result.now c.in_ok-slots.slots runs c.deref-2.result.now c.in_ok-slots.ensures is cells
    (c.deref-3.ensures.value ∙ c.in_ok-items_mask.ensures.exact) bits in
    on_ok_weaker c.build_run_column.result
    (λ h. h ∙ fixed_list_runs_are (batch_in c.args.batch.now) (batch_in c.push_masked_slots.new.batch) size item mask runs (masked_cells item c.deref-3.result.now c.deref-2.result.now) both.1
    c.in_ok-below.ensures.batch)
    c.build_run_column.ensures

-- ---- a type, and a field

pub build_written_kind-build_list_kind-requires : goal.build_written_kind-build_list_kind-requires
build_written_kind-build_list_kind-requires t c =
    let contents : contents_width (kind_of c.args.data_type.now) ≡ None = sym c.in-None.ensures in
    (search (rules, field_lemmas), (contents, (c.requires.offsets, c.requires.ready)))

pub build_offsets_kind-build_written_kind-requires : goal.build_offsets_kind-build_written_kind-requires
build_offsets_kind-build_written_kind-requires t c =
    let kind : Kind = kind_of c.args.data_type.now in
    let none = c.are_copied.ensures.mask c.if-are_copied.true in
    let cells = cells_without (plain_column kind None) c.args.mask.now c.args.runs.now none in
    let ready : AreAsWritten kind c.args.runs.now = record {
      sound = c.requires.sound;
      written = c.are_copied.ensures.written c.if-are_copied.true;
      fit = ap (can_build (plain_column kind None)) (sym cells) ∙ c.requires.fits;
    } in
    (search (rules, field_lemmas), (c.requires.offsets, ready))

pub build_offsets_kind-returns-then-are_copied : goal.build_offsets_kind-returns-then-are_copied
build_offsets_kind-returns-then-are_copied t c =
    let kind : Kind = kind_of c.args.data_type.now in
    let none = c.are_copied.ensures.mask c.if-are_copied.true in
    let cells = cells_without (plain_column kind None) c.args.mask.now c.args.runs.now none in
    on_ok_weaker c.build_written_kind.result (λ h. h ∙ ap (λ (xs : List Cell). with_arrays (batch_in c.args.batch.now) (built_at (plain_column kind None) xs)) (sym cells)) c.build_written_kind.ensures

pub build_offsets_kind-build_masked_list_kind-requires : goal.build_offsets_kind-build_masked_list_kind-requires
build_offsets_kind-build_masked_list_kind-requires t c =
    (search (rules, field_lemmas), (sym c.in-None.ensures, (c.requires.offsets, (c.requires.sound, (c.requires.mask, c.requires.fits)))))

pub build_wide_kind-build_offsets_kind-requires : goal.build_wide_kind-build_offsets_kind-requires
build_wide_kind-build_offsets_kind-requires t c = (search (rules, field_lemmas), (ap is_some (sym c.in-Some.ensures), (c.requires.sound, (c.requires.mask, c.requires.fits))))

pub build_wide_kind-build_other_kind-requires : goal.build_wide_kind-build_other_kind-requires
build_wide_kind-build_other_kind-requires t c = (search (rules, field_lemmas), (c.requires.values, (sym c.in-None.ensures, (c.requires.sound, (c.requires.mask, c.requires.fits)))))

pub build_run_kind-build_wide_kind-requires : goal.build_run_kind-build_wide_kind-requires
build_run_kind-build_wide_kind-requires t c = (search (rules, field_lemmas), (sym c.in-None.ensures, (c.requires.sound, (c.requires.mask, c.requires.fits))))

pub build_run_column-build_run_kind-requires : goal.build_run_column-build_run_kind-requires
build_run_column-build_run_kind-requires t c =
    let none = c.in-None.is in (
      search (rules, field_lemmas),
      (field_sound c.args.field.now c.args.runs.now none c.requires.sound, (c.requires.mask, field_fits c.args.field.now c.args.mask.now c.args.runs.now none c.requires.fits)),
    )

pub build_run_column-returns-in-None : goal.build_run_column-returns-in-None
build_run_column-returns-in-None t c =
    on_ok_weaker c.build_run_kind.result
    (λ h. h ∙ field_built (batch_in c.args.batch.now) c.args.field.now c.args.mask.now c.args.runs.now c.in-None.is)
    c.build_run_kind.ensures
