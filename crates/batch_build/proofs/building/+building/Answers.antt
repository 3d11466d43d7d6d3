use Rattle.std.specs.Prelude.{OnOk, None, string_bytes}
use Rattle.std.proofs.Common.{◌≡◌, ◌∙◌, List, length, map, ap, sym, subst, rules}
use Rattle.std.proofs.lemmas.List.{length-map}
use Rattle.std.proofs.lemmas.Result.{on_ok_weaker}
use Rattle.arrow_schema.specs.Column.{Kind, columns_of, timestamps, lists, large_lists, fixed_lists, structs}
use Rattle.arrow_schema.specs.declared.types.Field.{Field, the_lemmas as field_lemmas}
use Rattle.arrow_schema.specs.View.{column_of, kind_of, index_of, time_kind}
use Rattle.facts.specs.laws.Lists.{drop-item}
use Rattle.cells.specs.Cell.{Cell}
use Rattle.cells.specs.Dictionary.{part_list}
use Rattle.columns.specs.Buildable.{can_build}
use Rattle.columns.specs.Borrowed.{borrowed_cell}
use Rattle.batch_build.specs.Batch.{PlainBatch, batch_in, built_at, dictionary_in, plain_column, with_arrays}
use Rattle.batch_build.specs.laws.Arrays.{timestamps_are}
use Rattle.batch_build.specs.laws.Fields.{plain_can_be_built, dictionary_can_be_built, kind_can, kind_arrays, plain_field, timestamp_kind}
use Rattle.batch_build.proofs.PartColumns.{field_can, field_arrays, last_field}
use Rattle.batch_build.specs.laws.Premises.{timestamps_fit}
use Rattle.batch_build.specs.laws.Coded.{values_built, dictionary_built, entries_can}
use Rattle.batch_build.proofs.building.+building.Goals as goal

pub build_column-build_kind-requires : goal.build_column-build_kind-requires
build_column-build_kind-requires t c = (search (rules, field_lemmas), plain_can_be_built c.args.field.now (map borrowed_cell c.args.cells.now) c.in-None.is c.requires)

pub build_column-build_dictionary-requires : goal.build_column-build_dictionary-requires
build_column-build_dictionary-requires t c =
    (search (rules, field_lemmas), dictionary_can_be_built c.args.field.now c.in-Some.dictionary (map borrowed_cell c.args.cells.now) c.in-Some.is c.requires)

pub build_kind-build_lists-requires : goal.build_kind-build_lists-requires
build_kind-build_lists-requires t c =
    let kind : kind_of c.args.data_type.now ≡ lists (column_of c.deref.result.now) = rw (c.deref.ensures, c.in-List.is) (search (rules, field_lemmas)) in
    (search (rules, field_lemmas), kind_can (map borrowed_cell c.args.cells.now) kind c.requires)

pub build_kind-build_lists-requires-in-LargeList : goal.build_kind-build_lists-requires-in-LargeList
build_kind-build_lists-requires-in-LargeList t c =
    let kind : kind_of c.args.data_type.now ≡ large_lists (column_of c.deref-in-LargeList.result.now) = rw (c.deref-in-LargeList.ensures, c.in-LargeList.is) (search (rules, field_lemmas)) in
    (search (rules, field_lemmas), kind_can (map borrowed_cell c.args.cells.now) kind c.requires)

pub build_kind-build_fixed_lists-requires : goal.build_kind-build_fixed_lists-requires
build_kind-build_fixed_lists-requires t c =
    let kind : kind_of c.args.data_type.now ≡ fixed_lists c.in-FixedSizeList.size (column_of c.deref-in-FixedSizeList.result.now) = rw (c.deref-in-FixedSizeList.ensures, c.in-FixedSizeList.is) (search (rules, field_lemmas)) in
    (search (rules, field_lemmas), kind_can (map borrowed_cell c.args.cells.now) kind c.requires)

pub build_kind-build_structs-requires : goal.build_kind-build_structs-requires
build_kind-build_structs-requires t c =
    let kind : kind_of c.args.data_type.now ≡ structs (columns_of (map column_of c.deref-in-Struct.result.now)) = rw (c.deref-in-Struct.ensures.value, c.in-Struct.is) (search (rules, field_lemmas)) in
    (search (rules, field_lemmas), kind_can (map borrowed_cell c.args.cells.now) kind c.requires)

pub build_kind-build_timestamps-requires : goal.build_kind-build_timestamps-requires
build_kind-build_timestamps-requires t c =
    let kind : kind_of c.args.data_type.now ≡ timestamps (time_kind c.in-Timestamp.field-0) (string_bytes c.in-Timestamp.field-1) = ap kind_of c.in-Timestamp.is ∙ timestamp_kind c.in-Timestamp.field-0 c.in-Timestamp.field-1 in
    timestamps_fit (time_kind c.in-Timestamp.field-0) (string_bytes c.in-Timestamp.field-1) (map borrowed_cell c.args.cells.now) (kind_can (map borrowed_cell c.args.cells.now) kind c.requires)

pub build_kind-returns-in-Timestamp : goal.build_kind-returns-in-Timestamp
build_kind-returns-in-Timestamp t c =
    let kind : kind_of c.args.data_type.now ≡ timestamps (time_kind c.in-Timestamp.field-0) (string_bytes c.in-Timestamp.field-1) = ap kind_of c.in-Timestamp.is ∙ timestamp_kind c.in-Timestamp.field-0 c.in-Timestamp.field-1 in
    on_ok_weaker c.build_timestamps.result
    (λ h. h ∙ timestamps_are (time_kind c.in-Timestamp.field-0) (string_bytes c.in-Timestamp.field-1) (batch_in c.args.batch.now) (map borrowed_cell c.args.cells.now)
    ∙ kind_arrays (batch_in c.args.batch.now) (map borrowed_cell c.args.cells.now) kind)
    c.build_timestamps.ensures

pub build_column-returns-in-None : goal.build_column-returns-in-None
build_column-returns-in-None t c =
    on_ok_weaker c.build_kind.result (λ h. h ∙ plain_field (batch_in c.args.batch.now) c.args.field.now (map borrowed_cell c.args.cells.now) c.in-None.is) c.build_kind.ensures

pub build_parts-build_column-requires : goal.build_parts-build_column-requires
build_parts-build_column-requires t c =
    let fields : List Field = c.args.fields.now in
    let field : Field = c.index-fields-place.result in
    let item = drop-item fields c.loop-place.place field c.loop-place-test.true c.index-fields-place.is in
    let here = field_can fields c.loop-place.place field (map part_list (map borrowed_cell c.args.cells.now)) item c.loop-place.invariant.can in
    (search (rules, field_lemmas), ap (can_build (column_of field)) (ap (map borrowed_cell) c.deref.ensures.value ∙ c.in_ok-parts.ensures) ∙ here.0)

pub build_parts-loop-place-preserved : goal.build_parts-loop-place-preserved
build_parts-loop-place-preserved t c =
    let fields : List Field = c.args.fields.now in
    let field : Field = c.index-fields-place.result in
    let rows : List (List Cell) = map part_list (map borrowed_cell c.args.cells.now) in
    let before : PlainBatch = batch_in c.loop-place.batch in
    let item = drop-item fields c.loop-place.place field c.loop-place-test.true c.index-fields-place.is in
    let built = c.in_ok-build_column.ensures
    ∙ ap (λ (xs : List Cell). with_arrays before (built_at (column_of field) xs)) (ap (map borrowed_cell) c.deref.ensures.value ∙ c.in_ok-parts.ensures) in
    record {
      can = (field_can fields c.loop-place.place field rows item c.loop-place.invariant.can).1;
      batch = field_arrays fields c.loop-place.place field rows before (batch_in c.build_column.new.batch) item built ∙ c.loop-place.invariant.batch;
    }

pub build_parts-returns : goal.build_parts-returns
build_parts-returns t c =
    sym (last_field c.args.fields.now c.loop-place.place (map part_list (map borrowed_cell c.args.cells.now)) (batch_in c.loop-place.batch) c.loop-place-test.false) ∙ c.loop-place.invariant.batch

pub build_values-returns : goal.build_values-returns
build_values-returns t c =
    let kind : Kind = kind_of c.args.data_type.now in
    let entries : List Cell = map borrowed_cell c.args.entries.now in
    let alone = c.in_ok-build_kind.ensures ∙ ap (λ (p : PlainBatch). with_arrays p (built_at (plain_column kind None) entries)) c.empty_batch-batch.ensures in
    c.values_of.ensures ∙ values_built kind entries (length c.args.entries.now) (batch_in c.build_kind.new.batch) (sym (length-map c.args.entries.now borrowed_cell)) alone

pub build_dictionary-build_values-requires : goal.build_dictionary-build_values-requires
build_dictionary-build_values-requires t c =
    let kind : Kind = kind_of c.args.data_type.now in
    let entries = ap (map borrowed_cell) c.deref.ensures.value ∙ c.in_ok-entries.ensures.entries in
    (search (rules, field_lemmas), ap (can_build (plain_column kind None)) entries ∙ entries_can kind (index_of c.args.dictionary) (map borrowed_cell c.args.cells.now) c.requires)

pub build_dictionary-returns : goal.build_dictionary-returns
build_dictionary-returns t c =
    let kind : Kind = kind_of c.args.data_type.now in
    let cells : List Cell = map borrowed_cell c.args.cells.now in
    let entries = ap (map borrowed_cell) c.deref.ensures.value ∙ c.in_ok-entries.ensures.entries in
    let built = dictionary_built kind (index_of c.args.dictionary) cells (map borrowed_cell c.deref.result.now) (batch_in c.args.batch.now) (batch_in c.push_indices.new.batch)
    (dictionary_in c.in_ok-values.values) entries c.in_ok-entries.ensures.batch c.in_ok-values.ensures in
    subst (λ (p : PlainBatch). OnOk c.push_dictionary.result (batch_in c.push_dictionary.new.batch ≡ p)) built c.push_dictionary.ensures
