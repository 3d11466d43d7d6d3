use Rattle.std.specs.Prelude.{OnOk, None, is_some}
use Rattle.std.proofs.Common.{◌≡◌, ◌∙◌, List, ap, map, subst}
use Rattle.arrow_schema.specs.Column.{Kind}
use Rattle.arrow_schema.specs.View.{column_of, index_of, kind_of}
use Rattle.batch_build.specs.laws.Coded.{dictionary_built, entries_can}
use Rattle.array_build.proofs.CodedFields.{field_coded}
use Rattle.batch_build.specs.laws.Fields.{dictionary_can_be_built, dictionary_field}
use Rattle.array_build.proofs.by_runs.build_coded_column.Goals as goal
use Rattle.batch_build.specs.Batch.{PlainBatch, batch_in, dictionary_in, plain_column}
use Rattle.dictionary_codes.specs.Masks.{masked_cells}
use Rattle.cells.specs.Cell.{Cell}
use Rattle.columns.specs.Buildable.{can_build}
use Rattle.cells.specs.Entry.{entry_cell}

pub push_run_indices-requires-clause-coded : goal.push_run_indices-requires-clause-coded
push_run_indices-requires-clause-coded c =
    field_coded c.args.field.now (masked_cells (column_of c.args.field.now) c.args.mask.now c.args.runs.now) (ap is_some c.requires.spec) c.requires.fits

pub build_entries-requires : goal.build_entries-requires
build_entries-requires c =
    let kind : Kind = kind_of c.args.field.now.data_type in
    let cells : List Cell = masked_cells (column_of c.args.field.now) c.args.mask.now c.args.runs.now in
    let entries = ap (map entry_cell) c.deref.ensures.value ∙ c.in_ok-named.ensures.entries in
    ap (can_build (plain_column kind None)) entries
    ∙ entries_can kind (index_of c.args.spec) cells (dictionary_can_be_built c.args.field.now c.args.spec cells c.requires.spec c.requires.fits)

pub returns : goal.returns
returns c =
    let kind : Kind = kind_of c.args.field.now.data_type in
    let cells : List Cell = masked_cells (column_of c.args.field.now) c.args.mask.now c.args.runs.now in
    let entries = ap (map entry_cell) c.deref.ensures.value ∙ c.in_ok-named.ensures.entries in
    let built = dictionary_built kind (index_of c.args.spec) cells (map entry_cell c.deref.result.now) (batch_in c.args.batch.now) (batch_in c.push_run_indices.new.batch)
    (dictionary_in c.in_ok-values.values) entries c.in_ok-named.ensures.batch c.in_ok-values.ensures
    ∙ dictionary_field (batch_in c.args.batch.now) c.args.field.now c.args.spec cells c.requires.spec in
    subst (λ (p : PlainBatch). OnOk c.push_dictionary.result (batch_in c.push_dictionary.new.batch ≡ p)) built c.push_dictionary.ensures
