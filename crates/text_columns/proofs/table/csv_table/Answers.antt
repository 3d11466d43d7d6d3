use Rattle.std.proofs.Common.{◌∙◌, ap, sym}
use Rattle.arrow_schema.specs.Column.{PlainSchema}
use Rattle.arrow_schema.specs.View.{schema_of}
use Rattle.cells.specs.Weight.{table_weight}
use Rattle.text_import.specs.Records.{csv_rows_of}
use Rattle.values.specs.TableView.{table_of}
use Rattle.text_columns.proofs.Tables.{makes_rows, table_told}
use Rattle.text_import.specs.FieldForm.{field_form}
use Rattle.text_columns.proofs.table.csv_table.Goals as goal

pub build_table-requires : goal.build_table-requires
build_table-requires c =
    let s = schema_of c.args.schema.now in
    let stated = csv_rows_of s (field_form c.args.form.now) c.args.text.now in
    let read = rw c.in-Some.is at c.in_ok-read.ensures in
    makes_rows s stated c.in-Some.read.weight c.in-Some.read.batches c.requires (c.rows_of_texts_are_rows.ensures.csv s (field_form c.args.form.now) c.args.text.now) read

pub returns : goal.returns
returns c =
    let s = schema_of c.args.schema.now in
    let stated = csv_rows_of s (field_form c.args.form.now) c.args.text.now in
    let read = rw c.in-Some.is at c.in_ok-read.ensures in
    let told =
    table_told s stated c.in-Some.read.weight c.in-Some.read.batches (table_of c.in_ok-table.table) c.requires (c.rows_of_texts_are_rows.ensures.csv s (field_form c.args.form.now) c.args.text.now) read
    c.in_ok-table.ensures.rows in
    record { read = told.read; schema = told.schema; weight = told.weighs; in_parts = c.in_ok-table.ensures.in_parts; refused = tt }

pub invariant_of-result : goal.invariant_of-result
invariant_of-result c =
    let s = schema_of c.args.schema.now in
    let stated = csv_rows_of s (field_form c.args.form.now) c.args.text.now in
    let read = rw c.in-Some.is at c.in_ok-read.ensures in
    let told =
    table_told s stated c.in-Some.read.weight c.in-Some.read.batches (table_of c.in_ok-table.table) c.requires (c.rows_of_texts_are_rows.ensures.csv s (field_form c.args.form.now) c.args.text.now) read
    c.in_ok-table.ensures.rows in
    record { weighs = told.weighs ∙ sym (ap (λ (t : PlainSchema). table_weight t (table_of c.in_ok-table.table).rows) told.schema) }
