use Rattle.std.specs.Prelude.{nat_le}
use Rattle.std.proofs.Common.{◌≡◌, ℕ, true, Some, None, inl, inr, sym, ap, ◌∙◌, subst}
use Rattle.std.proofs.lemmas.Bool.{le-leb}
use Rattle.std.proofs.lemmas.Result.{err_from_is_err_and}
use Rattle.arrow_schema.specs.Column.{PlainSchema}
use Rattle.arrow_schema.specs.Shape.{HaveOneShape}
use Rattle.arrow_schema.specs.View.{schema_of}
use Rattle.cells.specs.Cell.{PlainTable}
use Rattle.cells.specs.Weight.{table_weight}
use Rattle.cells.specs.declared.limits.TheConstants.{MAX_TABLE_WEIGHT}
use Rattle.cells.specs.laws.Shapes.{one_shape_table_weighs}
use Rattle.values.specs.TableView.{table_of}
use Rattle.catalogue.specs.Entries.{PlainEntry, plain_entry}
use Rattle.tables.specs.Verdict.{too_many_bytes, other_shape, unfit_row}
use Rattle.store_runs.specs.Changes.{rows_under}
use Rattle.store_changes.proofs.Appended.{one_shape, none_unfit, accepted}
use Rattle.store_changes.proofs.Streamed.{stream_long, stream_faulty, stream_shaped, stream_unfit, stream_fits}
use Rattle.store_changes.proofs.new_rows.pass_stream.Goals as goal

pub returns-clause-weight : goal.returns-clause-weight
returns-clause-weight c =
    let own : PlainSchema = (plain_entry c.args.entry.now).schema in
    let tested = ap (λ (s : PlainSchema). other_shape s (schema_of c.schema.result.now)) (sym c.schema-own.ensures) ∙ c.in_ok-test_shape.ensures in
    let new : PlainTable = table_of c.in_ok-new.new.table in
    let shape : HaveOneShape own (schema_of c.schema.result.now) = (c.one_shape_is_decided.ensures own (schema_of c.schema.result.now)).0 (one_shape own (schema_of c.schema.result.now) tested) in
    let same : HaveOneShape own new.schema = subst (HaveOneShape own) c.schema.ensures.schema shape in
    c.in_ok-new.ensures.weight ∙ sym (one_shape_table_weighs own new.schema same new.rows)

pub returns-clause-table : goal.returns-clause-table
returns-clause-table c =
    let own : PlainSchema = (plain_entry c.args.entry.now).schema in
    let tested = ap (λ (s : PlainSchema). other_shape s (schema_of c.schema.result.now)) (sym c.schema-own.ensures) ∙ c.in_ok-test_shape.ensures in
    let new : PlainTable = table_of c.in_ok-new.new.table in
    let shape : HaveOneShape own (schema_of c.schema.result.now) = (c.one_shape_is_decided.ensures own (schema_of c.schema.result.now)).0 (one_shape own (schema_of c.schema.result.now) tested) in
    let same : HaveOneShape own new.schema = subst (HaveOneShape own) c.schema.ensures.schema shape in
    let light : nat_le (table_weight own new.rows) MAX_TABLE_WEIGHT ≡ true =
    ap (λ (n : ℕ). nat_le n MAX_TABLE_WEIGHT) (one_shape_table_weighs own new.schema same new.rows) ∙ le-leb (table_weight new.schema new.rows) MAX_TABLE_WEIGHT c.schema.ensures.kept.weight in
    (c.accepted_rows_are_a_table.ensures.kept own new.rows (rows_under own new.rows) c.requires (accepted own new.rows (none_unfit own new.rows (ap (λ (s : PlainSchema). unfit_row s new.rows) (sym c.schema-own.ensures) ∙ c.in_ok-test_rows.ensures.ok)) light)).1

pub returns-in_err-test_bytes-clause-refused : goal.returns-in_err-test_bytes-clause-refused
returns-in_err-test_bytes-clause-refused c =
    let p = err_from_is_err_and c.from_residual.result c.from_residual.ensures.1 in
    rw (p.1, p.2) (inr (stream_long c.args.stream.items (plain_entry c.args.entry.now) c.in_err-test_bytes.field-0.0 (ap too_many_bytes (sym c.deref.ensures.value) ∙ c.in_err-test_bytes.ensures)))

pub returns-in_err-new-clause-refused : goal.returns-in_err-new-clause-refused
returns-in_err-new-clause-refused c =
    let p = err_from_is_err_and c.from_residual-in_err-new.result c.from_residual-in_err-new.ensures.1 in
    let few : too_many_bytes c.args.stream.items ≡ None = ap too_many_bytes (sym c.deref.ensures.value) ∙ c.in_ok-test_bytes.ensures in
    rw (p.1, p.2) (stream_faulty c.args.stream.items (plain_entry c.args.entry.now) c.in_err-new.field-0.0 few c.in_err-new.ensures.exact)

pub returns-in_err-test_shape-clause-refused : goal.returns-in_err-test_shape-clause-refused
returns-in_err-test_shape-clause-refused c =
    let p = err_from_is_err_and c.from_residual-in_err-test_shape.result c.from_residual-in_err-test_shape.ensures.1 in
    let e : PlainEntry = plain_entry c.args.entry.now in
    let few : too_many_bytes c.args.stream.items ≡ None = ap too_many_bytes (sym c.deref.ensures.value) ∙ c.in_ok-test_bytes.ensures in
    let other : other_shape e.schema (table_of c.in_ok-new.new.table).schema ≡ Some c.in_err-test_shape.field-0.0 = (λ i. other_shape (sym c.schema-own.ensures i) (sym c.schema.ensures.schema i)) ∙ c.in_err-test_shape.ensures in
    rw (p.1, p.2) (inr (stream_shaped c.args.stream.items e (table_of c.in_ok-new.new.table) few c.in_ok-new.ensures.exact c.in_err-test_shape.field-0.0 other))

-- ---- a stream of one shape

pub returns-clause-tested : goal.returns-clause-tested
returns-clause-tested c =
    let e : PlainEntry = plain_entry c.args.entry.now in
    let few : too_many_bytes c.args.stream.items ≡ None = ap too_many_bytes (sym c.deref.ensures.value) ∙ c.in_ok-test_bytes.ensures in
    let shaped : other_shape e.schema (table_of c.in_ok-new.new.table).schema ≡ None = (λ i. other_shape (sym c.schema-own.ensures i) (sym c.schema.ensures.schema i)) ∙ c.in_ok-test_shape.ensures in
    stream_fits c.args.stream.items e (table_of c.in_ok-new.new.table) few c.in_ok-new.ensures.exact shaped (ap (λ (s : PlainSchema). unfit_row s (table_of c.in_ok-new.new.table).rows) (sym c.schema-own.ensures) ∙ c.in_ok-test_rows.ensures.ok)

pub returns-in_err-test_rows-clause-refused : goal.returns-in_err-test_rows-clause-refused
returns-in_err-test_rows-clause-refused c =
    let p = err_from_is_err_and c.from_residual-in_err-test_rows.result c.from_residual-in_err-test_rows.ensures.1 in
    let e : PlainEntry = plain_entry c.args.entry.now in
    let t : PlainTable = table_of c.in_ok-new.new.table in
    let few : too_many_bytes c.args.stream.items ≡ None = ap too_many_bytes (sym c.deref.ensures.value) ∙ c.in_ok-test_bytes.ensures in
    let shaped : other_shape e.schema t.schema ≡ None = (λ i. other_shape (sym c.schema-own.ensures i) (sym c.schema.ensures.schema i)) ∙ c.in_ok-test_shape.ensures in
    rw (p.1, p.2)
    (elim c.in_err-test_rows.ensures.err [ inl memory ↦ inl memory | inr unfit ↦ inr (stream_unfit c.args.stream.items e t few c.in_ok-new.ensures.exact shaped c.in_err-test_rows.field-0.0 (ap (λ (s : PlainSchema). unfit_row s t.rows) (sym c.schema-own.ensures) ∙ unfit)) ])
