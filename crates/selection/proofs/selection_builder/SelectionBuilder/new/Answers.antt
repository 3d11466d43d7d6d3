use Rattle.std.specs.Prelude.{Ok}
use Rattle.std.proofs.Common.{◌≡◌, ◌++◌, [], refl, sym, ap, subst, ◌∙◌, rules}
use Rattle.arrow_schema.specs.Column.{PlainSchema, columns_of}
use Rattle.arrow_schema.specs.View.{schema_of}
use Rattle.cells.specs.Cell.{PlainTable}
use Rattle.query.specs.BoundQuery.{bound_query_in, rows_selected, selected_by}
use Rattle.query.specs.Selection.{pick}
use Rattle.query.specs.View.{query_in}
use Rattle.values.specs.Parts.{parts_rows}
use Rattle.values.specs.Table.{IsTable}
use Rattle.selection.proofs.selection_builder.SelectionBuilder.new.Goals as goal
use Rattle.selection.proofs.selection_builder.SelectionBuilder.new.Goals.{In_ok-pick_schema}

-- the schema of the selection
schema_is : (c : In_ok-pick_schema)
    → schema_of c.in_ok-pick_schema.field-0 ≡ record { columns = pick c.in_ok-bound.bound.places.items (schema_of c.args.schema.now).columns; pairs = (schema_of c.args.schema.now).pairs }
schema_is c =
    let s = schema_of c.args.schema.now in c.in_ok-pick_schema.ensures ∙ (λ k. record { columns = pick (c.deref.ensures.value k) s.columns; pairs = s.pairs })

pub returns-clause-selects : goal.returns-clause-selects
returns-clause-selects c t same =
    let q = bound_query_in c.in_ok-bound.bound in
    let picked : PlainSchema → PlainSchema = λ s. record { columns = pick q.places s.columns; pairs = s.pairs } in
    let schema : picked t.schema ≡ schema_of c.in_ok-pick_schema.field-0 = ap picked (sym same) ∙ sym (schema_is (goal.at.returns-clause-selects c).In_ok-pick_schema) in
    let none : [] ≡ c.new.result.items = sym (search rules) in
    c.in_ok-bound.ensures.ok t same ∙ (λ k. Ok (record { schema = schema k; rows = parts_rows (columns_of (schema_of c.in_ok-pick_schema.field-0).columns) (none k) ++ rows_selected q t.rows }))

pub returns-clause-tables : goal.returns-clause-tables
returns-clause-tables c =
    let q = bound_query_in c.in_ok-bound.bound in
    let s = schema_of c.args.schema.now in
    let schema = schema_is (goal.at.returns-clause-tables c).In_ok-pick_schema in
    record {
      schema = schema;
      tables = λ rows kept.
          let t : PlainTable = record { schema = s; rows = rows } in
          subst (λ (x : PlainSchema). IsTable (record { schema = x; rows = rows_selected q rows })) (sym schema)
          (c.selection_is_a_table.ensures t (query_in c.args.query.now) (selected_by q t) kept (c.in_ok-bound.ensures.ok t refl));
    }
