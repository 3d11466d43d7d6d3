use Rattle.std.proofs.Common.{◌≡◌, sym, ap, subst, ◌∙◌}
use Rattle.arrow_schema.specs.Column.{columns_of}
use Rattle.arrow_schema.specs.View.{schema_of}
use Rattle.cells.specs.Cell.{PlainTable}
use Rattle.values.specs.Parts.{parts_rows}
use Rattle.values.specs.TableView.{table_of}
use Rattle.selection.specs.SelectionBuilder.{PlainBuilder, SelectsOf, builder_in, builder_after}
use Rattle.selection.specs.laws.Parts.{nothing_built}
use Rattle.selection.proofs.Building.{selects_after, part_built, more_rows}
use Rattle.selection.proofs.selection_builder.SelectionBuilder.append.Goals as goal
use Rattle.selection.proofs.selection_builder.SelectionBuilder.append.Goals.{After-limit_after-self}

-- the builder after the part
built : (c : After-limit_after-self)
    → record {
      schema = schema_of c.args.self.now.schema;
      rows = parts_rows (columns_of (schema_of c.args.self.now.schema).columns) c.append.new.self.items;
      query = record { places = c.args.self.now.query.places.items; bounds = (builder_in c.args.self.now).query.bounds; limit = c.limit_after-self.result };
    } ≡ builder_after (builder_in c.args.self.now) (table_of c.args.part.now).rows
built c =
    let s = schema_of c.args.self.now.schema in
    let own = table_of c.in-Some.selected in
    let is = rw c.in-Some.is at c.in_ok-selected.ensures.ok in
    let all = c.append.new.self.items in
    let schema = ap (λ (t : PlainTable). t.schema) is ∙ sym c.requires.tables.schema in
    part_built (builder_in c.args.self.now) (table_of c.args.part.now).rows own.rows (parts_rows (columns_of s.columns) all) c.limit_after-self.result c.len-rows.result (ap (λ (t : PlainTable). t.rows) is)
    (more_rows s c.args.self.now.parts.items c.into_parts-more.result.items all own schema c.into_parts-more.ensures.rows c.in_ok-append.ensures.items) c.limit_after-self.ensures c.len-rows.ensures

pub returns-clause-ok : goal.returns-clause-ok
returns-clause-ok c = built (goal.at.returns-clause-ok c).After-limit_after-self

pub returns-clause-tables : goal.returns-clause-tables
returns-clause-tables c =
    let t = table_of c.args.part.now in
    subst (λ (x : PlainBuilder). SelectsOf x t.schema) (sym (built (goal.at.returns-clause-tables c).After-limit_after-self))
    (selects_after c.tables_are_joined_and_cut.ensures.cut (builder_in c.args.self.now) t.schema t.rows c.requires.tables)

-- ---- where nothing is selected

pub returns-in_default-clause-ok : goal.returns-in_default-clause-ok
returns-in_default-clause-ok c =
    let none = rw c.in_default.is at c.in_ok-selected.ensures.none in
    sym (nothing_built (builder_in c.args.self.now) (table_of c.args.part.now).rows none)
