use Rattle.std.proofs.Common.{◌≤◌, ◌++◌, List, sym, ap, ◌∙◌, subst, arith}
use Rattle.arrow_schema.specs.View.{schema_of}
use Rattle.cells.specs.Cell.{Cell}
use Rattle.cells.specs.Weight.{table_weight}
use Rattle.cells.specs.declared.limits.TheConstants.{MAX_TABLE_WEIGHT}
use Rattle.values.specs.Parts.{parts_table}
use Rattle.values.specs.Table.{IsTable}
use Rattle.values.specs.TableView.{table_of}
use Rattle.store_changes.proofs.MoreRows.{more_rows, more_weight, more_sound, more_table}
use Rattle.store_changes.proofs.table_builder.TableBuilder.append.Goals as goal

pub invariant_of-result : goal.invariant_of-result
invariant_of-result c =
    let g = c.args.self in
    let s = schema_of g.schema in
    let a = g.parts.items in
    let b = c.into_parts-new.result.items in
    let all = c.append.new.self.items in
    let t = table_of c.args.more.table in
    let same = c.requires.schema in
    let is = c.into_parts-new.ensures.rows in
    let joined = c.in_ok-append.ensures.items in
    let rows = more_rows s a b all t same is joined in
    let weight = more_weight s a b all t same is joined g.weight c.args.more.weight g.weighs c.args.more.weighs in
    let light : table_weight s ((parts_table s a).rows ++ t.rows) ≤ MAX_TABLE_WEIGHT = omega (arith, weight, c.requires.light) in
    record {
      sound = more_sound s a b all t same is joined g.sound c.into_parts-new.ensures.sound;
      kept = subst (λ (x : List (List Cell)). IsTable (record { schema = s; rows = x })) (sym rows)
          (c.tables_are_joined_and_cut.ensures.joined s (parts_table s a).rows t.rows g.kept (more_table s a b all t same is joined c.schema.ensures.kept) light);
      weighs = weight ∙ ap (table_weight s) (sym rows);
    }

pub returns : goal.returns
returns c =
    let s = schema_of c.args.self.schema in
    let rows = more_rows s c.args.self.parts.items c.into_parts-new.result.items c.append.new.self.items (table_of c.args.more.table) c.requires.schema c.into_parts-new.ensures.rows c.in_ok-append.ensures.items in
    record { joined = ap (λ (x : List (List Cell)). record { schema = s; rows = x }) rows }
