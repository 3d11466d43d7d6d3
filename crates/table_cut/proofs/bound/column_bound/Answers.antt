use Rattle.std.proofs.Common.{arith}
use Rattle.arrow_schema.specs.View.{column_of}
use Rattle.table_cut.proofs.Bounds.{column_light}
use Rattle.table_cut.proofs.bound.column_bound.Goals as goal

pub returns-in-Some : goal.returns-in-Some
returns-in-Some c =
    let light = column_light c.args.place (column_of c.args.field.now) c.args.run c.args.rows c.in-Some.size (c.in-Some.ensures c.args.run c.requires.sizes) in
    omega (arith, light, c.multiply_weight.ensures, c.add_weights.ensures)
