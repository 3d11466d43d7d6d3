use Rattle.std.proofs.Common.{arith}
use Rattle.table_cut.proofs.Bounds.{weighs_alone}
use Rattle.table_cut.proofs.bound.exact_column.Goals as goal

pub overflow_sub-result : goal.overflow_sub-result
overflow_sub-result c =
    let all = weighs_alone c.args.fields.now c.args.field.now c.args.run c.args.place c.min.result c.args.rows c.row_span_weight-weight.result c.requires.field c.min.ensures
    c.row_span_weight-weight.ensures in
    omega (arith, all, c.if-weight-lt-TOO_HEAVY.true)

pub returns-then-weight-lt-TOO_HEAVY : goal.returns-then-weight-lt-TOO_HEAVY
returns-then-weight-lt-TOO_HEAVY c =
    let all = weighs_alone c.args.fields.now c.args.field.now c.args.run c.args.place c.min.result c.args.rows c.row_span_weight-weight.result c.requires.field c.min.ensures
    c.row_span_weight-weight.ensures in
    omega (arith, all, c.if-weight-lt-TOO_HEAVY.true)
