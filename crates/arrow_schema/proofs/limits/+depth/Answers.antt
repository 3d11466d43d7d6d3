use Rattle.std.proofs.Common.{◌∙◌, List, map, true, false, ap, sym, arith}
use Rattle.std.specs.Prelude.{nat_le}
use Rattle.std.proofs.lemmas.Bool.{le-leb}
use Rattle.std.proofs.lemmas.List.{drop_all}
use Rattle.arrow_schema.specs.declared.types.Field.{Field}
use Rattle.arrow_schema.specs.Column.{columns_of}
use Rattle.arrow_schema.specs.Preorder.{depth_all}
use Rattle.arrow_schema.specs.View.{column_of}
use Rattle.arrow_schema.proofs.Counting.{next_depth}
use Rattle.arrow_schema.proofs.limits.+depth.Goals as goal

pub are_within_depth-loop-field-preserved : goal.are_within_depth-loop-field-preserved
are_within_depth-loop-field-preserved t c =
    sym (next_depth c.args.fields.now c.loop-field.field-index c.field-item.result c.args.levels true c.loop-field-test.true c.field-item.is (sym c.if-not-is_within_depth.false ∙ c.is_within_depth.ensures))
    ∙ c.loop-field.invariant

pub are_within_depth-returns-then-not-is_within_depth : goal.are_within_depth-returns-then-not-is_within_depth
are_within_depth-returns-then-not-is_within_depth t c =
    sym (next_depth c.args.fields.now c.loop-field.field-index c.field-item.result c.args.levels false c.loop-field-test.true c.field-item.is (sym c.if-not-is_within_depth.true ∙ c.is_within_depth.ensures))
    ∙ c.loop-field.invariant

pub are_within_depth-returns : goal.are_within_depth-returns
unfolding depth_all
are_within_depth-returns t c =
    sym (le-leb 0 c.args.levels (omega arith))
    ∙ sym (ap (λ (fs : List Field). nat_le (depth_all (columns_of (map column_of fs))) c.args.levels) (drop_all c.loop-field.field-index c.args.fields.now c.loop-field-test.false))
    ∙ c.loop-field.invariant
