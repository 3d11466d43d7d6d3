use Rattle.std.proofs.lemmas.Result.{IfOk-weaker}
use Rattle.arrow_schema.specs.View.{column_of}
use Rattle.array_build.proofs.RunParts.{nulls_are_part}
use Rattle.array_build.proofs.run_parts.field_runs.Goals as goal

pub returns-then-has_nulls_alone : goal.returns-then-has_nulls_alone
returns-then-has_nulls_alone c =
    IfOk-weaker c.as_nulls.result _ _
    (λ parts is. nulls_are_part c.args.place c.args.field.now c.args.runs.now parts.items (c.has_nulls_alone.ensures.kind c.if-has_nulls_alone.true)
    (c.has_nulls_alone.ensures.plain c.if-has_nulls_alone.true) is)
    c.as_nulls.ensures

pub returns : goal.returns
returns c = IfOk-weaker c.runs_at.result _ _ (λ parts is. is (column_of c.args.field.now)) c.runs_at.ensures
