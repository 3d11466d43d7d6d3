use Rattle.std.proofs.Common.{◌∙◌, arith}
use Rattle.std.proofs.lemmas.Grind.{common_steps}
use Rattle.std.specs.Prelude.{is_ok}
use Rattle.sector_dev.proofs.Marks.{same_marks}
use Rattle.sector_dev.proofs.model_file.calls.reach_marks.Goals as goal

pub returns-then-is_err-clause-same : goal.returns-then-is_err-clause-same
returns-then-is_err-clause-same c n = same_marks (is_ok c.push.result) c.loop.marks.items _ c.push.ensures.items n ∙ c.loop.invariant.same n

pub loop-preserved : goal.loop-preserved
loop-preserved c = record {
  same = λ n. same_marks (is_ok c.push.result) c.loop.marks.items _ c.push.ensures.items n ∙ c.loop.invariant.same n;
  len = grind (arith, common_steps);
}
