use Rattle.std.proofs.Common.{◌∙◌}
use Rattle.std.proofs.lemmas.Result.{IfOk-weaker}
use Rattle.columns.specs.View.{arrays_in}
use Rattle.selection.proofs.picked.copy_at.Goals as goal

pub returns : goal.returns
returns c = IfOk-weaker c.copy_array.result _ _ (λ a same bytes all. same bytes (arrays_in bytes all) ∙ c.array_or.ensures bytes all) c.copy_array.ensures
