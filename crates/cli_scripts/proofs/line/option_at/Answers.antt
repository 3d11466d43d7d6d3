use Rattle.std.proofs.Common.{◌∙◌, sym, arith}
use Rattle.cli_scripts.proofs.Tests.{option_taken}
use Rattle.cli_scripts.proofs.line.option_at.Goals as goal

pub returns-then-eq : goal.returns-then-eq
returns-then-eq c = option_taken c.args.option.now c.args.words.now _ _ (omega (arith, c.in-len2-up.len_at_least)) (sym c.eq.ensures ∙ c.if-eq.true)
