use Rattle.std.proofs.Common.{◌∙◌, sym, true, false}
use Rattle.sector_dev.specs.History.{zeros}
use Rattle.commit.specs.laws.Agreeing.{holds_commit, holds_other}
use Rattle.commit.proofs.agreeing.content_in.Goals as goal

pub returns-in-Some : goal.returns-in-Some
returns-in-Some c = sym (holds_commit c.args.n _ c.in-Some.commit (sym c.commit_in.ensures ∙ c.in-Some.is))

pub returns-then-eq : goal.returns-then-eq
unfolding zeros
returns-then-eq c = sym (holds_other c.args.n c.args.sector.now true (sym c.commit_in.ensures ∙ c.in-None.is) (sym c.eq.ensures ∙ c.if-eq.true))

pub returns-else-eq : goal.returns-else-eq
unfolding zeros
returns-else-eq c = sym (holds_other c.args.n c.args.sector.now false (sym c.commit_in.ensures ∙ c.in-None.is) (sym c.eq.ensures ∙ c.if-eq.false))
