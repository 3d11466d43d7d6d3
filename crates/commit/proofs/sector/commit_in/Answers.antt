use Rattle.std.proofs.Common.{sym, ◌∙◌, arith}
use Rattle.commit.proofs.Texts.{found, misplaced, misspelled, another_sector, no_epoch}
use Rattle.commit.proofs.sector.commit_in.Goals as goal
use Rattle.commit.proofs.sector.commit_in.Goals.{else-commit-gt0-via-then-commit-gt0+then-commit-n+else-eq, else-commit-gt0-via-then-commit-gt0+else-commit-n, else-commit-gt0-via-else-commit-gt0}

pub returns-then-eq : goal.returns-then-eq
returns-then-eq c = found c.args.n c.args.sector.now _ c.fields-commit.result c.fields-commit.ensures (c.commit_sector.ensures) (omega arith) (omega arith) (sym c.eq.ensures ∙ c.if-eq.true)

pub returns-else-commit-gt0 : goal.returns-else-commit-gt0
returns-else-commit-gt0 c = elim c.else-commit-gt0.branch [
  | else-commit-gt0-via-then-commit-gt0+then-commit-n+else-eq w ↦ misspelled c.args.n c.args.sector.now _ c.fields-commit.result c.fields-commit.ensures w.commit_sector.ensures (sym w.eq.ensures ∙ w.if-eq.false)
  | else-commit-gt0-via-then-commit-gt0+else-commit-n w ↦ misplaced c.args.n c.args.sector.now c.fields-commit.result c.fields-commit.ensures (another_sector c.args.n c.fields-commit.result w.if-commit-n.false)
  | else-commit-gt0-via-else-commit-gt0 w ↦ misplaced c.args.n c.args.sector.now c.fields-commit.result c.fields-commit.ensures (no_epoch c.args.n c.fields-commit.result w.if-commit-gt0.false)
]
