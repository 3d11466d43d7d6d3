use Rattle.std.proofs.Common.{◌<◌, arith, inl, inr, length}
use Rattle.text_columns.proofs.LineSteps.{follows_bracket, follows_comma, follows_end}
use Rattle.text_columns.proofs.plain_reader.after_value.Goals.{then-line-at-eq93-via-then-line-at-eq93, then-line-at-eq93-via-else-line-at-eq93+then-line-at-eq125}
use Rattle.text_columns.proofs.plain_reader.after_value.Goals as goal

pub returns-then-at-line : goal.returns-then-at-line
returns-then-at-line c = follows_end c.args.line.now c.args.end c.skip_spaces-at.result c.skip_spaces-at.ensures.same (omega arith) c.skip_spaces-at.ensures.high

pub returns-then-line-at-eq44 : goal.returns-then-line-at-eq44
returns-then-line-at-eq44 c =
    let at = c.skip_spaces-at in
    let next = c.skip_spaces-next in
    follows_comma c.args.line.now c.args.end at.result at.ensures.same (omega (arith, at.ensures.high, c.if-at-line.false)) c.if-line-at-eq44.true next.result next.ensures.high next.ensures.same

pub returns-then-line-at-eq93 : goal.returns-then-line-at-eq93
returns-then-line-at-eq93 c =
    let d = c.args.line.now in
    let at = c.skip_spaces-at in
    let within : at.result < length d = omega (arith, at.ensures.high, c.if-at-line.false) in
    elim c.then-line-at-eq93.branch [
      | then-line-at-eq93-via-then-line-at-eq93 w ↦ follows_bracket d c.args.end at.result at.ensures.same within (inl w.if-line-at-eq93.true)
      | then-line-at-eq93-via-else-line-at-eq93+then-line-at-eq125 w ↦ follows_bracket d c.args.end at.result at.ensures.same within (inr w.if-line-at-eq125.true)
    ]
