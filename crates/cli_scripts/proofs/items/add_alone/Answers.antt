use Rattle.std.proofs.Common.{◌≡◌, ◌++◌, [], ◌∷◌}
use Rattle.cli_scripts.specs.declared.items.ScriptItem.TheVariants.{Line}
use Rattle.cli_scripts.proofs.Grouped.{line_added}
use Rattle.cli_scripts.proofs.items.add_alone.Goals as goal

pub returns : goal.returns
returns c = λ lines grouped at.
    let pushed : c.push.new.self.items ≡ c.args.items.items ++ Line c.args.number c.args.line ∷ [] = (let more = c.in_ok-push-in_default.ensures.items in let same = c.in_default.line-is in cc) in
    line_added c.args.items.items c.push.new.self.items c.args.number c.args.line lines pushed (c.in_default.not-Begin, c.in_default.not-Commit, c.in_default.not-AppendText) grouped at
