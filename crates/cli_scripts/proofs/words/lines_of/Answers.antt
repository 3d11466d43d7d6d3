use Rattle.std.proofs.Common.{◌∙◌, ℕ, List, ap, sym, arith, Bor}
use Rattle.std.specs.Global.{Vec}
use Rattle.std.specs.Vec.{vec_len}
use Rattle.facts.specs.Texts.{text_list}
use Rattle.cli_scripts.proofs.Lines.{lines_end, lines_whole}
use Rattle.cli_scripts.proofs.words.lines_of.Goals.{then-ends_empty, else-ends_empty}
use Rattle.cli_scripts.proofs.words.lines_of.Goals as goal

pub returns : goal.returns
returns c =
    let all = c.in_ok-lines.lines in
    let is = rw c.deref.ensures.value at c.ends_empty.ensures in
    elim c.if-ends_empty.branch [
      | then-ends_empty w ↦ ap (λ (v : Vec (Bor (List ℕ))). text_list v.items) w.lines-is
          ∙ lines_end c.args.script.now all.items w.pop.new.self.items (vec_len all) c.in_ok-lines.ensures (sym is ∙ w.if-ends_empty.true) (omega (arith, all.ok.0)) w.pop.ensures.rest
      | else-ends_empty w ↦ ap (λ (v : Vec (Bor (List ℕ))). text_list v.items) w.lines-is
          ∙ lines_whole c.args.script.now (text_list all.items) c.in_ok-lines.ensures (sym is ∙ w.if-ends_empty.false)
    ]
