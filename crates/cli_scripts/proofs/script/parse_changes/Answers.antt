use Rattle.std.proofs.Common.{◌+◌, List, take, map, refl, sym, subst}
use Rattle.cli_scripts.specs.Plain.{plain_lines, plain_words}
use Rattle.cli_scripts.specs.Script.{HaveChanges}
use Rattle.cli_scripts.specs.declared.line.ScriptLine.{ScriptLine}
use Rattle.cli_scripts.proofs.Lines.{change_kept, no_change}
use Rattle.cli_scripts.proofs.script.parse_changes.Goals as goal

pub loop-place-preserved : goal.loop-place-preserved
loop-place-preserved c =
    let all = c.args.words.now in
    let item = c.index-words-place in
    subst (λ (lines : List ScriptLine). HaveChanges (take (c.loop-place.place + 1) (map plain_words all)) (plain_lines lines)) (sym c.in_ok-push-in-Some.ensures.items)
    (change_kept all c.loop-place.place item.result c.loop-place.lines.items c.in_ok-line.field-0 c.in-Some.line c.loop-place-test.true item.is c.in_ok-line.ensures.read c.in-Some.is c.loop-place.invariant)

pub returns-in-None : goal.returns-in-None
returns-in-None c =
    let item = c.index-words-place in
    no_change c.args.words.now c.loop-place.place item.result c.loop-place.lines.items _ refl c.loop-place-test.true item.is c.loop-place.invariant (rw c.in-None.is at c.in_ok-line.ensures.read)
