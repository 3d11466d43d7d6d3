use Rattle.std.proofs.Common.{map, inl}
use Rattle.cli_scripts.specs.Plain.{plain_lines, plain_words}
use Rattle.cli_scripts.specs.Script.{changes_tables}
use Rattle.cli_replay.proofs.Changes.{lines_of_kind, tested_lines}
use Rattle.cli_replay.proofs.listed.changes_of.Goals as goal

pub returns-in-Ok-clause-lines : goal.returns-in-Ok-clause-lines
returns-in-Ok-clause-lines c = λ script have. (map plain_words c.args.words.now, have, c.in-Ok.ensures)

pub returns-in-Ok-clause-changes : goal.returns-in-Ok-clause-changes
returns-in-Ok-clause-changes c =
    let lines = plain_lines c.in-Ok.lines.items in
    lines_of_kind changes_tables lines (tested_lines (map plain_words c.args.words.now) lines c.in-Ok.ensures.0) c.in-Ok.ensures.1

pub returns-in-Err-BadLine-clause-told : goal.returns-in-Err-BadLine-clause-told
returns-in-Err-BadLine-clause-told c = λ script have. inl (map plain_words c.args.words.now, have, rw c.in-Err-BadLine.field-0-is at c.in-Err-BadLine.ensures)
