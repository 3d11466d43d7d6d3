use Rattle.std.proofs.Common.{◌≡◌, drop}
use Rattle.std.specs.Prelude.{slice_get}
use Rattle.text_import.specs.Objects.{lines_of}
use Rattle.text_import.proofs.PartLemmas.{filled}
use Rattle.text_import.proofs.jsonl.line_at.Given as goal

abbrev pub invariant-loop-line : goal.invariant-loop-line
invariant-loop-line l = slice_get (filled (drop l.line-index l.line-items)) l.before ≡ slice_get (lines_of l.text) l.place
