use Rattle.std.proofs.Common.{ℕ, List, drop}
use Rattle.text_import.specs.Stands.{HasLeft}
use Rattle.text_import.proofs.records.read_at.Given as goal

abbrev pub invariant-loop-i : goal.invariant-loop-i
invariant-loop-i l = (records : List (List (List ℕ))) → HasLeft l.fn.reader records → HasLeft l.reader (drop l._i records)
