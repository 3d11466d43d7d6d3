use Rattle.text_columns.specs.inner.Plain.{IsScanned}
use Rattle.text_columns.proofs.ascii_texts.scan_on.Given as goal

abbrev pub invariant-loop-i : goal.invariant-loop-i
invariant-loop-i l = IsScanned l.text l.from l.i l.bits
