use Rattle.std.proofs.Common.{◌+◌}
use Rattle.text_columns.specs.inner.Plain.{IsScanned}
use Rattle.text_columns.proofs.ascii_texts.scan_sixteen.Given as goal

abbrev pub invariant-loop-k : goal.invariant-loop-k
invariant-loop-k l = IsScanned l.text l.from (l.from + l.k) l.bits
