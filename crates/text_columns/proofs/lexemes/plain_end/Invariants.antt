use Rattle.std.proofs.Common.{◌≡◌, ◌+◌, drop}
use Rattle.std.specs.List.{prefix_len}
use Rattle.text_columns.specs.inner.Lexemes.{is_plain}
use Rattle.text_columns.proofs.lexemes.plain_end.Given as goal

abbrev pub invariant-loop-i : goal.invariant-loop-i
invariant-loop-i l = l.i + prefix_len is_plain (drop l.i l.line) ≡ l.from + prefix_len is_plain (drop l.from l.line)
