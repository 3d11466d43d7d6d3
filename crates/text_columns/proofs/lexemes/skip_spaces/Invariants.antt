use Rattle.std.proofs.Common.{◌≡◌, drop}
use Rattle.json.specs.Lex.{between, lex}
use Rattle.text_columns.proofs.lexemes.skip_spaces.Given as goal

abbrev pub invariant-loop-i : goal.invariant-loop-i
invariant-loop-i l = lex between (drop l.i l.line) ≡ lex between (drop l.from l.line)
