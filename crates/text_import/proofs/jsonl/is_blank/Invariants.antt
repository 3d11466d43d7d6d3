use Rattle.std.proofs.Common.{◌≡◌, drop}
use Rattle.text_import.specs.Objects.{is_blank}
use Rattle.text_import.proofs.jsonl.is_blank.Given as goal

abbrev pub invariant-loop-byte : goal.invariant-loop-byte
invariant-loop-byte l = is_blank (drop l.byte-index l.line) ≡ is_blank l.line
