use Rattle.std.proofs.Common.{◌≡◌, drop}
use Rattle.std.specs.List.{list_all}
use Rattle.field_texts.specs.Typed.{is_timezone_byte}
use Rattle.field_texts.proofs.scan.is_timezone.Given as goal

abbrev pub invariant-loop-byte : goal.invariant-loop-byte
invariant-loop-byte l = list_all is_timezone_byte (drop l.byte-index l.byte-items) ≡ list_all is_timezone_byte l.text
