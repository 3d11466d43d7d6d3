use Rattle.std.proofs.Common.{◌≡◌, ◌≤◌, drop}
use Rattle.std.specs.Prelude.{option_map}
use Rattle.text_import.specs.inner.Capped.{number_behind, capped, too_large}
use Rattle.text_import.proofs.flat.digits.Given as goal

abbrev pub invariant-loop-byte : goal.invariant-loop-byte
invariant-loop-byte l = record {
  rest : option_map capped (number_behind l.number (drop l.byte-index l.text)) ≡ option_map capped (number_behind 0 l.text);
  within : l.number ≤ too_large;
}
