use Rattle.std.proofs.Common.{◌≡◌, ◌<◌, ◌^◌, drop}
use Rattle.std.specs.Prelude.{option_map}
use Rattle.text_import.specs.inner.Capped.{number_behind, capped}
use Rattle.text_import.proofs.flat.short_digits.Given as goal

abbrev pub invariant-loop-byte : goal.invariant-loop-byte
invariant-loop-byte l = record {
  rest : option_map capped (number_behind l.number (drop l.byte-index l.text)) ≡ option_map capped (number_behind 0 l.text);
  small : l.number < 10 ^ l.byte-index;
}
