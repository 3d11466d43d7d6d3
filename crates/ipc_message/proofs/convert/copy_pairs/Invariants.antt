use Rattle.std.proofs.Common.{◌≡◌, ◌++◌, map, drop, true}
use Rattle.std.specs.List.{list_all}
use Rattle.std.specs.Str.{is_utf8}
use Rattle.arrow_schema.specs.View.{pair_of}
use Rattle.ipc_message.specs.Checks.{texts_of_pairs}
use Rattle.ipc_message.specs.View.{key_value}
use Rattle.ipc_message.proofs.convert.copy_pairs.Given as goal

abbrev pub invariant-loop-pair : goal.invariant-loop-pair
invariant-loop-pair l = record {
  copied : map pair_of l.copies.items ++ map key_value (drop l.pair-index l.pairs) ≡ map key_value l.pairs;
  utf8 : list_all is_utf8 (texts_of_pairs (map key_value (drop l.pair-index l.pairs))) ≡ true;
}
