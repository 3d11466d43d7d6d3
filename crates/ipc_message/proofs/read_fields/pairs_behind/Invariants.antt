use Rattle.std.proofs.Common.{◌≡◌, ◌++◌, map, drop}
use Rattle.std.specs.List.{flat_map}
use Rattle.flatbuf.specs.Seen.{tables_in, bytes_behind, places_in, levels_behind}
use Rattle.flatbuf.specs.Walk.{run}
use Rattle.ipc_message.specs.Header.{pair_things, pair_at}
use Rattle.ipc_message.specs.View.{key_value}
use Rattle.ipc_message.proofs.read_fields.pairs_behind.Given as goal

abbrev pub invariant-loop-i : goal.invariant-loop-i
invariant-loop-i l = let bytes = bytes_behind l.pairs in let things = pair_things (levels_behind l.pairs) bytes in record {
  walked : run bytes (flat_map things (drop l.i (places_in l.pairs))) (tables_in l.budget) ≡ run bytes (flat_map things (places_in l.pairs)) (tables_in l.fn.budget);
  value : map key_value l.found.items ++ map (pair_at bytes) (drop l.i (places_in l.pairs)) ≡ map (pair_at bytes) (places_in l.pairs);
}
