use Rattle.std.proofs.Common.{◌≡◌, ◌+◌, ◌*◌, ◌++◌, map, drop}
use Rattle.std.specs.List.{flat_map}
use Rattle.flatbuf.specs.Seen.{tables_in, bytes_behind, places_in, levels_behind}
use Rattle.flatbuf.specs.Walk.{run}
use Rattle.ipc_message.specs.Header.{supported_codes, field_things, field_at}
use Rattle.ipc_message.specs.View.{raw_field_of}
use Rattle.ipc_message.proofs.read_fields.+walk.Given as goal

abbrev pub decreases-field_behind : goal.decreases-field_behind
decreases-field_behind l = 2 * levels_behind l.fields.now

abbrev pub decreases-fields_behind : goal.decreases-fields_behind
decreases-fields_behind l = 2 * levels_behind l.fields.now + 1

abbrev pub invariant-fields_behind-loop-i : goal.invariant-fields_behind-loop-i
invariant-fields_behind-loop-i l = let bytes = bytes_behind l.fields in let things = field_things supported_codes (levels_behind l.fields) bytes in let decoded = field_at supported_codes (levels_behind l.fields) bytes in record {
  walked : run bytes (flat_map things (drop l.i (places_in l.fields))) (tables_in l.budget) ≡ run bytes (flat_map things (places_in l.fields)) (tables_in l.fn.budget);
  value : map raw_field_of l.found.items ++ map decoded (drop l.i (places_in l.fields)) ≡ map decoded (places_in l.fields);
}
