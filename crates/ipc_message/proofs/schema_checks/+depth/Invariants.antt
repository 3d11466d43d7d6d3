use Rattle.std.proofs.Common.{◌≡◌, map, drop}
use Rattle.std.specs.Prelude.{nat_le}
use Rattle.ipc_message.specs.Raw.{raw_fields_of}
use Rattle.ipc_message.specs.Fields.{depth_all}
use Rattle.ipc_message.specs.View.{raw_field_of}
use Rattle.ipc_message.proofs.schema_checks.+depth.Given as goal

abbrev pub invariant-are_within_depth-loop-field : goal.invariant-are_within_depth-loop-field
invariant-are_within_depth-loop-field l =
    nat_le (depth_all (raw_fields_of (map raw_field_of (drop l.field-index l.fields)))) l.levels ≡ nat_le (depth_all (raw_fields_of (map raw_field_of l.fields))) l.levels
