use Rattle.std.proofs.Common.{◌≡◌, drop, map}
use Rattle.ipc_message.specs.Raw.{raw_fields_of}
use Rattle.ipc_message.specs.Same.{same_fields}
use Rattle.ipc_message.specs.View.{raw_field_of}
use Rattle.ipc_message.proofs.same.+same.Given as goal

abbrev pub invariant-are_same-loop-i : goal.invariant-are_same-loop-i
invariant-are_same-loop-i l =
    same_fields (raw_fields_of (map raw_field_of (drop l.i l.one))) (raw_fields_of (map raw_field_of (drop l.i l.other))) ≡ same_fields (raw_fields_of (map raw_field_of l.one)) (raw_fields_of (map raw_field_of l.other))
