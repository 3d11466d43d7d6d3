use Rattle.std.proofs.Common.{◌≡◌, ◌++◌, map, drop}
use Rattle.ipc_message.specs.Raw.{raw_fields_of}
use Rattle.ipc_message.specs.Fields.{preorder_all}
use Rattle.ipc_message.specs.View.{raw_field_of}
use Rattle.ipc_message.specs.inner.Listed.{listed}
use Rattle.ipc_message.proofs.fields.+list_fields.Given as goal

-- the fields so far and those that are left are all
abbrev pub invariant-loop-field : goal.invariant-loop-field
invariant-loop-field l =
    listed l.list.items ++ preorder_all (raw_fields_of (map raw_field_of (drop l.field-index l.fields))) ≡ listed l.fn.list.items ++ preorder_all (raw_fields_of (map raw_field_of l.fields))
