use Rattle.std.proofs.Common.{◌≡◌, ◌++◌, map, drop}
use Rattle.arrow_schema.specs.View.{column_of}
use Rattle.ipc_message.specs.Raw.{raw_fields_of}
use Rattle.ipc_message.specs.Fields.{preorder_all}
use Rattle.ipc_message.specs.Convert.{columns_of_fields}
use Rattle.ipc_message.specs.inner.Readable.{AreReadable}
use Rattle.ipc_message.specs.View.{raw_field_of}
use Rattle.ipc_message.proofs.convert.+convert.Given as goal

abbrev pub invariant-copy_fields-loop-field : goal.invariant-copy_fields-loop-field
invariant-copy_fields-loop-field l = record {
  copied : map column_of l.fields.items ++ columns_of_fields (raw_fields_of (map raw_field_of (drop l.field-index l.raw))) ≡ columns_of_fields (raw_fields_of (map raw_field_of l.raw));
  readable : AreReadable (preorder_all (raw_fields_of (map raw_field_of (drop l.field-index l.raw))));
}
