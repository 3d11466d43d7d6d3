use Rattle.std.proofs.Common.{◌≡◌, ◌++◌, map, drop}
use Rattle.ipc_message.specs.Raw.{raw_fields_of}
use Rattle.ipc_message.specs.Fields.{preorder_all}
use Rattle.ipc_message.specs.View.{raw_field_of}
use Rattle.ipc_message.specs.DictionaryTypes.{dictionaries_in, plain_dictionary_of}
use Rattle.ipc_message.specs.inner.Readable.{AreReadable}
use Rattle.ipc_message.proofs.dictionaries.+list_fields.Given as goal

-- the dictionaries so far and those of the fields that are left are all
abbrev pub invariant-loop-field : goal.invariant-loop-field
invariant-loop-field l = record {
  listed : map plain_dictionary_of l.list.items ++ dictionaries_in (preorder_all (raw_fields_of (map raw_field_of (drop l.field-index l.fields))))
      ≡ map plain_dictionary_of l.fn.list.items ++ dictionaries_in (preorder_all (raw_fields_of (map raw_field_of l.fields)));
  readable : AreReadable (preorder_all (raw_fields_of (map raw_field_of (drop l.field-index l.fields))));
}
