-- Lists of references, as plain fields.
use Rattle.std.specs.Prelude.{List, map}
use Rattle.ipc_message.specs.declared.fields.FieldRef.{FieldRef}
use Rattle.ipc_message.specs.View.{raw_field_of}
use Rattle.ipc_message.specs.Raw as raw

abbrev pub listed : List FieldRef → List raw.RawField
listed fields = map (λ f. raw_field_of f.field.now) fields
