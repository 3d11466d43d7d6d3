-- Fields that can be read as columns: each decodes to a type, and its texts are UTF-8.
use Rattle.std.specs.Prelude.{◌≡◌, true, false, List, flat_map}
use Rattle.std.specs.List.{list_any, list_all}
use Rattle.std.specs.Str.{is_utf8}
use Rattle.ipc_message.specs.Raw.{RawField}
use Rattle.ipc_message.specs.Checks.{is_bad, texts_of_field}

pub record AreReadable (fields : List RawField) : Type 0 where
  pub decoded : list_any is_bad fields ≡ false
  pub utf8 : list_all is_utf8 (flat_map texts_of_field fields) ≡ true
