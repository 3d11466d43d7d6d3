use Rattle.std.proofs.Common.{◌≡◌, map}
use Rattle.std.specs.Prelude.{string_bytes}
use Rattle.arrow_schema.specs.Column.{columns_of}
use Rattle.arrow_schema.specs.View.{column_of}
use Rattle.serde_json.specs.View.{members_view}
use Rattle.text_import.specs.Objects.{keys_of, names_of}
use Rattle.text_import.specs.ValuePart.{first_unknown}
use Rattle.text_import.proofs.objects.first_unknown.Given as goal

abbrev pub invariant-loop-key : goal.invariant-loop-key
invariant-loop-key l =
    let names = names_of (columns_of (map column_of l.fields)) in
    first_unknown names (map string_bytes l.key-iterator) ≡ first_unknown names (keys_of (members_view l.members.entries))
