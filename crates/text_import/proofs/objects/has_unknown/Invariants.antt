use Rattle.std.proofs.Common.{◌≡◌, map}
use Rattle.std.specs.Prelude.{string_bytes}
use Rattle.facts.specs.Texts.{text_list}
use Rattle.serde_json.specs.View.{members_view}
use Rattle.text_import.specs.Objects.{has_unknown, keys_of}
use Rattle.text_import.proofs.objects.has_unknown.Given as goal

abbrev pub invariant-loop-key : goal.invariant-loop-key
invariant-loop-key l = has_unknown (text_list l.names.keys) (map string_bytes l.key-iterator) ≡ has_unknown (text_list l.names.keys) (keys_of (members_view l.members.entries))
