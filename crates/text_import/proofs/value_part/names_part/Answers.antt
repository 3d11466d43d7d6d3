use Rattle.std.proofs.Common.{sym, map}
use Rattle.serde_json.specs.View.{members_view}
use Rattle.arrow_schema.specs.Column.{columns_of}
use Rattle.arrow_schema.specs.View.{column_of}
use Rattle.text_import.specs.Objects.{names_of}
use Rattle.text_import.proofs.ValuePartLemmas.{names_pass}
use Rattle.text_import.proofs.value_part.names_part.Goals as goal

pub returns-in-Ok : goal.returns-in-Ok
returns-in-Ok c = sym (names_pass (names_of (columns_of (map column_of c.args.fields.now))) (members_view c.args.members.now.entries) c.in-Ok.ensures)
