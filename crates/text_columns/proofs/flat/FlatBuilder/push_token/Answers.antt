use Rattle.std.proofs.Common.{ap}
use Rattle.json.specs.Reads.{token_of}
use Rattle.text_columns.specs.declared.builder.ColumnBuilder.{Flat}
use Rattle.text_columns.proofs.TokenCells.{null_step}
use Rattle.text_columns.proofs.flat.FlatBuilder.push_token.Goals as goal

pub returns-in-Null : goal.returns-in-Null
returns-in-Null c = null_step c.args.date_form (token_of c.args.token) (Flat c.args.self.now) (Flat c.push_null.new.self) c.push_null.result (ap token_of c.in-Null.is) c.push_null.ensures
