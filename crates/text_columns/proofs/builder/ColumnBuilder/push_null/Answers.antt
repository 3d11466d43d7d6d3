use Rattle.std.proofs.Common.{◌∙◌, sym}
use Rattle.text_columns.proofs.Nulls.{null_pushed}
use Rattle.text_columns.proofs.builder.ColumnBuilder.push_null.Goals as goal

pub returns : goal.returns
returns c = rw c.null_weight-weight.ensures (null_pushed c.args.self.now c.push_nulls.new.self (sym c.is_nullable.ensures ∙ c.if-not-is_nullable.false) c.in_ok-push_nulls.ensures)
