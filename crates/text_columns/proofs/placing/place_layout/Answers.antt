use Rattle.std.specs.Prelude.{IfOk, Option}
use Rattle.std.proofs.Common.{sym, subst}
use Rattle.text_columns.specs.declared.coding.Coding.{Coding}
use Rattle.text_columns.specs.inner.Placed.{IsPlacedAs, column_layout}
use Rattle.text_columns.proofs.PlacedBuffers.{plain_step}
use Rattle.text_columns.proofs.placing.place_layout.Goals as goal

pub returns-in-None : goal.returns-in-None
returns-in-None c =
    subst (λ (o : Option Coding). IfOk c.place_values.result (λ layout. IsPlacedAs (column_layout o c.args.column.now.values) c.args.bytes.now.items c.place_values.new.bytes.items
    c.args.dictionaries.now.items c.args.dictionaries.now.items layout))
    (sym c.in-None.is)
    (plain_step c.args.column.now.values c.args.bytes.now.items c.place_values.new.bytes.items c.args.dictionaries.now.items c.place_values.result c.place_values.ensures)
