use Rattle.std.specs.Prelude.{IfOk, IfSome}
use Rattle.std.proofs.Common.{sym, subst}
use Rattle.json.specs.Reads.{token_of}
use Rattle.text_columns.specs.declared.column_values.ColumnValues.{ColumnValues}
use Rattle.text_columns.specs.declared.column_values.ColumnValues.TheVariants.{Binaries, Booleans, FixedBinaries, Integers, Texts}
use Rattle.text_columns.specs.inner.Lines.{TakesToken}
use Rattle.text_columns.proofs.TokenCells.{binary_step, bit_step, fixed_binary_step, number_step, string_step}
use Rattle.text_columns.proofs.column_values.ColumnValues.push_token.Goals as goal

pub returns-in-Booleans : goal.returns-in-Booleans
returns-in-Booleans c =
    subst (λ (v : ColumnValues). IfOk c.push_boolean.result (λ taken. IfSome taken (λ weight. TakesToken c.args.date_form (token_of c.args.token) weight v (Booleans c.push_boolean.new.bits)))) (sym c.in-Booleans.is)
    (bit_step c.args.date_form (token_of c.args.token) c.in-Booleans.bits c.push_boolean.new.bits c.push_boolean.result c.push_boolean.ensures)

pub returns-in-Integers : goal.returns-in-Integers
returns-in-Integers c =
    subst (λ (v : ColumnValues). IfOk c.push_integer.result (λ taken. IfSome taken (λ weight. TakesToken c.args.date_form (token_of c.args.token) weight v (Integers c.in-Integers.integer c.in-Integers.counted c.push_integer.new.values)))) (sym c.in-Integers.is)
    (number_step c.args.date_form c.in-Integers.integer c.in-Integers.counted (token_of c.args.token) c.in-Integers.values c.push_integer.new.values c.push_integer.result (rw c.dates_in.ensures at c.push_integer.ensures))

pub returns-in-Texts : goal.returns-in-Texts
returns-in-Texts c =
    subst (λ (v : ColumnValues). IfOk c.push_text.result (λ taken. IfSome taken (λ weight. TakesToken c.args.date_form (token_of c.args.token) weight v (Texts c.in-Texts.width c.push_text.new.offsets c.push_text.new.contents)))) (sym c.in-Texts.is)
    (string_step c.args.date_form c.in-Texts.width (token_of c.args.token) c.in-Texts.offsets c.in-Texts.contents c.push_text.new.offsets c.push_text.new.contents c.push_text.result c.push_text.ensures)

pub returns-in-Binaries : goal.returns-in-Binaries
returns-in-Binaries c =
    subst (λ (v : ColumnValues). IfOk c.push_binary.result (λ taken. IfSome taken (λ weight. TakesToken c.args.date_form (token_of c.args.token) weight v (Binaries c.in-Binaries.width c.push_binary.new.offsets c.push_binary.new.contents))))
    (sym c.in-Binaries.is)
    (binary_step c.args.date_form c.in-Binaries.width (token_of c.args.token) c.in-Binaries.offsets c.in-Binaries.contents c.push_binary.new.offsets c.push_binary.new.contents c.push_binary.result c.push_binary.ensures)

pub returns-in-FixedBinaries : goal.returns-in-FixedBinaries
returns-in-FixedBinaries c =
    subst (λ (v : ColumnValues). IfOk c.push_fixed_binary.result (λ taken. IfSome taken (λ weight. TakesToken c.args.date_form (token_of c.args.token) weight v (FixedBinaries c.in-FixedBinaries.width c.push_fixed_binary.new.values))))
    (sym c.in-FixedBinaries.is)
    (fixed_binary_step c.args.date_form c.in-FixedBinaries.width (token_of c.args.token) c.in-FixedBinaries.values c.push_fixed_binary.new.values c.push_fixed_binary.result c.push_fixed_binary.ensures)
