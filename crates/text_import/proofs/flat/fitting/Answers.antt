use Rattle.std.proofs.Common.{◌≡◌, ◌∙◌, sym, refl, true, false}
use Rattle.arrow_schema.specs.View.{column_of}
use Rattle.cells.specs.View.{cell}
use Rattle.cells.specs.Fit.{fits_kind}
use Rattle.arrow_schema.specs.Parts.{kind_of_column}
use Rattle.text_import.proofs.NumberLemmas.{fits_value}
use Rattle.text_import.proofs.flat.fitting.Goals as goal

pub returns-then-fits : goal.returns-then-fits
returns-then-fits c =
    let e : fits_kind (kind_of_column (column_of c.args.field.now)) (cell c.args.value) ≡ true =
    sym (fits_value (column_of c.args.field.now) (cell c.args.value) c.requires) ∙ sym c.fits.ensures ∙ c.if-fits.true in
    rw e refl

pub returns-else-fits : goal.returns-else-fits
returns-else-fits c =
    let e : fits_kind (kind_of_column (column_of c.args.field.now)) (cell c.args.value) ≡ false =
    sym (fits_value (column_of c.args.field.now) (cell c.args.value) c.requires) ∙ sym c.fits.ensures ∙ c.if-fits.false in
    rw e refl
