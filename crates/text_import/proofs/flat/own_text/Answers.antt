use Rattle.std.proofs.Common.{◌≡◌, ◌∙◌, true, refl, sym, ap}
use Rattle.std.specs.Str.{is_utf8}
use Rattle.std.specs.Prelude.{ℕ, List, Ok}
use Rattle.std.proofs.lemmas.Str.{is_utf8-from_IsUtf8}
use Rattle.arrow_schema.specs.Column.{texts}
use Rattle.cells.specs.Cell.{text}
use Rattle.cells.specs.Fit.{fits_kind}
use Rattle.text_import.specs.declared.refusal.Refusal.TheVariants.{NotUtf8}
use Rattle.text_import.specs.Flat.{fitting}
use Rattle.text_import.proofs.flat.own_text.Goals as goal

fits_utf8 : (t : List ℕ) → is_utf8 t ≡ true → fitting texts NotUtf8 (text t) ≡ Ok (text t)
unfolding fits_kind
fits_utf8 t e = rw e refl

pub returns : goal.returns
returns c = fits_utf8 c.args.text.now (is_utf8-from_IsUtf8 c.args.text.now c.utf8.text) ∙ ap Ok (sym c.in_ok-value.ensures)
