use Rattle.std.proofs.Common.{◌≡◌, true, append_assoc}
use Rattle.std.specs.Prelude.{codes, decimal}
use Rattle.arrow_schema.specs.View.{bits_of}
use Rattle.cli_reports.specs.AboutPart.{greatest}
use Rattle.cli_reports.proofs.part_about.range_text.Goals as goal

pub returns-then-signed : goal.returns-then-signed
returns-then-signed c =
    let most : c.greatest_of-greatest.result ≡ greatest (bits_of c.args.width) true = rw c.if-signed.true at c.greatest_of-greatest.ensures in
    let nested = append_assoc (decimal c.negatives_of-negatives.result) (codes " to ") (decimal c.greatest_of-greatest.result) in
    rw (c.if-signed.true, ← most, ← c.negatives_of-negatives.ensures, nested) c.format.ensures.ok
