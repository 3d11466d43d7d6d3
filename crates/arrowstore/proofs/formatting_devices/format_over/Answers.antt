use Rattle.std.proofs.Common.{refl}
use Rattle.sector_dev.specs.declared.file.FileError.TheVariants as files
use Rattle.arrowstore.proofs.FileLemmas.{of_formatting, of_places}
use Rattle.arrowstore.proofs.formatting_devices.format_over.Goals as goal

pub returns-then-is_err-clause-refused : goal.returns-then-is_err-clause-refused
returns-then-is_err-clause-refused g c = of_places _ _ c.args.version files.Io refl

pub returns-in-Err-clause-refused : goal.returns-in-Err-clause-refused
returns-in-Err-clause-refused g c = of_formatting _ _ _ c.args.version _ c.clear_front.ensures c.requires c.in-Err.ensures.refused
