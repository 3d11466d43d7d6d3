use Rattle.std.proofs.Common.{◌≡◌, take, map}
use Rattle.export_book.specs.Plain.{plain_export}
use Rattle.export_book.specs.Book.{runs_kept}
use Rattle.export_book.proofs.book.ExportBook.runs.Given as goal

abbrev pub invariant-loop-export : goal.invariant-loop-export
invariant-loop-export l = l.runs.items ≡ runs_kept (map plain_export (take l.export-index l.self.exports.items))
