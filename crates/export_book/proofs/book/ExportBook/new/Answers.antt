use Rattle.std.proofs.Common.{Some, List, refl, sym, subst}
use Rattle.export_book.specs.declared.export.OpenExport.{OpenExport}
use Rattle.export_book.specs.Book.{IsBook}
use Rattle.export_book.specs.Plain.{book_in}
use Rattle.export_book.proofs.Books.{new_book}
use Rattle.export_book.proofs.book.ExportBook.new.Goals as goal

pub invariant_of-result : goal.invariant_of-result
invariant_of-result c = record { counted = refl; sound = subst (λ (es : List OpenExport). IsBook (book_in es (Some 0))) (sym c.new.ensures.items) new_book }
