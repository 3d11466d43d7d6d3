-- The plain value of a book of the code, whatever memory it uses.
use Rattle.export_book.specs.declared.book.ExportBook.{ExportBook}
use Rattle.export_book.specs.Book.{PlainBook}
use Rattle.export_book.specs.Plain.{book_in}

abbrev pub book_of : ExportBook → PlainBook
book_of b = book_in b.exports.items b.next
