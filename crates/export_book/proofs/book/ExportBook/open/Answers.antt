use Rattle.std.proofs.Common.{◌≡◌, ◌<◌, ◌^◌, ℕ, List, Result, Ok, Err, OnErr, refl, sym, ap, subst}
use Rattle.export_book.specs.laws.Ids.{has_room}
use Rattle.catalogue.specs.Entries.{plain_entry}
use Rattle.export_book.specs.declared.export.OpenExport.{OpenExport}
use Rattle.export_book.specs.Book.{IsBook}
use Rattle.export_book.specs.Plain.{book_in, next_id}
use Rattle.export_book.proofs.Books.{some_id, open_book, opened_is, counted_next}
use Rattle.export_book.proofs.book.ExportBook.open.Goals as goal

pub unwrap-id-requires : goal.unwrap-id-requires
unwrap-id-requires c = some_id c.args.self.now.exports.items c.args.self.now.next c.requires.room

pub invariant_of-self : goal.invariant_of-self
invariant_of-self c =
    let s = c.args.self.now in record { counted = s.counted; sound = subst (λ (es : List OpenExport). IsBook (book_in es s.next)) (sym c.in_err-push.ensures.items) s.sound }

pub invariant_of-self-2 : goal.invariant_of-self-2
invariant_of-self-2 c =
    let s = c.args.self.now in
    let lower : c.unwrap-id.result < 2 ^ 64 = subst (λ (n : ℕ). n < 2 ^ 64) (ap next_id c.unwrap-id.ensures) (has_room (book_in s.exports.items s.next) c.requires.room).1 in
    let is = opened_is s.exports.items c.push.new.self.items s.next c.checked_add-next.result _ c.in_ok-push.ensures.items c.unwrap-id.ensures refl c.checked_add-next.ensures lower in
    record {
      counted = counted_next c.unwrap-id.result c.checked_add-next.result c.checked_add-next.ensures;
      sound = subst IsBook (sym is) (open_book (book_in s.exports.items s.next) (plain_entry c.args.entry).schema (plain_entry c.args.entry).segments s.sound c.requires.room c.requires.short c.requires.once);
    }

pub returns-clause-id : goal.returns-clause-id
returns-clause-id c = sym (ap next_id c.unwrap-id.ensures)

pub returns-clause-opened : goal.returns-clause-opened
returns-clause-opened c =
    let s = c.args.self.now in
    let lower : c.unwrap-id.result < 2 ^ 64 = subst (λ (n : ℕ). n < 2 ^ 64) (ap next_id c.unwrap-id.ensures) (has_room (book_in s.exports.items s.next) c.requires.room).1 in
    opened_is s.exports.items c.push.new.self.items s.next c.checked_add-next.result _ c.in_ok-push.ensures.items c.unwrap-id.ensures refl c.checked_add-next.ensures lower

-- what holds holds of an error too
holds_err : {A B : Type 0} (P : Type 0) (r : Result A B) → P → OnErr r P
holds_err P (Ok x) holds = tt
holds_err P (Err e) holds = holds

pub returns-in_err-push-clause-err : goal.returns-in_err-push-clause-err
returns-in_err-push-clause-err c =
    holds_err (book_in c.push.new.self.items c.args.self.now.next ≡ book_in c.args.self.now.exports.items c.args.self.now.next) c.from_residual-in_err-push.result
    (ap (λ (es : List OpenExport). book_in es c.args.self.now.next) c.in_err-push.ensures.items)
