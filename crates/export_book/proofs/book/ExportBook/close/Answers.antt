use Rattle.std.proofs.Common.{◌≡◌, ◌∙◌, map, Some, sym, ap, subst, arith}
use Rattle.std.specs.List.{position}
use Rattle.export_book.specs.Book.{IsBook, without}
use Rattle.export_book.specs.declared.export.OpenExport.{OpenExport}
use Rattle.export_book.specs.Plain.{book_in, plain_export}
use Rattle.export_book.proofs.Places.{has_id, placed, absent}
use Rattle.export_book.proofs.Books.{closed_book}
use Rattle.export_book.proofs.book.ExportBook.close.Goals as goal

pub remove-requires : goal.remove-requires
remove-requires c =
    let found = ap (position (has_id c.args.id)) (sym c.deref.ensures.value) ∙ sym c.place_of.ensures ∙ c.in-Some.is in
    let w = (placed c.args.id c.args.self.now.exports.items c.in-Some.place found).within in
    omega (arith, w, c.deref.ensures.len, c.deref.ensures.value)

pub invariant_of-self : goal.invariant_of-self
invariant_of-self c =
    let s = c.args.self.now in
    let found = ap (position (has_id c.args.id)) (sym c.deref.ensures.value) ∙ sym c.place_of.ensures ∙ c.in-Some.is in
    let p = placed c.args.id s.exports.items c.in-Some.place found in
    let exports = ap (map plain_export) c.remove.ensures.items ∙ p.closed s.sound.rising in
    let is : book_in c.remove.new.self.items s.next ≡ without c.args.id (book_in s.exports.items s.next) = λ i. record { exports = exports i; next = (book_in s.exports.items s.next).next } in
    record { counted = s.counted; sound = subst IsBook (sym is) (closed_book (book_in s.exports.items s.next) c.args.id s.sound) }

pub returns-in-Some-clause-closed : goal.returns-in-Some-clause-closed
returns-in-Some-clause-closed c =
    let s = c.args.self.now in
    let found = ap (position (has_id c.args.id)) (sym c.deref.ensures.value) ∙ sym c.place_of.ensures ∙ c.in-Some.is in
    let p = placed c.args.id s.exports.items c.in-Some.place found in
    let exports = ap (map plain_export) c.remove.ensures.items ∙ p.closed s.sound.rising in
    λ i. record { exports = exports i; next = (book_in s.exports.items s.next).next }

pub returns-in-Some-clause-export : goal.returns-in-Some-clause-export
returns-in-Some-clause-export c =
    let found = ap (position (has_id c.args.id)) (sym c.deref.ensures.value) ∙ sym c.place_of.ensures ∙ c.in-Some.is in
    let p = placed c.args.id c.args.self.now.exports.items c.in-Some.place found in
    ap (λ (e : OpenExport). Some (plain_export e)) c.remove.ensures.value ∙ sym (p.stood c.remove.result)

pub returns-in-None-clause-closed : goal.returns-in-None-clause-closed
returns-in-None-clause-closed c =
    let s = c.args.self.now in
    let none = ap (position (has_id c.args.id)) (sym c.deref.ensures.value) ∙ sym c.place_of.ensures ∙ c.in-None.is in
    let exports = sym (absent c.args.id s.exports.items none).closed in
    λ i. record { exports = exports i; next = (book_in s.exports.items s.next).next }

pub returns-in-None-clause-export : goal.returns-in-None-clause-export
returns-in-None-clause-export c =
    let none = ap (position (has_id c.args.id)) (sym c.deref.ensures.value) ∙ sym c.place_of.ensures ∙ c.in-None.is in
    sym (absent c.args.id c.args.self.now.exports.items none).stood
