use Rattle.std.proofs.Common.{◌≡◌, ◌∙◌, ◌≤◌, ◌<◌, ◌+◌, length, get_or, refl, sym, ap, subst, arith}
use Rattle.std.specs.List.{position}
use Rattle.catalogue.specs.declared.limits.TheConstants.{MAX_SEGMENTS}
use Rattle.export_book.specs.declared.export.OpenExport.{OpenExport}
use Rattle.catalogue.specs.Entries.{plain_entry}
use Rattle.export_book.specs.Book.{PlainExport, IsBook, MayGive}
use Rattle.export_book.specs.Plain.{book_in, next_id}
use Rattle.export_book.proofs.Places.{has_id, placed, given_at, absent}
use Rattle.export_book.proofs.Books.{each_at, given_book}
use Rattle.export_book.proofs.book.ExportBook.give.Goals as goal

pub index_mut-export-requires : goal.index_mut-export-requires
index_mut-export-requires c =
    let found = ap (position (has_id c.args.id)) (sym c.deref.ensures.value) ∙ sym c.place_of.ensures ∙ c.in-Some.is in
    let w = (placed c.args.id c.args.self.now.exports.items c.in-Some.place found).within in
    omega (arith, w, c.deref.ensures.len, c.deref.ensures.value)

pub overflow_add-export : goal.overflow_add-export
overflow_add-export c =
    let es = c.args.self.now.exports.items in
    let found = ap (position (has_id c.args.id)) (sym c.deref.ensures.value) ∙ sym c.place_of.ensures ∙ c.in-Some.is in
    let p = placed c.args.id es c.in-Some.place found in
    let x = c.index_mut-export.result.now in
    let at = get_or es c.in-Some.place x in
    let may : at.given < length (plain_entry at.entry).segments + 2 = subst MayGive (p.stood x) c.requires in
    let short : length (plain_entry at.entry).segments ≤ MAX_SEGMENTS = each_at (λ (e : PlainExport). length e.segments ≤ MAX_SEGMENTS) es c.in-Some.place x c.args.self.now.sound.short p.within in
    let same : x.given ≡ at.given = ap (λ (e : OpenExport). e.given) c.index_mut-export.ensures.value in
    omega (arith, may, short, same)

pub invariant_of-self : goal.invariant_of-self
invariant_of-self c =
    let s = c.args.self.now in
    let found = ap (position (has_id c.args.id)) (sym c.deref.ensures.value) ∙ sym c.place_of.ensures ∙ c.in-Some.is in
    let p = placed c.args.id s.exports.items c.in-Some.place found in
    let x = c.index_mut-export.result.now in
    let is = given_at c.args.id s.exports.items s.next c.in-Some.place x _ p s.sound.rising c.index_mut-export.ensures.value refl in
    record { counted = s.counted; sound = subst IsBook (sym is) (given_book (book_in s.exports.items s.next) c.args.id s.sound) }

pub returns-in-Some : goal.returns-in-Some
returns-in-Some c =
    let s = c.args.self.now in
    let found = ap (position (has_id c.args.id)) (sym c.deref.ensures.value) ∙ sym c.place_of.ensures ∙ c.in-Some.is in
    let p = placed c.args.id s.exports.items c.in-Some.place found in
    let x = c.index_mut-export.result.now in
    given_at c.args.id s.exports.items s.next c.in-Some.place x _ p s.sound.rising c.index_mut-export.ensures.value refl

pub returns-in-None : goal.returns-in-None
returns-in-None c =
    let s = c.args.self.now in
    let none = ap (position (has_id c.args.id)) (sym c.deref.ensures.value) ∙ sym c.place_of.ensures ∙ c.in-None.is in
    let exports = sym (absent c.args.id s.exports.items none).given in
    λ i. record { exports = exports i; next = next_id s.next }
