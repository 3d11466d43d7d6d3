use Rattle.std.proofs.Common.{◌∙◌, Some, sym, ap, arith}
use Rattle.std.specs.List.{position}
use Rattle.export_book.specs.declared.export.OpenExport.{OpenExport}
use Rattle.export_book.specs.Plain.{plain_export}
use Rattle.export_book.proofs.Places.{has_id, placed, absent}
use Rattle.export_book.proofs.book.ExportBook.get.Goals as goal

pub index-requires : goal.index-requires
index-requires c =
    let found = ap (position (has_id c.args.id)) (sym c.deref.ensures.value) ∙ sym c.place_of.ensures ∙ c.in-Some.is in
    let w = (placed c.args.id c.args.self.now.exports.items c.in-Some.place found).within in
    omega (arith, w, c.deref.ensures.len, c.deref.ensures.value)

pub returns-in-Some-clause-export : goal.returns-in-Some-clause-export
returns-in-Some-clause-export c =
    let found = ap (position (has_id c.args.id)) (sym c.deref.ensures.value) ∙ sym c.place_of.ensures ∙ c.in-Some.is in
    let p = placed c.args.id c.args.self.now.exports.items c.in-Some.place found in
    ap (λ (e : OpenExport). Some (plain_export e)) c.index.ensures ∙ sym (p.stood c.index.result.now)

pub returns-in-None-clause-export : goal.returns-in-None-clause-export
returns-in-None-clause-export c =
    let none = ap (position (has_id c.args.id)) (sym c.deref.ensures.value) ∙ sym c.place_of.ensures ∙ c.in-None.is in
    sym (absent c.args.id c.args.self.now.exports.items none).stood
