use Rattle.std.proofs.Common.{◌∙◌, map, Some, sym, ap, arith}
use Rattle.catalogue.specs.declared.entry.TableEntry.{TableEntry}
use Rattle.catalogue.specs.Entries.{plain_entry}
use Rattle.catalogue.specs.inner.Places.{place_of}
use Rattle.catalogue.proofs.Standing.{absent}
use Rattle.catalogue.proofs.Seats.{place_in}
use Rattle.catalogue.proofs.catalogue.Catalogue.get.Goals as goal

pub index-requires : goal.index-requires
index-requires c =
    let found = ap (λ es. place_of c.args.name.now 0 (map plain_entry es)) (sym c.deref.ensures.value) ∙ sym c.place_of.ensures ∙ c.in-Some.is in
    let p = place_in c.args.self.now.entries.items c.args.name.now c.in-Some.place found in
    let w = p.within in
    omega (arith, w, c.deref.ensures.len, c.deref.ensures.value)

pub returns-in-Some-clause-entry : goal.returns-in-Some-clause-entry
returns-in-Some-clause-entry c =
    let found = ap (λ es. place_of c.args.name.now 0 (map plain_entry es)) (sym c.deref.ensures.value) ∙ sym c.place_of.ensures ∙ c.in-Some.is in
    let p = place_in c.args.self.now.entries.items c.args.name.now c.in-Some.place found in
    ap (λ (e : TableEntry). Some (plain_entry e)) c.index.ensures ∙ sym (p.stood c.index.result.now)

pub returns-in-None-clause-entry : goal.returns-in-None-clause-entry
returns-in-None-clause-entry c =
    let found = ap (λ es. place_of c.args.name.now 0 (map plain_entry es)) (sym c.deref.ensures.value) ∙ sym c.place_of.ensures ∙ c.in-None.is in
    sym (absent (map plain_entry c.args.self.now.entries.items) c.args.name.now 0 found).stood
