use Rattle.std.proofs.Common.{◌∙◌, map, Some, sym, ap, arith}
use Rattle.catalogue.specs.declared.entry.TableEntry.{TableEntry}
use Rattle.catalogue.specs.Entries.{plain_entry}
use Rattle.catalogue.specs.inner.Places.{place_of}
use Rattle.catalogue.proofs.Standing.{absent}
use Rattle.catalogue.proofs.Seats.{place_in}
use Rattle.catalogue.proofs.edits.take_entry.Goals as goal

pub remove-requires : goal.remove-requires
remove-requires c =
    let found = ap (λ es. place_of c.args.name.now 0 (map plain_entry es)) (sym c.deref.ensures.value) ∙ sym c.place_of.ensures ∙ c.in-Some.is in
    let p = place_in c.args.entries.now.items c.args.name.now c.in-Some.place found in
    let w = p.within in
    omega (arith, w, c.deref.ensures.len, c.deref.ensures.value)

pub returns-in-Some-clause-removed : goal.returns-in-Some-clause-removed
returns-in-Some-clause-removed c =
    let found = ap (λ es. place_of c.args.name.now 0 (map plain_entry es)) (sym c.deref.ensures.value) ∙ sym c.place_of.ensures ∙ c.in-Some.is in
    let p = place_in c.args.entries.now.items c.args.name.now c.in-Some.place found in
    ap (map plain_entry) c.remove.ensures.items ∙ p.removed

pub returns-in-Some-clause-stood : goal.returns-in-Some-clause-stood
returns-in-Some-clause-stood c =
    let found = ap (λ es. place_of c.args.name.now 0 (map plain_entry es)) (sym c.deref.ensures.value) ∙ sym c.place_of.ensures ∙ c.in-Some.is in
    let p = place_in c.args.entries.now.items c.args.name.now c.in-Some.place found in
    ap (λ (e : TableEntry). Some (plain_entry e)) c.remove.ensures.value ∙ sym (p.stood c.remove.result)

pub returns-in-None-clause-removed : goal.returns-in-None-clause-removed
returns-in-None-clause-removed c =
    let found = ap (λ es. place_of c.args.name.now 0 (map plain_entry es)) (sym c.deref.ensures.value) ∙ sym c.place_of.ensures ∙ c.in-None.is in
    sym (absent (map plain_entry c.args.entries.now.items) c.args.name.now 0 found).removed

pub returns-in-None-clause-stood : goal.returns-in-None-clause-stood
returns-in-None-clause-stood c =
    let found = ap (λ es. place_of c.args.name.now 0 (map plain_entry es)) (sym c.deref.ensures.value) ∙ sym c.place_of.ensures ∙ c.in-None.is in
    sym (absent (map plain_entry c.args.entries.now.items) c.args.name.now 0 found).stood
