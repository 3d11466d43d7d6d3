use Rattle.std.proofs.Common.{◌∙◌, length, map, sym, ap, arith}
use Rattle.std.proofs.lemmas.Bool.{eq-eqb, true≢false}
use Rattle.catalogue.specs.Entries.{plain_entry}
use Rattle.catalogue.specs.inner.Places.{place_of}
use Rattle.catalogue.proofs.Standing.{absent}
use Rattle.catalogue.specs.laws.Changed.{more_none}
use Rattle.catalogue.proofs.Seats.{place_in, more_at, kept_at}
use Rattle.catalogue.proofs.edits.append_to.Goals as goal

pub index_mut-requires : goal.index_mut-requires
index_mut-requires c =
    let found = ap (λ es. place_of c.args.name.now 0 (map plain_entry es)) (sym c.deref.ensures.value) ∙ sym c.place_of.ensures ∙ c.in-Some.is in
    let p = place_in c.args.entries.now.items c.args.name.now c.in-Some.place found in
    let w = p.within in
    omega (arith, w, c.deref.ensures.len, c.deref.ensures.value)

pub returns-in-Some-clause-appended : goal.returns-in-Some-clause-appended
returns-in-Some-clause-appended c =
    let found = ap (λ es. place_of c.args.name.now 0 (map plain_entry es)) (sym c.deref.ensures.value) ∙ sym c.place_of.ensures ∙ c.in-Some.is in
    more_at c.append_more.result c.args.entries.now.items c.args.name.now c.in-Some.place c.index_mut.result.now c.append_more.new.entry c.args.more.now (λ none. absurd (true≢false (sym (eq-eqb (length c.args.more.now) 0 none) ∙ sym c.if-is_empty.ensures))) found c.index_mut.ensures.value c.append_more.ensures.more

pub returns-in-Some-clause-err : goal.returns-in-Some-clause-err
returns-in-Some-clause-err c = kept_at c.append_more.result c.args.entries.now.items c.in-Some.place c.index_mut.result.now c.append_more.new.entry c.index_mut.ensures.value c.append_more.ensures.err

pub returns-in-None-clause-appended : goal.returns-in-None-clause-appended
returns-in-None-clause-appended c =
    let found = ap (λ es. place_of c.args.name.now 0 (map plain_entry es)) (sym c.deref.ensures.value) ∙ sym c.place_of.ensures ∙ c.in-None.is in
    sym (more_none (map plain_entry c.args.entries.now.items) c.args.name.now c.args.more.now (absent (map plain_entry c.args.entries.now.items) c.args.name.now 0 found).stood)
