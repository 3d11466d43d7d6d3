use Rattle.std.proofs.Common.{◌∙◌, map, sym, ap, arith}
use Rattle.catalogue.specs.Entries.{plain_entry}
use Rattle.catalogue.specs.inner.Places.{place_of}
use Rattle.catalogue.proofs.Standing.{absent}
use Rattle.catalogue.specs.laws.Changed.{exchanged_none}
use Rattle.catalogue.proofs.Seats.{place_in, exchanged_at, kept_at}
use Rattle.catalogue.proofs.edits.exchange_in.Goals as goal

pub index_mut-requires : goal.index_mut-requires
index_mut-requires c =
    let found = ap (λ es. place_of c.args.name.now 0 (map plain_entry es)) (sym c.deref.ensures.value) ∙ sym c.place_of.ensures ∙ c.in-Some.is in
    let p = place_in c.args.entries.now.items c.args.name.now c.in-Some.at found in
    let w = p.within in
    omega (arith, w, c.deref.ensures.len, c.deref.ensures.value)

pub returns-in-Some-clause-exchanged : goal.returns-in-Some-clause-exchanged
returns-in-Some-clause-exchanged c =
    let found = ap (λ es. place_of c.args.name.now 0 (map plain_entry es)) (sym c.deref.ensures.value) ∙ sym c.place_of.ensures ∙ c.in-Some.is in
    exchanged_at c.exchange.result c.args.entries.now.items c.args.name.now c.in-Some.at c.index_mut.result.now c.exchange.new.entry c.args.place c.args.count c.args.others.now found c.index_mut.ensures.value c.exchange.ensures.exchanged

pub returns-in-Some-clause-err : goal.returns-in-Some-clause-err
returns-in-Some-clause-err c = kept_at c.exchange.result c.args.entries.now.items c.in-Some.at c.index_mut.result.now c.exchange.new.entry c.index_mut.ensures.value c.exchange.ensures.err

pub returns-in-None-clause-exchanged : goal.returns-in-None-clause-exchanged
returns-in-None-clause-exchanged c =
    let found = ap (λ es. place_of c.args.name.now 0 (map plain_entry es)) (sym c.deref.ensures.value) ∙ sym c.place_of.ensures ∙ c.in-None.is in
    sym (exchanged_none (map plain_entry c.args.entries.now.items) c.args.name.now c.args.place c.args.count c.args.others.now (absent (map plain_entry c.args.entries.now.items) c.args.name.now 0 found).stood)
