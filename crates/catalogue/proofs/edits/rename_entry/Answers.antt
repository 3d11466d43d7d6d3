use Rattle.std.proofs.Common.{◌≡◌, ◌∙◌, ℕ, true, List, Result, Ok, Err, Some, map, is_ok, OnOk, sym, ap, arith}
use Rattle.std.specs.Prelude.{string_bytes}
use Rattle.catalogue.specs.declared.entry.TableEntry.{TableEntry}
use Rattle.catalogue.specs.Entries.{PlainEntry, PlainCatalogue, plain_entry, names_of, ascends}
use Rattle.catalogue.specs.laws.Order.{without_rises}
use Rattle.catalogue.specs.Edits.{entry_of, with_entry, without, named, renamed}
use Rattle.catalogue.specs.inner.Places.{place_of}
use Rattle.catalogue.specs.laws.Changed.{renamed_is, renamed_none}
use Rattle.catalogue.proofs.Standing.{absent}
use Rattle.catalogue.proofs.Seats.{place_in}
use Rattle.catalogue.proofs.edits.rename_entry.Goals as goal

pub index-requires : goal.index-requires
index-requires c =
    let found = ap (λ es. place_of c.args.from.now 0 (map plain_entry es)) (sym c.deref.ensures.value) ∙ sym c.place_of.ensures ∙ c.in-Some.is in
    let p = place_in c.args.entries.now.items c.args.from.now c.in-Some.place found in
    let w = p.within in
    omega (arith, w, c.deref.ensures.len)

pub remove-requires : goal.remove-requires
remove-requires c =
    let found = ap (λ es. place_of c.args.from.now 0 (map plain_entry es)) (sym c.deref.ensures.value) ∙ sym c.place_of.ensures ∙ c.in-Some.is in
    let p = place_in c.args.entries.now.items c.args.from.now c.in-Some.place found in
    let w = p.within in
    omega (arith, w, c.deref.ensures.len)

pub put_entry-requires : goal.put_entry-requires
put_entry-requires c =
    let es = c.args.entries.now.items in
    let found = ap (λ es. place_of c.args.from.now 0 (map plain_entry es)) (sym c.deref.ensures.value) ∙ sym c.place_of.ensures ∙ c.in-Some.is in
    let p = place_in es c.args.from.now c.in-Some.place found in
    ap (λ (fs : List TableEntry). ascends (names_of (map plain_entry fs))) c.remove.ensures.items
    ∙ ap (λ (d : PlainCatalogue). ascends (names_of d)) p.removed
    ∙ without_rises (map plain_entry es) c.args.from.now c.requires

-- what was taken out is put back under its other name
moved : {A B : Type 0} (r : Result A B) (old left new : PlainCatalogue) (from to : List ℕ) (e made : PlainEntry) → is_ok r ≡ true → entry_of old from ≡ Some e → left ≡ without old from → made ≡ named to e → OnOk r (new ≡ with_entry left made) → new ≡ renamed old from to
moved (Ok x) old left new from to e made ok found taken is put =
    put ∙ (λ i. with_entry (taken i) (is i)) ∙ sym (renamed_is old from to e found)
moved (Err x) old left new from to e made ok found taken is put = absurd cc

pub returns-in_ok-renamed-in-Some-clause-renamed : goal.returns-in_ok-renamed-in-Some-clause-renamed
returns-in_ok-renamed-in-Some-clause-renamed c =
    let es = c.args.entries.now.items in
    let found = ap (λ es. place_of c.args.from.now 0 (map plain_entry es)) (sym c.deref.ensures.value) ∙ sym c.place_of.ensures ∙ c.in-Some.is in
    let p = place_in es c.args.from.now c.in-Some.place found in
    let e = plain_entry c.index.result.now in
    let stood = p.stood c.index.result.now ∙ ap (λ (e : TableEntry). Some (plain_entry e)) (sym c.index.ensures) in
    moved c.put_entry.result (map plain_entry es) (map plain_entry c.remove.new.self.items) (map plain_entry c.put_entry.new.entries.items) c.args.from.now (string_bytes c.args.to) e (plain_entry c.in_ok-renamed-in-Some.renamed)
    (ap is_ok c.unwrap.ensures) stood (ap (map plain_entry) c.remove.ensures.items ∙ p.removed) c.in_ok-renamed-in-Some.ensures c.put_entry.ensures.put

pub returns-in-None-clause-renamed : goal.returns-in-None-clause-renamed
returns-in-None-clause-renamed c =
    let old = map plain_entry c.args.entries.now.items in
    let found = ap (λ es. place_of c.args.from.now 0 (map plain_entry es)) (sym c.deref.ensures.value) ∙ sym c.place_of.ensures ∙ c.in-None.is in
    sym (renamed_none old c.args.from.now (string_bytes c.args.to) (absent old c.args.from.now 0 found).stood)
