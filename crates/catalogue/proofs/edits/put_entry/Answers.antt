use Rattle.std.proofs.Common.{◌∙◌, map, set, Some, sym, ap, arith}
use Rattle.catalogue.specs.declared.entry.TableEntry.{TableEntry}
use Rattle.catalogue.specs.Entries.{plain_entry}
use Rattle.catalogue.specs.inner.Places.{seat_of}
use Rattle.catalogue.proofs.Standing.{none_stood}
use Rattle.catalogue.proofs.Seats.{seat_in, gap_in}
use Rattle.catalogue.proofs.edits.put_entry.Goals as goal

pub index_mut-requires : goal.index_mut-requires
index_mut-requires c =
    let found = (λ i. seat_of (sym c.name.ensures i) 0 (map plain_entry (sym c.deref.ensures.value i))) ∙ sym c.seat_of.ensures ∙ c.in-Ok.is in
    let s = seat_in c.args.entries.now.items c.args.entry c.in-Ok.place found in
    let w = s.within in
    omega (arith, w, c.deref.ensures.len)

pub insert-requires : goal.insert-requires
insert-requires c =
    let found = (λ i. seat_of (sym c.name.ensures i) 0 (map plain_entry (sym c.deref.ensures.value i))) ∙ sym c.seat_of.ensures ∙ c.in-Err.is in
    let g = gap_in c.args.entries.now.items c.args.entry c.in-Err.place found in
    let w = g.within in
    omega (arith, w, c.deref.ensures.len)

pub returns-in-Ok-clause-put : goal.returns-in-Ok-clause-put
returns-in-Ok-clause-put c =
    let es = c.args.entries.now.items in
    let found = (λ i. seat_of (sym c.name.ensures i) 0 (map plain_entry (sym c.deref.ensures.value i))) ∙ sym c.seat_of.ensures ∙ c.in-Ok.is in
    let s = seat_in es c.args.entry c.in-Ok.place found in
    ap (λ (e : TableEntry). map plain_entry (set es c.in-Ok.place e)) c.replace.ensures.after ∙ s.put

pub returns-in-Ok-clause-stood : goal.returns-in-Ok-clause-stood
returns-in-Ok-clause-stood c =
    let es = c.args.entries.now.items in
    let found = (λ i. seat_of (sym c.name.ensures i) 0 (map plain_entry (sym c.deref.ensures.value i))) ∙ sym c.seat_of.ensures ∙ c.in-Ok.is in
    let s = seat_in es c.args.entry c.in-Ok.place found in
    ap (λ (e : TableEntry). Some (plain_entry e)) (c.replace.ensures.value ∙ c.index_mut.ensures.value) ∙ sym (s.stood c.index_mut.result.now)

pub returns-in_ok-insert-in-Err-clause-put : goal.returns-in_ok-insert-in-Err-clause-put
returns-in_ok-insert-in-Err-clause-put c =
    let es = c.args.entries.now.items in
    let found = (λ i. seat_of (sym c.name.ensures i) 0 (map plain_entry (sym c.deref.ensures.value i))) ∙ sym c.seat_of.ensures ∙ c.in-Err.is in
    let g = gap_in es c.args.entry c.in-Err.place found in
    ap (map plain_entry) c.in_ok-insert-in-Err.ensures.items ∙ g.put

pub returns-in_ok-insert-in-Err-clause-stood : goal.returns-in_ok-insert-in-Err-clause-stood
returns-in_ok-insert-in-Err-clause-stood c =
    let es = c.args.entries.now.items in
    let found = (λ i. seat_of (sym c.name.ensures i) 0 (map plain_entry (sym c.deref.ensures.value i))) ∙ sym c.seat_of.ensures ∙ c.in-Err.is in
    sym (none_stood (map plain_entry es) (plain_entry c.args.entry).name 0 c.in-Err.place c.requires found)
