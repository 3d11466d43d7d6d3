use Rattle.std.proofs.Common.{◌∷◌, [], inr, map, ap, ◌∙◌, sym}
use Rattle.std.proofs.lemmas.Option.{same_Some}
use Rattle.catalogue.specs.Entries.{PlainEntry, plain_entry}
use Rattle.store_runs.specs.Changes.{exchange}
use Rattle.store_changes.proofs.StepFound.{last_is, last_sound, last_placed, last_within, some_sectors}
use Rattle.store_changes.proofs.moving.decide_move.Goals as goal

pub fits_below-requires : goal.fits_below-requires
fits_below-requires g c =
    let D = g.D.SectorDevice in
    some_sectors (D.size c.args.device.now) c.in-Some.last.segment.place.run (last_placed (D.size c.args.device.now) (map plain_entry c.args.entries.now) c.requires.stands c.requires.placed c.in-Some.last c.in-Some.ensures)

pub returns-then-not-fits_below-clause-found : goal.returns-then-not-fits_below-clause-found
returns-then-not-fits_below-clause-found g c =
    let last = c.in-Some.last in
    let is = last_is (map plain_entry c.args.entries.now) last c.in-Some.ensures in
    inr (record { number = last.table; place = last.place; entry = is.0; segment = last.segment; last = is.1; still = c.fits_below.ensures.still c.if-not-fits_below.true })

pub read_bytes-requires-clause-readable : goal.read_bytes-requires-clause-readable
read_bytes-requires-clause-readable g c =
    let D = g.D.SectorDevice in last_placed (D.size c.args.device.now) (map plain_entry c.args.entries.now) c.requires.stands c.requires.placed c.in-Some.last c.in-Some.ensures

pub read_bytes-requires-clause-sound : goal.read_bytes-requires-clause-sound
read_bytes-requires-clause-sound g c = last_sound (map plain_entry c.args.entries.now) c.requires.stands c.in-Some.last c.in-Some.ensures

pub entry_at-requires : goal.entry_at-requires
entry_at-requires g c = last_within c.args.entries.now c.in-Some.last c.in-Some.ensures

pub returns-in-Ok-copy_of-clause-found : goal.returns-in-Ok-copy_of-clause-found
returns-in-Ok-copy_of-clause-found g c =
    let last = c.in-Some.last in
    let is = last_is (map plain_entry c.args.entries.now) last c.in-Some.ensures in
    let below = c.fits_below.ensures.below c.if-not-fits_below.false in
    let named = same_Some (plain_entry c.entry_at.result.now) is.0 (sym c.entry_at.ensures ∙ is.1.found) in
    record {
      number = last.table;
      place = last.place;
      entry = is.0;
      segment = last.segment;
      last = is.1;
      run = below.0;
      lowest = below.1;
      below = below.2;
      bytes = c.in-Ok.bytes.items;
      copy = c.in-Ok.ensures.copy;
      is = c.in-Ok-copy_of.ensures ∙ ap (λ (e : PlainEntry). record { edit = exchange e.name last.place 1; streams = c.in-Ok.bytes.items ∷ []; counts = last.segment.rows ∷ [] }) named;
    }

pub returns-in-Err-copy_of-clause-unread : goal.returns-in-Err-copy_of-clause-unread
returns-in-Err-copy_of-clause-unread g c =
    let last = c.in-Some.last in
    let is = last_is (map plain_entry c.args.entries.now) last c.in-Some.ensures in
    record { number = last.table; place = last.place; entry = is.0; segment = last.segment; last = is.1; unread = tt }

pub returns-in-Err-clause-unread : goal.returns-in-Err-clause-unread
returns-in-Err-clause-unread g c =
    let last = c.in-Some.last in
    let is = last_is (map plain_entry c.args.entries.now) last c.in-Some.ensures in
    record { number = last.table; place = last.place; entry = is.0; segment = last.segment; last = is.1; unread = c.in-Err.ensures.told }
