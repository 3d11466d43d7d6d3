use Rattle.std.proofs.Common.{◌≡◌, ◌∙◌, ◌||◌, Bool, List, true, length, map, refl, sym, ap, subst}
use Rattle.std.specs.List.{list_all}
use Rattle.std.proofs.lemmas.List.{length-map}
use Rattle.segments.specs.declared.extent.Extent.{Extent}
use Rattle.segments.specs.laws.Usages.{or_false}
use Rattle.catalogue.specs.declared.entry.Segment.{Segment}
use Rattle.catalogue.specs.Entries.{is_segment, is_entry}
use Rattle.catalogue.specs.laws.Changed.{found_passes}
use Rattle.catalogue.specs.laws.Kept.{catalogue_is, entry_is}
use Rattle.commit.specs.Standing.{is_on_device}
use Rattle.store_runs.specs.Calls.{refused}
use Rattle.store_changes.specs.Source.{AreReadable}
use Rattle.store_changes.specs.laws.ReadTables.{reads_quiet}
use Rattle.store_changes.specs.laws.StepParts.{segment_placed}
use Rattle.store.specs.Fits.{listed_in}
use Rattle.store.specs.inner.Sending.{plain_item, ArePicked}
use Rattle.store.proofs.SentAhead.{picked_readable, picked_sound, picked_number}
use Rattle.store.proofs.StillSound.{entry_placed}
use Rattle.store.proofs.Streamed.{sound_here}
use Rattle.store.proofs.store.Store.send_items.Goals as goal

pub returns-in-Err-clause-reads : goal.returns-in-Err-clause-reads
returns-in-Err-clause-reads g c =
    let D = g.D.SectorDevice in
    let store = c.args.self.now in
    let quiet = c.in-Err.ensures.quiet in
    record {
      device = reads_quiet D.size D.story D.failed D.tells (refused c.in-Err.refusal) store.device quiet;
      kept = refl;
      book = refl;
      halts = sym (ap (λ (b : Bool). store.halted || b) quiet ∙ or_false store.halted);
    }

pub send_picked-sent-requires-clause-readable : goal.send_picked-sent-requires-clause-readable
send_picked-sent-requires-clause-readable g c =
    let D = g.D.SectorDevice in
    let store = c.args.self.now in
    let on = λ (e : Extent). is_on_device (D.size store.device) e.run ≡ true in
    subst (AreReadable on) (sym c.deref.ensures.value)
    (picked_readable (listed_in store) on
    (λ x g named. segment_placed (D.size store.device) named.0.segments x.place g (entry_placed store x.name named.0 named.1) named.2)
    (map plain_item c.args.items.now) c.in-Ok.segments.items c.in-Ok.ensures.picked)

pub send_picked-sent-requires-clause-sound : goal.send_picked-sent-requires-clause-sound
send_picked-sent-requires-clause-sound g c =
    let store = c.args.self.now in
    let entries = (catalogue_is (listed_in store) store.opened.catalogue.list.kept).entries in
    subst (λ (gs : List Segment). list_all is_segment gs ≡ true) (sym c.deref.ensures.value)
    (picked_sound (listed_in store)
    (λ x g named. sound_here named.0.segments x.place g (entry_is named.0 (found_passes is_entry (listed_in store) x.name named.0 entries named.1)).segments named.2)
    (map plain_item c.args.items.now) c.in-Ok.segments.items c.in-Ok.ensures.picked)

pub send_picked-sent-requires-clause-picked : goal.send_picked-sent-requires-clause-picked
send_picked-sent-requires-clause-picked g c =
    subst (ArePicked (listed_in c.args.self.now) (map plain_item c.args.items.now)) (sym c.deref.ensures.value) c.in-Ok.ensures.picked

pub send_picked-sent-requires-clause-each : goal.send_picked-sent-requires-clause-each
send_picked-sent-requires-clause-each g c =
    ap length c.deref.ensures.value ∙ picked_number (listed_in c.args.self.now) (map plain_item c.args.items.now) c.in-Ok.segments.items c.in-Ok.ensures.picked
    ∙ length-map c.args.items.now plain_item
