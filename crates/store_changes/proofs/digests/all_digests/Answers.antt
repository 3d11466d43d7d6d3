use Rattle.std.proofs.Common.{◌≡◌, ◌++◌, ◌∙◌, true, ℕ, List, Result, Err, map, take, take_all, refl, sym, ap, subst, arith}
use Rattle.sector_dev.specs.Disk.{now, shown_image}
use Rattle.catalogue.specs.declared.entry.Segment.{Segment}
use Rattle.catalogue.specs.declared.entry.TableEntry.{TableEntry}
use Rattle.catalogue.specs.Entries.{plain_entry}
use Rattle.commit.specs.Standing.{is_size}
use Rattle.tables.specs.declared.refusal.Refusal.{Refusal}
use Rattle.tables.specs.declared.refusal.Refusal.TheVariants as refusals
use Rattle.store_runs.specs.Calls.{done, refused}
use Rattle.store_runs.specs.Digesting.{AllDigested}
use Rattle.store_changes.specs.laws.ReadTables.{reads_none, reads_more, reads_ended, image_then}
use Rattle.store_changes.proofs.StepFound.{item_at, item_placed, item_sound}
use Rattle.store_changes.proofs.Digesting.{is_digested_then, all_digested_more, tables_more, unreads_then}
use Rattle.store_changes.proofs.digests.all_digests.Goals as goal

-- memory was refused
abbrev no_memory : Result ℕ Refusal
no_memory = Err refusals.OutOfMemory

pub loop-entry-init : goal.loop-entry-init
loop-entry-init g c =
    let D = g.D.SectorDevice in
    record { reads = reads_none D.size D.story D.failed D.tells c.args.device.now; read = λ number e lt at. absurd (omega (arith, lt)); own = c.new-digests.ensures.items }

pub entry_digests-requires-clause-size : goal.entry_digests-requires-clause-size
entry_digests-requires-clause-size g c = ap is_size c.loop-entry.invariant.reads.same ∙ c.requires.size

pub entry_digests-requires-clause-placed : goal.entry_digests-requires-clause-placed
entry_digests-requires-clause-placed g c =
    let D = g.D.SectorDevice in
    item_placed c.args.entries.now c.loop-entry.entry-index c.entry-item.result c.loop-entry-test.true c.entry-item.is c.requires.stands (D.size c.args.device.now) (D.size c.loop-entry.device) c.loop-entry.invariant.reads.same c.requires.placed

pub entry_digests-requires-clause-sound : goal.entry_digests-requires-clause-sound
entry_digests-requires-clause-sound g c = item_sound c.args.entries.now c.loop-entry.entry-index c.entry-item.result c.loop-entry-test.true c.entry-item.is c.requires.stands

pub loop-entry-preserved : goal.loop-entry-preserved
loop-entry-preserved g c =
    let D = g.D.SectorDevice in
    let before = D.story c.args.device.now in
    let mid = D.story c.loop-entry.device in
    let shown = shown_image (now before) in
    let later = shown_image (now mid) in
    let entries = c.args.entries.now in
    let i = c.loop-entry.entry-index in
    let item = c.entry-item.result in
    let e = plain_entry item in
    let lt = c.loop-entry-test.true in
    let same : D.tells ≡ true → later ≡ shown = λ told. image_then before mid (c.loop-entry.invariant.reads.moments told) in
    let digests = c.loop-entry.digests.items in
    let one = is_digested_then D.tells shown later same e c.in-Ok.own.items c.in-Ok.ensures.found in
    let pushed = c.in-Ok-extend_from_slice.ensures.items ∙ ap (λ (ds : List (List ℕ)). digests ++ ds) c.deref.ensures.value in
    record {
      reads = reads_more D.size D.story D.failed D.tells done c.args.device.now c.loop-entry.device c.entry_digests.new.device c.loop-entry.invariant.reads c.in-Ok.ensures.reads;
      read = tables_more D.tells shown (map plain_entry entries) i e (item_at entries i item lt c.entry-item.is) c.loop-entry.invariant.read (one.table, one.read);
      own = all_digested_more D.tells shown entries i item digests c.extend_from_slice.new.self.items c.in-Ok.own.items lt c.entry-item.is
          c.loop-entry.invariant.own one pushed;
    }

pub returns-in-Err-clause-reads : goal.returns-in-Err-clause-reads
returns-in-Err-clause-reads g c =
    let D = g.D.SectorDevice in
    reads_more D.size D.story D.failed D.tells (refused c.in-Err.refusal) c.args.device.now c.loop-entry.device c.entry_digests.new.device c.loop-entry.invariant.reads c.in-Err.ensures.reads

pub returns-in-Err-clause-stops : goal.returns-in-Err-clause-stops
returns-in-Err-clause-stops g c =
    let D = g.D.SectorDevice in
    let before = D.story c.args.device.now in
    let mid = D.story c.loop-entry.device in
    let item = c.entry-item.result in
    record {
      number = c.loop-entry.entry-index;
      entry = plain_entry item;
      at = item_at c.args.entries.now c.loop-entry.entry-index item c.loop-entry-test.true c.entry-item.is;
      before = c.loop-entry.invariant.read;
      stops = unreads_then D.tells (shown_image (now before)) (shown_image (now mid)) (λ told. image_then before mid (c.loop-entry.invariant.reads.moments told)) (plain_entry item) c.in-Err.refusal c.in-Err.ensures.unread;
    }

pub returns-clause-reads : goal.returns-clause-reads
returns-clause-reads g c = c.loop-entry.invariant.reads

pub returns-clause-found : goal.returns-clause-found
returns-clause-found g c =
    let D = g.D.SectorDevice in
    let image = shown_image (now (D.story c.args.device.now)) in
    subst (λ (es : List TableEntry). AllDigested D.tells image (map plain_entry es) c.loop-entry.digests.items)
    (take_all c.loop-entry.entry-index c.args.entries.now (omega (arith, c.loop-entry-test.false))) c.loop-entry.invariant.own

pub returns-in-Err-extend_from_slice-clause-reads : goal.returns-in-Err-extend_from_slice-clause-reads
returns-in-Err-extend_from_slice-clause-reads g c =
    let D = g.D.SectorDevice in
    reads_ended D.size D.story D.failed D.tells no_memory c.args.device.now c.entry_digests.new.device refl
    (reads_more D.size D.story D.failed D.tells done c.args.device.now c.loop-entry.device c.entry_digests.new.device c.loop-entry.invariant.reads c.in-Ok.ensures.reads)

pub returns-in-Err-extend_from_slice-clause-stops : goal.returns-in-Err-extend_from_slice-clause-stops
returns-in-Err-extend_from_slice-clause-stops g c =
    let item = c.entry-item.result in
    record {
      number = c.loop-entry.entry-index;
      entry = plain_entry item;
      at = item_at c.args.entries.now c.loop-entry.entry-index item c.loop-entry-test.true c.entry-item.is;
      before = c.loop-entry.invariant.read;
      stops = tt;
    }
