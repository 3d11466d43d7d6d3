use Rattle.std.proofs.Common.{◌≡◌, true, drop, refl, sym, subst}
use Rattle.catalogue.specs.Entries.{PlainEntry, plain_entry, is_entry, runs_in_segments}
use Rattle.catalogue.specs.laws.Kept.{entry_is, entry_stands}
use Rattle.commit.specs.Standing.{all_on_device}
use Rattle.store_runs.specs.Compacting.{pair_of}
use Rattle.store_changes.specs.laws.StepParts.{neighbours_pass, parts_placed}
use Rattle.store_changes.proofs.pairs.read_pair.Goals as goal

pub read_entry-requires-clause-placed : goal.read_entry-requires-clause-placed
read_entry-requires-clause-placed g c =
    let size = g.D.SectorDevice.size c.args.device.now in
    let e = plain_entry c.args.entry.now in
    subst (λ (x : PlainEntry). all_on_device size (runs_in_segments x.segments) ≡ true) (sym c.in-Ok.ensures) (parts_placed size (drop c.args.place e.segments) 2 (parts_placed size e.segments c.args.place c.requires.placed).1).0

pub read_entry-requires-clause-sound : goal.read_entry-requires-clause-sound
read_entry-requires-clause-sound g c =
    let e = plain_entry c.args.entry.now in
    let own = entry_is e c.requires.sound in
    subst (λ (x : PlainEntry). is_entry x ≡ true) (sym c.in-Ok.ensures)
    (entry_stands (pair_of e c.args.place) own.name own.schema (neighbours_pass e.segments c.args.place 2 own.segments) refl)
