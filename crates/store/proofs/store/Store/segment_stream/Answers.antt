use Rattle.std.proofs.Common.{sym}
use Rattle.catalogue.specs.Entries.{is_entry, plain_entry}
use Rattle.catalogue.specs.laws.Changed.{found_passes}
use Rattle.store.specs.Fits.{listed_in}
use Rattle.store.proofs.StillSound.{entry_placed}
use Rattle.store.proofs.store.Store.segment_stream.Goals as goal

pub stream_in_entry-stream-requires-clause-placed : goal.stream_in_entry-stream-requires-clause-placed
stream_in_entry-stream-requires-clause-placed g c = entry_placed c.args.self.now _ (plain_entry c.in-Some.entry.now) (sym c.in-Some.ensures.entry)

pub stream_in_entry-stream-requires-clause-sound : goal.stream_in_entry-stream-requires-clause-sound
stream_in_entry-stream-requires-clause-sound g c =
    found_passes is_entry (listed_in c.args.self.now) _ (plain_entry c.in-Some.entry.now) c.in-Some.ensures.kept.entries (sym c.in-Some.ensures.entry)
