-- The first segments are sent, and the device was only read.
use Rattle.std.proofs.Common.{ℕ, List, take, map}
use Rattle.std.specs.Prelude.{flat_map}
use Rattle.std.specs.Io.KnownBytes.{Appends}
use Rattle.sector_dev.specs.Disk.{now, shown_image}
use Rattle.catalogue.specs.View.{catalogue_of}
use Rattle.table_archive.specs.Archive.{segment_member}
use Rattle.store_runs.specs.Calls.{done}
use Rattle.store_runs.specs.Reading.{OnlyReadsDevice}
use Rattle.store_changes.specs.Ahead.{IsAhead}
use Rattle.store.specs.Sending.{AreSent}
use Rattle.store.specs.inner.Sending.{plain_item}
use Rattle.store.proofs.sending_ahead.send_picked.Given as goal

abbrev pub invariant-loop-place : goal.invariant-loop-place
invariant-loop-place g l = let D = g.D.SegmentSource in record {
  reads : OnlyReadsDevice D.size D.story D.failed D.tells done l.fn.device l.device;
  goes_on : D.goes_on l.fn.device l.device;
  ahead : IsAhead D.tells (shown_image (now (D.story l.device))) l.segments l.place l.ahead;
  streams : List (List ℕ);
  sent : AreSent D.tells (shown_image (now (D.story l.fn.device))) (catalogue_of l.list) (take l.place (map plain_item l.items)) streams;
  written : Appends (g.W.Write.contents l.fn.writer) (g.W.Write.contents l.writer) (flat_map segment_member streams);
}
