use Rattle.std.proofs.Common.{arith}
use Rattle.catalogue.specs.Entries.{plain_entry}
use Rattle.catalogue.specs.laws.Kept.{entry_is}
use Rattle.catalogue.specs.Edits.{from_place}
use Rattle.store_changes.specs.laws.Edited.{length_from}
use Rattle.store_changes.specs.laws.StepParts.{neighbours_pass}
use Rattle.store_changes.specs.laws.StepChanges.{rows_some}
use Rattle.store_changes.proofs.pairs.joined_at.Goals as goal

pub is_one_piece-requires : goal.is_one_piece-requires
is_one_piece-requires g c =
    let e = plain_entry c.args.entry.now in
    let two = length_from e.segments c.args.place 2 c.requires.within in
    let sound = (entry_is e c.requires.sound).segments in
    let some = rows_some (from_place e.segments c.args.place 2) (neighbours_pass e.segments c.args.place 2 sound) (omega (arith, two)) in
    let count = c.in-Ok.ensures.read.count in
    omega (arith, some, count)
