use Rattle.std.proofs.Common.{◌≡◌, true, List, sym, subst}
use Rattle.std.specs.List.{list_all}
use Rattle.catalogue.specs.declared.entry.Segment.{Segment}
use Rattle.catalogue.specs.Entries.{is_segment}
use Rattle.store_runs.specs.Changes.{PlainChange}
use Rattle.store_changes.specs.Change.{change_of}
use Rattle.store_changes.specs.laws.Segments.{are_streams, unplaced_sound}
use Rattle.store_changes.proofs.preparing.ask.Goals as goal

pub edited-requires-clause-edit : goal.edited-requires-clause-edit
edited-requires-clause-edit c = let change : PlainChange = change_of c.args.change.now in (change.streams, c.requires.sound.edit)

pub edited-requires-clause-sound : goal.edited-requires-clause-sound
edited-requires-clause-sound c =
    let change : PlainChange = change_of c.args.change.now in
    subst (λ (xs : List Segment). list_all is_segment xs ≡ true) (sym c.requires.segments)
    (unplaced_sound c.args.commit.version change.streams change.counts (are_streams change.streams c.requires.sound.some c.requires.sound.short) c.requires.sound.rows)

pub given_up-requires : goal.given_up-requires
given_up-requires c = let change : PlainChange = change_of c.args.change.now in record { edit = (change.streams, c.requires.sound.edit) }
