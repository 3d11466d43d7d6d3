-- One command of a list.
use Rattle.std.specs.Prelude.{◌≡◌, Bool, true, Ok, Option, IfSome, string_bytes}
use Rattle.sector_dev.specs.Disk.{Image, Story, now, shown_image}
use Rattle.catalogue.specs.View.{catalogue_of}
use Rattle.tables.specs.Commands.{PlainCommand}
use Rattle.store_runs.specs.Changes.{PlainChange}
use Rattle.store_runs.specs.Deciding.{IsDecided, Leaves}
use Rattle.store_changes.specs.declared.drafting.Draft.{Draft}
use Rattle.store_changes.specs.Draft.{laid, streams_of}
use Rattle.store_changes.specs.Weights.{TellsWeightAfter}
use Rattle.store.specs.declared.drafting.NamedWeight.{NamedWeight}

-- reads of the device show this image, if it tells its story
abbrev pub Shows : (tells : Bool) → Story → Image → Type 0
Shows tells story image = tells ≡ true → image ≡ shown_image (now story)

-- it is decided on what the draft shows over this image, and leads to the next one
abbrev pub StepsTo : (tells : Bool) → Image → (old : Draft) → PlainCommand → (next : Draft) → Type 0
StepsTo tells image old command next =
    (change : PlainChange) × IsDecided tells (laid old.from (streams_of old) image) (catalogue_of old.made) command (Ok change)
    × Leaves old.next (laid old.from (streams_of old) image) (catalogue_of old.made) change next.next (laid next.from (streams_of next) image) (catalogue_of next.made)

-- the weight that is known, if there is one, is that of the table to which the change appends rows, with these rows
abbrev pub KnowsWeightAfter : (tells : Bool) → Image → Draft → Option NamedWeight → PlainChange → Type 0
KnowsWeightAfter tells image draft weighed change =
    IfSome weighed (λ w. TellsWeightAfter tells (laid draft.from (streams_of draft) image) (catalogue_of draft.made) (string_bytes w.name) change w.weight)
