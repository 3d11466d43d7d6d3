-- What is known of the weight of a table that commands of a list have left.
use Rattle.std.specs.Prelude.{Bool, Option, IfSome, string_bytes}
use Rattle.sector_dev.specs.Disk.{Image}
use Rattle.catalogue.specs.View.{catalogue_of}
use Rattle.store_changes.specs.declared.drafting.Draft.{Draft}
use Rattle.store_changes.specs.Draft.{laid, streams_of}
use Rattle.store_changes.specs.Weights.{TellsWeight}
use Rattle.store.specs.declared.drafting.NamedWeight.{NamedWeight}

-- the weight that is known, if there is one, is that of the table of its name in the draft, over this image
abbrev pub KnowsWeight : (tells : Bool) → Image → Draft → Option NamedWeight → Type 0
KnowsWeight tells image draft weighed =
    IfSome weighed (λ w. TellsWeight tells (laid draft.from (streams_of draft) image) (catalogue_of draft.made) (string_bytes w.name) w.weight)
