-- What open exports keep: segments on the device that can be read.
use Rattle.std.specs.Prelude.{◌≡◌, ℕ, true, List}
use Rattle.std.specs.List.{list_all, AllByRecursion, AllByRecursion-prop}
use Rattle.std.proofs.Props.{props}
use Rattle.catalogue.specs.Schemas.{is_within_limits}
use Rattle.catalogue.specs.Entries.{is_segment, runs_in_segments}
use Rattle.commit.specs.Standing.{all_on_device}
use Rattle.export_book.specs.Book.{PlainExport}

-- its schema and its segments are those that an entry of a catalogue may have, and lie on a device of this size
pub record IsExportable (size : ℕ) (b : PlainExport) : Type 0 where
  pub within : is_within_limits b.schema ≡ true
  pub sound : list_all is_segment b.segments ≡ true
  pub placed : all_on_device size (runs_in_segments b.segments) ≡ true

abbrev pub AreExportable : ℕ → List PlainExport → Type 0
AreExportable size bs = AllByRecursion (IsExportable size) bs

one_prop : (size : ℕ) (b : PlainExport) → IsProp (IsExportable size b)
one_prop size b = hlevel props

-- it is a proposition: it has at most one proof
pub exportable_prop : (size : ℕ) (bs : List PlainExport) → IsProp (AreExportable size bs)
exportable_prop size bs = AllByRecursion-prop (IsExportable size) (one_prop size) bs
