-- What the sending of an archive does, step by step.
use Rattle.std.specs.Prelude.{◌≡◌, List, [], ◌∷◌, Some, slice_get}
use Rattle.catalogue.specs.declared.entry.Segment.{Segment}
use Rattle.catalogue.specs.Edits.{entry_of}
use Rattle.catalogue.specs.Entries.{PlainEntry, PlainCatalogue}
use Rattle.tables.specs.declared.refusal.Refusal.{Refusal}
use Rattle.tables.specs.declared.refusal.Refusal.TheVariants as refusals
use Rattle.tables.specs.declared.refusal.Limit.TheVariants as limits
use Rattle.store.specs.declared.sending.Item.{Item}
use Rattle.store.specs.Sending.{Located}

-- the plain value of a segment of the code
abbrev pub plain_item : Item → Located
plain_item x = record { name = x.name.now; place = x.place; digest = x.digest }

-- the segment of a table at a place
abbrev pub IsSegmentOf : PlainCatalogue → Located → Segment → Type 0
IsSegmentOf c x g = (e : PlainEntry) × (entry_of c x.name ≡ Some e) × (slice_get e.segments x.place ≡ Some g)

-- those of several, in order
abbrev pub ArePicked : PlainCatalogue → List Located → List Segment → Type 0
ArePicked c [] [] = Unit {0}
ArePicked c (x ∷ xs) (g ∷ gs) = IsSegmentOf c x g × ArePicked c xs gs
ArePicked c _ _ = ⊥

-- why a part of an archive is not made: it is too long, or memory is refused
abbrev pub FailsMaking : Refusal → Type 0
FailsMaking (refusals.TooMany limits.Bytes) = Unit {0}
FailsMaking refusals.OutOfMemory = Unit {0}
FailsMaking _ = ⊥

-- why it is not written
abbrev pub FailsSending : Refusal → Type 0
FailsSending refusals.Write = Unit {0}
FailsSending r = FailsMaking r
