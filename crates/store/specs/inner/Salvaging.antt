-- What a salvage writes for one segment, and for several.
use Rattle.std.specs.Prelude.{◌≡◌, ◌++◌, ℕ, Bool, true, false, List, [], ◌∷◌, Option, Some, None}
use Rattle.std.specs.List.{flat_map}
use Rattle.std.specs.Io.KnownBytes.{Appends}
use Rattle.sector_dev.specs.Disk.{Image}
use Rattle.arrow_schema.specs.Column.{PlainSchema}
use Rattle.cells.specs.Cell.{Cell}
use Rattle.ipc_canonical.specs.Canonical.{rows_messages}
use Rattle.catalogue.specs.declared.entry.Segment.{Segment}
use Rattle.tables.specs.declared.refusal.Refusal.{Refusal}
use Rattle.tables.specs.declared.refusal.Refusal.TheVariants as refusals
use Rattle.store_runs.specs.Reading.{HasRows}
use Rattle.store.specs.Salvaging.{IsFound, AreFound, left_out}

-- a refusal that is about a single segment
abbrev pub is_of_segment : Refusal → Bool
is_of_segment (refusals.SegmentUnread place) = true
is_of_segment (refusals.SegmentDamaged place) = true
is_of_segment _ = false

-- writing fails for lack of memory, or because the writer fails
abbrev pub FailsWriting : Refusal → Type 0
FailsWriting refusals.OutOfMemory = Unit {0}
FailsWriting refusals.Write = Unit {0}
FailsWriting _ = ⊥

-- the messages of the rows of a segment, or `None` if it does not hold them
abbrev pub FindsMessages : (tells : Bool) → Image → PlainSchema → Segment → Option (List ℕ) → Type 0
FindsMessages tells image schema g (Some messages) = HasRows tells image schema g (Some messages)
FindsMessages tells image schema g None = IsFound tells image schema g None

-- the messages of the rows that were found
abbrev pub messages_found : PlainSchema → Option (List (List Cell)) → List ℕ
messages_found schema None = []
messages_found schema (Some rows) = rows_messages schema rows

-- the segment at a place was salvaged
pub record SalvagesOne (tells : Bool) (image : Image) (schema : PlainSchema) (place : ℕ) (g : Segment) (written written' : Option (List ℕ)) (left left' : List (ℕ × ℕ)) : Type 0 where
  pub found : Option (List (List Cell))
  pub shown : IsFound tells image schema g found
  pub messages : Appends written written' (messages_found schema found)
  pub others : left' ≡ left ++ left_out place (g ∷ []) (found ∷ [])

-- and all of these segments
pub record SalvagesEach (tells : Bool) (image : Image) (schema : PlainSchema) (segments : List Segment) (written written' : Option (List ℕ)) (left : List (ℕ × ℕ)) : Type 0 where
  pub found : List (Option (List (List Cell)))
  pub shown : AreFound tells image schema segments found
  pub messages : Appends written written' (flat_map (messages_found schema) found)
  pub others : left ≡ left_out 0 segments found
