-- The rows of a table after the commands of an archive.
use Rattle.std.specs.Prelude.{◌≡◌, ◌++◌, ℕ, List, [], ◌∷◌, Some, Ok}
use Rattle.cells.specs.Cell.{Cell, PlainTable}
use Rattle.ipc_message.specs.Header.{supported_codes}
use Rattle.ipc_stream.specs.Meaning.{meaning}
use Rattle.table_archive.specs.declared.manifest.ListedSegment.{ListedSegment}
use Rattle.table_archive.specs.Archive.{AreStreamsOf}
use Rattle.tables.specs.Tables.{Tables, table_at}
use Rattle.tables.specs.Verdict.{joined}

-- streams, one after another, mean these rows
abbrev pub MeanRows : (streams : List (List ℕ)) → (rows : List (List Cell)) → Type 0
MeanRows [] rows = rows ≡ []
MeanRows (x ∷ xs) rows =
    (table : PlainTable) × (others : List (List Cell)) × (meaning supported_codes x ≡ Ok table) × MeanRows xs others × (rows ≡ table.rows ++ others)

-- behind the rows of a table, the table of this name has those of a stream of each of these segments
pub record HasRowsBehind (t : Tables) (name : List ℕ) (segments : List ListedSegment) (table : PlainTable) : Type 0 where
  pub streams : List (List ℕ)
  pub are : AreStreamsOf segments streams
  pub rows : List (List Cell)
  pub mean : MeanRows streams rows
  pub there : table_at t name ≡ Some (joined table rows)
