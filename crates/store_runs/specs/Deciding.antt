-- The decision on a command by the catalogue, and for an append or a saved query by the existing table: the first of its tests that fails, or its
-- change.
-- The tests are those of the verdict on the tables that the catalogue lists.
use Rattle.std.specs.Prelude.{◌≡◌, ◌⊎◌, ◌≤◌, ◌<◌, ◌+◌, ◌||◌, ℕ, Bool, true, false, not, ◌&&◌, nat_le, List, [], ◌∷◌, ◌++◌, length, is_some, Option, Some, None, Result, Ok, Err}
use Rattle.std.specs.List.{AllByRecursion}
use Rattle.facts.specs.Checks.{when, first_some, unless}
use Rattle.segments.specs.declared.run.Run.{Run}
use Rattle.segments.specs.Sectors.{sector_count}
use Rattle.sector_dev.specs.Disk.{Image}
use Rattle.arrow_schema.specs.Column.{PlainSchema}
use Rattle.cells.specs.Cell.{Cell, PlainTable}
use Rattle.cells.specs.Weight.{table_weight}
use Rattle.cells.specs.declared.limits.TheConstants.{MAX_TABLE_WEIGHT}
use Rattle.ipc_message.specs.Header.{supported_codes}
use Rattle.ipc_stream.specs.Meaning.{meaning}
use Rattle.ipc_canonical.specs.PieceStreams.{piece_streams, piece_counts}
use Rattle.query.specs.Query.{PlainQuery}
use Rattle.query.specs.Selection.{selection}
use Rattle.catalogue.specs.declared.entry.Segment.{Segment}
use Rattle.catalogue.specs.Entries.{PlainEntry, PlainCatalogue, runs_of, segment_count, IsCatalogue}
use Rattle.catalogue.specs.Edits.{entry_of}
use Rattle.catalogue.specs.declared.limits.TheConstants.{MAX_TABLES, MAX_SEGMENTS}
use Rattle.commit.specs.declared.sector.FormatVersion.TheVariants.{One}
use Rattle.tables.specs.declared.refusal.Limit.TheVariants as limits
use Rattle.tables.specs.declared.refusal.Refusal.{Refusal}
use Rattle.tables.specs.declared.refusal.Refusal.TheVariants.{NoTable, NameTaken, TooMany, OutOfMemory}
use Rattle.tables.specs.Commands.{PlainCommand, create, import_stream, append_stream, append_rows, save_as, rename, drop_table, all_of, PlainCommands, no_command, and_command}
use Rattle.tables.specs.Refusals.{query_refusal}
use Rattle.tables.specs.Verdict.{bad_name, too_many_bytes, import_tests, other_shape, unfit_row, too_heavy, of_meaning, of_query, empty_table}
use Rattle.store_runs.specs.Changes.{PlainEdit, put, extend, move, remove, rebuild, PlainChange, edited, placed_segments, HoldsStreams, rows_under, IsChange, IsRebuild}
use Rattle.store_runs.specs.Filling.{placed_in, new_in, new_segments, runs_placed}
use Rattle.store_runs.specs.Held.{table_held}
use Rattle.store_runs.specs.Reading.{IsRead, Unreads}

-- ---- the tests

abbrev pub has_entry : PlainCatalogue → List ℕ → Bool
has_entry c name = is_some (entry_of c name)

abbrev pub missing_in : PlainCatalogue → List ℕ → Option Refusal
missing_in c name = when (not (has_entry c name)) NoTable

abbrev pub taken_in : PlainCatalogue → List ℕ → Option Refusal
taken_in c name = when (has_entry c name) NameTaken

abbrev pub full_in : PlainCatalogue → List ℕ → Option Refusal
full_in c name = when (not (has_entry c name) && nat_le MAX_TABLES (length c)) (TooMany limits.Tables)

-- the tests of each command that need no table, in order
abbrev pub create_tests : PlainCatalogue → List ℕ → Option Refusal
create_tests c name = first_some (bad_name name ∷ taken_in c name ∷ full_in c name ∷ [])

abbrev pub rename_tests : PlainCatalogue → List ℕ → List ℕ → Option Refusal
rename_tests c from to = first_some (missing_in c from ∷ bad_name to ∷ taken_in c to ∷ [])

-- ---- the changes

-- without new segments
abbrev pub names_changed : PlainEdit → PlainChange
names_changed edit = record { edit = edit; streams = []; counts = [] }

-- the new segments are the streams of a table's pieces, with the number of rows of each
abbrev pub pieces_put : PlainEdit → PlainTable → PlainChange
pieces_put edit table = record { edit = edit; streams = piece_streams table; counts = piece_counts table }

-- ---- the commands

abbrev pub decided_create : PlainCatalogue → List ℕ → PlainSchema → Result PlainChange Refusal
decided_create c name schema = unless (create_tests c name) (Ok (names_changed (put name schema)))

abbrev pub decided_table : PlainCatalogue → List ℕ → PlainTable → Result PlainChange Refusal
decided_table c name table = unless (full_in c name) (Ok (pieces_put (put name table.schema) table))

abbrev pub decided_import : PlainCatalogue → (name bytes : List ℕ) → Result PlainChange Refusal
decided_import c name bytes = unless (import_tests name bytes) (of_meaning (meaning supported_codes bytes) (decided_table c name))

-- the entry of a name that a table is to have
abbrev pub of_entry : {A : Type 0} → Option PlainEntry → (PlainEntry → Result A Refusal) → Result A Refusal
of_entry None f = Err NoTable
of_entry (Some e) f = f e

-- rows to be appended to those of an entry's table
pub record Addition : Type 0 where
  pub entry : PlainEntry
  pub rows : List (List Cell)

-- rows that a caller gives, if each fits the entry's table. Nothing of the existing table is read for the tests of new rows
abbrev pub given_rows : List (List Cell) → PlainEntry → Result Addition Refusal
given_rows rows e = unless (unfit_row e.schema rows) (Ok (record { entry = e; rows = rows }))

-- the rows of a table of the entry's shape
abbrev pub rows_of_table : PlainEntry → PlainTable → Result Addition Refusal
rows_of_table e table = unless (other_shape e.schema table.schema) (given_rows table.rows e)

-- the rows of a stream
abbrev pub streamed_rows : (bytes : List ℕ) → PlainEntry → Result Addition Refusal
streamed_rows bytes e = unless (too_many_bytes bytes) (of_meaning (meaning supported_codes bytes) (rows_of_table e))

-- after the existing rows, under the schema of the entry
abbrev pub decided_extension : List ℕ → Addition → (standing : List (List Cell)) → Result PlainChange Refusal
decided_extension name a standing = unless (too_heavy a.entry.schema (standing ++ a.rows)) (Ok (pieces_put (extend name) (rows_under a.entry.schema a.rows)))

-- whatever its segments hold, the existing table and the new rows are light enough
abbrev pub IsSurelyLight : Addition → Type 0
IsSurelyLight a = (image : Image) (standing : PlainTable) → table_held image a.entry ≡ Some standing → table_weight a.entry.schema (standing.rows ++ a.rows) ≤ MAX_TABLE_WEIGHT

-- the existing table is read after all other tests of the new rows, unless it is not needed for the last one
abbrev pub IsAdded : (tells : Bool) → Image → List ℕ → Result Addition Refusal → Result PlainChange Refusal → Type 0
IsAdded tells image name (Err r) d = d ≡ Err r
IsAdded tells image name (Ok a) d =
    ((standing : PlainTable) × IsRead tells image a.entry standing × (d ≡ decided_extension name a standing.rows))
    ⊎ (IsSurelyLight a × (d ≡ Ok (pieces_put (extend name) (rows_under a.entry.schema a.rows))))

-- why a query can't be executed on tables of a schema: the selection of a table without rows shows it
abbrev pub unselected : PlainSchema → PlainQuery → Option Refusal
unselected schema query = elim (selection (empty_table schema) query) [ Ok table ↦ None | Err r ↦ Some (query_refusal r) ]

-- the entry of the table of a saved query, if the selection can get the new name. Nothing of the table is read for these tests
abbrev pub selected_entry : PlainCatalogue → (to : List ℕ) → PlainQuery → PlainEntry → Result PlainEntry Refusal
selected_entry c to query e = unless (first_some (unselected e.schema query ∷ create_tests c to ∷ [])) (Ok e)

abbrev pub decided_selection : (to : List ℕ) → PlainQuery → PlainTable → Result PlainChange Refusal
decided_selection to query standing = of_query (selection standing query) (λ table. Ok (pieces_put (put to table.schema) table))

-- the table is read after all other tests
abbrev pub IsSaved : (tells : Bool) → Image → (to : List ℕ) → PlainQuery → Result PlainEntry Refusal → Result PlainChange Refusal → Type 0
IsSaved tells image to query (Err r) d = d ≡ Err r
IsSaved tells image to query (Ok e) d = (standing : PlainTable) × IsRead tells image e standing × (d ≡ decided_selection to query standing)

abbrev pub decided_rename : PlainCatalogue → (from to : List ℕ) → Result PlainChange Refusal
decided_rename c from to = unless (rename_tests c from to) (Ok (names_changed (move from to)))

abbrev pub decided_drop : PlainCatalogue → List ℕ → Result PlainChange Refusal
decided_drop c name = unless (missing_in c name) (Ok (names_changed (remove name)))

abbrev mutual
  -- commands that read the device: for an append the table is weighed, and for a saved query it is read
  pub reads_device : PlainCommand → Bool
  reads_device (append_stream name bytes) = true
  reads_device (append_rows name rows) = true
  reads_device (save_as from to query) = true
  reads_device (all_of cs) = any_reads_device cs
  reads_device _ = false

  pub any_reads_device : PlainCommands → Bool
  any_reads_device no_command = false
  any_reads_device (and_command c cs) = reads_device c || any_reads_device cs

-- ---- several commands

-- all runs that a catalogue names lie before this sector
abbrev pub AreBefore : (from : ℕ) → List Run → Type 0
AreBefore from runs = AllByRecursion (λ (run : Run). run.start + run.count ≤ from) runs

-- what a command leaves for the next one of a list: its new segments lie from the sector `next` on, behind all others and before `next'`, in an image that holds
-- their streams there and has the old content before `next`. They have no digests yet
pub record Leaves (next : ℕ) (image : Image) (c : PlainCatalogue) (change : PlainChange) (next' : ℕ) (image' : Image) (c' : PlainCatalogue) : Type 0 where
  pub before : AreBefore next (runs_of c)
  pub sound : IsChange c change
  pub places : List Run
  pub onward : next ≤ next'
  pub within : AllByRecursion (λ (run : Run). (next ≤ run.start) × (run.start + run.count ≤ next')) places
  pub holds : HoldsStreams image' (placed_segments One places change.streams change.counts) change.streams change.counts
  pub same : (n : ℕ) → n < next → image' n ≡ image n
  pub stands : IsCatalogue c'
  pub is : c' ≡ edited c change.edit (placed_segments One places change.streams change.counts)

-- the change of a whole list: the catalogue is rebuilt as its commands leave it, and the streams are those that the image holds in the new segments that are
-- left; those of segments that a later command removed are not among them
pub record IsWhole (from : ℕ) (old : PlainCatalogue) (image : Image) (c : PlainCatalogue) (change : PlainChange) : Type 0 where
  pub gone : List Run
  pub edit : change.edit ≡ rebuild old from c gone
  pub sound : IsRebuild old old from c gone change.streams
  pub before : AreBefore from (runs_placed from c)
  pub order : AllByRecursion (λ (e : PlainEntry). e.segments ≡ placed_in from e.segments ++ new_in from e.segments) c
  pub holds : HoldsStreams image (new_segments from c) change.streams change.counts

-- new segments that all start at this sector, where only their number is asked for
abbrev pub new_behind : (from : ℕ) → (streams : List (List ℕ)) → (counts : List ℕ) → List Segment
new_behind from [] counts = []
new_behind from (stream ∷ streams) [] = []
new_behind from (stream ∷ streams) (count ∷ counts) =
    record { place = record { run = record { start = from; count = sector_count (length stream) }; bytes = length stream }; rows = count; digest = None }
    ∷ new_behind from streams counts

abbrev mutual
  -- the decision on a command, if reads of the device show this image
  pub IsDecided : (tells : Bool) → Image → PlainCatalogue → PlainCommand → Result PlainChange Refusal → Type 0
  IsDecided tells image c (create name schema) d = d ≡ decided_create c name schema
  IsDecided tells image c (import_stream name bytes) d = d ≡ decided_import c name bytes
  IsDecided tells image c (append_stream name bytes) d = IsAdded tells image name (of_entry (entry_of c name) (streamed_rows bytes)) d
  IsDecided tells image c (append_rows name rows) d = IsAdded tells image name (of_entry (entry_of c name) (given_rows rows)) d
  IsDecided tells image c (save_as from to query) d = IsSaved tells image to query (of_entry (entry_of c from) (selected_entry c to query)) d
  IsDecided tells image c (rename from to) d = d ≡ decided_rename c from to
  IsDecided tells image c (drop_table name) d = d ≡ decided_drop c name
  IsDecided tells image c (all_of cs) d = (from : ℕ) × AreBefore from (runs_of c) × IsDecidedInTurn tells from c from image c cs d

  -- the same for the commands that are left of a list, on what those before them leave
  pub IsDecidedInTurn : (tells : Bool) → (from : ℕ) → (old : PlainCatalogue) → (next : ℕ) → Image → PlainCatalogue → PlainCommands → Result PlainChange Refusal → Type 0
  IsDecidedInTurn tells from old next image c no_command d = (change : PlainChange) × IsWhole from old image c change × (d ≡ Ok change)
  IsDecidedInTurn tells from old next image c (and_command x xs) d =
      (one : Result PlainChange Refusal) × IsDecided tells image c x one
      × (elim one [
        | Err r ↦ d ≡ Err r
        | Ok change ↦ (next' : ℕ) × (image' : Image) × (c' : PlainCatalogue) × Leaves next image c change next' image' c' × IsDecidedInTurn tells from old next' image' c' xs d
      ])

-- the entry of the table that is read for a command: no test before the read fails
abbrev pub entry_added : Result Addition Refusal → Option PlainEntry
entry_added (Ok a) = Some a.entry
entry_added (Err r) = None

abbrev pub entry_selected : Result PlainEntry Refusal → Option PlainEntry
entry_selected (Ok e) = Some e
entry_selected (Err r) = None

abbrev pub entry_read : PlainCatalogue → PlainCommand → Option PlainEntry
entry_read c (append_stream name bytes) = entry_added (of_entry (entry_of c name) (streamed_rows bytes))
entry_read c (append_rows name rows) = entry_added (of_entry (entry_of c name) (given_rows rows))
entry_read c (save_as from to query) = entry_selected (of_entry (entry_of c from) (selected_entry c to query))
entry_read c _ = None

-- reading that table fails
pub record IsNotRead (tells : Bool) (image : Image) (found : Option PlainEntry) (answer : Result PlainChange Refusal) : Type 0 where
  pub entry : PlainEntry
  pub tested : found ≡ Some entry
  pub refusal : Refusal
  pub told : answer ≡ Err refusal
  pub unread : Unreads tells image entry refusal

-- there are too many segments after a change, wherever the new ones lie
abbrev pub ExceedsSegments : (from : ℕ) → PlainCatalogue → PlainChange → Type 0
ExceedsSegments from c change = MAX_SEGMENTS < segment_count (edited c change.edit (new_behind from change.streams change.counts))

abbrev mutual
  -- why there is no decision: reading the table of a command fails, or there are too many segments after a command of a list
  pub Stops : (tells : Bool) → Image → PlainCatalogue → PlainCommand → Result PlainChange Refusal → Type 0
  Stops tells image c (all_of cs) answer = (from : ℕ) × AreBefore from (runs_of c) × StopsInTurn tells from image c cs answer
  Stops tells image c command answer = IsNotRead tells image (entry_read c command) answer

  pub StopsInTurn : (tells : Bool) → (next : ℕ) → Image → PlainCatalogue → PlainCommands → Result PlainChange Refusal → Type 0
  StopsInTurn tells next image c no_command answer = ⊥
  StopsInTurn tells next image c (and_command x xs) answer =
      Stops tells image c x answer
      ⊎ ((change : PlainChange) × IsDecided tells image c x (Ok change)
      × (((answer ≡ Err (TooMany limits.Segments)) × ExceedsSegments next c change)
      ⊎ ((next' : ℕ) × (image' : Image) × (c' : PlainCatalogue) × Leaves next image c change next' image' c' × StopsInTurn tells next' image' c' xs answer)))

-- the possible answers: the decision, that reading the table failed, or that memory was refused
abbrev pub IsAnswered : (tells : Bool) → Image → PlainCatalogue → PlainCommand → Result PlainChange Refusal → Type 0
IsAnswered tells image c command answer = (answer ≡ Err OutOfMemory) ⊎ Stops tells image c command answer ⊎ IsDecided tells image c command answer
