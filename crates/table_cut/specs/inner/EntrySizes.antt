-- How many bytes the entries of dictionaries of texts or binaries have at most.
use Rattle.std.specs.Prelude.{◌≡◌, ◌≤◌, ◌+◌, ℕ, ℤ, List, Option, Some, slice_get}
use Rattle.arrow_schema.specs.Column.{Kind}
use Rattle.cells.specs.Weight.{kind_weight}
use Rattle.columns.specs.Array.{Arrays, dictionary_in}
use Rattle.columns.specs.CellAt.{entries_of_kind, entry_at}
use Rattle.columns.specs.Offsets.{contents_width, width_of}
use Rattle.table_cut.specs.declared.entry_sizes.EntrySize.{EntrySize}
use Rattle.table_cut.specs.declared.row_run.RowRun.{RowRun}
use Rattle.table_cut.specs.inner.Columns.{array_at}

-- of a dictionary's entries, read as texts or binaries whose offsets have this width, none has more bytes than these
abbrev pub AreNoLonger : (width : ℕ) → ℕ → Arrays → Type 0
AreNoLonger width size dictionary = (kind : Kind) (z : ℤ) → contents_width kind ≡ Some width → kind_weight kind (entry_at (entries_of_kind kind dictionary) z) ≤ 1 + size

abbrev pub IsSizeOf : Arrays → EntrySize → Type 0
IsSizeOf dictionary known = AreNoLonger (width_of known.width) known.size dictionary

-- for each column of a run, by its place, what is known of its dictionary's entries, if anything
abbrev pub AreSizesOf : RowRun → List (Option EntrySize) → Type 0
AreSizesOf r sizes = (j : ℕ) (known : EntrySize) → slice_get sizes j ≡ Some (Some known) → IsSizeOf (dictionary_in (array_at j r)) known

-- these are the sizes of the run at a place
abbrev pub AreSizesAt : ℕ → List RowRun → List (Option EntrySize) → Type 0
AreSizesAt place runs sizes = (r : RowRun) → slice_get runs place ≡ Some r → AreSizesOf r sizes
