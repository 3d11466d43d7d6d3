-- The place that each cell of a column has among the entries of its dictionary, as cells and their entries are added.
use Rattle.std.specs.Prelude.{◌≡◌, ◌≤◌, ◌<◌, ℕ, ◌+◌, ◌-◌, ◌*◌, ◌++◌, Bool, true, List, drop, length, map, take, get_or, is_some, set, position, Option, Some, None}
use Rattle.std.specs.List.{flat_map, list_all}
use Rattle.byteorder.specs.Endian.{little_bytes}
use Rattle.dictionary_codes.specs.CodedCells.{is_coded}
use Rattle.arrow_schema.specs.View.{column_of, kind_of}
use Rattle.arrow_schema.specs.declared.types.Field.{Field}
use Rattle.cells.specs.Cell.{Cell, null}
use Rattle.cells.specs.Dictionary.{entry_in, is_entry, with_entries}
use Rattle.columns.specs.Array.{dictionary_in, slots_in}
use Rattle.columns.specs.Built.{place_or_zero}
use Rattle.columns.specs.CellAt.{cell_at, cells_from, entries_of_kind}
use Rattle.columns.specs.Sound.{is_sound}
use Rattle.columns.specs.View.{view_array}
use Rattle.columns.specs.declared.coded_slots.CodedSlots.{CodedSlots}
use Rattle.columns.specs.declared.view.ArrayView.{ArrayView}

-- the place of a cell among entries: a null has none
abbrev pub code_in : List Cell → Cell → Option ℕ
code_in entries c = position (is_entry c) entries

-- the index of `size` bytes that stands for it
abbrev pub sized_code : (size : ℕ) → Option ℕ → List ℕ
sized_code size code = little_bytes size (place_or_zero code)

-- the cell of a slot
abbrev pub coded_cell : Field → CodedSlots → ℕ → Cell
coded_cell field slots = cell_at (column_of field) (view_array slots.view)

-- a slot that has a null or an entry of a field's dictionary
pub record IsCodedSlot (field : Field) (slots : CodedSlots) (i : ℕ) : Type 0 where
  pub spec : field.dictionary ≡ Some slots.spec
  pub sound : is_sound (column_of field) (view_array slots.view) ≡ true
  pub within : i < slots_in (view_array slots.view)
  pub coded : is_coded (coded_cell field slots i) ≡ true

-- each slot from `from` up to `to` has one
pub record AreCodedSlots (field : Field) (slots : CodedSlots) (from to : ℕ) : Type 0 where
  pub spec : field.dictionary ≡ Some slots.spec
  pub sound : is_sound (column_of field) (view_array slots.view) ≡ true
  pub within : to ≤ slots_in (view_array slots.view)
  pub coded : list_all is_coded (cells_from (coded_cell field slots) from (to - from)) ≡ true

-- there is room at a place for an index of `size` bytes, and for whether it stands for an entry
pub record HasPlace (size place : ℕ) (indices : List ℕ) (valid : List Bool) : Type 0 where
  pub small : size ≤ 8
  pub room : size * place + size ≤ length indices
  pub places : place < length valid

-- codes of some cells, which stay the same whatever entries are added
pub record IsCoded (old_entries new_entries : List Cell) (codes : List (Option ℕ)) (cells : List Cell) : Type 0 where
  pub entries : new_entries ≡ with_entries old_entries cells
  pub places : (more : List Cell) → codes ≡ map (code_in (with_entries new_entries more)) cells

-- the index of `size` bytes of a cell, and whether it has one, over what was at a place
pub record IsPut (size place : ℕ) (entries : List Cell) (c : Cell) (old_bytes new_bytes : List ℕ) (old_bits new_bits : List Bool) : Type 0 where
  pub index : new_bytes ≡ take (size * place) old_bytes ++ (sized_code size (code_in entries c) ++ drop (size * place + size) old_bytes)
  pub valid : new_bits ≡ set old_bits place (is_some (code_in entries c))

-- the index of `size` bytes of each of some cells, and whether it has one
pub record IsWritten (size : ℕ) (old_entries new_entries : List Cell) (bytes : List ℕ) (bits : List Bool) (cells : List Cell) : Type 0 where
  pub codes : List (Option ℕ)
  pub coded : IsCoded old_entries new_entries codes cells
  pub indices : bytes ≡ flat_map (sized_code size) codes
  pub valid : bits ≡ map is_some codes

-- the codes of some of all cells, as others are left
pub record IsUnderway (start : List Cell) (all : List Cell) (es : List Cell) (ks : List (Option ℕ)) (left : List Cell) : Type 0 where
  pub entries : with_entries es left ≡ with_entries start all
  pub codes : (more : List Cell) → ks ++ map (code_in (with_entries (with_entries start all) more)) left ≡ map (code_in (with_entries (with_entries start all) more)) all

-- these codes, written over the first `done` of the indices and bits of all cells
pub record IsPartWritten (size : ℕ) (start all es left : List Cell) (bytes : List ℕ) (bits : List Bool) (done : ℕ) : Type 0 where
  pub codes : List (Option ℕ)
  pub coded : IsUnderway start all es codes left
  pub indices : take (size * done) bytes ≡ flat_map (sized_code size) codes
  pub valid : take done bits ≡ map is_some codes

-- all bits from a place on are set
abbrev pub AreSetFrom : ℕ → List Bool → Type 0
AreSetFrom from bits = (n : ℕ) → from ≤ n → get_or bits n true ≡ true

-- ---- what is known of the entries of an array's own dictionary

abbrev pub own_entries : Field → ArrayView → List Cell
own_entries field view = entries_of_kind (kind_of field.data_type) (dictionary_in (view_array view))

-- what is known of the entry that has a number
abbrev pub known_at : List (Option ℕ) → Option ℕ → Option ℕ
known_at known None = None
known_at known (Some n) = get_or known n None

abbrev pub noted : List (Option ℕ) → Option ℕ → Option ℕ → List (Option ℕ)
noted known None code = known
noted known (Some n) None = known
noted known (Some n) (Some k) = set known n (Some k)

-- each entry is the one that was seen under the number that is known for it
abbrev pub AreKnown : (seen own : List Cell) → (known : List (Option ℕ)) → Type 0
AreKnown seen own known = (n k : ℕ) → Some k ≡ get_or known n None → is_entry (get_or own n null) (get_or seen k null) ≡ true

-- the number under which a cell was seen: none if it is no entry
abbrev pub IsNumber : (seen : List Cell) → Option ℕ → Cell → Type 0
IsNumber seen None c = entry_in c ≡ None
IsNumber seen (Some k) c = is_entry c (get_or seen k null) ≡ true
