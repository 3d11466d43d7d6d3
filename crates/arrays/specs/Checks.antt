-- The arrays of a batch, and its checks in their order: the first that finds something is reported (Message.fbs, "RecordBatch"; Arrow columnar format,
-- "Physical Memory Layout"). A check looks at all arrays, or all visible slots, before the next one begins.
use Rattle.std.specs.Prelude.{ℕ, ◌+◌, ◌^◌, Bool, not, ◌&&◌, ◌||◌, ◌==◌, nat_lt, nat_le, List, [], ◌∷◌, ◌++◌, map, length, take, drop, Option, Result, Ok}
use Rattle.std.specs.List.{list_any, zip}
use Rattle.arrow_schema.specs.Column.{Columns, columns_of, PlainSchema}
use Rattle.cells.specs.declared.limits.TheConstants.{MAX_ROW_WEIGHT, MAX_TABLE_WEIGHT}
use Rattle.cells.specs.Cell.{Cell}
use Rattle.cells.specs.Weight.{row_weight, table_weight}
use Rattle.facts.specs.Checks.{when, first_some, unless}
use Rattle.ipc_message.specs.declared.fault.Fault.{Fault}
use Rattle.ipc_message.specs.declared.fault.Fault.TheVariants.{Compressed, LayoutCount, RowCount, BufferRange, BufferShort, NullCount, Offsets, DictionaryIndex, NotUtf8, NullForbidden, TooHeavy}
use Rattle.ipc_message.specs.Raw.{RawNode, RawBuffer, RawBatch}
use Rattle.arrays.specs.declared.limits.TheConstants.{MAX_SLOTS}
use Rattle.columns.specs.Array.{Array, Arrays, no_array, array_list, slots_in}
use Rattle.columns.specs.CellAt.{rows_in}
use Rattle.columns.specs.Tests.{Typed, every_array, is_short, is_unordered, counts_wrong, has_short_child}
use Rattle.columns.specs.Visible.{visible_in, names_no_entry, is_no_text, is_forbidden}
use Rattle.columns.specs.Buffers.{Node, nodes_of, buffers_of}
use Rattle.columns.specs.FromBuffers.{arrays_from}

-- ---- the arrays

abbrev pub plain_node : RawNode → Node
plain_node n = record { slots = n.length; null_count = n.null_count }

-- the bytes of a buffer
abbrev pub buffer_bytes : List ℕ → RawBuffer → List ℕ
buffer_bytes body b = take b.length (drop b.offset body)

-- the arrays of a batch with this body, where these are the arrays of the dictionaries in effect
abbrev pub batch_arrays : Columns → RawBatch → (body : List ℕ) → (dictionaries : List (List Array)) → Arrays
batch_arrays columns b body dictionaries = arrays_from columns (map plain_node b.nodes) (map (buffer_bytes body) b.buffers) dictionaries

-- ---- the checks of the arrays

-- the tests of an array with its column
abbrev pub typed_is_short : Typed → Bool
typed_is_short t = is_short t.column t.array

abbrev pub typed_is_unordered : Typed → Bool
typed_is_unordered t = is_unordered t.column t.array

abbrev pub typed_has_short_child : Typed → Bool
typed_has_short_child t = has_short_child t.column t.array

-- F17: the columns take another number of nodes or buffers
abbrev pub has_other_layout : Columns → RawBatch → Bool
has_other_layout columns b = not (length b.nodes == length (nodes_of columns no_array) && length b.buffers == length (buffers_of columns no_array))

-- a number of 64 bits with a sign
abbrev pub is_negative : ℕ → Bool
is_negative n = nat_le (2 ^ 63) n

abbrev pub is_bad_length : ℕ → Bool
is_bad_length n = is_negative n || nat_lt MAX_SLOTS n

-- F20: a length is negative or over the limit, a column's is not the batch's, or a child is too short
abbrev pub has_bad_length : Columns → RawBatch → Arrays → Bool
has_bad_length columns b arrays =
    is_bad_length b.length
    || (list_any (λ n. is_bad_length n.length) b.nodes
    || (list_any (λ a. not (slots_in a == b.length)) (array_list arrays)
    || list_any typed_has_short_child (every_array columns arrays)))

-- F18: a buffer's offset or length is negative, or it ends past the body
abbrev pub is_outside : List ℕ → RawBuffer → Bool
is_outside body b = is_negative b.offset || (is_negative b.length || nat_lt (length body) (b.offset + b.length))

-- F21: the null count of an array's node
abbrev pub is_miscounted : RawNode × Typed → Bool
is_miscounted p = counts_wrong p.0.null_count p.1.column p.1.array

abbrev pub array_checks : Columns → RawBatch → List ℕ → Arrays → List (Option Fault)
array_checks columns b body arrays =
    let every : List Typed = every_array columns arrays in
    when b.compressed Compressed
    ∷ when (has_other_layout columns b) LayoutCount
    ∷ when (has_bad_length columns b arrays) RowCount
    ∷ when (list_any (is_outside body) b.buffers) BufferRange
    ∷ when (list_any typed_is_short every) BufferShort
    ∷ when (list_any is_miscounted (zip b.nodes every)) NullCount
    ∷ when (list_any typed_is_unordered every) Offsets
    ∷ []

-- the arrays of a batch, or the first fault of their checks
unfoldable pub arrays_read : Columns → RawBatch → List ℕ → (dictionaries : List (List Array)) → Result Arrays Fault
arrays_read columns b body dictionaries =
    let arrays : Arrays = batch_arrays columns b body dictionaries in
    unless (first_some (array_checks columns b body arrays)) (Ok arrays)

-- ---- the checks of what is visible

-- F28: a row is too heavy, or all rows so far with those of this batch are
abbrev pub are_too_heavy : PlainSchema → (before : ℕ) → List (List Cell) → Bool
are_too_heavy s before rows = list_any (λ row. nat_lt MAX_ROW_WEIGHT (row_weight s row)) rows || nat_lt MAX_TABLE_WEIGHT (before + table_weight s rows)

abbrev pub slot_checks : PlainSchema → (before rows : ℕ) → Arrays → List (Option Fault)
slot_checks s before rows arrays =
    let columns : Columns = columns_of s.columns in
    when (list_any names_no_entry (visible_in columns arrays rows)) DictionaryIndex
    ∷ when (list_any is_no_text (visible_in columns arrays rows)) NotUtf8
    ∷ when (list_any is_forbidden (visible_in columns arrays rows)) NullForbidden
    ∷ when (are_too_heavy s before (rows_in columns arrays rows)) TooHeavy
    ∷ []

-- what the rows of arrays weigh, of which n are rows
abbrev pub batch_weight : PlainSchema → (rows : ℕ) → Arrays → ℕ
batch_weight s rows arrays = table_weight s (rows_in (columns_of s.columns) arrays rows)

-- ---- record batches

-- after rows that weigh so much
unfoldable pub batch_checks : PlainSchema → (before : ℕ) → RawBatch → List ℕ → List (List Array) → List (Option Fault)
batch_checks s before b body dictionaries =
    let arrays : Arrays = batch_arrays (columns_of s.columns) b body dictionaries in
    array_checks (columns_of s.columns) b body arrays ++ slot_checks s before b.length arrays

-- the arrays that are read of a record batch, or its first fault
unfoldable pub batch_read : PlainSchema → (before : ℕ) → RawBatch → List ℕ → List (List Array) → Result Arrays Fault
batch_read s before b body dictionaries =
    unless (first_some (batch_checks s before b body dictionaries)) (Ok (batch_arrays (columns_of s.columns) b body dictionaries))
