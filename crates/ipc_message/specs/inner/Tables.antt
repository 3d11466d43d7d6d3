-- The definitions of `Header`, applied to a table, its slots and its references in the code.
use Rattle.std.specs.Prelude.{ℕ, List, map, Option, Some, option_map, slice_index}
use Rattle.std.specs.List.{flat_map}
use Rattle.flatbuf.specs.declared.table.Table.{Table}
use Rattle.flatbuf.specs.declared.references.References.{References}
use Rattle.flatbuf.specs.Lookup.{Place, table_behind}
use Rattle.flatbuf.specs.Seen.{bytes_of, place_of, levels_of, slot_of, bytes_behind, places_in, levels_behind}
use Rattle.flatbuf.specs.Walk.{Thing}
use Rattle.ipc_message.specs.declared.read_tables.FieldTable.{FieldTable}
use Rattle.ipc_message.specs.Header.{supported_codes, slot_in, type_things, field_at, field_with, pairs_in}
use Rattle.ipc_message.specs.Raw.{RawField, raw_field, raw_fields_of}
use Rattle.ipc_message.specs.View.{parameters_of, encoding_of}

-- to the table, as one that is present
abbrev pub in_table : {A : Type 0} → (ℕ → List ℕ → Option Place → A) → Table → A
in_table f t = f (levels_of t) (bytes_of t) (Some (place_of t))

-- to its place
abbrev pub at_place : {A : Type 0} → (ℕ → List ℕ → Place → A) → Table → A
at_place f t = f (levels_of t) (bytes_of t) (place_of t)

-- to its slot k
abbrev pub in_slot : {A : Type 0} → (ℕ → List ℕ → Option ℕ → A) → Table → ℕ → A
in_slot f t k = f (levels_of t) (bytes_of t) (slot_of t k)

-- to reference i
abbrev pub at_reference : {A : Type 0} → (ℕ → List ℕ → ℕ → A) → References → ℕ → A
at_reference f r i = f (levels_behind r) (bytes_behind r) (slice_index (places_in r) i)

-- what is met at the targets of all references
abbrev pub over_references : (ℕ → List ℕ → ℕ → List Thing) → References → List Thing
over_references things r = flat_map (things (levels_behind r) (bytes_behind r)) (places_in r)

-- the table that slot k refers to
abbrev pub behind : Table → ℕ → Option Place
behind t k = table_behind (bytes_of t) (slot_of t k)

-- slot j of the table that slot k refers to
abbrev pub slot_behind : Table → ℕ → ℕ → Option ℕ
slot_behind t k j = slot_in (bytes_of t) (behind t k) j

-- the table of a field's type
abbrev pub type_table : Table → ℕ → List Thing
type_table t code = type_things supported_codes (levels_of t) (bytes_of t) code (slot_of t 3)

-- the field of a table with these children
abbrev pub field_in : Table → List RawField → RawField
field_in t children = field_with supported_codes (bytes_of t) (place_of t) children

-- the fields that references lead to
abbrev pub fields_behind : References → List RawField
fields_behind r = map (field_at supported_codes (levels_behind r) (bytes_behind r)) (places_in r)

-- the field whose own table was read, with these children
abbrev pub field_from : FieldTable → Table → List RawField → RawField
field_from f t children =
    raw_field f.name.now f.nullable f.code (parameters_of f.parameters) (option_map encoding_of f.dictionary) (raw_fields_of children) (pairs_in (bytes_of t) (slot_of t 6))
