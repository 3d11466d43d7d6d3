-- What a read promises of the walk: its result, and the number of tables entered, are those of the walk over these things.
use Rattle.std.specs.Prelude.{◌≡◌, ℕ, ◌+◌, List, Result, Ok, Err, nat_lt, if◌then◌else◌, slice_index}
use Rattle.flatbuf.specs.declared.FlatError.{FlatError}
use Rattle.flatbuf.specs.declared.FlatError.TheVariants as errors
use Rattle.flatbuf.specs.declared.buf.Budget.{Budget}
use Rattle.flatbuf.specs.declared.limits.TheConstants.{MAX_BUFFER_TABLES}
use Rattle.flatbuf.specs.declared.references.References.{References}
use Rattle.flatbuf.specs.declared.table.Table.{Table}
use Rattle.flatbuf.specs.Seen.{tables_in, bytes_of, levels_of, slot_of, bytes_behind, places_in, levels_behind}
use Rattle.flatbuf.specs.Walk.{Thing, run, reported, table_things, reference_things}

-- a call that enters tables
abbrev pub Walks : {X : Type 0} → List ℕ → List Thing → Budget → Budget → Result X FlatError → Type 0
Walks bytes things old new result = run bytes things (tables_in old) ≡ reported (tables_in new) result

-- one more table is entered
abbrev pub one_more : ℕ → Result ℕ FlatError
one_more n = if nat_lt n MAX_BUFFER_TABLES then Ok (n + 1) else Err errors.Budget

-- the table that the reference in slot k leads to
abbrev pub slot_things : Table → ℕ → List Thing
slot_things t k = reference_things (levels_of t) (bytes_of t) (slot_of t k)

-- the table that reference i leads to
abbrev pub child_things : References → ℕ → List Thing
child_things r i = table_things (levels_behind r) (bytes_behind r) (slice_index (places_in r) i)
