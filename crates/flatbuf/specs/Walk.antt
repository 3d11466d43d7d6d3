-- What a reader meets, in order, and the first bad thing in it.
use Rattle.std.specs.Prelude.{ℕ, ◌+◌, ◌*◌, List, [], ◌∷◌, ◌++◌, length, Result, Ok, Err, nat_le, nat_lt, ◌==◌, ◌&&◌, ◌%◌, if◌then◌else◌, Option, Some, None}
use Rattle.flatbuf.specs.declared.FlatError.{FlatError}
use Rattle.flatbuf.specs.declared.FlatError.TheVariants.{Bounds, VtableSize, Budget}
use Rattle.flatbuf.specs.declared.limits.TheConstants.{MAX_BUFFER_TABLES, MAX_LEVELS}
use Rattle.flatbuf.specs.Lookup.{number, Place, vtable_of, slot, target, scalar_of}

-- a table that is entered, a table that would be too deep, bytes that are read, a vtable before the first byte, the size of a vtable, and something
-- required that is missing
pub data Thing : Type 0 where
  table : Thing
  too_deep : Thing
  span : (at len : ℕ) → Thing
  before_all : Thing
  vtable_size : ℕ → Thing
  missing : Thing

-- the number of tables entered after these things, if n were entered before, or the first bad thing
unfoldable pub run : List ℕ → List Thing → ℕ → Result ℕ FlatError
run bytes [] n = Ok n
run bytes (table ∷ things) n = if nat_lt n MAX_BUFFER_TABLES then run bytes things (n + 1) else Err Budget
run bytes (too_deep ∷ things) n = Err Budget
run bytes (span at len ∷ things) n = if nat_le (at + len) (length bytes) then run bytes things n else Err Bounds
run bytes (before_all ∷ things) n = Err Bounds
run bytes (vtable_size size ∷ things) n = if nat_le 4 size && size % 2 == 0 then run bytes things n else Err VtableSize
run bytes (missing ∷ things) n = Err Bounds

-- the outcome of a walk that has entered n tables, as a function with this result reports it
abbrev pub reported : {X : Type 0} → ℕ → Result X FlatError → Result ℕ FlatError
reported n (Ok x) = Ok n
reported n (Err f) = Err f

-- the vtable at a position, or its absence if it would be before the first byte
abbrev pub head_at : Option ℕ → List ℕ → List Thing
head_at None bytes = before_all ∷ []
head_at (Some v) bytes = span v 2 ∷ vtable_size (number 2 bytes v) ∷ span v (number 2 bytes v) ∷ []

-- a table, without its slots
unfoldable pub head_things : List ℕ → ℕ → List Thing
head_things bytes at = table ∷ span at 4 ∷ head_at (vtable_of bytes at) bytes

-- a table at a position, without its slots, with `left` levels left
unfoldable pub table_things : ℕ → List ℕ → ℕ → List Thing
table_things left bytes at = if left == 0 then too_deep ∷ [] else head_things bytes at

-- the n bytes of a slot
abbrev pub spans : ℕ → Option ℕ → List Thing
spans n None = []
spans n (Some at) = span at n ∷ []

-- a vector of elements of n bytes: its reference, its count, and all its elements
abbrev pub vector_at : ℕ → List ℕ → Option ℕ → List Thing
vector_at n bytes None = []
vector_at n bytes (Some at) = let v = target bytes at in span at 4 ∷ span v 4 ∷ span (v + 4) (n * number 4 bytes v) ∷ []

-- a reference and the table that it leads to
abbrev pub reference_things : ℕ → List ℕ → Option ℕ → List Thing
reference_things left bytes None = []
reference_things left bytes (Some at) = span at 4 ∷ table_things left bytes (target bytes at)

-- a union whose kind is in slot k and whose reference is in the next slot
abbrev pub union_things : ℕ → List ℕ → Place → ℕ → List Thing
union_things left bytes t k =
    spans 1 (slot bytes t k)
    ++ (if scalar_of 1 0 bytes (slot bytes t k) == 0 then [] else reference_things left bytes (slot bytes t (k + 1)))

-- the reference to the root table, and that table
unfoldable pub root_things : List ℕ → List Thing
root_things bytes = span 0 4 ∷ table_things MAX_LEVELS bytes (target bytes 0)
