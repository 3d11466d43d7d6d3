use Rattle.std.proofs.Common.{◌≡◌, ℕ, List, Ok, map, sym, ap}
use Rattle.std.proofs.lemmas.Result.{err_from_is_err_and}
use Rattle.facts.specs.Checks.{first_some}
use Rattle.facts.specs.laws.Checks.{unless_passed}
use Rattle.arrow_schema.specs.Column.{Columns, PlainSchema, columns_of}
use Rattle.arrow_schema.specs.View.{column_of, schema_of}
use Rattle.ipc_message.specs.Raw.{RawBatch}
use Rattle.ipc_message.specs.View.{raw_batch_of}
use Rattle.columns.specs.Array.{Array, Arrays}
use Rattle.columns.specs.Places.{within}
use Rattle.columns.specs.View.{arrays_in, placed_arrays}
use Rattle.arrays.proofs.KnownRead.{known_sound, known_texts}
use Rattle.arrays.specs.Checks.{plain_node, buffer_bytes, arrays_read, slot_checks, batch_weight}
use Rattle.arrays.proofs.BatchRead.{unless_failed, fails_too, slots_fail, slots_pass, read_sound, read_entries}
use Rattle.arrays.proofs.batch.read.Goals as goal

pub check_slots-requires-clause-sound : goal.check_slots-requires-clause-sound
check_slots-requires-clause-sound c =
    let cs : Columns = columns_of (map column_of c.args.schema.now.fields.items) in
    let b : RawBatch = raw_batch_of c.args.batch.now in
    let body : List ℕ = within c.args.bytes.now c.args.body in
    let known : List (List Array) = map (arrays_in c.args.bytes.now c.args.dictionaries.now) c.args.parts.now in
    let arrays : Arrays = placed_arrays c.args.bytes.now c.args.dictionaries.now c.in_ok-arrays.arrays.items in
    let ok : arrays_read cs b body known ≡ Ok arrays = rw c.deref.ensures.value at c.in_ok-arrays.ensures.arrays in
    rw (c.deref-2.ensures.value, c.deref-3.ensures.value) (read_sound cs b body known arrays ok (known_sound cs (map plain_node b.nodes) (map (buffer_bytes body) b.buffers) known c.requires.known))

pub check_slots-requires-clause-entries : goal.check_slots-requires-clause-entries
check_slots-requires-clause-entries c =
    let cs : Columns = columns_of (map column_of c.args.schema.now.fields.items) in
    let b : RawBatch = raw_batch_of c.args.batch.now in
    let body : List ℕ = within c.args.bytes.now c.args.body in
    let known : List (List Array) = map (arrays_in c.args.bytes.now c.args.dictionaries.now) c.args.parts.now in
    let arrays : Arrays = placed_arrays c.args.bytes.now c.args.dictionaries.now c.in_ok-arrays.arrays.items in
    let ok : arrays_read cs b body known ≡ Ok arrays = rw c.deref.ensures.value at c.in_ok-arrays.ensures.arrays in
    rw (c.deref-2.ensures.value, c.deref-3.ensures.value) (read_entries cs b body known arrays ok (known_texts cs (map plain_node b.nodes) (map (buffer_bytes body) b.buffers) known c.requires.known))

pub returns-in_err-arrays-clause-arrays : goal.returns-in_err-arrays-clause-arrays
returns-in_err-arrays-clause-arrays c =
    let s : PlainSchema = schema_of c.args.schema.now in
    let b : RawBatch = raw_batch_of c.args.batch.now in
    let body : List ℕ = within c.args.bytes.now c.args.body in
    let known : List (List Array) = map (arrays_in c.args.bytes.now c.args.dictionaries.now) c.args.parts.now in
    let failed = rw c.deref.ensures.value at c.in_err-arrays.ensures.arrays in
    let p = err_from_is_err_and c.from_residual.result c.from_residual.ensures.1 in
    rw (p.1, p.2) (fails_too s c.args.before b body known _ failed)

pub returns-in-Ok-clause-arrays : goal.returns-in-Ok-clause-arrays
returns-in-Ok-clause-arrays c =
    let s : PlainSchema = schema_of c.args.schema.now in
    let b : RawBatch = raw_batch_of c.args.batch.now in
    let body : List ℕ = within c.args.bytes.now c.args.body in
    let known : List (List Array) = map (arrays_in c.args.bytes.now c.args.dictionaries.now) c.args.parts.now in
    let arrays : Arrays = placed_arrays c.args.bytes.now c.args.dictionaries.now c.in_ok-arrays.arrays.items in
    let ok : arrays_read (columns_of s.columns) b body known ≡ Ok arrays = rw c.deref.ensures.value at c.in_ok-arrays.ensures.arrays in
    let found = rw c.deref-3.ensures.value at (c.in-Ok.ensures s (ap (map column_of) (sym c.deref-2.ensures.value))) in
    let passed = unless_passed (first_some (slot_checks s c.args.before b.length arrays)) (Ok (batch_weight s b.length arrays)) c.in-Ok.weight (sym found) in
    slots_pass s c.args.before b body known arrays ok (sym passed.0)

pub returns-in-Ok-clause-weight : goal.returns-in-Ok-clause-weight
returns-in-Ok-clause-weight c =
    let s : PlainSchema = schema_of c.args.schema.now in
    let b : RawBatch = raw_batch_of c.args.batch.now in
    let arrays : Arrays = placed_arrays c.args.bytes.now c.args.dictionaries.now c.in_ok-arrays.arrays.items in
    let found = rw c.deref-3.ensures.value at (c.in-Ok.ensures s (ap (map column_of) (sym c.deref-2.ensures.value))) in
    let passed = unless_passed (first_some (slot_checks s c.args.before b.length arrays)) (Ok (batch_weight s b.length arrays)) c.in-Ok.weight (sym found) in
    cc

pub returns-in-Ok-clause-sound : goal.returns-in-Ok-clause-sound
returns-in-Ok-clause-sound c =
    let s : PlainSchema = schema_of c.args.schema.now in
    let b : RawBatch = raw_batch_of c.args.batch.now in
    let body : List ℕ = within c.args.bytes.now c.args.body in
    let known : List (List Array) = map (arrays_in c.args.bytes.now c.args.dictionaries.now) c.args.parts.now in
    let arrays : Arrays = placed_arrays c.args.bytes.now c.args.dictionaries.now c.in_ok-arrays.arrays.items in
    let ok : arrays_read (columns_of s.columns) b body known ≡ Ok arrays = rw c.deref.ensures.value at c.in_ok-arrays.ensures.arrays in
    read_sound (columns_of s.columns) b body known arrays ok (known_sound (columns_of s.columns) (map plain_node b.nodes) (map (buffer_bytes body) b.buffers) known c.requires.known)

pub returns-in-Err-clause-arrays : goal.returns-in-Err-clause-arrays
returns-in-Err-clause-arrays c =
    let s : PlainSchema = schema_of c.args.schema.now in
    let b : RawBatch = raw_batch_of c.args.batch.now in
    let body : List ℕ = within c.args.bytes.now c.args.body in
    let known : List (List Array) = map (arrays_in c.args.bytes.now c.args.dictionaries.now) c.args.parts.now in
    let arrays : Arrays = placed_arrays c.args.bytes.now c.args.dictionaries.now c.in_ok-arrays.arrays.items in
    let ok : arrays_read (columns_of s.columns) b body known ≡ Ok arrays = rw c.deref.ensures.value at c.in_ok-arrays.ensures.arrays in
    let found = rw c.deref-3.ensures.value at (c.in-Err.ensures s (ap (map column_of) (sym c.deref-2.ensures.value))) in
    slots_fail s c.args.before b body known arrays c.in-Err.fault ok (sym (unless_failed (first_some (slot_checks s c.args.before b.length arrays)) (batch_weight s b.length arrays) c.in-Err.fault (sym found)))
