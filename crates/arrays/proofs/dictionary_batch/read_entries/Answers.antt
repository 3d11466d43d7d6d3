use Rattle.std.specs.List.{list_any}
use Rattle.std.proofs.Common.{◌≡◌, ℕ, [], List, map, Ok, ap, sym, ◌∙◌, subst, true, false}
use Rattle.arrow_schema.specs.Column.{Column, columns_of}
use Rattle.arrow_schema.specs.View.{column_of}
use Rattle.ipc_message.specs.Raw.{RawBatch}
use Rattle.ipc_message.specs.View.{raw_batch_of}
use Rattle.columns.specs.declared.array.PlacedArray.{PlacedArray}
use Rattle.columns.specs.Array.{Array}
use Rattle.columns.specs.Places.{within}
use Rattle.columns.specs.Sound.{are_sound}
use Rattle.columns.specs.Tests.{every_array}
use Rattle.columns.specs.View.{placed_arrays}
use Rattle.arrays.specs.Checks.{plain_node, buffer_bytes}
use Rattle.arrays.specs.Entries.{has_bad_entry}
use Rattle.arrays.specs.Known.{dictionary_values}
use Rattle.arrays.proofs.BatchRead.{read_sound, read_entries}
use Rattle.arrays.proofs.KnownRead.{known_sound, known_texts, none_known}
use Rattle.arrays.proofs.DictionaryRead.{failed, bad, good}
use Rattle.arrays.proofs.dictionary_batch.read_entries.Goals as goal

pub has_bad_text-requires-clause-sound : goal.has_bad_text-requires-clause-sound
has_bad_text-requires-clause-sound c =
    let cs : List Column = map column_of c.args.values.now in
    let b : RawBatch = raw_batch_of c.args.batch.now in
    let body : List ℕ = within c.args.bytes.now c.args.body in
    let same : c.deref.result.now ≡ c.in-Ok.arrays.items = cc in
    subst (λ (xs : List PlacedArray). are_sound (columns_of cs) c.args.batch.now.length (placed_arrays c.args.bytes.now [] xs) ≡ true) (sym same)
    (read_sound (columns_of cs) b body [] (placed_arrays c.args.bytes.now [] c.in-Ok.arrays.items) c.in-Ok.ensures.arrays
    (known_sound (columns_of cs) (map plain_node b.nodes) (map (buffer_bytes body) b.buffers) [] (none_known (dictionary_values (columns_of cs)))))

pub has_bad_text-requires-clause-entries : goal.has_bad_text-requires-clause-entries
has_bad_text-requires-clause-entries c =
    let cs : List Column = map column_of c.args.values.now in
    let b : RawBatch = raw_batch_of c.args.batch.now in
    let body : List ℕ = within c.args.bytes.now c.args.body in
    let same : c.deref.result.now ≡ c.in-Ok.arrays.items = cc in
    subst (λ (xs : List PlacedArray). list_any has_bad_entry (every_array (columns_of cs) (placed_arrays c.args.bytes.now [] xs)) ≡ false) (sym same)
    (read_entries (columns_of cs) b body [] (placed_arrays c.args.bytes.now [] c.in-Ok.arrays.items) c.in-Ok.ensures.arrays
    (known_texts (columns_of cs) (map plain_node b.nodes) (map (buffer_bytes body) b.buffers) [] (none_known (dictionary_values (columns_of cs)))))

pub returns-then-has_bad_text-clause-array : goal.returns-then-has_bad_text-clause-array
returns-then-has_bad_text-clause-array c = λ col is.
    let same : c.deref.result.now ≡ c.in-Ok.arrays.items = cc in
    bad (map column_of c.args.values.now) col (raw_batch_of c.args.batch.now) (within c.args.bytes.now c.args.body) c.args.bytes.now c.in-Ok.arrays.items c.deref.result.now is same c.in-Ok.ensures.arrays c.if-has_bad_text.ensures

pub returns-else-has_bad_text-clause-array : goal.returns-else-has_bad_text-clause-array
returns-else-has_bad_text-clause-array c = λ col is.
    let same : c.deref.result.now ≡ c.in-Ok.arrays.items = cc in
    good (map column_of c.args.values.now) col (raw_batch_of c.args.batch.now) (within c.args.bytes.now c.args.body) c.args.bytes.now c.in-Ok.arrays.items c.deref.result.now is same c.in-Ok.ensures.arrays c.if-has_bad_text.ensures
    ∙ ap (λ (a : Array). Ok a) (sym (c.first_of.ensures.array c.args.bytes.now))

pub returns-in-Err-clause-array : goal.returns-in-Err-clause-array
returns-in-Err-clause-array c = λ col is. failed (map column_of c.args.values.now) col (raw_batch_of c.args.batch.now) (within c.args.bytes.now c.args.body) c.in-Err.error is c.in-Err.ensures.arrays

pub returns-else-has_bad_text-clause-placed : goal.returns-else-has_bad_text-clause-placed
returns-else-has_bad_text-clause-placed c = c.first_of.ensures.placed c.args.body c.in-Ok.ensures.placed
