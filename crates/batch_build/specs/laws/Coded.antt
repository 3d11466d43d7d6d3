-- The array of a column with a dictionary: its node and two buffers, and the batch of its entries.
use Rattle.std.proofs.Common.{◌≡◌, ℕ, Bool, true, List, [], ◌++◌, map, length, append_assoc, append-nil, refl, ap, sym, ◌∙◌}
use Rattle.std.specs.Prelude.{◌&&◌, Some, None}
use Rattle.std.specs.List.{flat_map, list_all}
use Rattle.std.proofs.lemmas.Bool.{and_parts}
use Rattle.arrow_schema.specs.Column.{Index, Kind, nulls}
use Rattle.cells.specs.Cell.{Cell}
use Rattle.columns.specs.Array.{Array, slots_in, validity_in}
use Rattle.columns.specs.Buildable.{are_nulls_or_fit, is_null_or_entry, names_entries, can_build, can_build_below}
use Rattle.columns.specs.Buffers.{node_of, null_count, column_buffers}
use Rattle.columns.specs.Built.{built}
use Rattle.columns.specs.Tests.{Typed, arrays_at, unset_bits}
use Rattle.columns.specs.laws.Rows.{slots_built}
use Rattle.batch_build.specs.Batch.{PlainBatch, PlainDictionary, batch_of, built_at, plain_column, with_arrays}
use Rattle.batch_build.specs.Nodes.{with_buffer, with_node}
use Rattle.batch_build.specs.Coded.{with_dictionary, with_indices, values_batch}
use Rattle.cells.specs.Dictionary.{entries_of}

-- the batch of n slots, whose arrays are these
abbrev batch_with : ℕ → List Typed → PlainDictionary
batch_with slots arrays = record { slots = slots; nodes = map node_of arrays; buffers = flat_map (λ t. column_buffers t.column t.array) arrays }

-- the batch of the values is that of their array alone
values_are : (kind : Kind) (entries : List Cell) → let batch = batch_of (built_at (plain_column kind None) entries) in
    record { slots = length entries; nodes = batch.nodes; buffers = batch.buffers } ≡ values_batch kind entries
unfolding with_arrays built arrays_at
values_are kind entries =
    let arrays : List Typed = built_at (plain_column kind None) entries in
    sym (ap (λ (n : ℕ). batch_with n (arrays ++ [])) (slots_built kind entries) ∙ ap (batch_with (length entries)) (append-nil arrays))

pub values_built : (kind : Kind) (entries : List Cell) (slots : ℕ) (p : PlainBatch) → slots ≡ length entries → p ≡ batch_of (built_at (plain_column kind None) entries)
    → record { slots = slots; nodes = p.nodes; buffers = p.buffers } ≡ values_batch kind entries
values_built kind entries slots p same built_alone =
    ap (λ (n : ℕ). record { slots = n; nodes = p.nodes; buffers = p.buffers }) same
    ∙ ap (λ (b : PlainBatch). record { slots = length entries; nodes = b.nodes; buffers = b.buffers }) built_alone
    ∙ values_are kind entries

-- where there is a dictionary, the slots that are not valid are counted, whatever the type of values
coded_nulls : (kind : Kind) (index : Index) (a : Array) → null_count (plain_column kind (Some index)) a ≡ unset_bits (validity_in a) (slots_in a)
coded_nulls nulls index a = refl
coded_nulls _ index a = refl

coded_is : (p : PlainBatch) (kind : Kind) (index : Index) (cells : List Cell) →
    with_dictionary (with_indices p index cells) (values_batch kind (entries_of cells)) ≡ with_arrays p (built_at (plain_column kind (Some index)) cells)
unfolding with_arrays built arrays_at with_dictionary with_buffer with_node
coded_is p kind index cells =
    rw (append_assoc, coded_nulls kind index (built (plain_column kind (Some index)) cells)) refl

pub dictionary_built : (kind : Kind) (index : Index) (cells entries : List Cell) (p q : PlainBatch) (d : PlainDictionary) → entries ≡ entries_of cells
    → q ≡ with_indices p index cells → d ≡ values_batch kind entries → with_dictionary q d ≡ with_arrays p (built_at (plain_column kind (Some index)) cells)
dictionary_built kind index cells entries p q d same indexed values =
    ap (λ (b : PlainBatch). with_dictionary b d) indexed
    ∙ ap (with_dictionary (with_indices p index cells)) (values ∙ ap (values_batch kind) same)
    ∙ coded_is p kind index cells

pub entries_can : (kind : Kind) (index : Index) (cells : List Cell) → can_build (plain_column kind (Some index)) cells ≡ true → can_build (plain_column kind None) (entries_of cells) ≡ true
unfolding can_build
entries_can kind index cells can =
    let entries : List Cell = entries_of cells in
    let fit : Bool = are_nulls_or_fit kind entries && can_build_below kind entries in
    (and_parts (names_entries index (length entries)) fit (and_parts (list_all is_null_or_entry cells) (names_entries index (length entries) && fit) can).1).1
