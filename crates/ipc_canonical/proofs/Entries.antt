-- The dictionaries of a piece are read one after another: each replaces the one of its id.
use Rattle.std.specs.Prelude.{Some}
use Rattle.std.specs.List.{AllByRecursion, range_with_len}
use Rattle.std.proofs.Common.{◌≡◌, ◌<◌, ◌≤◌, ◌+◌, ◌^◌, ℕ, false, List, [], ◌∷◌, ◌++◌, map, length, Ok, refl, sym, ap, subst, ◌∙◌, arith, append_assoc}
use Rattle.std.proofs.lemmas.List.{append-nil, length-map}
use Rattle.std.proofs.lemmas.List.FromFn.{length-range_with_len}
use Rattle.arrow_schema.specs.Column.{Columns, PlainSchema, columns_of}
use Rattle.arrow_schema.specs.Limits.{IsWithinLimits}
use Rattle.arrow_schema.specs.Preorder.{preorder_all}
use Rattle.cells.specs.Cell.{Cell}
use Rattle.columns.specs.Alone.{own_column, own_array, IsBuiltAlone}
use Rattle.columns.specs.Array.{Array, no_array, slots_in}
use Rattle.columns.specs.Buffers.{node_of, buffers_of, dictionaries_of}
use Rattle.columns.specs.Built.{built_parts}
use Rattle.columns.specs.Layouts.{dictionary_arrays}
use Rattle.columns.specs.Tests.{Typed, every_array}
use Rattle.dictionary.specs.InEffect.{DictionaryBatch}
use Rattle.arrays.specs.Dictionaries.{DictionaryColumn, dictionary_columns, column_of_id}
use Rattle.arrays.specs.Known.{dictionary_values}
use Rattle.ipc_message.specs.Framing.{Envelope}
use Rattle.ipc_message.specs.Header.{supported_codes}
use Rattle.ipc_message.specs.Raw.{RawNode}
use Rattle.ipc_message.specs.laws.Accepted.{IsAccepted}
use Rattle.ipc_write.specs.Decoded.{raw_schema}
use Rattle.ipc_write.specs.Trees.{ids_of_all}
use Rattle.ipc_write.specs.Written.{dictionary_envelope, dictionary_batch_of}
use Rattle.ipc_canonical.specs.WrittenBatch.{raw_nodes, written_body, IsWritable}
use Rattle.ipc_canonical.specs.Numbered.{replacing}
use Rattle.ipc_canonical.specs.Canonical.{entries_message, entries_messages}
use Rattle.ipc_canonical.specs.laws.FewColumns.{dictionaries_have_few}
use Rattle.ipc_stream.specs.Meaning.{Known, read_next}
use Rattle.ipc_canonical.proofs.Messages.{Reads, Stands, message_reads, nothing_reads, both_read}
use Rattle.ipc_canonical.proofs.Values.{columns_of_dictionaries, few_values}
use Rattle.ipc_canonical.proofs.LawsBelow.{SchemaLaw, DictionaryLaw, EntriesLaw, IsReadAlone}

-- what is known after these dictionary batches and these rows of a table
abbrev pub known_with : PlainSchema → List DictionaryBatch → List (List Cell) → Known
known_with s batches rows = record { schema = s; columns = dictionary_columns (raw_schema s); dictionaries = batches; rows = rows }

-- ---- one dictionary

-- the dictionary of this id in a schema, which is read as its array
pub record IsNumbered (s : PlainSchema) (id : ℕ) (t : Typed) : Type 0 where
  pub found : column_of_id id (dictionary_columns (raw_schema s)) ≡ Some (record { id = id; values = t.column })
  pub small : id < 2 ^ 64
  pub alone : IsReadAlone t

abbrev entries_nodes : Typed → List RawNode
entries_nodes t = raw_nodes (own_column t) (own_array t)

abbrev entries_buffers : Typed → List (List ℕ)
entries_buffers t = buffers_of (own_column t) (own_array t)

abbrev entries_envelope : ℕ → Typed → Envelope
entries_envelope id t = dictionary_envelope id false (slots_in t.array) (entries_nodes t) (entries_buffers t)

-- its new array
abbrev replaced_by : ℕ → Typed → DictionaryBatch
replaced_by id t = record { id = id; is_delta = false; array = t.array }

entries_are_next : DictionaryLaw → EntriesLaw → (s : PlainSchema) (before : List DictionaryBatch) (rows : List (List Cell)) (id : ℕ) (t : Typed) → IsNumbered s id t
    → read_next supported_codes (Some (known_with s before rows)) (entries_envelope id t) ≡ Ok (known_with s (before ++ replaced_by id t ∷ []) rows)
unfolding read_next
entries_are_next law entries s before rows id t n =
    let c : DictionaryColumn = record { id = id; values = t.column } in
    rw (
      law.kind id false (slots_in t.array) (entries_nodes t) (entries_buffers t) n.small n.alone.writable,
      law.decoded id false (slots_in t.array) (entries_nodes t) (entries_buffers t) n.small n.alone.writable,
      entries.replaced (dictionary_columns (raw_schema s)) before (dictionary_batch_of id false (slots_in t.array) (entries_nodes t) (entries_buffers t)) (written_body (own_column t) (own_array t)) c t.array n.found refl n.alone.read,
    ) refl

entries_reads : DictionaryLaw → EntriesLaw → (s : PlainSchema) (before : List DictionaryBatch) (rows : List (List Cell)) (id : ℕ) (t : Typed) → IsNumbered s id t
    → Reads supported_codes (Some (known_with s before rows)) (known_with s (before ++ replaced_by id t ∷ []) rows) (entries_message id t)
entries_reads law entries s before rows id t n =
    let stands : Stands (entries_message id t) (entries_envelope id t) = record {
      found = λ rest. law.found id false (slots_in t.array) (entries_nodes t) (entries_buffers t) rest n.small n.alone.writable;
      after = law.after id false (slots_in t.array) (entries_nodes t) (entries_buffers t);
    } in
    message_reads supported_codes (Some (known_with s before rows)) (known_with s (before ++ replaced_by id t ∷ []) rows) (entries_message id t) (entries_envelope id t) stands (entries_are_next law entries s before rows id t n)

-- ---- one after another

-- with ids from this one on
abbrev pub AreNumbered : PlainSchema → ℕ → List Typed → Type 0
AreNumbered s id [] = Unit {0}
AreNumbered s id (t ∷ ts) = IsNumbered s id t × AreNumbered s (id + 1) ts

abbrev pub arrays_in : List Typed → List Array
arrays_in ts = map (λ t. t.array) ts

pub all_entries_read : DictionaryLaw → EntriesLaw → (s : PlainSchema) (before : List DictionaryBatch) (rows : List (List Cell)) (id : ℕ) (ts : List Typed) → AreNumbered s id ts
    → Reads supported_codes (Some (known_with s before rows)) (known_with s (before ++ replacing id (arrays_in ts)) rows) (entries_messages id ts)
all_entries_read law entries s before rows id [] each =
    subst (λ (batches : List DictionaryBatch). Reads supported_codes (Some (known_with s before rows)) (known_with s batches rows) []) (sym (append-nil before)) (nothing_reads supported_codes (known_with s before rows))
all_entries_read law entries s before rows id (t ∷ ts) each =
    let now : List DictionaryBatch = before ++ replaced_by id t ∷ [] in
    let later : List DictionaryBatch = replacing (id + 1) (arrays_in ts) in
    let first = entries_reads law entries s before rows id t each.0 in
    let others = all_entries_read law entries s now rows (id + 1) ts each.1 in
    subst (λ (batches : List DictionaryBatch). Reads supported_codes (Some (known_with s before rows)) (known_with s batches rows) (entries_messages id (t ∷ ts))) (append_assoc before (replaced_by id t ∷ []) later)
    (both_read supported_codes (Some (known_with s before rows)) (known_with s now rows) (known_with s (now ++ later) rows) (entries_message id t) (entries_messages (id + 1) ts) first others)

-- ---- those of a schema

-- the dictionaries of the columns of these rows
abbrev pub dictionaries_for : PlainSchema → List (List Cell) → List Typed
dictionaries_for s rows = dictionaries_of (columns_of s.columns) (built_parts (columns_of s.columns) rows)

-- their columns are those of the schema, as it is read
values_for : SchemaLaw → EntriesLaw → (s : PlainSchema) (rows : List (List Cell)) → IsWithinLimits s → IsAccepted (raw_schema s)
    → map (λ c. c.values) (dictionary_columns (raw_schema s)) ≡ map (λ t. t.column) (dictionaries_for s rows)
values_for schema law s rows within accepted =
    sym (law.values (raw_schema s) accepted.decoded accepted.flat)
    ∙ ap (λ (r : PlainSchema). dictionary_values (columns_of r.columns)) (schema.again s within)
    ∙ sym (columns_of_dictionaries (columns_of s.columns) rows)

as_many : SchemaLaw → EntriesLaw → (s : PlainSchema) (rows : List (List Cell)) → IsWithinLimits s → IsAccepted (raw_schema s) → length (dictionary_columns (raw_schema s)) ≡ length (dictionaries_for s rows)
as_many schema law s rows within accepted =
    sym (length-map (dictionary_columns (raw_schema s)) (λ (c : DictionaryColumn). c.values))
    ∙ ap length (values_for schema law s rows within accepted)
    ∙ length-map (dictionaries_for s rows) (λ (t : Typed). t.column)

-- the ids count them
pub ids_counted : SchemaLaw → EntriesLaw → (s : PlainSchema) (rows : List (List Cell)) → IsWithinLimits s → IsAccepted (raw_schema s)
    → map (λ c. c.id) (dictionary_columns (raw_schema s)) ≡ range_with_len 0 (length (dictionaries_for s rows))
ids_counted schema law s rows within accepted =
    let count : ids_of_all (columns_of s.columns) ≡ length (dictionary_columns (raw_schema s)) =
    sym (length-range_with_len 0 (ids_of_all (columns_of s.columns)))
    ∙ ap length (sym (law.ids s))
    ∙ length-map (dictionary_columns (raw_schema s)) (λ (c : DictionaryColumn). c.id) in
    law.ids s ∙ ap (range_with_len 0) (count ∙ as_many schema law s rows within accepted)

few_dictionaries : EntriesLaw → (s : PlainSchema) (rows : List (List Cell)) → IsWithinLimits s → length (dictionaries_for s rows) ≤ 2048
few_dictionaries law s rows within =
    let cs : Columns = columns_of s.columns in
    let every : List Typed = every_array cs no_array in
    let values = ap length (columns_of_dictionaries cs rows) in
    let count = length-map (dictionaries_for s rows) (λ (t : Typed). t.column) in
    omega (arith, values, count, few_values every, length-map every node_of, law.few_nodes cs no_array, within.fields)

all_read_alone : EntriesLaw → (ts : List Typed) → AllByRecursion (IsBuiltAlone 16777216) ts → AllByRecursion (λ t. dictionary_arrays (own_column t) (own_array t) ≡ []) ts
    → AllByRecursion (λ t. length (preorder_all (own_column t)) ≤ 2048) ts → AllByRecursion IsReadAlone ts
all_read_alone law [] alone flat few = tt
all_read_alone law (t ∷ ts) alone flat few =
    (record { writable = law.writable t alone.0 few.0; read = law.read t alone.0 few.0 flat.0 }, all_read_alone law ts alone.1 flat.1 few.1)

-- each column of these has its own id
numbered_from : (s : PlainSchema) (id : ℕ) (cs : List DictionaryColumn) (ts : List Typed) → map (λ c. c.id) cs ≡ range_with_len id (length ts) → map (λ c. c.values) cs ≡ map (λ t. t.column) ts
    → AllByRecursion (λ (c : DictionaryColumn). column_of_id c.id (dictionary_columns (raw_schema s)) ≡ Some c) cs → AllByRecursion IsReadAlone ts → id + length ts ≤ 2048 → AreNumbered s id ts
numbered_from s id cs [] ids values own alone few = tt
numbered_from s id [] (t ∷ ts) ids values own alone few = absurd cc
numbered_from s id (c ∷ cs) (t ∷ ts) ids values own alone few =
    let here : c.id ≡ id = cc in
    let column : c.values ≡ t.column = cc in
    let is : c ≡ record { id = id; values = t.column } = λ i. record { id = here i; values = column i } in
    let other_ids : map (λ d. d.id) cs ≡ range_with_len (id + 1) (length ts) = cc in
    let other_values : map (λ d. d.values) cs ≡ map (λ u. u.column) ts = cc in (
      record {
        found = subst (λ (d : DictionaryColumn). column_of_id d.id (dictionary_columns (raw_schema s)) ≡ Some d) is own.0;
        small = omega (arith, few);
        alone = alone.0;
      },
      numbered_from s (id + 1) cs ts other_ids other_values own.1 alone.1 (omega (arith, few)),
    )

pub dictionaries_numbered : SchemaLaw → EntriesLaw → (s : PlainSchema) (rows : List (List Cell)) → IsWithinLimits s → IsAccepted (raw_schema s) → IsWritable (columns_of s.columns) rows
    → AreNumbered s 0 (dictionaries_for s rows)
dictionaries_numbered schema law s rows within accepted w =
    let cs : Columns = columns_of s.columns in
    let all : List DictionaryColumn = dictionary_columns (raw_schema s) in
    let ts : List Typed = dictionaries_for s rows in
    let ids = ids_counted schema law s rows within accepted in
    let own = law.own all (ids ∙ ap (range_with_len 0) (sym (as_many schema law s rows within accepted))) in
    let few = dictionaries_have_few 2048 cs (built_parts cs rows) within.fields in
    let alone = all_read_alone law ts (law.alone 16777216 cs rows w.can w.weighs) (law.flat cs rows within.dictionaries w.can) few in
    let count = few_dictionaries law s rows within in
    numbered_from s 0 all ts ids (values_for schema law s rows within accepted) own alone (omega (arith, count))
