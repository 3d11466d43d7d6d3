-- No check of a whole message tells that it is cut off.
use Rattle.std.specs.Prelude.{Option, Some, None, option_map, find, not, ◌==◌}
use Rattle.std.specs.List.{list_any}
use Rattle.std.proofs.Common.{◌≡◌, ℕ, Bool, true, false, List, [], ◌∷◌, ◌++◌, Result, Ok, Err}
use Rattle.arrow_schema.specs.Column.{Column, Columns, PlainSchema, columns_of}
use Rattle.arrays.specs.Checks.{array_checks, slot_checks, batch_checks, batch_read, batch_arrays}
use Rattle.arrays.specs.Dictionaries.{DictionaryColumn, entry_checks, dictionary_checks, read_with, dictionary_read, column_of_id, entries_in, batch_with, dictionaries_after}
use Rattle.cells.specs.Weight.{table_weight}
use Rattle.columns.specs.Array.{Array, Arrays, first_array}
use Rattle.columns.specs.CellAt.{rows_in}
use Rattle.columns.specs.Visible.{visible_in, is_no_text}
use Rattle.columns.specs.Alone.{alone}
use Rattle.dictionary.specs.InEffect.{DictionaryBatch}
use Rattle.flatbuf.specs.declared.FlatError.{FlatError}
use Rattle.flatbuf.specs.declared.FlatError.TheVariants.{Bounds, VtableSize, Budget}
use Rattle.flatbuf.specs.Walk.{run}
use Rattle.ipc_message.specs.Checks.{is_unsupported, schema_checks, name_of_type}
use Rattle.ipc_message.specs.Fields.{every_field}
use Rattle.ipc_message.specs.Framing.{Envelope, first_some, unless, when, type_of}
use Rattle.ipc_message.specs.Header.{header, header_of, header_things, decoded}
use Rattle.ipc_message.specs.Raw.{RawSchema, RawBatch, RawDictionaryBatch, RawField, RawHeader, schema_header, dictionary_header, batch_header}
use Rattle.ipc_message.specs.declared.fault.Fault.{Fault}
use Rattle.ipc_message.specs.declared.fault.Fault.TheVariants as faults
use Rattle.ipc_message.specs.declared.fault.Fault.TheVariants.{Truncated}
use Rattle.ipc_message.specs.declared.header_type.TheConstants.{SCHEMA}
use Rattle.ipc_stream.specs.Meaning.{Known, known_first, with_dictionary, with_rows, read_after, read_header, read_next, order_fault, ◌>>=◌}

-- the first that some checks find is not that
record Go (os : List (Option Fault)) : Type 0 where
  whole : first_some os ≡ Some Truncated → ⊥

pub goes : (b : Bool) (fault : Fault) (os : List (Option Fault)) → (fault ≡ Truncated → ⊥) → (first_some os ≡ Some Truncated → ⊥) → first_some (when b fault ∷ os) ≡ Some Truncated → ⊥
goes true fault os other rest h = other cc
goes false fault os other rest h = rest h

on : (b : Bool) (fault : Fault) (os : List (Option Fault)) → (fault ≡ Truncated → ⊥) → Go os → Go (when b fault ∷ os)
on b fault os other rest = record { whole = goes b fault os other rest.whole }

done : Go []
done = record { whole = λ h. cc }

-- an answer that is no such fault
abbrev IsWhole : {A : Type 0} → Result A Fault → Type 0
IsWhole r = r ≡ Err Truncated → ⊥

unless_whole : {A : Type 0} (o : Option Fault) (r : Result A Fault) → (o ≡ Some Truncated → ⊥) → IsWhole r → IsWhole (unless o r)
unless_whole None r found rest h = rest h
unless_whole (Some fault) r found rest h = found cc

given : {A : Type 0} (x : A) → IsWhole (Ok x)
given x h = cc

bind_whole : {A B : Type 0} (r : Result A Fault) (f : A → Result B Fault) → IsWhole r → ((x : A) → IsWhole (f x)) → IsWhole (r >>= f)
bind_whole (Ok x) f first rest h = rest x h
bind_whole (Err fault) f first rest h = first cc

-- ---- a batch

array_checks_go : (columns : Columns) (b : RawBatch) (body : List ℕ) (arrays : Arrays) (os : List (Option Fault)) → Go os → Go (array_checks columns b body arrays ++ os)
array_checks_go columns b body arrays os rest =
    on _ faults.Compressed _ (λ e. cc) (on _ faults.LayoutCount _ (λ e. cc) (on _ faults.RowCount _ (λ e. cc)
    (on _ faults.BufferRange _ (λ e. cc) (on _ faults.BufferShort _ (λ e. cc) (on _ faults.NullCount _ (λ e. cc)
    (on _ faults.Offsets _ (λ e. cc) rest))))))

slot_checks_go : (s : PlainSchema) (before rows : ℕ) (arrays : Arrays) → Go (slot_checks s before rows arrays)
slot_checks_go s before rows arrays =
    on _ faults.DictionaryIndex _ (λ e. cc) (on _ faults.NotUtf8 _ (λ e. cc) (on _ faults.NullForbidden _ (λ e. cc) (on _ faults.TooHeavy _ (λ e. cc) done)))

batch_whole : (s : PlainSchema) (before : ℕ) (b : RawBatch) (body : List ℕ) (dictionaries : List (List Array)) → IsWhole (batch_read s before b body dictionaries)
unfolding batch_read batch_checks
batch_whole s before b body dictionaries =
    let arrays : Arrays = batch_arrays (columns_of s.columns) b body dictionaries in
    unless_whole (first_some (array_checks (columns_of s.columns) b body arrays ++ slot_checks s before b.length arrays)) (Ok arrays)
    (array_checks_go (columns_of s.columns) b body arrays (slot_checks s before b.length arrays) (slot_checks_go s before b.length arrays)).whole (given arrays)

-- ---- a dictionary batch

entries_go : (values : Column) (b : RawBatch) (body : List ℕ) → Go (entry_checks values b body)
unfolding entry_checks
entries_go values b body = array_checks_go (alone values) b body (entries_in values b body) (when (list_any is_no_text (visible_in (alone values) (entries_in values b body) b.length)) faults.NotUtf8 ∷ []) (on _ faults.NotUtf8 _ (λ e. cc) done)

dictionary_go : (before : List DictionaryBatch) (values : Column) (d : RawDictionaryBatch) (body : List ℕ) → Go (dictionary_checks before values d body)
unfolding dictionary_checks
dictionary_go before values d body = on _ faults.DeltaWithoutBase _ (λ e. cc) (entries_go values d.batch body)

read_with_whole : (c : Option DictionaryColumn) (before : List DictionaryBatch) (d : RawDictionaryBatch) (body : List ℕ) → IsWhole (read_with c before d body)
read_with_whole None before d body = λ h. cc
read_with_whole (Some c) before d body =
    unless_whole (first_some (dictionary_checks before c.values d body)) (Ok (batch_with d (first_array (entries_in c.values d.batch body))))
    (dictionary_go before c.values d body).whole (given (batch_with d (first_array (entries_in c.values d.batch body))))

dictionary_whole : (columns : List DictionaryColumn) (before : List DictionaryBatch) (d : RawDictionaryBatch) (body : List ℕ) → IsWhole (dictionary_read columns before d body)
unfolding dictionary_read
dictionary_whole columns before d body = read_with_whole (column_of_id d.id columns) before d body

-- ---- a schema

type_goes : (o : Option RawField) (os : List (Option Fault)) → Go os → Go (option_map (λ f. faults.TypeNotHeld (name_of_type f)) o ∷ os)
type_goes None os rest = record { whole = rest.whole }
type_goes (Some f) os rest = record { whole = λ h. cc }

schema_goes : (supported : ℕ → Bool) (s : RawSchema) → Go (schema_checks supported s)
unfolding schema_checks
schema_goes supported s =
    on _ faults.BigEndian _ (λ e. cc) (type_goes (find (is_unsupported supported) (every_field s)) _ (on _ faults.BadParameter _ (λ e. cc)
    (on _ faults.SchemaLimit _ (λ e. cc) (on _ faults.NotUtf8 _ (λ e. cc) (on _ faults.DictionaryId _ (λ e. cc)
    (on _ faults.DictionaryOfNested _ (λ e. cc) done))))))

-- ---- a message

decoded_whole : (walk : Result ℕ FlatError) (h : RawHeader) → IsWhole (decoded walk h)
decoded_whole (Ok n) h e = cc
decoded_whole (Err Bounds) h e = cc
decoded_whole (Err VtableSize) h e = cc
decoded_whole (Err Budget) h e = cc

header_whole : (supported : ℕ → Bool) (metadata : List ℕ) → IsWhole (header supported metadata)
unfolding header
header_whole supported metadata = decoded_whole (run metadata (header_things supported metadata) 1) (header_of supported metadata)

after_whole : (k : Known) (body : List ℕ) (h : RawHeader) → IsWhole (read_after k body h)
after_whole k body (schema_header s) = λ h. cc
after_whole k body (dictionary_header d) =
    bind_whole (dictionary_read k.columns k.dictionaries d body) (λ b. Ok (with_dictionary k b)) (dictionary_whole k.columns k.dictionaries d body) (λ b. given (with_dictionary k b))
after_whole k body (batch_header b) =
    bind_whole (batch_read k.schema (table_weight k.schema k.rows) b body (dictionaries_after k.dictionaries k.columns))
    (λ arrays. Ok (with_rows k (rows_in (columns_of k.schema.columns) arrays b.length)))
    (batch_whole k.schema (table_weight k.schema k.rows) b body (dictionaries_after k.dictionaries k.columns)) (λ arrays. given (with_rows k (rows_in (columns_of k.schema.columns) arrays b.length)))

read_header_whole : (supported : ℕ → Bool) (before : Option Known) (body : List ℕ) (h : RawHeader) → IsWhole (read_header supported before body h)
read_header_whole supported None body (schema_header s) = unless_whole (first_some (schema_checks supported s)) (Ok (known_first s)) (schema_goes supported s).whole (given (known_first s))
read_header_whole supported None body (dictionary_header d) = λ h. cc
read_header_whole supported None body (batch_header b) = λ h. cc
read_header_whole supported (Some k) body h = after_whole k body h

order_whole : (before : Option Known) (header_type : ℕ) → order_fault before header_type ≡ Some Truncated → ⊥
order_whole None header_type = by_test (not (header_type == SCHEMA))
  where
    by_test : (b : Bool) → when b faults.NoSchema ≡ Some Truncated → ⊥
    by_test true h = cc
    by_test false h = cc
order_whole (Some k) header_type = by_test (header_type == SCHEMA)
  where
    by_test : (b : Bool) → when b faults.SecondSchema ≡ Some Truncated → ⊥
    by_test true h = cc
    by_test false h = cc

pub next_whole : (supported : ℕ → Bool) (before : Option Known) (m : Envelope) → read_next supported before m ≡ Err Truncated → ⊥
unfolding read_next
next_whole supported before m =
    unless_whole (order_fault before (type_of m.metadata)) (header supported m.metadata >>= read_header supported before m.body) (order_whole before (type_of m.metadata))
    (bind_whole (header supported m.metadata) (read_header supported before m.body) (header_whole supported m.metadata) (read_header_whole supported before m.body))
