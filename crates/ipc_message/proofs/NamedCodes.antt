-- The walk over a header, what it decodes to and the checks of a schema, where the codes that the fields have are supported alike.
use Rattle.std.proofs.Common.{◌≡◌, ℕ, zero, suc, ◌-◌, ◌==◌, Bool, true, false, not, ◌&&◌, ◌||◌, List, [], ◌∷◌, ◌++◌, map, refl, sym, ap, subst, ◌∙◌}
use Rattle.std.specs.Prelude.{◌≢◌, Option, Some, None, unwrap_or, find, if◌then◌else◌}
use Rattle.std.specs.List.{flat_map, AllByRecursion}
use Rattle.std.proofs.lemmas.Bool.{eqb-true, ne_eqb, true≢false}
use Rattle.std.proofs.lemmas.List.{map-append}
use Rattle.flatbuf.specs.declared.limits.TheConstants.{MAX_LEVELS}
use Rattle.flatbuf.specs.Lookup.{Place, table_at, slot, elements, scalar_of, table_behind}
use Rattle.ipc_message.specs.declared.header_type.HeaderType.{HeaderType}
use Rattle.ipc_message.specs.declared.header_type.HeaderType.TheVariants.{Schema, DictionaryBatch, RecordBatch}
use Rattle.ipc_message.specs.declared.header_type.TheConstants.{SCHEMA, DICTIONARY_BATCH, RECORD_BATCH}
use Rattle.ipc_message.specs.declared.type_codes.TheConstants.{DATE, TIMESTAMP}
use Rattle.ipc_message.specs.Checks.{is_unsupported, schema_checks}
use Rattle.ipc_message.specs.Codes.{codes_of, codes_in, may_stand, SupportAlike}
use Rattle.ipc_message.specs.Fields.{preorder, preorder_all, every_field, code_of}
use Rattle.ipc_message.specs.Framing.{type_of}
use Rattle.ipc_message.specs.Header.{type_things, field_table_things, field_things, schema_things, things_by_type, header_things, parameters_in, field_with, field_at, schema_in, slot_in, header_by_type, header_of, header_slot, type_in, header}
use Rattle.ipc_message.specs.Raw.{RawField, RawSchema, raw_fields_of, schema_header}

abbrev Alike : (supported other : ℕ → Bool) → ℕ → Type 0
Alike supported other code = may_stand supported code ≡ may_stand other code

all_parts : {X : Type 0} (P : X → Type 0) (xs ys : List X) → AllByRecursion P (xs ++ ys) → AllByRecursion P xs × AllByRecursion P ys
all_parts P [] ys h = (tt, h)
all_parts P (x ∷ xs) ys h = let parts = all_parts P xs ys h.1 in ((h.0, parts.0), parts.1)

-- ---- the codes

-- the codes of a field and of all below it
abbrev field_codes : RawField → List ℕ
field_codes f = map code_of (preorder f)

abbrev list_codes : List RawField → List ℕ
list_codes fs = map code_of (preorder_all (raw_fields_of fs))

more_codes : (f : RawField) (fs : List RawField) → list_codes (f ∷ fs) ≡ field_codes f ++ list_codes fs
unfolding preorder
more_codes f fs = map-append code_of (preorder f) (preorder_all (raw_fields_of fs))

codes_with : (supported : ℕ → Bool) (bytes : List ℕ) (t : Place) (children : List RawField)
    → field_codes (field_with supported bytes t children) ≡ scalar_of 1 0 bytes (slot bytes t 2) ∷ list_codes children
unfolding preorder field_with
codes_with supported bytes t children = refl

-- ---- they are the same whatever is supported

codes_of_fields : (supported other : ℕ → Bool) (left : ℕ) (bytes places : List ℕ)
    → ((at : ℕ) → field_codes (field_at supported left bytes at) ≡ field_codes (field_at other left bytes at))
    → list_codes (map (field_at supported left bytes) places) ≡ list_codes (map (field_at other left bytes) places)
codes_of_fields supported other left bytes [] each = refl
codes_of_fields supported other left bytes (at ∷ places) each =
    rw (
      more_codes (field_at supported left bytes at) (map (field_at supported left bytes) places),
      more_codes (field_at other left bytes at) (map (field_at other left bytes) places),
      each at,
      codes_of_fields supported other left bytes places each,
    ) refl

codes_of_field : (supported other : ℕ → Bool) (left : ℕ) (bytes : List ℕ) (at : ℕ) → field_codes (field_at supported left bytes at) ≡ field_codes (field_at other left bytes at)
unfolding field_at
codes_of_field supported other zero bytes at = refl
codes_of_field supported other (suc left) bytes at =
    let t = table_at bytes at in
    let places = elements bytes (slot bytes t 5) in
    codes_with supported bytes t (map (field_at supported left bytes) places)
    ∙ ap (λ (codes : List ℕ). scalar_of 1 0 bytes (slot bytes t 2) ∷ codes) (codes_of_fields supported other left bytes places (codes_of_field supported other left bytes))
    ∙ sym (codes_with other bytes t (map (field_at other left bytes) places))

codes_by_type : (supported other : ℕ → Bool) (left : ℕ) (bytes : List ℕ) (t : Option Place) (ty : HeaderType)
    → codes_of (header_by_type supported left bytes t ty) ≡ codes_of (header_by_type other left bytes t ty)
unfolding schema_in
codes_by_type supported other left bytes t Schema = codes_of_fields supported other left bytes (elements bytes (slot_in bytes t 1)) (codes_of_field supported other left bytes)
codes_by_type supported other left bytes t DictionaryBatch = refl
codes_by_type supported other left bytes t RecordBatch = refl

pub codes_whatever_supported : (supported : ℕ → Bool) (metadata : List ℕ) → codes_of (header_of supported metadata) ≡ codes_in metadata
unfolding header_of codes_in
codes_whatever_supported supported metadata =
    codes_by_type supported (λ code. false) (MAX_LEVELS - 2) metadata (table_behind metadata (header_slot metadata)) (type_in metadata)

-- ---- a type's table is read, or is not

where_supported : (supported other : ℕ → Bool) (code k : ℕ) (b : Bool) → (code == k) ≡ b → Alike supported other code → may_stand supported k ≡ supported k → may_stand other k ≡ other k
    → (b && supported k) ≡ (b && other k)
where_supported supported other code k true is alike own others = sym own ∙ subst (Alike supported other) (eqb-true code k is) alike ∙ others
where_supported supported other code k false is alike own others = refl

dates_alike : (supported other : ℕ → Bool) (code : ℕ) → Alike supported other code → (code == DATE && supported DATE) ≡ (code == DATE && other DATE)
dates_alike supported other code alike = where_supported supported other code DATE (code == DATE) refl alike refl refl

timestamps_alike : (supported other : ℕ → Bool) (code : ℕ) → Alike supported other code → (code == TIMESTAMP && supported TIMESTAMP) ≡ (code == TIMESTAMP && other TIMESTAMP)
timestamps_alike supported other code alike = where_supported supported other code TIMESTAMP (code == TIMESTAMP) refl alike refl refl

type_alike : (supported other : ℕ → Bool) (left : ℕ) (bytes : List ℕ) (code : ℕ) (v : Option ℕ) → Alike supported other code
    → type_things supported left bytes code v ≡ type_things other left bytes code v
unfolding type_things
type_alike supported other left bytes code v alike = rw (dates_alike supported other code alike, timestamps_alike supported other code alike) refl

parameters_alike : (supported other : ℕ → Bool) (bytes : List ℕ) (code : ℕ) (t : Option Place) → Alike supported other code
    → parameters_in supported bytes code t ≡ parameters_in other bytes code t
unfolding parameters_in
parameters_alike supported other bytes code t alike = rw (dates_alike supported other code alike, timestamps_alike supported other code alike) refl

-- ---- a field, and all below it

table_alike : (supported other : ℕ → Bool) (left : ℕ) (bytes : List ℕ) (t : Place) → Alike supported other (scalar_of 1 0 bytes (slot bytes t 2))
    → field_table_things supported left bytes t ≡ field_table_things other left bytes t
unfolding field_table_things
table_alike supported other left bytes t alike = rw (type_alike supported other left bytes (scalar_of 1 0 bytes (slot bytes t 2)) (slot bytes t 3) alike) refl

with_alike : (supported other : ℕ → Bool) (bytes : List ℕ) (t : Place) (children : List RawField) → Alike supported other (scalar_of 1 0 bytes (slot bytes t 2))
    → field_with supported bytes t children ≡ field_with other bytes t children
unfolding field_with
with_alike supported other bytes t children alike =
    rw (parameters_alike supported other bytes (scalar_of 1 0 bytes (slot bytes t 2)) (table_behind bytes (slot bytes t 3)) alike) refl

-- a field is met and decoded alike
record FieldAlike (supported other : ℕ → Bool) (left : ℕ) (bytes : List ℕ) (at : ℕ) : Type 0 where
  things : field_things supported left bytes at ≡ field_things other left bytes at
  field : field_at supported left bytes at ≡ field_at other left bytes at

-- and so are some
record FieldsAlike (supported other : ℕ → Bool) (left : ℕ) (bytes places : List ℕ) : Type 0 where
  things : flat_map (field_things supported left bytes) places ≡ flat_map (field_things other left bytes) places
  fields : map (field_at supported left bytes) places ≡ map (field_at other left bytes) places

fields_alike : (supported other : ℕ → Bool) (left : ℕ) (bytes places : List ℕ)
    → ((at : ℕ) → SupportAlike supported other (field_codes (field_at other left bytes at)) → FieldAlike supported other left bytes at)
    → SupportAlike supported other (list_codes (map (field_at other left bytes) places)) → FieldsAlike supported other left bytes places
fields_alike supported other left bytes [] each alike = record { things = refl; fields = refl }
fields_alike supported other left bytes (at ∷ places) each alike =
    let parts = all_parts (Alike supported other) (field_codes (field_at other left bytes at)) (list_codes (map (field_at other left bytes) places))
    (subst (SupportAlike supported other) (more_codes (field_at other left bytes at) (map (field_at other left bytes) places)) alike) in
    let first = each at parts.0 in
    let others = fields_alike supported other left bytes places each parts.1 in
    record { things = rw (first.things, others.things) refl; fields = rw (first.field, others.fields) refl }

field_alike : (supported other : ℕ → Bool) (left : ℕ) (bytes : List ℕ) (at : ℕ) → SupportAlike supported other (field_codes (field_at other left bytes at))
    → FieldAlike supported other left bytes at
unfolding field_at field_things
field_alike supported other zero bytes at alike = record { things = refl; field = refl }
field_alike supported other (suc left) bytes at alike =
    let t = table_at bytes at in
    let places = elements bytes (slot bytes t 5) in
    let own = subst (SupportAlike supported other) (codes_with other bytes t (map (field_at other left bytes) places)) alike in
    let below = fields_alike supported other left bytes places (field_alike supported other left bytes) own.1 in
    record {
      things = rw (table_alike supported other left bytes t own.0, below.things) refl;
      field = rw below.fields (with_alike supported other bytes t (map (field_at other left bytes) places) own.0);
    }

-- ---- the header

record TypeAlike (supported other : ℕ → Bool) (left : ℕ) (bytes : List ℕ) (t : Option Place) (ty : HeaderType) : Type 0 where
  things : things_by_type supported left bytes t ty ≡ things_by_type other left bytes t ty
  header : header_by_type supported left bytes t ty ≡ header_by_type other left bytes t ty

by_type_alike : (supported other : ℕ → Bool) (left : ℕ) (bytes : List ℕ) (t : Option Place) (ty : HeaderType)
    → SupportAlike supported other (codes_of (header_by_type other left bytes t ty)) → TypeAlike supported other left bytes t ty
unfolding schema_things schema_in
by_type_alike supported other left bytes t Schema alike =
    let fields = fields_alike supported other left bytes (elements bytes (slot_in bytes t 1)) (field_alike supported other left bytes) alike in
    record { things = rw fields.things refl; header = rw fields.fields refl }
by_type_alike supported other left bytes t DictionaryBatch alike = record { things = refl; header = refl }
by_type_alike supported other left bytes t RecordBatch alike = record { things = refl; header = refl }

pub header_alike : (supported other : ℕ → Bool) (metadata : List ℕ) → SupportAlike supported other (codes_in metadata) → header supported metadata ≡ header other metadata
unfolding header header_things header_of
header_alike supported other metadata alike =
    let same = by_type_alike supported other (MAX_LEVELS - 2) metadata (table_behind metadata (header_slot metadata)) (type_in metadata)
    (subst (SupportAlike supported other) (sym (codes_whatever_supported other metadata)) alike) in
    rw (same.things, same.header) refl

-- ---- only a schema names codes

no_schema : (left : ℕ) (bytes : List ℕ) (t : Option Place) (schema dictionary batch : Bool) → schema ≡ false
    → codes_of (header_by_type (λ code. false) left bytes t
    (unwrap_or (if schema then Some Schema else if dictionary then Some DictionaryBatch else if batch then Some RecordBatch else None) RecordBatch)) ≡ []
no_schema left bytes t true dictionary batch other = absurd (true≢false other)
no_schema left bytes t false true batch other = refl
no_schema left bytes t false false true other = refl
no_schema left bytes t false false false other = refl

pub schemas_alone_name : (metadata : List ℕ) → type_of metadata ≢ SCHEMA → codes_in metadata ≡ []
unfolding codes_in header_of
schemas_alone_name metadata other =
    let n = type_of metadata in
    no_schema (MAX_LEVELS - 2) metadata (table_behind metadata (header_slot metadata)) (n == SCHEMA) (n == DICTIONARY_BATCH) (n == RECORD_BATCH) (ne_eqb n SCHEMA other)

-- ---- the checks of a schema

unsupported_alike : (none own others : Bool) → (none || own) ≡ (none || others) → (not none && not own) ≡ (not none && not others)
unsupported_alike true own others alike = refl
unsupported_alike false own others alike = ap not alike

find_alike : (supported other : ℕ → Bool) (fs : List RawField) → SupportAlike supported other (map code_of fs) → find (is_unsupported supported) fs ≡ find (is_unsupported other) fs
find_alike supported other [] alike = refl
find_alike supported other (f ∷ fs) alike = rw (unsupported_alike (code_of f == 0) (supported (code_of f)) (other (code_of f)) alike.0, find_alike supported other fs alike.1) refl

pub checks_alike : (supported other : ℕ → Bool) (s : RawSchema) → SupportAlike supported other (codes_of (schema_header s)) → schema_checks supported s ≡ schema_checks other s
unfolding schema_checks
checks_alike supported other s alike = rw (find_alike supported other (every_field s) alike) refl
