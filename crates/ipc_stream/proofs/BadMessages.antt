-- A message that is refused, in the words of the format.
use Rattle.std.specs.Prelude.{◌⊎◌, ◌≢◌, Option, Some, None, not, ◌==◌}
use Rattle.std.proofs.Common.{◌≡◌, ℕ, Bool, true, false, Result, Ok, Err, inl, inr, refl, ap}
use Rattle.std.proofs.lemmas.Bool.{eqb-true, eqb-false, eq-eqb, ne_eqb}
use Rattle.arrow_schema.specs.Column.{columns_of}
use Rattle.columns.specs.Array.{Arrays}
use Rattle.columns.specs.CellAt.{rows_in}
use Rattle.arrays.specs.Dictionaries.{dictionary_read}
use Rattle.ipc_message.specs.declared.fault.Fault.{Fault}
use Rattle.ipc_message.specs.declared.fault.Fault.TheVariants.{NoSchema, SecondSchema}
use Rattle.ipc_message.specs.Checks.{schema_checks, checked_schema}
use Rattle.ipc_message.specs.Convert.{plain_schema_of}
use Rattle.ipc_message.specs.Framing.{Envelope, first_some, unless, when, type_of}
use Rattle.ipc_message.specs.Header.{header}
use Rattle.ipc_message.specs.Raw.{RawHeader, schema_header, dictionary_header, batch_header}
use Rattle.ipc_stream.specs.FramedFault.{IsInOrder, IsBad, no_schema, second_schema, bad_header, bad_schema, bad_dictionary, bad_batch}
use Rattle.ipc_stream.specs.Meaning.{Known, known_first, with_dictionary, with_rows, read_header, read_next, ◌>>=◌}
use Rattle.ipc_stream.specs.Progress.{known_batch}
use Rattle.ipc_stream.proofs.Firsts.{reported_err}
use Rattle.ipc_stream.proofs.Messages.{schema_number, batch_number}

-- ---- results

pub refused : {A B : Type 0} (r : Result A Fault) (f : A → Result B Fault) (e : Fault) → (r >>= f) ≡ Err e → (r ≡ Err e) ⊎ ((x : A) × (r ≡ Ok x) × (f x ≡ Err e))
refused (Ok x) f e h = inr (x, refl, h)
refused (Err d) f e h = let same : d ≡ e = cc h in inl (ap Err same)

pub refused_before : {A B : Type 0} (r : Result A Fault) (f : A → B) (e : Fault) → (r >>= λ x. Ok (f x)) ≡ Err e → r ≡ Err e
refused_before (Ok x) f e h = absurd cc
refused_before (Err d) f e h = cc

pub some_known : {A : Type 0} (k : A) → Some k ≢ None
some_known k none = cc

-- ---- what is refused is bad

decoded_bad : (supported : ℕ → Bool) (before : Option Known) (m : Envelope) (h : RawHeader) (fault : Fault) → header supported m.metadata ≡ Ok h → read_header supported before m.body h ≡ Err fault
    → IsBad supported before m fault
unfolding checked_schema
decoded_bad supported None m (schema_header s) fault decoded e =
    let found : first_some (schema_checks supported s) ≡ Some fault = reported_err (first_some (schema_checks supported s)) (known_first s) fault e in
    bad_schema s refl decoded (ap (λ (o : Option Fault). unless o (Ok (plain_schema_of s))) found)
decoded_bad supported None m (dictionary_header d) fault decoded e =
    no_schema refl (eqb-false (type_of m.metadata) 1 (batch_number supported m.metadata (dictionary_header d) decoded (λ h. cc h))) (cc e)
decoded_bad supported None m (batch_header b) fault decoded e =
    no_schema refl (eqb-false (type_of m.metadata) 1 (batch_number supported m.metadata (batch_header b) decoded (λ h. cc h))) (cc e)
decoded_bad supported (Some k) m (schema_header s) fault decoded e =
    second_schema (some_known k) (eqb-true (type_of m.metadata) 1 (schema_number supported m.metadata s decoded)) (cc e)
decoded_bad supported (Some k) m (dictionary_header d) fault decoded e =
    bad_dictionary k d refl decoded (refused_before (dictionary_read k.columns k.dictionaries d m.body) (with_dictionary k) fault e)
decoded_bad supported (Some k) m (batch_header b) fault decoded e =
    let known = λ (arrays : Arrays). with_rows k (rows_in (columns_of k.schema.columns) arrays b.length) in
    bad_batch k b refl decoded (refused_before (known_batch k b m.body) known fault e)

header_bad : (supported : ℕ → Bool) (before : Option Known) (m : Envelope) (fault : Fault) → IsInOrder before m
    → (header supported m.metadata >>= read_header supported before m.body) ≡ Err fault → IsBad supported before m fault
header_bad supported before m fault order e =
    elim (refused (header supported m.metadata) (read_header supported before m.body) fault e) [
      | inl bad ↦ bad_header order bad
      | inr found ↦ decoded_bad supported before m found.0 fault found.1 found.2
    ]

first_bad : (supported : ℕ → Bool) (m : Envelope) (fault : Fault) (one : Bool) → (type_of m.metadata == 1) ≡ one
    → unless (when (not one) NoSchema) (header supported m.metadata >>= read_header supported None m.body) ≡ Err fault → IsBad supported None m fault
first_bad supported m fault true is e = header_bad supported None m fault (eqb-true (type_of m.metadata) 1 is) e
first_bad supported m fault false is e = no_schema refl (eqb-false (type_of m.metadata) 1 is) (cc e)

later_bad : (supported : ℕ → Bool) (k : Known) (m : Envelope) (fault : Fault) (one : Bool) → (type_of m.metadata == 1) ≡ one
    → unless (when one SecondSchema) (header supported m.metadata >>= read_header supported (Some k) m.body) ≡ Err fault → IsBad supported (Some k) m fault
later_bad supported k m fault true is e = second_schema (some_known k) (eqb-true (type_of m.metadata) 1 is) (cc e)
later_bad supported k m fault false is e = header_bad supported (Some k) m fault (eqb-false (type_of m.metadata) 1 is) e

pub refused_is_bad : (supported : ℕ → Bool) (before : Option Known) (m : Envelope) (fault : Fault) → read_next supported before m ≡ Err fault → IsBad supported before m fault
unfolding read_next
refused_is_bad supported None m fault e = first_bad supported m fault (type_of m.metadata == 1) refl e
refused_is_bad supported (Some k) m fault e = later_bad supported k m fault (type_of m.metadata == 1) refl e

-- ---- the other way

pub bad_is_refused : (supported : ℕ → Bool) (before : Option Known) (m : Envelope) (fault : Fault) → IsBad supported before m fault → read_next supported before m ≡ Err fault
unfolding read_next checked_schema
bad_is_refused supported before m fault (no_schema none other is) = let number = ne_eqb (type_of m.metadata) 1 other in rw (none, number, is) refl
bad_is_refused supported None m fault (second_schema some one is) = absurd (some refl)
bad_is_refused supported (Some k) m fault (second_schema some one is) = let number = eq-eqb (type_of m.metadata) 1 one in rw (number, is) refl
bad_is_refused supported None m fault (bad_header order bad) = let number = eq-eqb (type_of m.metadata) 1 order in rw (number, bad) refl
bad_is_refused supported (Some k) m fault (bad_header order bad) = let number = ne_eqb (type_of m.metadata) 1 order in rw (number, bad) refl
bad_is_refused supported before m fault (bad_schema s none decoded bad) =
    let number = schema_number supported m.metadata s decoded in
    let found = reported_err (first_some (schema_checks supported s)) (plain_schema_of s) fault bad in
    rw (none, number, decoded, found) refl
bad_is_refused supported before m fault (bad_dictionary k d some decoded bad) =
    let number = batch_number supported m.metadata (dictionary_header d) decoded (λ h. cc h) in
    rw (some, number, decoded, bad) refl
bad_is_refused supported before m fault (bad_batch k b some decoded bad) =
    let number = batch_number supported m.metadata (batch_header b) decoded (λ h. cc h) in
    rw (some, number, decoded, bad) refl
