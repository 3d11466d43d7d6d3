-- The first message of a stream that means a table has its schema.
use Rattle.std.proofs.Common.{◌≡◌, ℕ, zero, suc, Bool, true, false, List, length, drop, Result, Ok, Err, refl, sym, ap, ◌∙◌, subst}
use Rattle.std.specs.Prelude.{Option, Some, None, if◌then◌else◌}
use Rattle.facts.specs.laws.Checks.{unless_passed}
use Rattle.arrow_schema.specs.Column.{PlainSchema, columns_of}
use Rattle.cells.specs.Cell.{PlainTable}
use Rattle.columns.specs.CellAt.{rows_in}
use Rattle.arrays.specs.Dictionaries.{dictionary_read}
use Rattle.ipc_message.specs.declared.fault.Fault.{Fault}
use Rattle.ipc_message.specs.declared.fault.Fault.TheVariants.{AfterEnd}
use Rattle.ipc_message.specs.Checks.{schema_checks, checked_schema}
use Rattle.ipc_message.specs.Convert.{plain_schema_of}
use Rattle.ipc_message.specs.Framing.{Envelope, NextMessage, end_of_stream, message, next_message, taken, first_some, unless, type_of}
use Rattle.ipc_message.specs.Header.{header}
use Rattle.ipc_message.specs.Raw.{RawSchema, RawHeader, schema_header, dictionary_header, batch_header}
use Rattle.ipc_stream.specs.Meaning.{Known, known_first, known_table, with_dictionary, with_rows, order_fault, read_after, read_header, read_next, known_at_end, known_at_end_of_stream, by_next_message, read_from, meaning, ◌>>=◌, is_empty}
use Rattle.ipc_stream.specs.Progress.{known_batch}

-- the first message is framed, its header is a schema, and the schema passes the checks
pub record BeginsWith (supported : ℕ → Bool) (bytes : List ℕ) (s : PlainSchema) : Type 0 where
  pub first : Envelope
  pub schema : RawSchema
  pub found : next_message bytes ≡ Ok (message first)
  pub decoded : header supported first.metadata ≡ Ok (schema_header schema)
  pub checked : checked_schema supported schema ≡ Ok s

-- ---- results

pub bound : {A B : Type 0} (r : Result A Fault) (f : A → Result B Fault) (y : B) → (r >>= f) ≡ Ok y → (x : A) × (r ≡ Ok x) × (f x ≡ Ok y)
bound (Ok x) f y h = (x, refl, h)
bound (Err e) f y h = absurd cc

abbrev right : {A : Type 0} → A → Result A Fault
right x = Ok x

given : {A : Type 0} (x y : A) → right x ≡ Ok y → x ≡ y
given x y h = cc

pub refused : {A : Type 0} (e : Fault) (y : A) → Err e ≡ Ok y → ⊥
refused e y h = cc

in_either : {A : Type 0} {P : Type 0} (b : Bool) (x y r : Result A Fault) → (x ≡ r → P) → (y ≡ r → P) → (if b then x else y) ≡ r → P
in_either true x y r f g e = f e
in_either false x y r f g e = g e

-- ---- the schema stays

after_same : (k : Known) (body : List ℕ) (h : RawHeader) (next : Known) → read_after k body h ≡ Ok next → next.schema ≡ k.schema
after_same k body (schema_header s) next e = absurd cc
after_same k body (dictionary_header d) next e =
    let found = bound (dictionary_read k.columns k.dictionaries d body) (λ b. Ok (with_dictionary k b)) next e in
    ap (λ (x : Known). x.schema) (sym (given (with_dictionary k found.0) next found.2))
after_same k body (batch_header b) next e =
    let found = bound (known_batch k b body) (λ arrays. Ok (with_rows k (rows_in (columns_of k.schema.columns) arrays b.length))) next e in
    ap (λ (x : Known). x.schema) (sym (given (with_rows k (rows_in (columns_of k.schema.columns) found.0 b.length)) next found.2))

next_same : (supported : ℕ → Bool) (k : Known) (m : Envelope) (next : Known) → read_next supported (Some k) m ≡ Ok next → next.schema ≡ k.schema
unfolding read_next
next_same supported k m next e =
    let passed = unless_passed (order_fault (Some k) (type_of m.metadata)) (header supported m.metadata >>= read_header supported (Some k) m.body) next e in
    let found = bound (header supported m.metadata) (read_header supported (Some k) m.body) next passed.1 in
    after_same k m.body found.0 next found.2

end_same : (k : Known) (rest : List ℕ) (next : Known) → known_at_end_of_stream (Some k) rest ≡ Ok next → next.schema ≡ k.schema
end_same k rest next e =
    in_either (is_empty rest) (Ok k) (Err AfterEnd) (Ok next) (λ h. ap (λ (x : Known). x.schema) (sym (given k next h))) (λ h. absurd (refused AfterEnd next h)) e

abbrev pub after_next : (ℕ → Bool) → (steps : ℕ) → Option Known → List ℕ → NextMessage → Result Known Fault
after_next supported steps before bytes f =
    by_next_message f (known_at_end_of_stream before (drop 8 bytes)) (λ m. read_next supported before m >>= λ k. read_from supported steps (Some k) (drop (taken f) bytes))

step_same : (supported : ℕ → Bool) (steps : ℕ) (k : Known) (bytes : List ℕ) (f : NextMessage) (next : Known)
    → ((l : Known) → read_from supported steps (Some l) (drop (taken f) bytes) ≡ Ok next → next.schema ≡ l.schema)
    → after_next supported steps (Some k) bytes f ≡ Ok next → next.schema ≡ k.schema
step_same supported steps k bytes end_of_stream next on e = end_same k (drop 8 bytes) next e
step_same supported steps k bytes (message m) next on e =
    let found = bound (read_next supported (Some k) m) (λ l. read_from supported steps (Some l) (drop (taken (message m)) bytes)) next e in
    on found.0 found.2 ∙ next_same supported k m found.0 found.1

stream_same : (supported : ℕ → Bool) (steps : ℕ) (k : Known) (bytes : List ℕ) (next : Known) → read_from supported steps (Some k) bytes ≡ Ok next → next.schema ≡ k.schema
unfolding read_from
stream_same supported zero k bytes next e = absurd cc
stream_same supported (suc steps) k bytes next e =
    in_either (is_empty bytes) (Ok k) (next_message bytes >>= after_next supported steps (Some k) bytes) (Ok next) (λ h. ap (λ (x : Known). x.schema) (sym (given k next h)))
    (λ h.
    let found = bound (next_message bytes) (after_next supported steps (Some k) bytes) next h in
    step_same supported steps k bytes found.0 next (λ l goes. stream_same supported steps l (drop (taken found.0) bytes) next goes) found.2) e

-- ---- the first message

header_begins : (supported : ℕ → Bool) (bytes : List ℕ) (m : Envelope) (h : RawHeader) (next : Known) → next_message bytes ≡ Ok (message m) → header supported m.metadata ≡ Ok h
    → read_header supported None m.body h ≡ Ok next → BeginsWith supported bytes next.schema
unfolding checked_schema
header_begins supported bytes m (schema_header s) next found decoded e =
    let passed = unless_passed (first_some (schema_checks supported s)) (Ok (known_first s)) next e in
    record {
      first = m;
      schema = s;
      found = found;
      decoded = decoded;
      checked = ap (λ (o : Option Fault). unless o (Ok (plain_schema_of s))) passed.0 ∙ ap (λ (k : Known). Ok k.schema) (given (known_first s) next passed.1);
    }
header_begins supported bytes m (dictionary_header d) next found decoded e = absurd cc
header_begins supported bytes m (batch_header b) next found decoded e = absurd cc

next_begins : (supported : ℕ → Bool) (bytes : List ℕ) (m : Envelope) (next : Known) → next_message bytes ≡ Ok (message m) → read_next supported None m ≡ Ok next
    → BeginsWith supported bytes next.schema
unfolding read_next
next_begins supported bytes m next found e =
    let passed = unless_passed (order_fault None (type_of m.metadata)) (header supported m.metadata >>= read_header supported None m.body) next e in
    let decoded = bound (header supported m.metadata) (read_header supported None m.body) next passed.1 in
    header_begins supported bytes m decoded.0 next found decoded.1 decoded.2

step_begins : (supported : ℕ → Bool) (steps : ℕ) (bytes : List ℕ) (f : NextMessage) (next : Known) → next_message bytes ≡ Ok f → after_next supported steps None bytes f ≡ Ok next
    → BeginsWith supported bytes next.schema
step_begins supported steps bytes end_of_stream next there e = absurd cc
step_begins supported steps bytes (message m) next there e =
    let found = bound (read_next supported None m) (λ k. read_from supported steps (Some k) (drop (taken (message m)) bytes)) next e in
    subst (BeginsWith supported bytes) (sym (stream_same supported steps found.0 (drop (taken (message m)) bytes) next found.2)) (next_begins supported bytes m found.0 there found.1)

stream_begins : (supported : ℕ → Bool) (steps : ℕ) (bytes : List ℕ) (next : Known) → read_from supported (suc steps) None bytes ≡ Ok next → BeginsWith supported bytes next.schema
unfolding read_from
stream_begins supported steps bytes next e =
    in_either (is_empty bytes) (known_at_end None) (next_message bytes >>= after_next supported steps None bytes) (Ok next) (λ h. absurd cc)
    (λ h. let found = bound (next_message bytes) (after_next supported steps None bytes) next h in step_begins supported steps bytes found.0 next found.1 found.2) e

pub means_begins : (supported : ℕ → Bool) (bytes : List ℕ) (t : PlainTable) → meaning supported bytes ≡ Ok t → BeginsWith supported bytes t.schema
unfolding meaning
means_begins supported bytes t e =
    let found = bound (read_from supported (suc (length bytes)) None bytes) (λ k. Ok (known_table k)) t e in
    subst (BeginsWith supported bytes) (ap (λ (x : PlainTable). x.schema) (given (known_table found.0) t found.2)) (stream_begins supported (length bytes) bytes found.0 found.1)
