-- What a stream means depends on the supported codes that its first message names, and on no other.
use Rattle.std.proofs.Common.{◌≡◌, ℕ, zero, suc, ◌==◌, Bool, true, false, List, [], length, drop, Result, Ok, Err, refl, sym, ap, subst, ◌∙◌, ◌∷◌, inl, inr}
use Rattle.std.specs.Prelude.{◌≢◌, Some, None, if◌then◌else◌, not, ◌||◌, IsErr}
use Rattle.std.specs.List.{AllByRecursion, list_any}
use Rattle.std.proofs.lemmas.Bool.{eqb-false, eqb-true, or_cases, true≢false}
use Rattle.flatbuf.specs.declared.FlatError.{FlatError}
use Rattle.flatbuf.specs.Walk.{run}
use Rattle.arrow_schema.specs.Column.{PlainSchema}
use Rattle.cells.specs.Cell.{PlainTable}
use Rattle.ipc_message.specs.declared.fault.Fault.{Fault}
use Rattle.ipc_message.specs.declared.fault.Fault.TheVariants.{SecondSchema}
use Rattle.ipc_message.specs.declared.header_type.TheConstants.{SCHEMA}
use Rattle.ipc_message.specs.declared.type_codes.TheConstants.{NULL, INT, BINARY, UTF8, BOOL, DATE, TIMESTAMP, LIST, STRUCT, FIXED_SIZE_BINARY, FIXED_SIZE_LIST, LARGE_BINARY, LARGE_UTF8, LARGE_LIST}
use Rattle.ipc_message.specs.Checks.{schema_checks, checked_schema}
use Rattle.ipc_message.specs.Codes.{codes_of, codes_in, codes_of_next, codes_named, SupportAlike, earlier_codes, is_later_code, may_stand, names_no_later_code}
use Rattle.ipc_message.specs.Framing.{Envelope, NextMessage, end_of_stream, message, next_message, taken, first_some, unless, when, type_of}
use Rattle.ipc_message.specs.Header.{supported_codes, header, header_of, header_things, decoded}
use Rattle.ipc_message.specs.Raw.{RawSchema, RawHeader, schema_header, dictionary_header, batch_header}
use Rattle.ipc_stream.specs.Meaning.{is_empty, Known, known_first, known_table, known_at_end, order_fault, read_after, read_header, read_next, read_from, meaning, ◌>>=◌}
use Rattle.ipc_stream.specs.laws.First.{after_next, means_begins}

-- the laws of `ipc_message`
pub record NamedCodes : Type 0 where
  pub named : (supported : ℕ → Bool) (metadata : List ℕ) → codes_of (header_of supported metadata) ≡ codes_in metadata
  pub schemas : (metadata : List ℕ) → type_of metadata ≢ SCHEMA → codes_in metadata ≡ []
  pub header : (supported other : ℕ → Bool) (metadata : List ℕ) → SupportAlike supported other (codes_in metadata) → header supported metadata ≡ header other metadata
  pub checks : (supported other : ℕ → Bool) (s : RawSchema) → SupportAlike supported other (codes_of (schema_header s)) → schema_checks supported s ≡ schema_checks other s

pub record StaySupported : Type 0 where
  pub older : (bytes : List ℕ) → names_no_later_code bytes ≡ true → SupportAlike supported_codes earlier_codes (codes_named bytes)
  pub checked : (fewer more : ℕ → Bool) (raw : RawSchema) (s : PlainSchema) → ((code : ℕ) → fewer code ≡ true → more code ≡ true)
      → checked_schema fewer raw ≡ Ok s → SupportAlike more fewer (codes_of (schema_header raw))

-- ---- results

bound_alike : {A B : Type 0} (r q : Result A Fault) (f g : A → Result B Fault) → r ≡ q → ((x : A) → q ≡ Ok x → f x ≡ g x) → (r >>= f) ≡ (q >>= g)
bound_alike r (Ok x) f g same each = ap (λ o. o >>= f) same ∙ each x refl
bound_alike r (Err e) f g same each = ap (λ o. o >>= f) same

decoded_is : (r : Result ℕ FlatError) (h x : RawHeader) → decoded r h ≡ Ok x → h ≡ x
decoded_is (Ok n) h x e = cc
decoded_is (Err f) h x e = absurd cc

header_is : (supported : ℕ → Bool) (metadata : List ℕ) (h : RawHeader) → header supported metadata ≡ Ok h → header_of supported metadata ≡ h
unfolding header
header_is supported metadata h e = decoded_is (run metadata (header_things supported metadata) 1) (header_of supported metadata) h e

-- ---- the first message

schema_alike : NamedCodes → (supported other : ℕ → Bool) (m : Envelope) → SupportAlike supported other (codes_in m.metadata) → (h : RawHeader) → header_of other m.metadata ≡ h
    → read_header supported None m.body h ≡ read_header other None m.body h
schema_alike law supported other m alike (schema_header s) is =
    let codes : codes_in m.metadata ≡ codes_of (schema_header s) = sym (law.named other m.metadata) ∙ ap codes_of is in
    ap (λ checks. unless (first_some checks) (Ok (known_first s))) (law.checks supported other s (subst (SupportAlike supported other) codes alike))
schema_alike law supported other m alike (dictionary_header d) is = refl
schema_alike law supported other m alike (batch_header b) is = refl

first_alike : NamedCodes → (supported other : ℕ → Bool) (m : Envelope) → SupportAlike supported other (codes_in m.metadata) → read_next supported None m ≡ read_next other None m
unfolding read_next
first_alike law supported other m alike =
    ap (unless (order_fault None (type_of m.metadata)))
    (bound_alike (header supported m.metadata) (header other m.metadata) (read_header supported None m.body) (read_header other None m.body)
    (law.header supported other m.metadata alike)
    (λ h e. schema_alike law supported other m alike h (header_is other m.metadata h e)))

-- ---- the messages after it

in_order : (is_schema : Bool) (r q : Result Known Fault) → (is_schema ≡ false → r ≡ q) → unless (when is_schema SecondSchema) r ≡ unless (when is_schema SecondSchema) q
in_order true r q same = refl
in_order false r q same = same refl

next_alike : NamedCodes → (supported other : ℕ → Bool) (k : Known) (m : Envelope) → read_next supported (Some k) m ≡ read_next other (Some k) m
unfolding read_next
next_alike law supported other k m =
    in_order (type_of m.metadata == SCHEMA) (header supported m.metadata >>= read_after k m.body) (header other m.metadata >>= read_after k m.body) (λ no_schema.
    let none = law.schemas m.metadata (eqb-false (type_of m.metadata) SCHEMA no_schema) in
    ap (λ r. r >>= read_after k m.body) (law.header supported other m.metadata (subst (SupportAlike supported other) (sym none) tt)))

step_alike : NamedCodes → (supported other : ℕ → Bool) (steps : ℕ) (k : Known) (bytes : List ℕ) (f : NextMessage)
    → ((l : Known) → read_from supported steps (Some l) (drop (taken f) bytes) ≡ read_from other steps (Some l) (drop (taken f) bytes))
    → after_next supported steps (Some k) bytes f ≡ after_next other steps (Some k) bytes f
step_alike law supported other steps k bytes end_of_stream on = refl
step_alike law supported other steps k bytes (message m) on =
    bound_alike (read_next supported (Some k) m) (read_next other (Some k) m) _ _ (next_alike law supported other k m) (λ l e. on l)

rest_alike : NamedCodes → (supported other : ℕ → Bool) (steps : ℕ) (k : Known) (bytes : List ℕ) → read_from supported steps (Some k) bytes ≡ read_from other steps (Some k) bytes
unfolding read_from
rest_alike law supported other zero k bytes = refl
rest_alike law supported other (suc steps) k bytes =
    ap (λ (r : Result Known Fault). if is_empty bytes then known_at_end (Some k) else r)
    (bound_alike (next_message bytes) (next_message bytes) (after_next supported steps (Some k) bytes) (after_next other steps (Some k) bytes) refl
    (λ f e. step_alike law supported other steps k bytes f (λ l. rest_alike law supported other steps l (drop (taken f) bytes))))

-- ---- the stream

front_alike : NamedCodes → (supported other : ℕ → Bool) (steps : ℕ) (bytes : List ℕ) (r : Result NextMessage Fault) → SupportAlike supported other (codes_of_next r)
    → (r >>= after_next supported steps None bytes) ≡ (r >>= after_next other steps None bytes)
front_alike law supported other steps bytes (Ok (message m)) alike =
    bound_alike (read_next supported None m) (read_next other None m) _ _ (first_alike law supported other m alike)
    (λ k e. rest_alike law supported other steps k (drop (taken (message m)) bytes))
front_alike law supported other steps bytes (Ok end_of_stream) alike = refl
front_alike law supported other steps bytes (Err fault) alike = refl

pub meaning_alike : NamedCodes → (supported other : ℕ → Bool) (bytes : List ℕ) → SupportAlike supported other (codes_named bytes) → meaning supported bytes ≡ meaning other bytes
unfolding meaning read_from
meaning_alike law supported other bytes alike =
    ap (λ (r : Result Known Fault). (if is_empty bytes then known_at_end None else r) >>= λ k. Ok (known_table k)) (front_alike law supported other (length bytes) bytes (next_message bytes) alike)

pub older_meaning : NamedCodes → StaySupported → (bytes : List ℕ) → names_no_later_code bytes ≡ true → meaning supported_codes bytes ≡ meaning earlier_codes bytes
older_meaning law stay bytes older = meaning_alike law supported_codes earlier_codes bytes (stay.older bytes older)

-- what is known of a schema whose checks passed, by the codes that were supported
checked_codes : NamedCodes → StaySupported → (fewer more : ℕ → Bool) (bytes : List ℕ) (t : PlainTable) → ((code : ℕ) → fewer code ≡ true → more code ≡ true)
    → meaning fewer bytes ≡ Ok t → SupportAlike more fewer (codes_named bytes)
checked_codes law stay fewer more bytes t kept means =
    let begins = means_begins fewer bytes t means in
    let codes : codes_named bytes ≡ codes_of (schema_header begins.schema) =
    ap codes_of_next begins.found ∙ sym (law.named fewer begins.first.metadata) ∙ ap codes_of (header_is fewer begins.first.metadata (schema_header begins.schema) begins.decoded) in
    subst (SupportAlike more fewer) (sym codes) (stay.checked fewer more begins.schema t.schema kept begins.checked)

pub table_kept : NamedCodes → StaySupported → (fewer more : ℕ → Bool) (bytes : List ℕ) (t : PlainTable) → ((code : ℕ) → fewer code ≡ true → more code ≡ true)
    → meaning fewer bytes ≡ Ok t → meaning more bytes ≡ Ok t
table_kept law stay fewer more bytes t kept means = meaning_alike law more fewer bytes (checked_codes law stay fewer more bytes t kept means) ∙ means

-- ---- a stream that names a later code

-- a number of a list has what each number of it has
one_of : (P : ℕ → Type 0) (numbers : List ℕ) (n : ℕ) → AllByRecursion P numbers → list_any (λ m. m == n) numbers ≡ true → P n
one_of P [] n all h = absurd cc
one_of P (m ∷ numbers) n all h =
    elim (or_cases (m == n) (list_any (λ k. k == n) numbers) h) [ inl here ↦ subst P (eqb-true m n here) all.0 | inr there ↦ one_of P numbers n all.1 there ]

abbrev earlier_numbers : List ℕ
earlier_numbers = NULL ∷ INT ∷ BINARY ∷ UTF8 ∷ BOOL ∷ LIST ∷ STRUCT ∷ FIXED_SIZE_BINARY ∷ FIXED_SIZE_LIST ∷ []

earlier_stay : (code : ℕ) → earlier_codes code ≡ true → supported_codes code ≡ true
earlier_stay code h =
    let all : AllByRecursion (λ n. supported_codes n ≡ true) earlier_numbers = (refl, (refl, (refl, (refl, (refl, (refl, (refl, (refl, (refl, tt))))))))) in
    one_of (λ n. supported_codes n ≡ true) earlier_numbers code all h

-- only now may a field have a later code
abbrev IsAdded : ℕ → Type 0
IsAdded code = (may_stand supported_codes code ≡ true) × (may_stand earlier_codes code ≡ false)

abbrev later_numbers : List ℕ
later_numbers = DATE ∷ TIMESTAMP ∷ LARGE_BINARY ∷ LARGE_UTF8 ∷ LARGE_LIST ∷ []

later_added : (code : ℕ) → is_later_code code ≡ true → IsAdded code
later_added code h =
    let all : AllByRecursion IsAdded later_numbers = ((refl, refl), ((refl, refl), ((refl, refl), ((refl, refl), ((refl, refl), tt))))) in
    one_of IsAdded later_numbers code all h

not_later : (code : ℕ) (later : Bool) → is_later_code code ≡ later → may_stand supported_codes code ≡ may_stand earlier_codes code → later ≡ false
not_later code false is alike = refl
not_later code true is alike = let added = later_added code is in sym added.0 ∙ alike ∙ added.1

none_later : (codes : List ℕ) → SupportAlike supported_codes earlier_codes codes → list_any is_later_code codes ≡ false
none_later [] alike = refl
none_later (code ∷ codes) alike =
    ap (λ (b : Bool). b || list_any is_later_code codes) (not_later code (is_later_code code) refl alike.0) ∙ none_later codes alike.1

-- so a stream that had a meaning names none
pub later_fault : NamedCodes → StaySupported → (bytes : List ℕ) → names_no_later_code bytes ≡ false → IsErr (meaning earlier_codes bytes)
unfolding names_no_later_code
later_fault law stay bytes later = by_meaning (meaning earlier_codes bytes) refl
  where
    by_meaning : (r : Result PlainTable Fault) → meaning earlier_codes bytes ≡ r → IsErr r
    by_meaning (Err e) is = refl
    by_meaning (Ok t) is =
        let none = none_later (codes_named bytes) (checked_codes law stay earlier_codes supported_codes bytes t earlier_stay is) in
        absurd (true≢false (sym (ap not none) ∙ later))
