-- Which codes are supported alike: those of a stream that names no later one, and those of a schema that was read.
use Rattle.std.proofs.Common.{◌≡◌, ℕ, ◌==◌, Bool, true, false, not, ◌&&◌, ◌||◌, List, [], ◌∷◌, map, Ok, refl, ap}
use Rattle.std.specs.Prelude.{Option, Some, None, find, if◌then◌else◌}
use Rattle.std.specs.List.{list_any}
use Rattle.std.proofs.lemmas.Bool.{not-true, or_parts, true≢false}
use Rattle.facts.specs.laws.Checks.{unless_passed}
use Rattle.arrow_schema.specs.Column.{PlainSchema}
use Rattle.ipc_message.specs.laws.Accepted.{finds_nothing}
use Rattle.ipc_message.specs.Checks.{is_unsupported, schema_checks, checked_schema}
use Rattle.ipc_message.specs.Codes.{codes_of, codes_named, SupportAlike, is_later_code, earlier_codes, names_no_later_code}
use Rattle.ipc_message.specs.Convert.{plain_schema_of}
use Rattle.ipc_message.specs.Fields.{every_field, code_of}
use Rattle.ipc_message.specs.Framing.{first_some}
use Rattle.ipc_message.specs.Header.{supported_codes}
use Rattle.ipc_message.specs.declared.type_codes.TheConstants.{NONE, NULL, INT, BINARY, UTF8, BOOL, DATE, TIMESTAMP, LIST, STRUCT, FIXED_SIZE_BINARY, FIXED_SIZE_LIST, LARGE_BINARY, LARGE_UTF8, LARGE_LIST}
use Rattle.ipc_message.specs.Raw.{RawField, RawSchema, schema_header}

-- ---- a stream that names no later code

-- without the five later ones, the supported codes are the earlier ones
earlier : (code : ℕ) → is_later_code code ≡ false → supported_codes code ≡ earlier_codes code
earlier code h =
    let date = or_parts (DATE == code) _ h in
    let timestamp = or_parts (TIMESTAMP == code) _ date.1 in
    let binary = or_parts (LARGE_BINARY == code) _ timestamp.1 in
    let text = or_parts (LARGE_UTF8 == code) _ binary.1 in
    let list = or_parts (LARGE_LIST == code) _ text.1 in
    (λ k. (NULL == code) || ((INT == code) || ((BINARY == code) || ((UTF8 == code) || ((BOOL == code) || (date.0 k || (timestamp.0 k
    || ((LIST == code) || ((STRUCT == code) || ((FIXED_SIZE_BINARY == code) || ((FIXED_SIZE_LIST == code) || (binary.0 k || (text.0 k || (list.0 k || false))))))))))))))

none_later : (codes : List ℕ) → list_any is_later_code codes ≡ false → SupportAlike supported_codes earlier_codes codes
none_later [] h = tt
none_later (code ∷ codes) h =
    let none = or_parts (is_later_code code) (list_any is_later_code codes) h in
    (ap (λ (b : Bool). (code == NONE) || b) (earlier code none.0), none_later codes none.1)

pub older_alike : (bytes : List ℕ) → names_no_later_code bytes ≡ true → SupportAlike supported_codes earlier_codes (codes_named bytes)
unfolding names_no_later_code
older_alike bytes older = none_later (codes_named bytes) (not-true (list_any is_later_code (codes_named bytes)) older)

-- ---- a schema that was read

not_found : (b : Bool) (f : RawField) (rest : Option RawField) → (if b then Some f else rest) ≡ None → (b ≡ false) × (rest ≡ None)
not_found true f rest h = absurd cc
not_found false f rest h = (refl, h)

still : (none own others : Bool) → (own ≡ true → others ≡ true) → (not none && not own) ≡ false → (none || others) ≡ (none || own)
still true own others kept h = refl
still false true others kept h = kept refl
still false false others kept h = absurd (true≢false h)

all_still : (fewer more : ℕ → Bool) → ((code : ℕ) → fewer code ≡ true → more code ≡ true) → (fs : List RawField) → find (is_unsupported fewer) fs ≡ None
    → SupportAlike more fewer (map code_of fs)
all_still fewer more kept [] h = tt
all_still fewer more kept (f ∷ fs) h =
    let none = not_found (is_unsupported fewer f) f (find (is_unsupported fewer) fs) h in
    (still (code_of f == 0) (fewer (code_of f)) (more (code_of f)) (kept (code_of f)) none.0, all_still fewer more kept fs none.1)

pub checked_alike : (fewer more : ℕ → Bool) (raw : RawSchema) (s : PlainSchema) → ((code : ℕ) → fewer code ≡ true → more code ≡ true)
    → checked_schema fewer raw ≡ Ok s → SupportAlike more fewer (codes_of (schema_header raw))
unfolding checked_schema
checked_alike fewer more raw s kept read =
    let passed = unless_passed (first_some (schema_checks fewer raw)) (Ok (plain_schema_of raw)) s read in
    all_still fewer more kept (every_field raw) (finds_nothing fewer raw passed.0).unsupported
