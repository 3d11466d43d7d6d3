-- No check of a schema finds anything in one that was written and is within the limits, but that some are not read yet.
use Rattle.std.specs.Prelude.{sum_by, find, flat_map, nat_lt, not, ◌==◌, ◌&&◌, is_some, bytes_eq}
use Rattle.std.specs.Bool.{beq}
use Rattle.std.specs.List.{list_any, list_all}
use Rattle.std.specs.Str.{is_utf8}
use Rattle.std.proofs.Common.{◌≡◌, ℕ, ◌+◌, ◌<◌, ◌≤◌, Bool, true, false, List, [], ◌∷◌, ◌++◌, length, Option, Some, None, Ok, refl, arith, sym, ap, ◌∙◌}
use Rattle.std.proofs.lemmas.Bool.{and_from, and_parts, le-ltb, or_from, or_parts, not-true, and_left, ne_eqb, eq-eqb, and_right, not_from_true}
use Rattle.std.proofs.lemmas.Slice.Eq.{bytes_eq-Decides}
use Rattle.std.proofs.lemmas.List.Concat.{flat_map-cons}
use Rattle.std.proofs.lemmas.List.Folds.{list_all-append}
use Rattle.std.proofs.lemmas.List.Sums.{sum_by-cons, sum_by-append, list_all-from_AllPass}
use Rattle.arrow_schema.specs.declared.limits.TheConstants.{NUMBER_END, MAX_FIELDS, MAX_DEPTH, MAX_PAIRS, MAX_TEXT_BYTES}
use Rattle.arrow_schema.specs.Column.{Index, Pair, days, date_milliseconds, seconds, milliseconds, microseconds, nanoseconds, Kind, Column, nulls, booleans, integers, dates, timestamps, texts, large_texts, binaries, large_binaries, fixed_binaries, lists, large_lists, fixed_lists, structs, column, columns_of, PlainSchema}
use Rattle.arrow_schema.specs.Limits.{IsWithinLimits, timezone_of, number_of, is_nested, bytes_of_pairs, pairs_in, bytes_in, texts_of_pairs, texts_in, has_utf8_texts, has_number_in_range, has_bit_widths, has_flat_dictionary, is_kind_of_width, is_index_of_width}
use Rattle.arrow_schema.specs.Preorder.{every_column}
use Rattle.ipc_message.specs.declared.type_codes.TheConstants.{NONE}
use Rattle.ipc_message.specs.Raw.{RawParameters, no_parameters, integer_parameters, byte_width, list_size, date_unit, timestamp_parameters, RawEncoding, RawField, RawFields, raw_field, no_raw_field, and_raw_field, raw_fields_of}
use Rattle.ipc_message.specs.Fields.{every_field, preorder_all as raw_preorder_all, depth_all as raw_depth_all, dictionary_of, pairs_of}
use Rattle.ipc_message.specs.Framing.{first_some}
use Rattle.ipc_message.specs.Header.{supported_codes}
use Rattle.ipc_message.specs.Types.{type_name, decoded_type}
use Rattle.ipc_message.specs.Convert.{columns_of_fields}
use Rattle.ipc_message.specs.Same.{one_id, same_parameters, same_index, same_pairs, same_parts, same_field, same_fields}
use Rattle.ipc_message.specs.Checks.{is_unsupported, is_bad, is_index_type, timezone_of as raw_timezone, texts_of_field, texts_of, exceeds_limit, are_at_odds, has_other_type, has_two_types, is_nested as is_nested_name, is_dictionary_of_nested, schema_checks, checked_schema}
use Rattle.ipc_message.specs.laws.FieldLists.{fields_listed}
use Rattle.ipc_write.specs.Trees.{code_of, ids_for}
use Rattle.ipc_write.specs.Decoded.{parameters_of, encoding_of, raw_of, raw_below, raw_of_all, raw_schema}
use Rattle.ipc_write.proofs.Room.{has_numbers, schema_numbers}
use Rattle.ipc_write.proofs.Numbered.{own_ids, numbered, fields_numbered, fields_depth}
use Rattle.ipc_write.proofs.Decoding.{is_size-number, schema_decoded}

-- what holds of no column
none_of : (p : RawField → Bool) (q : Column → Bool) → ((id : ℕ) (c : Column) → q c ≡ true → p (raw_of id c) ≡ false) → (id : ℕ) (cs : List Column) → list_all q cs ≡ true → list_any p (numbered id cs) ≡ false
none_of p q each id [] h = refl
none_of p q each id (c ∷ cs) h =
    let parts = and_parts (q c) (list_all q cs) h in
    or_from (p (raw_of id c)) (list_any p (numbered (id + own_ids c) cs)) (each id c parts.0) (none_of p q each (id + own_ids c) cs parts.1)

-- ---- each type is supported

code_supported : (kind : Kind) → (not (code_of kind == NONE) && not (supported_codes (code_of kind))) ≡ false
code_supported nulls = refl
code_supported booleans = refl
code_supported (integers bits signed) = refl
code_supported (dates unit) = refl
code_supported (timestamps unit timezone) = refl
code_supported texts = refl
code_supported large_texts = refl
code_supported binaries = refl
code_supported large_binaries = refl
code_supported (fixed_binaries width) = refl
code_supported (lists item) = refl
code_supported (large_lists item) = refl
code_supported (fixed_lists size item) = refl
code_supported (structs parts) = refl

supported_one : (id : ℕ) (c : Column) → is_unsupported supported_codes (raw_of id c) ≡ false
unfolding raw_of
supported_one id (column name nullable kind dictionary pairs) = code_supported kind

none_unsupported : (id : ℕ) (cs : List Column) → find (is_unsupported supported_codes) (numbered id cs) ≡ None
none_unsupported id [] = refl
none_unsupported id (c ∷ cs) = rw (supported_one id c) (none_unsupported (id + own_ids c) cs)

-- ---- each field decodes to a type

kind_typed : (id : ℕ) (kind : Kind) → nat_lt (number_of kind) NUMBER_END ≡ true → is_kind_of_width kind ≡ true → is_some (decoded_type (type_name (code_of kind)) (parameters_of kind) (columns_of_fields (raw_below id kind))) ≡ true
unfolding raw_below columns_of_fields type_name decoded_type
kind_typed id nulls n w = refl
kind_typed id booleans n w = refl
kind_typed id (integers bits signed) n w = rw w refl
kind_typed id (dates days) n w = refl
kind_typed id (dates date_milliseconds) n w = refl
kind_typed id (timestamps seconds timezone) n w = refl
kind_typed id (timestamps milliseconds timezone) n w = refl
kind_typed id (timestamps microseconds timezone) n w = refl
kind_typed id (timestamps nanoseconds timezone) n w = refl
kind_typed id texts n w = refl
kind_typed id large_texts n w = refl
kind_typed id binaries n w = refl
kind_typed id large_binaries n w = refl
kind_typed id (fixed_binaries width) n w = rw (is_size-number width n) refl
kind_typed id (lists item) n w = refl
kind_typed id (large_lists item) n w = refl
kind_typed id (fixed_lists size item) n w = rw (is_size-number size n) refl
kind_typed id (structs parts) n w = refl

index_typed : (id : ℕ) (dictionary : Option Index) → is_index_of_width dictionary ≡ true → is_index_type (encoding_of id dictionary) ≡ true
index_typed id None w = refl
index_typed id (Some index) w = rw w refl

not_both : {a b : Bool} → a ≡ true → b ≡ true → not (a && b) ≡ false
not_both x y = rw (x, y) refl

decoded_one : (id : ℕ) (c : Column) → has_numbers c ≡ true → is_bad (raw_of id c) ≡ false
unfolding raw_of
decoded_one id (column name nullable kind dictionary pairs) h =
    let c : Column = column name nullable kind dictionary pairs in
    let own = and_parts (has_number_in_range c) (has_bit_widths c) h in
    let widths = and_parts (is_kind_of_width kind) (is_index_of_width dictionary) own.1 in
    not_both (kind_typed (id + ids_for dictionary) kind own.0 widths.0) (index_typed id dictionary widths.1)

-- ---- the limits

count_numbered : (id : ℕ) (cs : List Column) → length (numbered id cs) ≡ length cs
count_numbered id [] = refl
count_numbered id (c ∷ cs) = omega (arith, count_numbered (id + own_ids c) cs)

pairs_one : (id : ℕ) (c : Column) → length (pairs_of (raw_of id c)) ≡ pairs_in c
unfolding raw_of
pairs_one id (column name nullable kind dictionary pairs) = refl

pairs_numbered : (id : ℕ) (cs : List Column) → sum_by (λ (f : RawField). length (pairs_of f)) (numbered id cs) ≡ sum_by pairs_in cs
pairs_numbered id [] = refl
pairs_numbered id (c ∷ cs) =
    omega (arith, pairs_one id c, pairs_numbered (id + own_ids c) cs, sum_by-cons (λ (f : RawField). length (pairs_of f)) (raw_of id c) (numbered (id + own_ids c) cs), sum_by-cons pairs_in c cs)

timezone_again : (kind : Kind) → raw_timezone (parameters_of kind) ≡ timezone_of kind
timezone_again nulls = refl
timezone_again booleans = refl
timezone_again (integers bits signed) = refl
timezone_again (dates unit) = refl
timezone_again (timestamps unit timezone) = refl
timezone_again texts = refl
timezone_again large_texts = refl
timezone_again binaries = refl
timezone_again large_binaries = refl
timezone_again (fixed_binaries width) = refl
timezone_again (lists item) = refl
timezone_again (large_lists item) = refl
timezone_again (fixed_lists size item) = refl
timezone_again (structs parts) = refl

texts_one : (id : ℕ) (c : Column) → texts_of_field (raw_of id c) ≡ texts_in c
unfolding raw_of
texts_one id (column name nullable kind dictionary pairs) = ap (λ (z : List ℕ). name ∷ z ∷ texts_of_pairs pairs) (timezone_again kind)

texts_numbered : (id : ℕ) (cs : List Column) → flat_map texts_of_field (numbered id cs) ≡ flat_map texts_in cs
texts_numbered id [] = refl
texts_numbered id (c ∷ cs) =
    flat_map-cons texts_of_field (raw_of id c) (numbered (id + own_ids c) cs)
    ∙ ap (λ (ts : List (List ℕ)). ts ++ flat_map texts_of_field (numbered (id + own_ids c) cs)) (texts_one id c)
    ∙ ap (λ (ts : List (List ℕ)). texts_in c ++ ts) (texts_numbered (id + own_ids c) cs)
    ∙ sym (flat_map-cons texts_in c cs)

pairs_bytes : (ps : List Pair) → sum_by length (texts_of_pairs ps) ≡ bytes_of_pairs ps
pairs_bytes [] = refl
pairs_bytes (p ∷ ps) =
    let rest : List (List ℕ) = texts_of_pairs ps in
    let two : sum_by length (p.0 ∷ p.1 ∷ rest) ≡ bytes_of_pairs (p ∷ ps) =
    omega (arith, sum_by-cons length p.0 (p.1 ∷ rest), sum_by-cons length p.1 rest, pairs_bytes ps, sum_by-cons (λ (q : Pair). length q.0 + length q.1) p ps) in
    ap (sum_by length) (flat_map-cons (λ (q : Pair). q.0 ∷ q.1 ∷ []) p ps) ∙ two

column_bytes : (c : Column) → sum_by length (texts_in c) ≡ bytes_in c
column_bytes (column name nullable kind dictionary pairs) =
    omega (arith, sum_by-cons length name (timezone_of kind ∷ texts_of_pairs pairs), sum_by-cons length (timezone_of kind) (texts_of_pairs pairs), pairs_bytes pairs)

texts_bytes : (cs : List Column) → sum_by length (flat_map texts_in cs) ≡ sum_by bytes_in cs
texts_bytes [] = refl
texts_bytes (c ∷ cs) =
    let both : sum_by length (texts_in c ++ flat_map texts_in cs) ≡ sum_by bytes_in (c ∷ cs) =
    omega (arith, sum_by-append length (texts_in c) (flat_map texts_in cs), column_bytes c, texts_bytes cs, sum_by-cons bytes_in c cs) in
    ap (sum_by length) (flat_map-cons texts_in c cs) ∙ both

texts_utf8 : (cs : List Column) → list_all has_utf8_texts cs ≡ true → list_all is_utf8 (flat_map texts_in cs) ≡ true
texts_utf8 [] h = refl
texts_utf8 (c ∷ cs) h =
    let parts = and_parts (has_utf8_texts c) (list_all has_utf8_texts cs) h in
    ap (list_all is_utf8) (flat_map-cons texts_in c cs)
    ∙ list_all-append is_utf8 (texts_in c) (flat_map texts_in cs)
    ∙ and_from (list_all is_utf8 (texts_in c)) (list_all is_utf8 (flat_map texts_in cs)) parts.0 (texts_utf8 cs parts.1)

-- ---- each dictionary has an id of its own

equal_bytes : (t : List ℕ) → bytes_eq t t ≡ true
equal_bytes t = (bytes_eq-Decides t t).1 refl

equal_bool : (b : Bool) → beq b b ≡ true
equal_bool true = refl
equal_bool false = refl

equal_parameters : (p : RawParameters) → same_parameters p p ≡ true
equal_parameters no_parameters = refl
equal_parameters (integer_parameters width signed) = and_from _ _ (eq-eqb width width refl) (equal_bool signed)
equal_parameters (byte_width width) = eq-eqb width width refl
equal_parameters (list_size size) = eq-eqb size size refl
equal_parameters (date_unit unit) = eq-eqb unit unit refl
equal_parameters (timestamp_parameters unit timezone) = and_from _ _ (eq-eqb unit unit refl) (equal_bytes timezone)

equal_index : (d : Option RawEncoding) → same_index d d ≡ true
equal_index None = refl
equal_index (Some e) = and_from _ _ (eq-eqb e.width e.width refl) (equal_bool e.signed)

equal_pairs : (ps : List Pair) → same_pairs ps ps ≡ true
equal_pairs [] = refl
equal_pairs (p ∷ ps) = and_from _ _ (and_from _ _ (equal_bytes p.0) (equal_bytes p.1)) (equal_pairs ps)

mutual
  unfolding same_field same_fields same_parts

  equal_field : (f : RawField) → same_field f f ≡ true
  equal_field (raw_field name nullable code table dictionary children pairs) =
      and_from _ _
      (and_from _ _ (and_from _ _ (and_from _ _ (and_from _ _ (and_from _ _ (equal_bytes name) (equal_bool nullable)) (eq-eqb code code refl)) (equal_parameters table)) (equal_index dictionary)) (equal_pairs pairs))
      (equal_fields children)

  equal_fields : (fs : RawFields) → same_fields fs fs ≡ true
  equal_fields no_raw_field = refl
  equal_fields (and_raw_field f fs) = and_from _ _ (equal_field f) (equal_fields fs)

not_at_odds_with_itself : (f : RawField) → are_at_odds f f ≡ false
not_at_odds_with_itself (raw_field name nullable code table dictionary children pairs) =
    and_right _ _ (not_from_true _ (and_from _ _ (and_from _ _ (eq-eqb code code refl) (equal_parameters table)) (equal_fields children)))

-- ids below a number
abbrev IsBelow : ℕ → Option RawEncoding → Type 0
IsBelow n None = Unit {0}
IsBelow n (Some e) = e.id < n

below_more : (d : Option RawEncoding) (m n : ℕ) → m ≤ n → IsBelow m d → IsBelow n d
below_more None m n le h = tt
below_more (Some e) m n le h = omega (arith, le, h)

apart : (d : Option RawEncoding) (n : ℕ) (dictionary : Option Index) → IsBelow n d → one_id d (encoding_of n dictionary) ≡ false
apart None n dictionary h = refl
apart (Some e) n None h = refl
apart (Some e) n (Some index) h = ne_eqb e.id n (λ same. omega (arith, h, same))

apart_too : (d : Option RawEncoding) (n : ℕ) (dictionary : Option Index) → IsBelow n d → one_id (encoding_of n dictionary) d ≡ false
apart_too d n None h = refl
apart_too None n (Some index) h = refl
apart_too (Some e) n (Some index) h = ne_eqb n e.id (λ same. omega (arith, h, same))

before_one : (f : RawField) (n : ℕ) (c : Column) → IsBelow n (dictionary_of f) → are_at_odds f (raw_of n c) ≡ false
unfolding raw_of
before_one f n (column name nullable kind dictionary pairs) h = and_left _ _ (apart (dictionary_of f) n dictionary h)

after_one : (f : RawField) (n : ℕ) (c : Column) → IsBelow n (dictionary_of f) → are_at_odds (raw_of n c) f ≡ false
unfolding raw_of
after_one f n (column name nullable kind dictionary pairs) h = and_left _ _ (apart_too (dictionary_of f) n dictionary h)

before_all : (f : RawField) (n : ℕ) (cs : List Column) → IsBelow n (dictionary_of f) → list_any (are_at_odds f) (numbered n cs) ≡ false
before_all f n [] h = refl
before_all f n (c ∷ cs) h = or_from _ _ (before_one f n c h) (before_all f (n + own_ids c) cs (below_more (dictionary_of f) n (n + own_ids c) (omega arith) h))

after_all : (f : RawField) (n : ℕ) (cs : List Column) → IsBelow n (dictionary_of f) → list_any (λ (g : RawField). are_at_odds g f) (numbered n cs) ≡ false
after_all f n [] h = refl
after_all f n (c ∷ cs) h = or_from _ _ (after_one f n c h) (after_all f (n + own_ids c) cs (below_more (dictionary_of f) n (n + own_ids c) (omega arith) h))

own_below : (id : ℕ) (c : Column) → IsBelow (id + own_ids c) (dictionary_of (raw_of id c))
unfolding raw_of
own_below id (column name nullable kind None pairs) = tt
own_below id (column name nullable kind (Some index) pairs) = omega arith

neither : (x : RawField) (fs gs : List RawField) → list_any (λ (g : RawField). are_at_odds g x) fs ≡ false → list_any (has_other_type gs) fs ≡ false → list_any (has_other_type (x ∷ gs)) fs ≡ false
unfolding has_other_type
neither x [] gs a b = refl
neither x (f ∷ fs) gs a b =
    let here = or_parts _ _ a in
    let there = or_parts _ _ b in
    or_from _ _ (or_from _ _ here.0 there.0) (neither x fs gs here.1 there.1)

first_type : (x : RawField) (gs : List RawField) → are_at_odds x x ≡ false → list_any (are_at_odds x) gs ≡ false → has_other_type (x ∷ gs) x ≡ false
unfolding has_other_type
first_type x gs a b = or_from _ _ a b

one_type_each : (id : ℕ) (cs : List Column) → has_two_types (numbered id cs) ≡ false
one_type_each id [] = refl
one_type_each id (c ∷ cs) =
    let x : RawField = raw_of id c in
    let rest : List RawField = numbered (id + own_ids c) cs in
    or_from _ _
    (first_type x rest (not_at_odds_with_itself x) (before_all x (id + own_ids c) cs (own_below id c)))
    (neither x rest rest (after_all x (id + own_ids c) cs (own_below id c)) (one_type_each (id + own_ids c) cs))

-- ---- no dictionary is one of lists or structs

nested_again : (kind : Kind) → is_nested_name (type_name (code_of kind)) ≡ is_nested kind
unfolding type_name
nested_again nulls = refl
nested_again booleans = refl
nested_again (integers bits signed) = refl
nested_again (dates unit) = refl
nested_again (timestamps unit timezone) = refl
nested_again texts = refl
nested_again large_texts = refl
nested_again binaries = refl
nested_again large_binaries = refl
nested_again (fixed_binaries width) = refl
nested_again (lists item) = refl
nested_again (large_lists item) = refl
nested_again (fixed_lists size item) = refl
nested_again (structs parts) = refl

has_dictionary : (id : ℕ) (dictionary : Option Index) → is_some (encoding_of id dictionary) ≡ is_some dictionary
has_dictionary id None = refl
has_dictionary id (Some index) = refl

flat_one : (id : ℕ) (c : Column) → has_flat_dictionary c ≡ true → is_dictionary_of_nested (raw_of id c) ≡ false
unfolding raw_of
flat_one id (column name nullable kind dictionary pairs) h =
    let d = has_dictionary id dictionary in
    let k = nested_again kind in
    (λ i. d i && k i) ∙ not-true (is_some dictionary && is_nested kind) h

-- ---- a schema

every_is : (s : PlainSchema) → every_field (raw_schema s) ≡ numbered 0 (every_column s)
every_is s = ap raw_preorder_all (fields_listed (raw_of_all 0 (columns_of s.columns))) ∙ fields_numbered 0 (columns_of s.columns)

small_is : (s : PlainSchema) → IsWithinLimits s → exceeds_limit (raw_schema s) ≡ false
small_is s limits =
    let fs : List RawField = numbered 0 (every_column s) in
    let cs = raw_of_all 0 (columns_of s.columns) in
    let few : length fs ≤ MAX_FIELDS = omega (arith, count_numbered 0 (every_column s), limits.fields) in
    let deep : raw_depth_all cs ≤ MAX_DEPTH = omega (arith, fields_depth 0 (columns_of s.columns), limits.levels) in
    let paired : length s.pairs + sum_by (λ (f : RawField). length (pairs_of f)) fs ≤ MAX_PAIRS = omega (arith, pairs_numbered 0 (every_column s), limits.pairs) in
    let own : sum_by length (flat_map texts_of_field fs) ≡ sum_by bytes_in (every_column s) = ap (sum_by length) (texts_numbered 0 (every_column s)) ∙ texts_bytes (every_column s) in
    let long : sum_by length (texts_of_pairs s.pairs ++ flat_map texts_of_field fs) ≤ MAX_TEXT_BYTES =
    omega (arith, sum_by-append length (texts_of_pairs s.pairs) (flat_map texts_of_field fs), pairs_bytes s.pairs, own, limits.bytes) in
    let a : nat_lt MAX_FIELDS (length (every_field (raw_schema s))) ≡ false = ap (λ (gs : List RawField). nat_lt MAX_FIELDS (length gs)) (every_is s) ∙ le-ltb MAX_FIELDS (length fs) few in
    let b : nat_lt MAX_DEPTH (raw_depth_all (raw_fields_of (raw_schema s).fields)) ≡ false = ap (λ (gs : RawFields). nat_lt MAX_DEPTH (raw_depth_all gs)) (fields_listed cs) ∙ le-ltb MAX_DEPTH (raw_depth_all cs) deep in
    let c : nat_lt MAX_PAIRS (length s.pairs + sum_by (λ (f : RawField). length (pairs_of f)) (every_field (raw_schema s))) ≡ false =
    ap (λ (gs : List RawField). nat_lt MAX_PAIRS (length s.pairs + sum_by (λ (f : RawField). length (pairs_of f)) gs)) (every_is s) ∙ le-ltb MAX_PAIRS (length s.pairs + sum_by (λ (f : RawField). length (pairs_of f)) fs) paired in
    let d : nat_lt MAX_TEXT_BYTES (sum_by length (texts_of_pairs s.pairs ++ flat_map texts_of_field (every_field (raw_schema s)))) ≡ false =
    ap (λ (gs : List RawField). nat_lt MAX_TEXT_BYTES (sum_by length (texts_of_pairs s.pairs ++ flat_map texts_of_field gs))) (every_is s) ∙ le-ltb MAX_TEXT_BYTES (sum_by length (texts_of_pairs s.pairs ++ flat_map texts_of_field fs)) long in
    or_from _ _ (or_from _ _ (or_from _ _ a b) c) d

utf8_is : (s : PlainSchema) → IsWithinLimits s → list_all is_utf8 (texts_of (raw_schema s)) ≡ true
utf8_is s limits =
    let texts = texts_utf8 (every_column s) (list_all-from_AllPass _ _ limits.texts) in
    let fields : flat_map texts_of_field (every_field (raw_schema s)) ≡ flat_map texts_in (every_column s) = ap (flat_map texts_of_field) (every_is s) ∙ texts_numbered 0 (every_column s) in
    ap (λ (ts : List (List ℕ)). list_all is_utf8 (texts_of_pairs s.pairs ++ ts)) fields
    ∙ list_all-append is_utf8 (texts_of_pairs s.pairs) (flat_map texts_in (every_column s))
    ∙ and_from _ _ (list_all-from_AllPass _ _ limits.own_texts) texts

-- no check finds anything
pub schema_unfaulted : (s : PlainSchema) → IsWithinLimits s → first_some (schema_checks supported_codes (raw_schema s)) ≡ None
unfolding schema_checks
schema_unfaulted s limits =
    let cs : List Column = every_column s in
    let supported : find (is_unsupported supported_codes) (every_field (raw_schema s)) ≡ None = ap (find (is_unsupported supported_codes)) (every_is s) ∙ none_unsupported 0 cs in
    let decoded : list_any is_bad (every_field (raw_schema s)) ≡ false = ap (list_any is_bad) (every_is s) ∙ none_of is_bad has_numbers decoded_one 0 cs (schema_numbers s limits) in
    let types : has_two_types (every_field (raw_schema s)) ≡ false = ap has_two_types (every_is s) ∙ one_type_each 0 cs in
    let flat : list_any is_dictionary_of_nested (every_field (raw_schema s)) ≡ false =
    ap (list_any is_dictionary_of_nested) (every_is s) ∙ none_of is_dictionary_of_nested has_flat_dictionary flat_one 0 cs (list_all-from_AllPass _ _ limits.dictionaries) in
    rw (supported, decoded, small_is s limits, utf8_is s limits, types, flat) refl

pub schema_checked : (s : PlainSchema) → IsWithinLimits s → checked_schema supported_codes (raw_schema s) ≡ Ok s
unfolding checked_schema
schema_checked s limits = rw (schema_unfaulted s limits) (ap Ok (schema_decoded s limits))
