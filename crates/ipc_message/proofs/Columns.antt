-- The columns of an accepted schema are those of its fields, and within the limits.
use Rattle.std.proofs.Common.{◌≡◌, ℕ, ◌+◌, ◌≤◌, max, Bool, true, false, ◌&&◌, List, [], ◌∷◌, ◌++◌, length, refl, ap, sym, ◌∙◌, subst, map, arith}
use Rattle.std.specs.Prelude.{Option, Some, None, Ok, is_some, unwrap_or, option_map, nat_lt, not, ◌||◌, sum_by, flat_map}
use Rattle.std.specs.List.{list_any, list_all}
use Rattle.std.specs.Str.{is_utf8}
use Rattle.std.proofs.lemmas.List.{length-map, map-append}
use Rattle.std.proofs.lemmas.List.Concat.{flat_map-cons}
use Rattle.std.proofs.lemmas.List.Sums.{sum_by-cons, sum_by-append, AllPass-from_list_all}
use Rattle.std.proofs.lemmas.List.Folds.{list_any-append, list_all-append}
use Rattle.arrow_schema.specs.declared.limits.TheConstants.{MAX_FIELDS, MAX_DEPTH, MAX_PAIRS, MAX_TEXT_BYTES}
use Rattle.facts.specs.laws.Checks.{unless_passed}
use Rattle.arrow_schema.specs.Column.{Pair, Column, PlainSchema, nulls, columns_of, is_bit_width}
use Rattle.arrow_schema.specs.Preorder as columns
use Rattle.arrow_schema.specs.Preorder.{every_column}
use Rattle.arrow_schema.specs.Limits as limits
use Rattle.arrow_schema.specs.Limits.{IsWithinLimits}
use Rattle.std.proofs.lemmas.Bool.{and_parts, not-false, or_parts, ltb-false, and_from}
use Rattle.ipc_message.specs.Raw.{RawParameters, RawEncoding, RawField, RawFields, raw_field, no_raw_field, and_raw_field, raw_fields_of, RawSchema}
use Rattle.ipc_message.specs.Fields.{preorder, preorder_all, every_field, depth, depth_all, pairs_of}
use Rattle.ipc_message.specs.Types.{type_name, decoded_type}
use Rattle.ipc_message.specs.Convert.{decoded_index, column_of_field, columns_of_fields, plain_schema_of}
use Rattle.ipc_message.specs.Checks.{is_bad, is_index_type, timezone_of, texts_of_pairs, texts_of_field, texts_of, count_of_pairs, is_dictionary_of_nested, schema_checks, checked_schema}
use Rattle.ipc_message.specs.Framing.{first_some}
use Rattle.ipc_message.specs.laws.Accepted.{IsAccepted, accepted}
use Rattle.ipc_message.specs.inner.Readable.{AreReadable}
use Rattle.ipc_message.proofs.Shapes.{HasShape, decoded_shape}
use Rattle.ipc_message.specs.laws.FieldLists.{columns_of_list}

some_of : {A : Type 0} (o : Option A) (d : A) → is_some o ≡ true → o ≡ Some (unwrap_or o d)
some_of None d h = absurd cc
some_of (Some x) d h = refl

-- the type that is read of a field that is not bad
pub field_shape : (name : List ℕ) (nullable : Bool) (code : ℕ) (p : RawParameters) (d : Option RawEncoding) (fs : RawFields) (pairs : List Pair) → is_bad (raw_field name nullable code p d fs pairs) ≡ false
    → HasShape (type_name code) p (columns_of_fields fs) (unwrap_or (decoded_type (type_name code) p (columns_of_fields fs)) nulls)
field_shape name nullable code p d fs pairs h =
    decoded_shape (type_name code) p (columns_of_fields fs) _ (some_of _ nulls (and_parts _ _ (not-false _ h)).0)

mutual
  unfolding preorder preorder_all columns.preorder columns.preorder_all column_of_field columns_of_fields

  -- the columns in preorder are those of the fields in preorder
  pub columns_listed : (f : RawField) → list_any is_bad (preorder f) ≡ false → columns.preorder (column_of_field f) ≡ map column_of_field (preorder f)
  columns_listed (raw_field name nullable code p d fs pairs) h =
      let s = field_shape name nullable code p d fs pairs ((or_parts _ _ h).0) in
      ap (λ (cs : List Column). column_of_field (raw_field name nullable code p d fs pairs) ∷ cs) (s.below ∙ all_columns_listed fs ((or_parts _ _ h).1))

  pub all_columns_listed : (fs : RawFields) → list_any is_bad (preorder_all fs) ≡ false → columns.preorder_all (columns_of (columns_of_fields fs)) ≡ map column_of_field (preorder_all fs)
  all_columns_listed no_raw_field h = refl
  all_columns_listed (and_raw_field f fs) h =
      let split = sym (list_any-append is_bad (preorder f) (preorder_all fs)) ∙ h in
      ap (λ (cs : List Column). cs ++ columns.preorder_all (columns_of (columns_of_fields fs))) (columns_listed f ((or_parts _ _ split).0))
      ∙ ap (λ (cs : List Column). map column_of_field (preorder f) ++ cs) (all_columns_listed fs ((or_parts _ _ split).1))
      ∙ sym (map-append column_of_field (preorder f) (preorder_all fs))

mutual
  unfolding preorder preorder_all columns.depth columns.depth_all column_of_field columns_of_fields depth depth_all

  -- they go as deep
  pub same_depth : (f : RawField) → list_any is_bad (preorder f) ≡ false → columns.depth (column_of_field f) ≡ depth f
  same_depth (raw_field name nullable code p d fs pairs) h =
      let s = field_shape name nullable code p d fs pairs ((or_parts _ _ h).0) in
      ap (λ n. 1 + n) (s.depth ∙ all_same_depth fs ((or_parts _ _ h).1))

  pub all_same_depth : (fs : RawFields) → list_any is_bad (preorder_all fs) ≡ false → columns.depth_all (columns_of (columns_of_fields fs)) ≡ depth_all fs
  all_same_depth no_raw_field h = refl
  all_same_depth (and_raw_field f fs) h =
      let split = sym (list_any-append is_bad (preorder f) (preorder_all fs)) ∙ h in
      ap (λ n. max n (columns.depth_all (columns_of (columns_of_fields fs)))) (same_depth f ((or_parts _ _ split).0)) ∙ ap (λ n. max (depth f) n) (all_same_depth fs ((or_parts _ _ split).1))

-- ---- what the limits count

count_pairs : (fs : List RawField) → sum_by limits.pairs_in (map column_of_field fs) ≡ sum_by (λ f. length (pairs_of f)) fs
unfolding column_of_field
count_pairs [] = refl
count_pairs (raw_field name nullable code p d children pairs ∷ fs) =
    let f = raw_field name nullable code p d children pairs in
    sum_by-cons limits.pairs_in (column_of_field f) (map column_of_field fs) ∙ ap (λ n. length pairs + n) (count_pairs fs) ∙ sym (sum_by-cons (λ g. length (pairs_of g)) f fs)

pairs_bytes : (pairs : List Pair) → sum_by length (texts_of_pairs pairs) ≡ limits.bytes_of_pairs pairs
pairs_bytes [] = refl
pairs_bytes (p ∷ pairs) =
    sum_by-cons length p.0 (p.1 ∷ texts_of_pairs pairs)
    ∙ ap (λ n. length p.0 + n) (sum_by-cons length p.1 (texts_of_pairs pairs) ∙ ap (λ n. length p.1 + n) (pairs_bytes pairs))
    ∙ omega (arith, sum_by-cons (λ (q : Pair). length q.0 + length q.1) p pairs)

field_bytes : (f : RawField) → is_bad f ≡ false → limits.bytes_in (column_of_field f) ≤ sum_by length (texts_of_field f)
unfolding column_of_field
field_bytes (raw_field name nullable code p d children pairs) h =
    let s = field_shape name nullable code p d children pairs h in
    omega (arith, s.timezone, pairs_bytes pairs, sum_by-cons length name (timezone_of p ∷ texts_of_pairs pairs), sum_by-cons length (timezone_of p) (texts_of_pairs pairs))

count_bytes : (fs : List RawField) → list_any is_bad fs ≡ false → sum_by limits.bytes_in (map column_of_field fs) ≤ sum_by length (flat_map texts_of_field fs)
count_bytes [] h = omega arith
count_bytes (f ∷ fs) h =
    let here = field_bytes f ((or_parts (is_bad f) (list_any is_bad fs) h).0) in
    let rest = count_bytes fs ((or_parts (is_bad f) (list_any is_bad fs) h).1) in
    let whole = ap (sum_by length) (flat_map-cons texts_of_field f fs) in
    omega (arith, whole, here, rest, sum_by-cons limits.bytes_in (column_of_field f) (map column_of_field fs), sum_by-append length (texts_of_field f) (flat_map texts_of_field fs))

numbers_fit : (fs : List RawField) → list_any is_bad fs ≡ false → list_all limits.has_number_in_range (map column_of_field fs) ≡ true
unfolding column_of_field
numbers_fit [] h = refl
numbers_fit (raw_field name nullable code p d children pairs ∷ fs) h =
    and_from _ _ (field_shape name nullable code p d children pairs ((or_parts _ _ h).0)).number (numbers_fit fs ((or_parts _ _ h).1))

same_some : (d : Option RawEncoding) → is_some (option_map decoded_index d) ≡ is_some d
same_some None = refl
same_some (Some e) = refl

dictionaries_fit : (fs : List RawField) → list_any is_bad fs ≡ false → list_any is_dictionary_of_nested fs ≡ false → list_all limits.has_flat_dictionary (map column_of_field fs) ≡ true
unfolding column_of_field
dictionaries_fit [] h g = refl
dictionaries_fit (raw_field name nullable code p d children pairs ∷ fs) h g =
    let s = field_shape name nullable code p d children pairs ((or_parts _ _ h).0) in
    let here : not (is_some (option_map decoded_index d) && limits.is_nested (unwrap_or (decoded_type (type_name code) p (columns_of_fields children)) nulls)) ≡ true = rw (same_some d, s.nested) (ap not ((or_parts _ _ g).0)) in
    rw here (dictionaries_fit fs ((or_parts _ _ h).1) ((or_parts _ _ g).1))

index_width : (d : Option RawEncoding) → is_index_type d ≡ true → limits.is_index_of_width (option_map decoded_index d) ≡ true
index_width None h = refl
index_width (Some e) h = (and_parts (is_bit_width e.width) _ h).0

widths_fit : (fs : List RawField) → list_any is_bad fs ≡ false → list_all limits.has_bit_widths (map column_of_field fs) ≡ true
unfolding column_of_field
widths_fit [] h = refl
widths_fit (raw_field name nullable code p d children pairs ∷ fs) h =
    let good = not-false _ ((or_parts (is_bad (raw_field name nullable code p d children pairs)) _ h).0) in
    and_from _ _ (and_from _ _ (field_shape name nullable code p d children pairs ((or_parts _ _ h).0)).width (index_width d (and_parts _ _ good).1)) (widths_fit fs ((or_parts _ _ h).1))

texts_fit : (fs : List RawField) → list_any is_bad fs ≡ false → list_all is_utf8 (flat_map texts_of_field fs) ≡ true → list_all limits.has_utf8_texts (map column_of_field fs) ≡ true
unfolding column_of_field
texts_fit [] h u = refl
texts_fit (raw_field name nullable code p d children pairs ∷ fs) h u =
    let f = raw_field name nullable code p d children pairs in
    let all = and_parts (list_all is_utf8 (texts_of_field f)) _ (sym (list_all-append is_utf8 (texts_of_field f) (flat_map texts_of_field fs)) ∙ ap (list_all is_utf8) (sym (flat_map-cons texts_of_field f fs)) ∙ u) in
    let own = and_parts (is_utf8 name) _ all.0 in
    let rest = and_parts (is_utf8 (timezone_of p)) _ own.1 in
    and_from _ _ (and_from _ _ own.0 (and_from _ _ ((field_shape name nullable code p d children pairs ((or_parts _ _ h).0)).utf8 rest.0) rest.1)) (texts_fit fs ((or_parts _ _ h).1) all.1)

-- an accepted schema is within the limits
pub accepted_within : (s : RawSchema) → IsAccepted s → IsWithinLimits (plain_schema_of s)
accepted_within s a =
    let listed : every_column (plain_schema_of s) ≡ map column_of_field (every_field s) =
    ap (λ (cs : List Column). columns.preorder_all (columns_of cs)) (sym (columns_of_list s.fields)) ∙ all_columns_listed (raw_fields_of s.fields) a.decoded in
    let deep : columns.depth_all (columns_of (map column_of_field s.fields)) ≡ depth_all (raw_fields_of s.fields) =
    ap (λ (cs : List Column). columns.depth_all (columns_of cs)) (sym (columns_of_list s.fields)) ∙ all_same_depth (raw_fields_of s.fields) a.decoded in
    let many = nat_lt MAX_FIELDS (length (every_field s)) in
    let deeper = nat_lt MAX_DEPTH (depth_all (raw_fields_of s.fields)) in
    let paired = nat_lt MAX_PAIRS (count_of_pairs s) in
    let long = nat_lt MAX_TEXT_BYTES (sum_by length (texts_of s)) in
    let rest : ((many || deeper) || paired) ≡ false = (or_parts ((many || deeper) || paired) long a.small).0 in
    let bytes : sum_by length (texts_of s) ≤ MAX_TEXT_BYTES = ltb-false _ _ ((or_parts ((many || deeper) || paired) long a.small).1) in
    let pairs : count_of_pairs s ≤ MAX_PAIRS = ltb-false _ _ ((or_parts (many || deeper) paired rest).1) in
    let few : length (every_field s) ≤ MAX_FIELDS = ltb-false _ _ ((or_parts many deeper ((or_parts (many || deeper) paired rest).0)).0) in
    let utf8 = and_parts (list_all is_utf8 (texts_of_pairs s.pairs)) _ (sym (list_all-append is_utf8 (texts_of_pairs s.pairs) (flat_map texts_of_field (every_field s))) ∙ a.utf8) in
    let low : depth_all (raw_fields_of s.fields) ≤ MAX_DEPTH = ltb-false _ _ ((or_parts many deeper ((or_parts (many || deeper) paired rest).0)).1) in
    record {
      levels = omega (arith, deep, low);
      fields = rw listed (omega (arith, length-map (every_field s) column_of_field, few));
      pairs = rw listed (omega (arith, count_pairs (every_field s), pairs));
      bytes = rw listed (omega (arith, count_bytes (every_field s) a.decoded, pairs_bytes s.pairs, sum_by-append length (texts_of_pairs s.pairs) (flat_map texts_of_field (every_field s)), bytes));
      numbers = rw listed (AllPass-from_list_all limits.has_number_in_range _ (numbers_fit (every_field s) a.decoded));
      dictionaries = rw listed (AllPass-from_list_all limits.has_flat_dictionary _ (dictionaries_fit (every_field s) a.decoded a.flat));
      widths = rw listed (AllPass-from_list_all limits.has_bit_widths _ (widths_fit (every_field s) a.decoded));
      texts = rw listed (AllPass-from_list_all limits.has_utf8_texts _ (texts_fit (every_field s) a.decoded utf8.1));
      own_texts = AllPass-from_list_all is_utf8 _ utf8.0;
    }

pub accepted_readable : (s : RawSchema) → IsAccepted s → AreReadable (preorder_all (raw_fields_of s.fields))
accepted_readable s a = record { decoded = a.decoded; utf8 = (and_parts _ _ (sym (list_all-append is_utf8 (texts_of_pairs s.pairs) _) ∙ a.utf8)).1 }

pub accepted_pairs : (s : RawSchema) → IsAccepted s → list_all is_utf8 (texts_of_pairs s.pairs) ≡ true
accepted_pairs s a = (and_parts _ _ (sym (list_all-append is_utf8 (texts_of_pairs s.pairs) _) ∙ a.utf8)).0

-- and so is the one that a schema that passes its checks decodes to
pub checked_within : (supported : ℕ → Bool) (raw : RawSchema) (s : PlainSchema) → checked_schema supported raw ≡ Ok s → IsWithinLimits s
unfolding checked_schema
checked_within supported raw s h =
    let passed = unless_passed (first_some (schema_checks supported raw)) (Ok (plain_schema_of raw)) s h in
    let is : plain_schema_of raw ≡ s = cc (passed.1) in
    subst IsWithinLimits is (accepted_within raw (accepted supported raw passed.0))
