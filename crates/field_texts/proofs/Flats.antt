-- The openings of types, there and back.
use Rattle.std.proofs.Common.{◌≡◌, ℕ, Bool, true, false, List, [], ◌∷◌, ◌++◌, refl, sym, ap, ◌∙◌, subst}
use Rattle.std.specs.Prelude.{None, Some, option_map, IfSome, codes}
use Rattle.std.specs.List.{list_all}
use Rattle.std.specs.Option.{option_and_then}
use Rattle.std.proofs.lemmas.List.{append_assoc}
use Rattle.arrow_schema.specs.declared.types.BitWidth.{BitWidth}
use Rattle.arrow_schema.specs.declared.types.DateUnit.TheVariants as date_units
use Rattle.arrow_schema.specs.declared.types.TimeUnit.{TimeUnit}
use Rattle.arrow_schema.specs.declared.types.TimeUnit.TheVariants as time_units
use Rattle.field_texts.specs.declared.keyword.Keyword.{Keyword}
use Rattle.field_texts.specs.declared.keyword.Keyword.TheVariants as keywords
use Rattle.arrow_schema.specs.Column.{Index, days, date_milliseconds, seconds, milliseconds, microseconds, nanoseconds, Kind, nulls, booleans, integers, dates, timestamps, texts, large_texts, binaries, large_binaries, fixed_binaries, lists, large_lists, fixed_lists, structs, is_bit_width}
use Rattle.arrow_schema.specs.View.{bits_of, date_kind, time_kind}
use Rattle.arrow_schema.specs.Limits.{is_nested}
use Rattle.field_texts.specs.Keywords.{number_text, integer_text, time_text, keyword_text}
use Rattle.field_texts.specs.FieldText.{plain, timezone_text, dictionary_text, with_dictionary, type_text}
use Rattle.arrow_schema.specs.laws.Widths.{is_bit_width-bits_of, width_of}
use Rattle.field_texts.specs.Typed.{IsSize, IsTypedDictionary, IsTypedKind, is_timezone_byte}
use Rattle.field_texts.specs.inner.Scan.{stripped, keyword_at, capped_number, size_at, timezone_at, flat_at, Opening, flat, list, large_list, fixed_list, struct, index_in, values_at, dictionary_at, opening_after, opening_at}
use Rattle.field_texts.proofs.Options.{some_map, some_then}
use Rattle.field_texts.proofs.KeywordLemmas.{keyword_again, keyword_read, stripped_read}
use Rattle.field_texts.proofs.Openings.{size_again, size_read, timezone_again, IsTimezoneText, timezone_read}

pub three : (a b c d : List ℕ) → a ++ b ++ c ++ d ≡ a ++ (b ++ (c ++ d))
three a b c d = append_assoc (a ++ b) c d ∙ append_assoc a b (c ++ d)

-- the code keeps numbers of 32 bits
abbrev pub within_kind : Kind → Kind
within_kind (fixed_binaries n) = fixed_binaries (capped_number n)
within_kind k = k

-- a type without parts begins with its keyword
abbrev pub FlatStarts : Bool → Kind → List ℕ → Type 0
FlatStarts limited k rest = (keyword : Keyword) × (after : List ℕ) × (type_text plain k ++ rest ≡ keyword_text keyword ++ after) × (flat_at limited keyword after ≡ Some (within_kind k, rest))

time_starts : (limited : Bool) (unit : TimeUnit) (timezone rest : List ℕ) → list_all is_timezone_byte timezone ≡ true → stripped (codes "(") rest ≡ None → FlatStarts limited (timestamps (time_kind unit) timezone) rest
unfolding type_text flat_at keyword_text
time_starts limited unit timezone rest all none = (keywords.Timestamp unit, timezone_text plain timezone ++ rest, append_assoc (time_text (time_kind unit)) (timezone_text plain timezone) rest, rw (timezone_again timezone rest all none) refl)

pub flat_starts : (limited : Bool) (k : Kind) (rest : List ℕ) → IsTypedKind limited k → is_nested k ≡ false → stripped (codes "(") rest ≡ None → FlatStarts limited k rest
unfolding IsTypedKind type_text flat_at keyword_text
flat_starts limited nulls rest h e none = (keywords.Null, rest, refl, refl)
flat_starts limited booleans rest h e none = (keywords.Bool, rest, refl, refl)
flat_starts limited (integers bits signed) rest h e none =
    let w = width_of bits h in
    (keywords.Int (record { width = w.0; signed = signed }), rest, ap (λ b. integer_text b signed ++ rest) w.1, ap (λ b. Some (integers b signed, rest)) (sym w.1))
flat_starts limited (dates days) rest h e none = (keywords.Date date_units.Day, rest, refl, refl)
flat_starts limited (dates date_milliseconds) rest h e none = (keywords.Date date_units.Millisecond, rest, refl, refl)
flat_starts limited (timestamps seconds timezone) rest h e none = time_starts limited time_units.Second timezone rest h none
flat_starts limited (timestamps milliseconds timezone) rest h e none = time_starts limited time_units.Millisecond timezone rest h none
flat_starts limited (timestamps microseconds timezone) rest h e none = time_starts limited time_units.Microsecond timezone rest h none
flat_starts limited (timestamps nanoseconds timezone) rest h e none = time_starts limited time_units.Nanosecond timezone rest h none
flat_starts limited texts rest h e none = (keywords.Utf8, rest, refl, refl)
flat_starts limited large_texts rest h e none = (keywords.LargeUtf8, rest, refl, refl)
flat_starts limited binaries rest h e none = (keywords.Binary, rest, refl, refl)
flat_starts limited large_binaries rest h e none = (keywords.LargeBinary, rest, refl, refl)
flat_starts limited (fixed_binaries n) rest h e none =
    (keywords.FixedBinary, number_text n ++ 41 ∷ rest, three (keyword_text keywords.FixedBinary) (number_text n) (41 ∷ []) rest, rw (size_again limited 41 n rest refl h) refl)
flat_starts limited (lists item) rest h e none = cc
flat_starts limited (large_lists item) rest h e none = cc
flat_starts limited (fixed_lists size item) rest h e none = cc
flat_starts limited (structs parts) rest h e none = cc

abbrev pub IsFlatText : Bool → List ℕ → Kind × List ℕ → Type 0
IsFlatText limited text p = (k : Kind) × IsTypedKind limited k × (is_nested k ≡ false) × (text ≡ type_text plain k ++ p.1)

pub flat_read : (limited : Bool) (keyword : Keyword) (text : List ℕ) → IfSome (flat_at limited keyword text) (IsFlatText limited (keyword_text keyword ++ text))
unfolding IsTypedKind type_text flat_at keyword_text
flat_read limited keywords.Null text = (nulls, tt, refl, refl)
flat_read limited keywords.Bool text = (booleans, tt, refl, refl)
flat_read limited (keywords.Int i) text = (integers (bits_of i.width) i.signed, is_bit_width-bits_of i.width, refl, refl)
flat_read limited (keywords.Date unit) text = (dates (date_kind unit), tt, refl, refl)
flat_read limited (keywords.Timestamp unit) text =
    some_map (λ p. (timestamps (time_kind unit) p.0, p.1)) (timezone_at text) (IsTimezoneText text) (IsFlatText limited (keyword_text (keywords.Timestamp unit) ++ text)) (timezone_read text)
    (λ p h. (timestamps (time_kind unit) p.0, h.0, refl, ap (λ (ys : List ℕ). time_text (time_kind unit) ++ ys) h.1 ∙ sym (append_assoc (time_text (time_kind unit)) (timezone_text plain p.0) p.1)))
flat_read limited keywords.Utf8 text = (texts, tt, refl, refl)
flat_read limited keywords.LargeUtf8 text = (large_texts, tt, refl, refl)
flat_read limited keywords.Binary text = (binaries, tt, refl, refl)
flat_read limited keywords.LargeBinary text = (large_binaries, tt, refl, refl)
flat_read limited keywords.FixedBinary text =
    some_map (λ p. (fixed_binaries p.0, p.1)) (size_at limited 41 text) (λ p. (n : ℕ) × IsSize limited n × (text ≡ number_text n ++ 41 ∷ p.1)) (IsFlatText limited (keyword_text keywords.FixedBinary ++ text)) (size_read limited 41 text)
    (λ p h. (fixed_binaries h.0, h.1, refl, ap (λ (ys : List ℕ). keyword_text keywords.FixedBinary ++ ys) h.2 ∙ sym (three (keyword_text keywords.FixedBinary) (number_text h.0) (41 ∷ []) p.1)))
flat_read limited keywords.List text = tt
flat_read limited keywords.LargeList text = tt
flat_read limited keywords.FixedList text = tt
flat_read limited keywords.Struct text = tt
flat_read limited keywords.Dictionary text = tt

-- an opening, and what follows it
abbrev pub IsOpeningText : Bool → List ℕ → Opening → List ℕ → Type 0
IsOpeningText limited text (flat kind index) rest = (k : Kind) × IsTypedKind limited k × IsTypedDictionary index k × (is_nested k ≡ false) × (text ≡ with_dictionary index (type_text plain k) ++ rest)
IsOpeningText limited text list rest = text ≡ keyword_text keywords.List ++ rest
IsOpeningText limited text large_list rest = text ≡ keyword_text keywords.LargeList ++ rest
IsOpeningText limited text (fixed_list size) rest = (n : ℕ) × IsSize limited n × (text ≡ keyword_text keywords.FixedList ++ number_text n ++ 44 ∷ rest)
IsOpeningText limited text struct rest = text ≡ keyword_text keywords.Struct ++ rest

abbrev pub IsOpening : Bool → List ℕ → Opening × List ℕ → Type 0
IsOpening limited text p = IsOpeningText limited text p.0 p.1

values_read : (limited : Bool) (index : Index) (text : List ℕ) → is_bit_width index.bits ≡ true → IfSome (values_at limited index text) (IsOpening limited (dictionary_text index ++ text))
unfolding values_at
values_read limited index text bits =
    some_then _ (keyword_at text) (λ q. text ≡ keyword_text q.0 ++ q.1) (IsOpening limited (dictionary_text index ++ text)) (keyword_read text) (λ q e.
    some_then (λ v. option_map (λ rest. (flat v.0 (Some index), rest)) (stripped (codes ">") v.1)) (flat_at limited q.0 q.1) (IsFlatText limited (keyword_text q.0 ++ q.1)) (IsOpening limited (dictionary_text index ++ text)) (flat_read limited q.0 q.1) (λ v f.
    some_map (λ rest. (flat v.0 (Some index), rest)) (stripped (codes ">") v.1) (λ rest. v.1 ≡ 62 ∷ rest) (IsOpening limited (dictionary_text index ++ text)) (stripped_read (codes ">") v.1) (λ rest g.
    (f.0, f.1, (bits, f.2), f.2, ap (λ (ys : List ℕ). dictionary_text index ++ ys) (e ∙ f.3 ∙ ap (λ (ys : List ℕ). type_text plain f.0 ++ ys) g) ∙ sym (three (dictionary_text index) (type_text plain f.0) (62 ∷ []) rest)))))

abbrev IsIndexKeyword : Keyword → Index → Type 0
IsIndexKeyword keyword index = (is_bit_width index.bits ≡ true) × (keyword_text keyword ≡ integer_text index.bits index.signed)

index_read : (keyword : Keyword) → IfSome (index_in keyword) (IsIndexKeyword keyword)
unfolding keyword_text
index_read (keywords.Int i) = (is_bit_width-bits_of i.width, refl)
index_read keywords.Null = tt
index_read keywords.Bool = tt
index_read (keywords.Date unit) = tt
index_read (keywords.Timestamp unit) = tt
index_read keywords.Utf8 = tt
index_read keywords.LargeUtf8 = tt
index_read keywords.Binary = tt
index_read keywords.LargeBinary = tt
index_read keywords.FixedBinary = tt
index_read keywords.List = tt
index_read keywords.LargeList = tt
index_read keywords.FixedList = tt
index_read keywords.Struct = tt
index_read keywords.Dictionary = tt

dictionary_read : (limited : Bool) (text : List ℕ) → IfSome (dictionary_at limited text) (IsOpening limited (keyword_text keywords.Dictionary ++ text))
unfolding dictionary_at
dictionary_read limited text =
    some_then _ (keyword_at text) (λ p. text ≡ keyword_text p.0 ++ p.1) (IsOpening limited (keyword_text keywords.Dictionary ++ text)) (keyword_read text) (λ p e.
    some_then (λ index. option_and_then (values_at limited index) (stripped (codes ",") p.1)) (index_in p.0) (IsIndexKeyword p.0) (IsOpening limited (keyword_text keywords.Dictionary ++ text)) (index_read p.0) (λ index b.
    some_then (values_at limited index) (stripped (codes ",") p.1) (λ after. p.1 ≡ 44 ∷ after) (IsOpening limited (keyword_text keywords.Dictionary ++ text)) (stripped_read (codes ",") p.1) (λ after g.
    subst (λ (t : List ℕ). IfSome (values_at limited index after) (IsOpening limited t))
    (three (keyword_text keywords.Dictionary) (integer_text index.bits index.signed) (44 ∷ []) after ∙ ap (λ (ys : List ℕ). keyword_text keywords.Dictionary ++ ys) (sym (e ∙ (λ k. b.1 k ++ g k))))
    (values_read limited index after b.0))))

after_flat : (limited : Bool) (keyword : Keyword) (text : List ℕ) → IfSome (option_map (λ p. (flat p.0 None, p.1)) (flat_at limited keyword text)) (IsOpening limited (keyword_text keyword ++ text))
after_flat limited keyword text =
    some_map (λ p. (flat p.0 None, p.1)) (flat_at limited keyword text) (IsFlatText limited (keyword_text keyword ++ text)) (IsOpening limited (keyword_text keyword ++ text)) (flat_read limited keyword text) (λ p h. (h.0, h.1, tt, h.2, h.3))

after_read : (limited : Bool) (keyword : Keyword) (text : List ℕ) → IfSome (opening_after limited keyword text) (IsOpening limited (keyword_text keyword ++ text))
unfolding opening_after
after_read limited keywords.List text = refl
after_read limited keywords.LargeList text = refl
after_read limited keywords.FixedList text =
    some_map (λ p. (fixed_list p.0, p.1)) (size_at limited 44 text) (λ p. (n : ℕ) × IsSize limited n × (text ≡ number_text n ++ 44 ∷ p.1)) (IsOpening limited (keyword_text keywords.FixedList ++ text)) (size_read limited 44 text)
    (λ p h. (h.0, h.1, ap (λ (ys : List ℕ). keyword_text keywords.FixedList ++ ys) h.2 ∙ sym (append_assoc (keyword_text keywords.FixedList) (number_text h.0) (44 ∷ p.1))))
after_read limited keywords.Struct text = refl
after_read limited keywords.Dictionary text = dictionary_read limited text
after_read limited keywords.Null text = after_flat limited keywords.Null text
after_read limited keywords.Bool text = after_flat limited keywords.Bool text
after_read limited (keywords.Int i) text = after_flat limited (keywords.Int i) text
after_read limited (keywords.Date unit) text = after_flat limited (keywords.Date unit) text
after_read limited (keywords.Timestamp unit) text = after_flat limited (keywords.Timestamp unit) text
after_read limited keywords.Utf8 text = after_flat limited keywords.Utf8 text
after_read limited keywords.LargeUtf8 text = after_flat limited keywords.LargeUtf8 text
after_read limited keywords.Binary text = after_flat limited keywords.Binary text
after_read limited keywords.LargeBinary text = after_flat limited keywords.LargeBinary text
after_read limited keywords.FixedBinary text = after_flat limited keywords.FixedBinary text

pub opening_read : (limited : Bool) (text : List ℕ) → IfSome (opening_at limited text) (IsOpening limited text)
unfolding opening_at
opening_read limited text =
    some_then (λ p. opening_after limited p.0 p.1) (keyword_at text) (λ p. text ≡ keyword_text p.0 ++ p.1) (IsOpening limited text) (keyword_read text)
    (λ p h. subst (λ (t : List ℕ). IfSome (opening_after limited p.0 p.1) (IsOpening limited t)) (sym h) (after_read limited p.0 p.1))

-- and back: what is written is read
opening_flat : (limited : Bool) (keyword : Keyword) (after : List ℕ) (k : Kind) (rest : List ℕ) → flat_at limited keyword after ≡ Some (k, rest) → opening_after limited keyword after ≡ Some (flat k None, rest)
unfolding opening_after flat_at
opening_flat limited keywords.Null after k rest e = ap (option_map (λ p. (flat p.0 None, p.1))) e
opening_flat limited keywords.Bool after k rest e = ap (option_map (λ p. (flat p.0 None, p.1))) e
opening_flat limited (keywords.Int i) after k rest e = ap (option_map (λ p. (flat p.0 None, p.1))) e
opening_flat limited (keywords.Date unit) after k rest e = ap (option_map (λ p. (flat p.0 None, p.1))) e
opening_flat limited (keywords.Timestamp unit) after k rest e = ap (option_map (λ p. (flat p.0 None, p.1))) e
opening_flat limited keywords.Utf8 after k rest e = ap (option_map (λ p. (flat p.0 None, p.1))) e
opening_flat limited keywords.LargeUtf8 after k rest e = ap (option_map (λ p. (flat p.0 None, p.1))) e
opening_flat limited keywords.Binary after k rest e = ap (option_map (λ p. (flat p.0 None, p.1))) e
opening_flat limited keywords.LargeBinary after k rest e = ap (option_map (λ p. (flat p.0 None, p.1))) e
opening_flat limited keywords.FixedBinary after k rest e = ap (option_map (λ p. (flat p.0 None, p.1))) e
opening_flat limited keywords.List after k rest e = cc
opening_flat limited keywords.LargeList after k rest e = cc
opening_flat limited keywords.FixedList after k rest e = cc
opening_flat limited keywords.Struct after k rest e = cc
opening_flat limited keywords.Dictionary after k rest e = cc

keyword_opening : (limited : Bool) (keyword : Keyword) (after : List ℕ) → opening_at limited (keyword_text keyword ++ after) ≡ opening_after limited keyword after
unfolding opening_at
keyword_opening limited keyword after = rw (keyword_again keyword after) refl

pub flat_opening : (limited : Bool) (k : Kind) (rest : List ℕ) → IsTypedKind limited k → is_nested k ≡ false → stripped (codes "(") rest ≡ None
    → opening_at limited (type_text plain k ++ rest) ≡ Some (flat (within_kind k) None, rest)
flat_opening limited k rest typed e none =
    let s : FlatStarts limited k rest = flat_starts limited k rest typed e none in
    ap (opening_at limited) s.2 ∙ keyword_opening limited s.0 s.1 ∙ opening_flat limited s.0 s.1 (within_kind k) rest s.3

values_again : (limited : Bool) (index : Index) (k : Kind) (rest : List ℕ) → FlatStarts limited k (62 ∷ rest) → values_at limited index (type_text plain k ++ 62 ∷ rest) ≡ Some (flat (within_kind k) (Some index), rest)
unfolding values_at stripped
values_again limited index k rest s = ap (values_at limited index) s.2 ∙ rw (keyword_again s.0 s.1, s.3) refl

dictionary_again : (limited : Bool) (width : BitWidth) (signed : Bool) (after : List ℕ)
    → dictionary_at limited (integer_text (bits_of width) signed ++ 44 ∷ after) ≡ values_at limited (record { bits = bits_of width; signed = signed }) after
unfolding dictionary_at stripped keyword_text
dictionary_again limited width signed after = rw (keyword_again (keywords.Int (record { width = width; signed = signed })) (44 ∷ after)) refl

pub dictionary_opening : (limited : Bool) (width : BitWidth) (signed : Bool) (k : Kind) (rest : List ℕ) → IsTypedKind limited k → is_nested k ≡ false
    → opening_at limited (with_dictionary (Some (record { bits = bits_of width; signed = signed })) (type_text plain k) ++ rest) ≡ Some (flat (within_kind k) (Some (record { bits = bits_of width; signed = signed })), rest)
unfolding opening_after stripped
dictionary_opening limited width signed k rest typed e =
    let index : Index = record { bits = bits_of width; signed = signed } in
    let grouped : with_dictionary (Some index) (type_text plain k) ++ rest ≡ keyword_text keywords.Dictionary ++ (integer_text (bits_of width) signed ++ 44 ∷ (type_text plain k ++ 62 ∷ rest))
    = three (dictionary_text index) (type_text plain k) (62 ∷ []) rest ∙ three (keyword_text keywords.Dictionary) (integer_text (bits_of width) signed) (44 ∷ []) (type_text plain k ++ 62 ∷ rest) in
    ap (opening_at limited) grouped ∙ keyword_opening limited keywords.Dictionary _ ∙ dictionary_again limited width signed _ ∙ values_again limited index k rest (flat_starts limited k (62 ∷ rest) typed e refl)

pub list_opening : (limited : Bool) (after : List ℕ) → opening_at limited (keyword_text keywords.List ++ after) ≡ Some (list, after)
unfolding opening_after
list_opening limited after = keyword_opening limited keywords.List after

pub large_list_opening : (limited : Bool) (after : List ℕ) → opening_at limited (keyword_text keywords.LargeList ++ after) ≡ Some (large_list, after)
unfolding opening_after
large_list_opening limited after = keyword_opening limited keywords.LargeList after

pub struct_opening : (limited : Bool) (after : List ℕ) → opening_at limited (keyword_text keywords.Struct ++ after) ≡ Some (struct, after)
unfolding opening_after
struct_opening limited after = keyword_opening limited keywords.Struct after

pub fixed_list_opening : (limited : Bool) (n : ℕ) (after : List ℕ) → IsSize limited n → opening_at limited (keyword_text keywords.FixedList ++ (number_text n ++ 44 ∷ after)) ≡ Some (fixed_list (capped_number n), after)
unfolding opening_after
fixed_list_opening limited n after small = keyword_opening limited keywords.FixedList (number_text n ++ 44 ∷ after) ∙ rw (size_again limited 44 n after refl small) refl
