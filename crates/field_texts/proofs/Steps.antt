-- Each step of the test of a field text keeps what may follow.
use Rattle.std.proofs.Common.{◌≡◌, ℕ, Bool, true, false, List, [], ◌∷◌, ◌++◌, refl, sym, ap, ◌∙◌, subst}
use Rattle.std.specs.Prelude.{Option, None, Some, IfSome, codes}
use Rattle.std.proofs.lemmas.List.{append_assoc}
use Rattle.std.proofs.lemmas.Bool.{both_ways}
use Rattle.field_texts.specs.declared.keyword.Keyword.TheVariants as keywords
use Rattle.field_texts.specs.declared.grammar.Enclosure.{Enclosure}
use Rattle.field_texts.specs.declared.grammar.Enclosure.TheVariants as enclosures
use Rattle.arrow_schema.specs.Column.{Index, Kind, nulls, booleans, integers, dates, timestamps, texts, large_texts, binaries, large_binaries, fixed_binaries, lists, large_lists, fixed_lists, structs, Column, Columns, column, no_column, and_column}
use Rattle.arrow_schema.specs.Limits.{is_nested}
use Rattle.field_texts.specs.Keywords.{number_text, keyword_text}
use Rattle.field_texts.specs.FieldText.{plain, nullable_suffix, with_dictionary, type_text, item_text, field_text, fields_text, more_text}
use Rattle.arrow_schema.specs.laws.Widths.{width_of}
use Rattle.field_texts.specs.Typed.{is_name, IsTypedDictionary, IsTypedKind, IsTypedItem, IsTypedField, AreTyped}
use Rattle.field_texts.specs.inner.Scan.{stripped, capped_number, Opening, flat, list, large_list, fixed_list, struct, opening_at, has_nullable_suffix, after_nullable_suffix}
use Rattle.field_texts.specs.inner.Standing.{Closes}
use Rattle.field_texts.proofs.KeywordLemmas.{stripped_read}
use Rattle.field_texts.proofs.Flats.{three, within_kind, IsOpeningText, flat_opening, dictionary_opening, list_opening, large_list_opening, fixed_list_opening, struct_opening}

pub four : (a b c d e : List ℕ) → a ++ b ++ c ++ d ++ e ≡ a ++ (b ++ (c ++ (d ++ e)))
four a b c d e = append_assoc (a ++ b ++ c) d e ∙ three a b c (d ++ e)

-- marks
pub record Stops (rest : List ℕ) : Type 0 where
  pub nullable_suffix : stripped (codes "?") rest ≡ None
  pub timezone : stripped (codes "(") rest ≡ None

pub without_suffix : (m : Bool) (rest : List ℕ) → Stops rest → after_nullable_suffix (nullable_suffix m ++ rest) ≡ rest
unfolding stripped
without_suffix true rest s = refl
without_suffix false rest s = rw s.nullable_suffix refl

pub with_suffix : (m : Bool) (rest : List ℕ) → Stops rest → has_nullable_suffix (nullable_suffix m ++ rest) ≡ m
unfolding stripped
with_suffix true rest s = refl
with_suffix false rest s = rw s.nullable_suffix refl

no_timezone : (m : Bool) (rest : List ℕ) → Stops rest → stripped (codes "(") (nullable_suffix m ++ rest) ≡ None
unfolding stripped
no_timezone true rest s = refl
no_timezone false rest s = s.timezone

nullable_suffix_of : (text : List ℕ) (o : Option (List ℕ)) → stripped (codes "?") text ≡ o → IfSome o (λ rest. text ≡ 63 ∷ rest) → text ≡ nullable_suffix (has_nullable_suffix text) ++ after_nullable_suffix text
nullable_suffix_of text None e h = rw e refl
nullable_suffix_of text (Some rest) e h = rw e h

pub suffix_split : (text : List ℕ) → text ≡ nullable_suffix (has_nullable_suffix text) ++ after_nullable_suffix text
suffix_split text = nullable_suffix_of text (stripped (codes "?") text) refl (stripped_read (codes "?") text)

-- what closes stops
pub stops_at_end : (text : List ℕ) → text ≡ [] → Stops text
unfolding stripped
stops_at_end text e = rw e (record { nullable_suffix = refl; timezone = refl })

pub stops_at : (text rest : List ℕ) → text ≡ 62 ∷ rest → Stops text
unfolding stripped
stops_at text rest e = rw e (record { nullable_suffix = refl; timezone = refl })

pub stops_at_parenthesis : (text rest : List ℕ) → text ≡ 41 ∷ rest → Stops text
unfolding stripped
stops_at_parenthesis text rest e = rw e (record { nullable_suffix = refl; timezone = refl })

stops_at_comma : (text rest : List ℕ) → text ≡ 44 ∷ rest → Stops text
unfolding stripped
stops_at_comma text rest e = rw e (record { nullable_suffix = refl; timezone = refl })

-- what is left of the fields of a struct begins with its bracket or a comma
pub more_stops : (cs : Columns) (text rest : List ℕ) → text ≡ more_text plain cs ++ codes ">" ++ rest → Stops text
unfolding more_text
more_stops no_column text rest e = stops_at text rest e
more_stops (and_column c cs) text rest e = stops_at_comma text (field_text plain c ++ more_text plain cs ++ codes ">" ++ rest) e

pub closes_stop : (limited : Bool) (around : List Enclosure) (text : List ℕ) → Closes limited around text → Stops text
unfolding Closes
closes_stop limited [] text h = stops_at_end text h
closes_stop limited (enclosures.List ∷ others) text h = stops_at text (nullable_suffix h.nullable ++ h.rest) (h.text_is ∙ ap (λ (i : List ℕ). i ++ codes ">" ++ nullable_suffix h.nullable ++ h.rest) h.is_inside)
closes_stop limited (enclosures.FixedList ∷ others) text h = stops_at_parenthesis text (nullable_suffix h.nullable ++ h.rest) (h.text_is ∙ ap (λ (i : List ℕ). i ++ codes ")" ++ nullable_suffix h.nullable ++ h.rest) h.is_inside)
closes_stop limited (enclosures.Struct ∷ others) text h =
    more_stops h.is_inside.0 text (nullable_suffix h.nullable ++ h.rest) (h.text_is ∙ ap (λ (i : List ℕ). i ++ codes ">" ++ nullable_suffix h.nullable ++ h.rest) h.is_inside.2 ∙ append_assoc (more_text plain h.is_inside.0 ++ codes ">") (nullable_suffix h.nullable) h.rest)

-- a column under another name
abbrev pub renamed : List ℕ → Column → Column
renamed name (column old nullable kind dictionary pairs) = column name nullable kind dictionary pairs

pub item_from_field : (limited : Bool) (c : Column) → IsTypedField limited c → IsTypedItem limited (renamed (codes "item") c)
unfolding IsTypedItem
item_from_field limited (column name nullable kind dictionary pairs) h = (refl, h.1, h.2, h.3)

pub field_from_item : (limited : Bool) (name : List ℕ) (c : Column) → is_name name ≡ true → IsTypedItem limited c → IsTypedField limited (renamed name c)
unfolding IsTypedItem
field_from_item limited name (column old nullable kind dictionary pairs) e h = (e, h.1, h.2, h.3)

abbrev pub name_of : Column → List ℕ
name_of (column name nullable kind dictionary pairs) = name

pub field_name : (limited : Bool) (c : Column) → IsTypedField limited c → is_name (name_of c) ≡ true
unfolding IsTypedItem
field_name limited (column name nullable kind dictionary pairs) h = h.0

pub field_is : (c : Column) (rest : List ℕ) → field_text plain c ++ rest ≡ name_of c ++ 58 ∷ (item_text plain (renamed (codes "item") c) ++ rest)
unfolding field_text item_text
field_is (column name nullable kind dictionary pairs) rest =
    four name (58 ∷ []) (with_dictionary dictionary (type_text plain kind)) (nullable_suffix nullable) rest ∙ ap (λ (ys : List ℕ). name ++ 58 ∷ ys) (sym (append_assoc (with_dictionary dictionary (type_text plain kind)) (nullable_suffix nullable) rest))

pub renamed_is : (name : List ℕ) (c : Column) (rest : List ℕ) → field_text plain (renamed name c) ++ rest ≡ name ++ 58 ∷ (item_text plain c ++ rest)
unfolding field_text item_text
renamed_is name (column old nullable kind dictionary pairs) rest =
    four name (58 ∷ []) (with_dictionary dictionary (type_text plain kind)) (nullable_suffix nullable) rest ∙ ap (λ (ys : List ℕ). name ++ 58 ∷ ys) (sym (append_assoc (with_dictionary dictionary (type_text plain kind)) (nullable_suffix nullable) rest))

-- after the opening of a type
abbrev pub Inside : Bool → Opening → List ℕ → List ℕ → Type 0
Inside limited (flat kind index) after rest = (m : Bool) × (after ≡ nullable_suffix m ++ rest)
Inside limited list after rest = (item : Column) × (m : Bool) × IsTypedItem limited item × (after ≡ item_text plain item ++ 62 ∷ (nullable_suffix m ++ rest))
Inside limited large_list after rest = (item : Column) × (m : Bool) × IsTypedItem limited item × (after ≡ item_text plain item ++ 62 ∷ (nullable_suffix m ++ rest))
Inside limited (fixed_list size) after rest = (item : Column) × (m : Bool) × IsTypedItem limited item × (after ≡ item_text plain item ++ 41 ∷ (nullable_suffix m ++ rest))
Inside limited struct after rest = (parts : Columns) × (m : Bool) × AreTyped limited parts × (after ≡ fields_text plain parts ++ 62 ∷ (nullable_suffix m ++ rest))

pub record Item (limited : Bool) (text rest : List ℕ) : Type 0 where
  pub item : Column
  pub typed : IsTypedItem limited item
  pub text_is : text ≡ item_text plain item ++ rest

pub joined : (limited : Bool) (f : Opening) (text after rest : List ℕ) → IsOpeningText limited text f after → Inside limited f after rest → Item limited text rest
unfolding IsTypedItem item_text type_text
joined limited (flat kind index) text after rest h i = record {
  item = column (codes "item") i.0 h.0 index [];
  typed = (refl, refl, h.2, h.1);
  text_is = h.4 ∙ ap (λ (ys : List ℕ). with_dictionary index (type_text plain h.0) ++ ys) i.1 ∙ sym (append_assoc (with_dictionary index (type_text plain h.0)) (nullable_suffix i.0) rest);
}
joined limited list text after rest h i = record {
  item = column (codes "item") i.1 (lists i.0) None [];
  typed = (refl, refl, tt, i.2);
  text_is = h ∙ ap (λ (ys : List ℕ). keyword_text keywords.List ++ ys) i.3 ∙ sym (four (keyword_text keywords.List) (item_text plain i.0) (62 ∷ []) (nullable_suffix i.1) rest);
}
joined limited large_list text after rest h i = record {
  item = column (codes "item") i.1 (large_lists i.0) None [];
  typed = (refl, refl, tt, i.2);
  text_is = h ∙ ap (λ (ys : List ℕ). keyword_text keywords.LargeList ++ ys) i.3 ∙ sym (four (keyword_text keywords.LargeList) (item_text plain i.0) (62 ∷ []) (nullable_suffix i.1) rest);
}
joined limited (fixed_list size) text after rest h i = record {
  item = column (codes "item") i.1 (fixed_lists h.0 i.0) None [];
  typed = (refl, refl, tt, (h.1, i.2));
  text_is = h.2 ∙ ap (λ (ys : List ℕ). keyword_text keywords.FixedList ++ number_text h.0 ++ 44 ∷ ys) i.3
      ∙ sym (four (keyword_text keywords.FixedList ++ number_text h.0 ++ codes ",") (item_text plain i.0) (41 ∷ []) (nullable_suffix i.1) rest
      ∙ append_assoc (keyword_text keywords.FixedList ++ number_text h.0) (44 ∷ []) (item_text plain i.0 ++ 41 ∷ (nullable_suffix i.1 ++ rest)));
}
joined limited struct text after rest h i = record {
  item = column (codes "item") i.1 (structs i.0) None [];
  typed = (refl, refl, tt, i.2);
  text_is = h ∙ ap (λ (ys : List ℕ). keyword_text keywords.Struct ++ ys) i.3 ∙ sym (four (keyword_text keywords.Struct) (fields_text plain i.0) (62 ∷ []) (nullable_suffix i.1) rest);
}

-- how an item begins
pub record Starts (limited : Bool) (text rest : List ℕ) : Type 0 where
  pub opening : Opening
  pub after : List ℕ
  pub read : opening_at limited text ≡ Some (opening, after)
  pub inside : Inside limited opening after rest

pub flat_read : (limited m : Bool) (k : Kind) (d : Option Index) (rest : List ℕ) → IsTypedKind limited k → is_nested k ≡ false → IsTypedDictionary d k → Stops rest
    → opening_at limited (with_dictionary d (type_text plain k) ++ nullable_suffix m ++ rest) ≡ Some (flat (within_kind k) d, nullable_suffix m ++ rest)
flat_read limited m k None rest typed e d s = ap (opening_at limited) (append_assoc (type_text plain k) (nullable_suffix m) rest) ∙ flat_opening limited k (nullable_suffix m ++ rest) typed e (no_timezone m rest s)
flat_read limited m k (Some index) rest typed e d s =
    let w = width_of index.bits d.0 in
    ap (opening_at limited) (append_assoc (with_dictionary (Some index) (type_text plain k)) (nullable_suffix m) rest)
    ∙ subst (λ bits. opening_at limited (with_dictionary (Some (record { bits = bits; signed = index.signed })) (type_text plain k) ++ (nullable_suffix m ++ rest)) ≡ Some (flat (within_kind k) (Some (record { bits = bits; signed = index.signed })), nullable_suffix m ++ rest))
    (sym w.1) (dictionary_opening limited w.0 index.signed k (nullable_suffix m ++ rest) typed e)

flat_item : (limited m : Bool) (k : Kind) (d : Option Index) (rest : List ℕ) → IsTypedKind limited k → is_nested k ≡ false → IsTypedDictionary d k → Stops rest
    → Starts limited (with_dictionary d (type_text plain k) ++ nullable_suffix m ++ rest) rest
flat_item limited m k d rest typed e dict s = record { opening = flat (within_kind k) d; after = nullable_suffix m ++ rest; read = flat_read limited m k d rest typed e dict s; inside = (m, refl) }

pub item_starts : (limited : Bool) (c : Column) (rest : List ℕ) → IsTypedItem limited c → Stops rest → Starts limited (item_text plain c ++ rest) rest
unfolding IsTypedItem item_text type_text
item_starts limited (column name m nulls d pairs) rest h s = flat_item limited m nulls d rest h.3 refl h.2 s
item_starts limited (column name m booleans d pairs) rest h s = flat_item limited m booleans d rest h.3 refl h.2 s
item_starts limited (column name m (integers bits signed) d pairs) rest h s = flat_item limited m (integers bits signed) d rest h.3 refl h.2 s
item_starts limited (column name m (dates unit) d pairs) rest h s = flat_item limited m (dates unit) d rest h.3 refl h.2 s
item_starts limited (column name m (timestamps unit timezone) d pairs) rest h s = flat_item limited m (timestamps unit timezone) d rest h.3 refl h.2 s
item_starts limited (column name m texts d pairs) rest h s = flat_item limited m texts d rest h.3 refl h.2 s
item_starts limited (column name m large_texts d pairs) rest h s = flat_item limited m large_texts d rest h.3 refl h.2 s
item_starts limited (column name m binaries d pairs) rest h s = flat_item limited m binaries d rest h.3 refl h.2 s
item_starts limited (column name m large_binaries d pairs) rest h s = flat_item limited m large_binaries d rest h.3 refl h.2 s
item_starts limited (column name m (fixed_binaries width) d pairs) rest h s = flat_item limited m (fixed_binaries width) d rest h.3 refl h.2 s
item_starts limited (column name m (lists item) None pairs) rest h s = record {
  opening = list;
  after = item_text plain item ++ 62 ∷ (nullable_suffix m ++ rest);
  read = ap (opening_at limited) (four (keyword_text keywords.List) (item_text plain item) (62 ∷ []) (nullable_suffix m) rest) ∙ list_opening limited (item_text plain item ++ 62 ∷ (nullable_suffix m ++ rest));
  inside = (item, m, h.3, refl);
}
item_starts limited (column name m (large_lists item) None pairs) rest h s = record {
  opening = large_list;
  after = item_text plain item ++ 62 ∷ (nullable_suffix m ++ rest);
  read = ap (opening_at limited) (four (keyword_text keywords.LargeList) (item_text plain item) (62 ∷ []) (nullable_suffix m) rest) ∙ large_list_opening limited (item_text plain item ++ 62 ∷ (nullable_suffix m ++ rest));
  inside = (item, m, h.3, refl);
}
item_starts limited (column name m (fixed_lists n item) None pairs) rest h s = record {
  opening = fixed_list (capped_number n);
  after = item_text plain item ++ 41 ∷ (nullable_suffix m ++ rest);
  read = ap (opening_at limited) (four (keyword_text keywords.FixedList ++ number_text n ++ codes ",") (item_text plain item) (41 ∷ []) (nullable_suffix m) rest
      ∙ three (keyword_text keywords.FixedList) (number_text n) (44 ∷ []) (item_text plain item ++ 41 ∷ (nullable_suffix m ++ rest)))
      ∙ fixed_list_opening limited n (item_text plain item ++ 41 ∷ (nullable_suffix m ++ rest)) h.3.0;
  inside = (item, m, h.3.1, refl);
}
item_starts limited (column name m (structs parts) None pairs) rest h s = record {
  opening = struct;
  after = fields_text plain parts ++ 62 ∷ (nullable_suffix m ++ rest);
  read = ap (opening_at limited) (four (keyword_text keywords.Struct) (fields_text plain parts) (62 ∷ []) (nullable_suffix m) rest) ∙ struct_opening limited (fields_text plain parts ++ 62 ∷ (nullable_suffix m ++ rest));
  inside = (parts, m, h.3, refl);
}
item_starts limited (column name m (lists item) (Some index) pairs) rest h s = absurd (both_ways true h.2.1 refl)
item_starts limited (column name m (large_lists item) (Some index) pairs) rest h s = absurd (both_ways true h.2.1 refl)
item_starts limited (column name m (fixed_lists n item) (Some index) pairs) rest h s = absurd (both_ways true h.2.1 refl)
item_starts limited (column name m (structs parts) (Some index) pairs) rest h s = absurd (both_ways true h.2.1 refl)
