-- The tests of a catalogue mean what they test.
use Rattle.std.proofs.Common.{◌≡◌, ◌≤◌, ◌<◌, ◌^◌, ◌==◌, ◌&&◌, ℕ, true, false, length}
use Rattle.std.specs.Prelude.{nat_le, nat_lt}
use Rattle.std.specs.List.{list_all}
use Rattle.std.specs.Str.{is_utf8}
use Rattle.std.proofs.lemmas.Bool.{and_parts, and_from, leb-true, le-leb, ltb-true, lt-ltb, eqb-true, eq-eqb, false_from_ne_true}
use Rattle.std.proofs.lemmas.List.Sums.{AllPass-from_list_all, list_all-from_AllPass}
use Rattle.arrow_schema.specs.declared.limits.TheConstants.{MAX_FIELDS, MAX_DEPTH, MAX_PAIRS, MAX_TEXT_BYTES}
use Rattle.arrow_schema.specs.Column.{columns_of, PlainSchema}
use Rattle.arrow_schema.specs.Preorder.{every_column, depth_all}
use Rattle.arrow_schema.specs.Limits.{count_of_pairs, count_of_bytes, has_number_in_range, has_flat_dictionary, has_bit_widths, has_utf8_texts, texts_of_pairs, IsWithinLimits}
use Rattle.segments.specs.Sectors.{sector_count}
use Rattle.segments.specs.declared.extent.Extent.{Extent}
use Rattle.catalogue.specs.declared.limits.TheConstants.{MAX_SEGMENT_ROWS, MAX_TABLES, MAX_SEGMENTS}
use Rattle.catalogue.specs.declared.entry.Segment.{Segment}
use Rattle.catalogue.specs.Schemas.{is_small, has_sound_columns, is_within_limits}
use Rattle.catalogue.specs.Entries.{PlainEntry, PlainCatalogue, is_between, is_name, is_filled, is_digest, is_segment, is_page, is_entry, names_of, ascends, segment_count, IsCatalogue, is_catalogue}

pub passes_limits : (s : PlainSchema) → IsWithinLimits s → is_within_limits s ≡ true
unfolding is_within_limits
passes_limits s w =
    let small : is_small s ≡ true =
    and_from _ _ (and_from _ _ (le-leb _ _ w.levels) (le-leb _ _ w.fields)) (and_from _ _ (le-leb _ _ w.pairs) (le-leb _ _ w.bytes)) in
    let sound : has_sound_columns s ≡ true =
    and_from _ _
    (and_from _ _ (list_all-from_AllPass has_number_in_range (every_column s) w.numbers) (list_all-from_AllPass has_flat_dictionary (every_column s) w.dictionaries))
    (and_from _ _ (list_all-from_AllPass has_bit_widths (every_column s) w.widths) (list_all-from_AllPass has_utf8_texts (every_column s) w.texts)) in
    and_from (is_small s) _ small (and_from (has_sound_columns s) _ sound (list_all-from_AllPass is_utf8 (texts_of_pairs s.pairs) w.own_texts))

pub is_within : (s : PlainSchema) → is_within_limits s ≡ true → IsWithinLimits s
unfolding is_within_limits
is_within s h =
    let parts = and_parts (is_small s) (has_sound_columns s && list_all is_utf8 (texts_of_pairs s.pairs)) h in
    let rest = and_parts (has_sound_columns s) (list_all is_utf8 (texts_of_pairs s.pairs)) parts.1 in
    let small = and_parts (nat_le (depth_all (columns_of s.columns)) MAX_DEPTH && nat_le (length (every_column s)) MAX_FIELDS) (nat_le (count_of_pairs s) MAX_PAIRS && nat_le (count_of_bytes s) MAX_TEXT_BYTES) parts.0 in
    let levels = and_parts (nat_le (depth_all (columns_of s.columns)) MAX_DEPTH) (nat_le (length (every_column s)) MAX_FIELDS) small.0 in
    let pairs = and_parts (nat_le (count_of_pairs s) MAX_PAIRS) (nat_le (count_of_bytes s) MAX_TEXT_BYTES) small.1 in
    let sound = and_parts (list_all has_number_in_range (every_column s) && list_all has_flat_dictionary (every_column s)) (list_all has_bit_widths (every_column s) && list_all has_utf8_texts (every_column s)) rest.0 in
    let numbers = and_parts (list_all has_number_in_range (every_column s)) (list_all has_flat_dictionary (every_column s)) sound.0 in
    let texts = and_parts (list_all has_bit_widths (every_column s)) (list_all has_utf8_texts (every_column s)) sound.1 in
    record {
      levels = leb-true _ _ levels.0;
      fields = leb-true _ _ levels.1;
      pairs = leb-true _ _ pairs.0;
      bytes = leb-true _ _ pairs.1;
      numbers = AllPass-from_list_all has_number_in_range (every_column s) numbers.0;
      dictionaries = AllPass-from_list_all has_flat_dictionary (every_column s) numbers.1;
      widths = AllPass-from_list_all has_bit_widths (every_column s) texts.0;
      texts = AllPass-from_list_all has_utf8_texts (every_column s) texts.1;
      own_texts = AllPass-from_list_all is_utf8 (texts_of_pairs s.pairs) rest.1;
    }

pub fails_limits : (s : PlainSchema) → (IsWithinLimits s → ⊥) → is_within_limits s ≡ false
fails_limits s past = false_from_ne_true (is_within_limits s) (λ h. past (is_within s h))

-- an extent with exactly the sectors that its bytes need
pub record IsFilled (least : ℕ) (e : Extent) : Type 0 where
  pub start : e.run.start < 2 ^ 64
  pub bytes : e.bytes < 2 ^ 64
  pub some : least ≤ e.bytes
  pub sectors : e.run.count ≡ sector_count e.bytes

pub filled_is : (least : ℕ) (e : Extent) → is_filled least e ≡ true → IsFilled least e
filled_is least e h =
    let parts = and_parts (nat_lt e.run.start (2 ^ 64) && nat_lt e.bytes (2 ^ 64)) (nat_le least e.bytes && (e.run.count == sector_count e.bytes)) h in
    let numbers = and_parts (nat_lt e.run.start (2 ^ 64)) (nat_lt e.bytes (2 ^ 64)) parts.0 in
    let own = and_parts (nat_le least e.bytes) (e.run.count == sector_count e.bytes) parts.1 in
    record { start = ltb-true _ _ numbers.0; bytes = ltb-true _ _ numbers.1; some = leb-true _ _ own.0; sectors = eqb-true _ _ own.1 }

pub filled_stands : (least : ℕ) (e : Extent) → IsFilled least e → is_filled least e ≡ true
filled_stands least e is =
    and_from (nat_lt e.run.start (2 ^ 64) && nat_lt e.bytes (2 ^ 64)) (nat_le least e.bytes && (e.run.count == sector_count e.bytes))
    (and_from (nat_lt e.run.start (2 ^ 64)) (nat_lt e.bytes (2 ^ 64)) (lt-ltb _ _ is.start) (lt-ltb _ _ is.bytes))
    (and_from (nat_le least e.bytes) (e.run.count == sector_count e.bytes) (le-leb _ _ is.some) (eq-eqb _ _ is.sectors))

-- the properties of a valid segment
pub record IsSegment (s : Segment) : Type 0 where
  pub place : IsFilled 1 s.place
  pub rows : is_between 1 MAX_SEGMENT_ROWS s.rows ≡ true
  pub digest : is_digest s.digest ≡ true

pub segment_is : (s : Segment) → is_segment s ≡ true → IsSegment s
segment_is s h =
    let parts = and_parts (is_filled 1 s.place) (is_between 1 MAX_SEGMENT_ROWS s.rows && is_digest s.digest) h in
    let own = and_parts (is_between 1 MAX_SEGMENT_ROWS s.rows) (is_digest s.digest) parts.1 in
    record { place = filled_is 1 s.place parts.0; rows = own.0; digest = own.1 }

pub segment_stands : (s : Segment) → IsSegment s → is_segment s ≡ true
segment_stands s is =
    and_from (is_filled 1 s.place) (is_between 1 MAX_SEGMENT_ROWS s.rows && is_digest s.digest) (filled_stands 1 s.place is.place)
    (and_from (is_between 1 MAX_SEGMENT_ROWS s.rows) (is_digest s.digest) is.rows is.digest)

-- an entry of valid parts is valid
pub entry_stands : (e : PlainEntry) → is_name e.name ≡ true → IsWithinLimits e.schema → list_all is_segment e.segments ≡ true → is_page e.page ≡ true → is_entry e ≡ true
entry_stands e name schema segments page =
    let rest = list_all is_segment e.segments && is_page e.page in
    and_from (is_name e.name) (is_within_limits e.schema && rest) name
    (and_from (is_within_limits e.schema) rest (passes_limits e.schema schema) (and_from (list_all is_segment e.segments) (is_page e.page) segments page))

-- the properties of a valid entry
pub record IsEntry (e : PlainEntry) : Type 0 where
  pub name : is_name e.name ≡ true
  pub schema : IsWithinLimits e.schema
  pub segments : list_all is_segment e.segments ≡ true
  pub page : is_page e.page ≡ true

pub entry_is : (e : PlainEntry) → is_entry e ≡ true → IsEntry e
entry_is e h =
    let parts = and_parts (is_name e.name) (is_within_limits e.schema && (list_all is_segment e.segments && is_page e.page)) h in
    let rest = and_parts (is_within_limits e.schema) (list_all is_segment e.segments && is_page e.page) parts.1 in
    let own = and_parts (list_all is_segment e.segments) (is_page e.page) rest.1 in
    record { name = parts.0; schema = is_within e.schema rest.0; segments = own.0; page = own.1 }

pub passes_catalogue : (c : PlainCatalogue) → IsCatalogue c → is_catalogue c ≡ true
passes_catalogue c k =
    and_from (list_all is_entry c && ascends (names_of c)) (nat_le (length c) MAX_TABLES && nat_le (segment_count c) MAX_SEGMENTS)
    (and_from (list_all is_entry c) (ascends (names_of c)) k.entries k.order)
    (and_from (nat_le (length c) MAX_TABLES) (nat_le (segment_count c) MAX_SEGMENTS) (le-leb _ _ k.tables) (le-leb _ _ k.segments))

pub catalogue_is : (c : PlainCatalogue) → is_catalogue c ≡ true → IsCatalogue c
catalogue_is c h =
    let parts = and_parts (list_all is_entry c && ascends (names_of c)) (nat_le (length c) MAX_TABLES && nat_le (segment_count c) MAX_SEGMENTS) h in
    let front = and_parts (list_all is_entry c) (ascends (names_of c)) parts.0 in
    let back = and_parts (nat_le (length c) MAX_TABLES) (nat_le (segment_count c) MAX_SEGMENTS) parts.1 in
    record { entries = front.0; order = front.1; tables = leb-true _ _ back.0; segments = leb-true _ _ back.1 }
