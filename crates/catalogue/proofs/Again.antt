-- What is written is read again.
use Rattle.std.proofs.Common.{◌≡◌, ◌≤◌, ◌<◌, ◌+◌, ◌/◌, ◌^◌, leb, ℕ, zero, suc, true, cond, List, [], ◌∷◌, ◌++◌, length, take, drop, map, Option, Some, None, refl, sym, ap, ◌∙◌, append_assoc, arith}
use Rattle.std.specs.List.{list_all, flat_map, AllByRecursion}
use Rattle.std.specs.Str.{IsUtf8, IsAscii}
use Rattle.std.proofs.lemmas.Bool.{and_parts, leb-true, le-leb, eqb-true, cond-true}
use Rattle.std.proofs.lemmas.Bool.Decides.{nat_tests}
use Rattle.std.proofs.lemmas.List.{take_at, drop_at, length-append, append-nil}
use Rattle.std.proofs.lemmas.List.Sums.{sum_by-cons}
use Rattle.std.proofs.lemmas.Str.{IsUtf8-from_ascii}
use Rattle.std.proofs.lemmas.Option.{same_Some}
use Rattle.byteorder.specs.Endian.{little_bytes}
use Rattle.byteorder.specs.Numbers.{little_number-reads_back, length-bytes_low_first}
use Rattle.ipc_write.specs.Written.{schema_message}
use Rattle.arrow_schema.specs.Column.{PlainSchema}
use Rattle.arrow_schema.specs.Limits.{IsWithinLimits}
use Rattle.segments.specs.declared.extent.Extent.{Extent}
use Rattle.catalogue.specs.declared.entry.Segment.{Segment}
use Rattle.catalogue.specs.declared.entry.SegmentForm.{SegmentForm}
use Rattle.catalogue.specs.declared.entry.SegmentForm.TheVariants.{Bare, Digested}
use Rattle.catalogue.specs.declared.limits.TheConstants.{MAX_NAME_BYTES, MAX_SEGMENT_ROWS, MAX_SEGMENTS, MAX_TABLES}
use Rattle.catalogue.specs.Entries.{PlainEntry, PlainCatalogue, PlainRoot, is_between, is_name_byte, is_name, is_filled, is_digest, is_segment, is_entry, bare, has_digest, has_digests, has_form, is_root_entry, segment_count, IsTable, IsRoot, IsCatalogue}
use Rattle.catalogue.specs.Text.{sized, counted, extent_text, digest_text, segment_text, table_text, entry_text, list_text, root_entry_text, root_text}
use Rattle.catalogue.specs.Reading.{◌>>=◌, front_number, sized_at, name_at, many_at, counted_at, extent_in, digest_in, segment_at, schema_in, body_at, entry_from, entry_at, catalogue_at, page_at, root_entry_at, root_at}
use Rattle.catalogue.specs.inner.Messages.{AllAgain}
use Rattle.catalogue.specs.laws.Kept.{is_within, IsFilled, filled_is, segment_is, entry_is, passes_catalogue}
use Rattle.catalogue.specs.laws.Bare.{bare_stands}
use Rattle.catalogue.specs.laws.Forms.{bound_is}

-- ---- numbers and sized bytes

pub number_again : (size x : ℕ) (rest : List ℕ) → x < 256 ^ size → front_number size (little_bytes size x ++ rest) ≡ Some (x, rest)
number_again size x rest lt =
    let len = length-bytes_low_first 0 size x in
    let long : leb size (length (little_bytes size x ++ rest)) ≡ true = le-leb _ _ (omega (arith, length-append (little_bytes size x) rest, len)) in
    rw (long, little_number-reads_back size x rest lt, drop_at (little_bytes size x) rest size len) refl

pub sized_again : (bytes rest : List ℕ) → length bytes < 2 ^ 32 → sized_at (sized bytes ++ rest) ≡ Some (bytes, rest)
unfolding sized_at
sized_again bytes rest lt =
    let front : front_number 4 (sized bytes ++ rest) ≡ Some (length bytes, bytes ++ rest) =
    ap (front_number 4) (append_assoc (little_bytes 4 (length bytes)) bytes rest) ∙ number_again 4 (length bytes) (bytes ++ rest) (omega (arith, lt)) in
    let long : leb (length bytes) (length (bytes ++ rest)) ≡ true = le-leb _ _ (omega (arith, length-append bytes rest)) in
    bound_is (front_number 4 (sized bytes ++ rest)) (length bytes, bytes ++ rest) (λ size. cond (leb size.0 (length size.1)) (Some (take size.0 size.1, drop size.0 size.1)) None) (Some (bytes, rest)) front
    (cond-true (leb (length bytes) (length (bytes ++ rest))) (Some (take (length bytes) (bytes ++ rest), drop (length bytes) (bytes ++ rest))) None long
    ∙ (λ i. Some (take_at bytes rest (length bytes) refl i, drop_at bytes rest (length bytes) refl i)))

-- ---- many parts

-- each part of these is read again, whatever follows it
abbrev pub ReadAgain : {A : Type 0} → (List ℕ → Option (A × List ℕ)) → (A → List ℕ) → A → Type 0
ReadAgain one_at text x = (rest : List ℕ) → one_at (text x ++ rest) ≡ Some (x, rest)

many_again : {A : Type 0} (one_at : List ℕ → Option (A × List ℕ)) (text : A → List ℕ) (xs : List A) (rest : List ℕ) → AllByRecursion (ReadAgain one_at text) xs → many_at one_at (length xs) (flat_map text xs ++ rest) ≡ Some (xs, rest)
unfolding many_at
many_again one_at text [] rest all = refl
many_again one_at text (x ∷ xs) rest all =
    rw (append_assoc (text x) (flat_map text xs) rest, all.0 (flat_map text xs ++ rest), many_again one_at text xs rest all.1) refl

pub counted_again : {A : Type 0} (one_at : List ℕ → Option (A × List ℕ)) (text : A → List ℕ) (xs : List A) (rest : List ℕ) → length xs < 2 ^ 32 → AllByRecursion (ReadAgain one_at text) xs → counted_at one_at (counted text xs ++ rest) ≡ Some (xs, rest)
counted_again one_at text xs rest lt all =
    rw (append_assoc (little_bytes 4 (length xs)) (flat_map text xs) rest, number_again 4 (length xs) (flat_map text xs ++ rest) (omega (arith, lt))) (many_again one_at text xs rest all)

-- ---- extents and segments

-- its numbers have 64 bits
record Fits (e : Extent) : Type 0 where
  pub start : e.run.start < 256 ^ 8
  pub count : e.run.count < 256 ^ 8
  pub bytes : e.bytes < 256 ^ 8

fits : (least : ℕ) (e : Extent) → IsFilled least e → Fits e
fits least e is =
    let start = is.start in
    let bytes = is.bytes in
    let count : e.run.count ≡ (e.bytes + 511) / 512 = is.sectors in
    record { start = omega (arith, start); count = omega (arith, bytes, count); bytes = omega (arith, bytes) }

extent_again : (e : Extent) (rest : List ℕ) → Fits e → extent_in (extent_text e ++ rest) ≡ Some (e, rest)
unfolding extent_in
extent_again e rest f =
    let a = little_bytes 8 e.run.start in
    let b = little_bytes 8 e.run.count in
    let c = little_bytes 8 e.bytes in
    let parts : (a ++ (b ++ c)) ++ rest ≡ a ++ (b ++ (c ++ rest)) = append_assoc a (b ++ c) rest ∙ ap (λ x. a ++ x) (append_assoc b c rest) in
    let e0 : front_number 8 (extent_text e ++ rest) ≡ Some (e.run.start, b ++ (c ++ rest)) = ap (front_number 8) parts ∙ number_again 8 e.run.start (b ++ (c ++ rest)) f.start in
    bound_is (front_number 8 (extent_text e ++ rest)) (e.run.start, b ++ (c ++ rest)) (λ start. front_number 8 start.1 >>= λ count. front_number 8 count.1 >>= λ size.
    Some (record { run = record { start = start.0; count = count.0 }; bytes = size.0 }, size.1)) (Some (e, rest)) e0
    (bound_is (front_number 8 (b ++ (c ++ rest))) (e.run.count, c ++ rest) (λ count. front_number 8 count.1 >>= λ size.
    Some (record { run = record { start = e.run.start; count = count.0 }; bytes = size.0 }, size.1)) (Some (e, rest)) (number_again 8 e.run.count (c ++ rest) f.count)
    (bound_is (front_number 8 (c ++ rest)) (e.bytes, rest) (λ size.
    Some (record { run = record { start = e.run.start; count = e.run.count }; bytes = size.0 }, size.1)) (Some (e, rest)) (number_again 8 e.bytes rest f.bytes) refl))

digest_again : (form : SegmentForm) (digest : Option (List ℕ)) (rest : List ℕ) → is_digest digest ≡ true → has_digest form digest ≡ true → digest_in form (digest_text digest ++ rest) ≡ Some (digest, rest)
unfolding digest_in
digest_again Bare None rest sized has = refl
digest_again Bare (Some d) rest sized has = absurd (cc has)
digest_again Digested None rest sized has = absurd (cc has)
digest_again Digested (Some d) rest sized has =
    let len : length d ≡ 32 = eqb-true _ _ sized in
    let long : leb 32 (length (d ++ rest)) ≡ true = le-leb _ _ (omega (arith, length-append d rest, len)) in
    rw (long, take_at d rest 32 len, drop_at d rest 32 len) refl

segment_again : (form : SegmentForm) (s : Segment) (rest : List ℕ) → is_segment s ≡ true → has_digest form s.digest ≡ true → segment_at form (segment_text s ++ rest) ≡ Some (s, rest)
unfolding segment_at
segment_again form s rest h has =
    let is = segment_is s h in
    let most : s.rows ≤ 4096 = leb-true _ _ (and_parts (leb 1 s.rows) (leb s.rows MAX_SEGMENT_ROWS) is.rows).1 in
    let a = extent_text s.place in
    let b = little_bytes 8 s.rows in
    let c = digest_text s.digest in
    let text : (a ++ (b ++ c)) ++ rest ≡ a ++ (b ++ (c ++ rest)) = append_assoc a (b ++ c) rest ∙ ap (λ x. a ++ x) (append_assoc b c rest) in
    let e0 : extent_in (segment_text s ++ rest) ≡ Some (s.place, b ++ (c ++ rest)) = ap extent_in text ∙ extent_again s.place (b ++ (c ++ rest)) (fits 1 s.place is.place) in
    bound_is (extent_in (segment_text s ++ rest)) (s.place, b ++ (c ++ rest)) (λ place. front_number 8 place.1 >>= λ rows. digest_in form rows.1 >>= λ digest.
    Some (record { place = place.0; rows = rows.0; digest = digest.0 }, digest.1)) (Some (s, rest)) e0
    (bound_is (front_number 8 (b ++ (c ++ rest))) (s.rows, c ++ rest) (λ rows. digest_in form rows.1 >>= λ digest.
    Some (record { place = s.place; rows = rows.0; digest = digest.0 }, digest.1)) (Some (s, rest)) (number_again 8 s.rows (c ++ rest) (omega (arith, most)))
    (bound_is (digest_in form (c ++ rest)) (s.digest, rest) (λ digest.
    Some (record { place = s.place; rows = s.rows; digest = digest.0 }, digest.1)) (Some (s, rest)) (digest_again form s.digest rest is.digest has) refl))

segments_again : (form : SegmentForm) (ss : List Segment) → list_all is_segment ss ≡ true → has_digests form ss ≡ true → AllByRecursion (ReadAgain (segment_at form) segment_text) ss
segments_again form [] all has = tt
segments_again form (s ∷ ss) all has =
    let parts = and_parts (is_segment s) (list_all is_segment ss) all in
    let own = and_parts (has_digest form s.digest) (has_digests form ss) has in
    ((λ rest. segment_again form s rest parts.0 own.0), segments_again form ss parts.1 own.1)

-- ---- names

name_byte_small : (b : ℕ) → is_name_byte b ≡ true → b < 128
name_byte_small b h = grind (arith, nat_tests)

name_bytes_small : (bytes : List ℕ) → list_all is_name_byte bytes ≡ true → IsAscii bytes
name_bytes_small [] all i = omega arith
name_bytes_small (b ∷ bytes) all zero = name_byte_small b (and_parts (is_name_byte b) (list_all is_name_byte bytes) all).0
name_bytes_small (b ∷ bytes) all (suc i) = name_bytes_small bytes (and_parts (is_name_byte b) (list_all is_name_byte bytes) all).1 i

pub name_is_utf8 : (bytes : List ℕ) → is_name bytes ≡ true → IsUtf8 bytes
name_is_utf8 bytes h = IsUtf8-from_ascii bytes (name_bytes_small bytes (and_parts (is_between 1 MAX_NAME_BYTES (length bytes)) (list_all is_name_byte bytes) h).1)

pub name_short : (bytes : List ℕ) → is_name bytes ≡ true → length bytes < 2 ^ 32
name_short bytes h =
    let parts = and_parts (is_between 1 MAX_NAME_BYTES (length bytes)) (list_all is_name_byte bytes) h in
    let most : length bytes ≤ 64 = leb-true _ _ (and_parts (leb 1 (length bytes)) (leb (length bytes) MAX_NAME_BYTES) parts.0).1 in
    omega (arith, most)

name_again : (name rest : List ℕ) → is_name name ≡ true → name_at (sized name ++ rest) ≡ Some (name, rest)
unfolding name_at
name_again name rest is = rw (sized_again name rest (name_short name is), is) refl

-- ---- a table without its name

body_again : AllAgain → (form : SegmentForm) (e : PlainEntry) (rest : List ℕ) → IsWithinLimits e.schema → length e.segments ≤ MAX_SEGMENTS → list_all is_segment e.segments ≡ true → has_digests form e.segments ≡ true
    → body_at form (table_text e ++ rest) ≡ Some ((e.schema, e.segments), rest)
unfolding body_at table_text
body_again schemas form e rest within few sound has =
    let message = schemas e.schema within in
    let text = schema_message e.schema in
    let after = counted segment_text e.segments ++ rest in
    let e0 : sized_at ((sized text ++ counted segment_text e.segments) ++ rest) ≡ Some (text, after) = ap sized_at (append_assoc (sized text) (counted segment_text e.segments) rest) ∙ sized_again text after message.short in
    let e2 = counted_again (segment_at form) segment_text e.segments rest (omega (arith, few)) (segments_again form e.segments sound has) in
    bound_is (sized_at ((sized text ++ counted segment_text e.segments) ++ rest)) (text, after) (λ text. schema_in text.0 >>= λ schema. counted_at (segment_at form) text.1 >>= λ segments. Some ((schema, segments.0), segments.1)) (Some ((e.schema, e.segments), rest)) e0
    (bound_is (schema_in text) e.schema (λ schema. counted_at (segment_at form) after >>= λ segments. Some ((schema, segments.0), segments.1)) (Some ((e.schema, e.segments), rest)) message.read
    (bound_is (counted_at (segment_at form) after) (e.segments, rest) (λ segments. Some ((e.schema, segments.0), segments.1)) (Some ((e.schema, e.segments), rest)) e2 refl))

pub page_again : AllAgain → (form : SegmentForm) (most : ℕ) (e : PlainEntry) → IsTable e → has_digests form e.segments ≡ true → length e.segments ≤ most → page_at form most (table_text e) ≡ Some (e.schema, e.segments)
unfolding page_at
page_again schemas form most e is has few =
    let body : body_at form (table_text e) ≡ Some ((e.schema, e.segments), []) = ap (body_at form) (sym (append-nil (table_text e))) ∙ body_again schemas form e [] (is_within e.schema is.schema) is.few is.segments has in
    rw (body, is.schema, is.segments, le-leb (length e.segments) most few) refl

abbrev Body : Type 0
Body = PlainSchema × List Segment

same_body : (a b : Body × List ℕ) → Some a ≡ Some b → a.0 ≡ b.0
same_body a b h = ap (λ (p : Body × List ℕ). p.0) (same_Some a b h)

pub pages_apart : AllAgain → (form : SegmentForm) (e f : PlainEntry) (x y : List ℕ) → IsTable e → IsTable f → has_digests form e.segments ≡ true → has_digests form f.segments ≡ true → table_text e ++ x ≡ table_text f ++ y
    → (e.schema ≡ f.schema) × (e.segments ≡ f.segments)
pages_apart schemas form e f x y h k one_has other_has same =
    let one : Body = (e.schema, e.segments) in
    let other : Body = (f.schema, f.segments) in
    let both : one ≡ other =
    same_body (one, x) (other, y)
    (sym (body_again schemas form e x (is_within e.schema h.schema) h.few h.segments one_has) ∙ ap (body_at form) same ∙ body_again schemas form f y (is_within f.schema k.schema) k.few k.segments other_has) in
    (ap (λ (b : Body). b.0) both, ap (λ (b : Body). b.1) both)

-- ---- entries

-- its text says nothing of its page
entry_again : AllAgain → (form : SegmentForm) (e : PlainEntry) → is_entry e ≡ true → has_digests form e.segments ≡ true → length e.segments ≤ MAX_SEGMENTS → (rest : List ℕ) → entry_at form (entry_text e ++ rest) ≡ Some (bare e, rest)
unfolding entry_at
entry_again schemas form e h has few rest =
    let known = entry_is e h in
    let after = table_text e ++ rest in
    let e0 : name_at (entry_text e ++ rest) ≡ Some (e.name, after) = ap name_at (append_assoc (sized e.name) (table_text e) rest) ∙ name_again e.name after known.name in
    bound_is (name_at (entry_text e ++ rest)) (e.name, after) (λ name. body_at form name.1 >>= λ body. Some (entry_from name.0 None body.0, body.1)) (Some (bare e, rest)) e0
    (bound_is (body_at form after) ((e.schema, e.segments), rest) (λ body. Some (entry_from e.name None body.0, body.1)) (Some (bare e, rest)) (body_again schemas form e rest known.schema few known.segments has) refl)

entries_again : AllAgain → (form : SegmentForm) (c : PlainCatalogue) (rest : List ℕ) → list_all is_entry c ≡ true → has_form form c ≡ true → segment_count c ≤ MAX_SEGMENTS
    → many_at (entry_at form) (length c) (flat_map entry_text c ++ rest) ≡ Some (map bare c, rest)
unfolding many_at
entries_again schemas form [] rest all has few = refl
entries_again schemas form (e ∷ es) rest all has few =
    let parts = and_parts (is_entry e) (list_all is_entry es) all in
    let own = and_parts (has_digests form e.segments) (has_form form es) has in
    let count = sum_by-cons (λ (x : PlainEntry). length x.segments) e es in
    let first = entry_again schemas form e parts.0 own.0 (omega (arith, few, count)) (flat_map entry_text es ++ rest) in
    let others = entries_again schemas form es rest parts.1 own.1 (omega (arith, few, count)) in
    rw (append_assoc (entry_text e) (flat_map entry_text es) rest, first, others) refl

-- ---- catalogues

-- the entries of a text, and what follows it
pub front_again : AllAgain → (form : SegmentForm) (c : PlainCatalogue) (rest : List ℕ) → IsCatalogue c → has_form form c ≡ true → counted_at (entry_at form) (list_text c ++ rest) ≡ Some (map bare c, rest)
front_again schemas form c rest k has =
    let few : length c < 2 ^ 32 = let t = k.tables in omega (arith, t) in
    rw (append_assoc (little_bytes 4 (length c)) (flat_map entry_text c) rest, number_again 4 (length c) (flat_map entry_text c ++ rest) (omega (arith, few))) (entries_again schemas form c rest k.entries has k.segments)

pub catalogue_again : AllAgain → (form : SegmentForm) (c : PlainCatalogue) → IsCatalogue c → has_form form c ≡ true → catalogue_at form (list_text c) ≡ Some (map bare c)
unfolding catalogue_at
catalogue_again schemas form c k has =
    let alone : counted_at (entry_at form) (list_text c) ≡ Some (map bare c, []) = ap (counted_at (entry_at form)) (sym (append-nil (list_text c))) ∙ front_again schemas form c [] k has in
    rw (alone, bare_stands c (passes_catalogue c k)) refl

same_front : (a b : PlainCatalogue × List ℕ) → Some a ≡ Some b → a.0 ≡ b.0
same_front a b h = ap (λ (p : PlainCatalogue × List ℕ). p.0) (same_Some a b h)

pub texts_apart : AllAgain → (form : SegmentForm) (c d : PlainCatalogue) (x y : List ℕ) → IsCatalogue c → IsCatalogue d → has_form form c ≡ true → has_form form d ≡ true → list_text c ++ x ≡ list_text d ++ y → map bare c ≡ map bare d
texts_apart schemas form c d x y k l one_has other_has same =
    same_front (map bare c, x) (map bare d, y) (sym (front_again schemas form c x k one_has) ∙ ap (counted_at (entry_at form)) same ∙ front_again schemas form d y l other_has)

-- ---- roots

root_entry_again : (r : PlainRoot) (rest : List ℕ) → is_root_entry r ≡ true → root_entry_at (root_entry_text r ++ rest) ≡ Some (r, rest)
unfolding root_entry_at
root_entry_again r rest h =
    let parts = and_parts (is_name r.name) (is_filled 8 r.page) h in
    let f = fits 8 r.page (filled_is 8 r.page parts.1) in
    let after = extent_text r.page ++ rest in
    let front : name_at (root_entry_text r ++ rest) ≡ Some (r.name, after) = ap name_at (append_assoc (sized r.name) (extent_text r.page) rest) ∙ name_again r.name after parts.0 in
    bound_is (name_at (root_entry_text r ++ rest)) (r.name, after) (λ name. extent_in name.1 >>= λ page. Some (record { name = name.0; page = page.0 }, page.1)) (Some (r, rest)) front
    (bound_is (extent_in after) (r.page, rest) (λ page. Some (record { name = r.name; page = page.0 }, page.1)) (Some (r, rest)) (extent_again r.page rest f) refl)

roots_again : (rs : List PlainRoot) → list_all is_root_entry rs ≡ true → AllByRecursion (ReadAgain root_entry_at root_entry_text) rs
roots_again [] all = tt
roots_again (r ∷ rs) all = let parts = and_parts (is_root_entry r) (list_all is_root_entry rs) all in ((λ rest. root_entry_again r rest parts.0), roots_again rs parts.1)

root_front_again : (rs : List PlainRoot) (rest : List ℕ) → IsRoot rs → counted_at root_entry_at (root_text rs ++ rest) ≡ Some (rs, rest)
root_front_again rs rest is =
    let few : length rs < 2 ^ 32 = let t = is.tables in omega (arith, t) in
    counted_again root_entry_at root_entry_text rs rest few (roots_again rs is.entries)

pub root_again : (rs : List PlainRoot) → IsRoot rs → root_at (root_text rs) ≡ Some rs
unfolding root_at
root_again rs is =
    let all : counted_at root_entry_at (root_text rs) ≡ Some (rs, []) = ap (counted_at root_entry_at) (sym (append-nil (root_text rs))) ∙ root_front_again rs [] is in
    rw (all, is.order, le-leb (length rs) MAX_TABLES is.tables) refl

same_root : (a b : List PlainRoot × List ℕ) → Some a ≡ Some b → a.0 ≡ b.0
same_root a b h = ap (λ (p : List PlainRoot × List ℕ). p.0) (same_Some a b h)

pub roots_apart : (rs ss : List PlainRoot) (x y : List ℕ) → IsRoot rs → IsRoot ss → root_text rs ++ x ≡ root_text ss ++ y → rs ≡ ss
roots_apart rs ss x y k l same = same_root (rs, x) (ss, y) (sym (root_front_again rs x k) ∙ ap (counted_at root_entry_at) same ∙ root_front_again ss y l)
