-- What is read was written so.
use Rattle.std.proofs.Common.{◌≡◌, ◌≤◌, ◌<◌, ◌+◌, ◌*◌, ◌/◌, ◌%◌, ◌^◌, ◌&&◌, leb, eqb, ℕ, zero, suc, Bool, true, cond, List, [], ◌∷◌, ◌++◌, length, take, drop, map, Option, Some, None, refl, sym, ap, subst, ◌∙◌, append_assoc, arith}
use Rattle.std.proofs.Math.Nat.{div-div-eq-div-mul, pow-suc}
use Rattle.std.specs.Int.{byte_at, bytes_low_first}
use Rattle.std.specs.List.{flat_map, list_all}
use Rattle.std.specs.Str.{bytes_eq}
use Rattle.std.proofs.lemmas.Bool.{and_parts, and_from, leb-true, eqb-true}
use Rattle.std.proofs.lemmas.List.{take-append-drop, length-take, append-nil, nil_from_length}
use Rattle.std.proofs.lemmas.Option.{cond_some, same_Some}
use Rattle.std.proofs.lemmas.Slice.Eq.{bytes_eq-Decides}
use Rattle.byteorder.specs.Endian.{little_bytes, little_number}
use Rattle.byteorder.specs.Numbers.{little_from-cons, little_from-take}
use Rattle.facts.specs.Bytes.{AreBytes}
use Rattle.facts.specs.laws.Bytes.{take-bytes, drop-bytes}
use Rattle.facts.specs.laws.Numbers.{byte_at-pow}
use Rattle.arrow_schema.specs.Column.{PlainSchema}
use Rattle.ipc_message.specs.Header.{supported_codes}
use Rattle.ipc_message.specs.Checks.{checked_schema}
use Rattle.ipc_write.specs.Written.{schema_message}
use Rattle.catalogue.specs.declared.entry.Segment.{Segment}
use Rattle.catalogue.specs.declared.entry.SegmentForm.{SegmentForm}
use Rattle.catalogue.specs.declared.entry.SegmentForm.TheVariants.{Bare, Digested}
use Rattle.segments.specs.declared.extent.Extent.{Extent}
use Rattle.catalogue.specs.declared.limits.TheConstants.{MAX_TABLES}
use Rattle.catalogue.specs.Schemas.{is_within_limits}
use Rattle.catalogue.specs.Entries.{PlainEntry, PlainCatalogue, PlainRoot, bare, is_name, is_segment, ascends, root_names, IsCatalogue, is_catalogue, has_digest, has_digests, has_form}
use Rattle.catalogue.specs.Text.{sized, counted, extent_text, digest_text, segment_text, table_text, entry_text, list_text, root_entry_text, root_text}
use Rattle.catalogue.specs.Reading.{◌>>=◌, front_number, sized_at, name_at, many_at, counted_at, extent_in, bytes_in, digest_in, segment_at, raw_schema_in, schema_in, unfaulted, body_at, entry_from, entry_at, catalogue_at, page_at, root_entry_at, root_at}
use Rattle.catalogue.specs.laws.Kept.{catalogue_is}
use Rattle.catalogue.specs.laws.Forms.{bound}

-- ---- numbers

-- a byte in front moves the others on
byte_behind : (i b x : ℕ) → b < 256 → byte_at (suc i) (b + 256 * x) ≡ byte_at i x
byte_behind i b x small =
    let n = b + 256 * x in
    let down : n / 256 ≡ x = omega (arith, small) in
    let turned : 256 ^ suc i ≡ 256 * 256 ^ i = omega (arith, pow-suc 256 i) in
    byte_at-pow (suc i) n
    ∙ ap (λ (y : ℕ). y % 256) (ap (λ (p : ℕ). n / p) turned ∙ sym (div-div-eq-div-mul n 256 (256 ^ i)) ∙ ap (λ (y : ℕ). y / 256 ^ i) down)
    ∙ sym (byte_at-pow i x)

bytes_behind : (k i b x : ℕ) → b < 256 → bytes_low_first (suc i) k (b + 256 * x) ≡ bytes_low_first i k x
bytes_behind zero i b x small = refl
bytes_behind (suc k) i b x small = λ j. byte_behind i b x small j ∷ bytes_behind k (suc i) b x small j

-- the bytes of the number that some bytes are
number_back : (xs : List ℕ) → AreBytes xs → little_bytes (length xs) (little_number (length xs) xs) ≡ xs
number_back [] small = refl
number_back (x ∷ xs) small =
    let here : x < 256 = small 0 in
    let moved : little_number (suc (length xs)) (x ∷ xs) ≡ x + 256 * little_number (length xs) xs = ap (λ n. x + 256 * n) (little_from-cons 0 (length xs) x xs) in
    let first : byte_at 0 (x + 256 * little_number (length xs) xs) ≡ x = byte_at-pow 0 (x + 256 * little_number (length xs) xs) ∙ omega (arith, here) in
    let others : bytes_low_first 1 (length xs) (x + 256 * little_number (length xs) xs) ≡ xs =
    bytes_behind (length xs) 0 x (little_number (length xs) xs) here ∙ number_back xs (λ i. small (suc i)) in
    ap (little_bytes (suc (length xs))) moved ∙ (λ j. first j ∷ others j)

-- what a reader took from the front, and that the others are bytes too
pub record Takes (bytes text rest : List ℕ) : Type 0 where
  pub parts : bytes ≡ text ++ rest
  pub small : AreBytes rest

then_takes : (a x b y c : List ℕ) → Takes a x b → Takes b y c → Takes a (x ++ y) c
then_takes a x b y c p q = record { parts = p.parts ∙ ap (λ t. x ++ t) q.parts ∙ sym (append_assoc x y c); small = q.small }

number_takes : (size : ℕ) (bytes : List ℕ) (r : ℕ × List ℕ) → AreBytes bytes → front_number size bytes ≡ Some r → Takes bytes (little_bytes size r.0) r.1
number_takes size bytes r small e =
    let t = cond_some (leb size (length bytes)) (little_number size bytes, drop size bytes) r e in
    let long : size ≤ length bytes = leb-true _ _ t.0 in
    let front = take size bytes in
    let len : length front ≡ size = omega (arith, length-take size bytes) in
    let back : little_bytes size (little_number size front) ≡ front = subst (λ n. little_bytes n (little_number n front) ≡ front) len (number_back front (take-bytes size bytes small)) in
    let value : little_bytes size (little_number size bytes) ≡ front = ap (little_bytes size) (sym (little_from-take 0 size size bytes (omega arith))) ∙ back in
    subst (λ (p : ℕ × List ℕ). Takes bytes (little_bytes size p.0) p.1) t.1
    (record { parts = sym (take-append-drop size bytes) ∙ ap (λ x. x ++ drop size bytes) (sym value); small = drop-bytes size bytes small })

sized_takes : (bytes : List ℕ) (r : List ℕ × List ℕ) → AreBytes bytes → sized_at bytes ≡ Some r → Takes bytes (sized r.0) r.1 × AreBytes r.0
unfolding sized_at
sized_takes bytes r small e =
    let a = bound (front_number 4 bytes) (λ size. cond (leb size.0 (length size.1)) (Some (take size.0 size.1, drop size.0 size.1)) None) r e in
    let n = a.0 in
    let p = number_takes 4 bytes n small a.1 in
    let t = cond_some (leb n.0 (length n.1)) (take n.0 n.1, drop n.0 n.1) r a.2 in
    let long : n.0 ≤ length n.1 = leb-true _ _ t.0 in
    let len : length (take n.0 n.1) ≡ n.0 = omega (arith, length-take n.0 n.1) in
    let second : Takes n.1 (take n.0 n.1) (drop n.0 n.1) = record { parts = sym (take-append-drop n.0 n.1); small = drop-bytes n.0 n.1 p.small } in
    let both = then_takes bytes (little_bytes 4 n.0) n.1 (take n.0 n.1) (drop n.0 n.1) p second in
    let whole : Takes bytes (sized (take n.0 n.1)) (drop n.0 n.1) = subst (λ k. Takes bytes (little_bytes 4 k ++ take n.0 n.1) (drop n.0 n.1)) (sym len) both in
    subst (λ (q : List ℕ × List ℕ). Takes bytes (sized q.0) q.1 × AreBytes q.0) t.1 (whole, take-bytes n.0 n.1 p.small)

-- ---- many parts

abbrev TakesOne : {A : Type 0} → (List ℕ → Option (A × List ℕ)) → (A → List ℕ) → Type 0
TakesOne {A = A} one_at text = (bytes : List ℕ) (r : A × List ℕ) → AreBytes bytes → one_at bytes ≡ Some r → Takes bytes (text r.0) r.1

many_takes : {A : Type 0} (one_at : List ℕ → Option (A × List ℕ)) (text : A → List ℕ) → TakesOne one_at text → (count : ℕ) (bytes : List ℕ) (r : List A × List ℕ) → AreBytes bytes → many_at one_at count bytes ≡ Some r
    → Takes bytes (flat_map text r.0) r.1 × (length r.0 ≡ count)
unfolding many_at
many_takes {A = A} one_at text one zero bytes r small e =
    subst (λ (p : List A × List ℕ). Takes bytes (flat_map text p.0) p.1 × (length p.0 ≡ 0)) (same_Some {A = List A × List ℕ} ([], bytes) r e) (record { parts = refl; small = small }, refl)
many_takes {A = A} one_at text one (suc count) bytes r small e =
    let a = bound (one_at bytes) (λ first. many_at one_at count first.1 >>= λ others. Some (first.0 ∷ others.0, others.1)) r e in
    let b = bound (many_at one_at count a.0.1) (λ others. Some (a.0.0 ∷ others.0, others.1)) r a.2 in
    let p = one bytes a.0 small a.1 in
    let q = many_takes one_at text one count a.0.1 b.0 p.small b.1 in
    subst (λ (x : List A × List ℕ). Takes bytes (flat_map text x.0) x.1 × (length x.0 ≡ suc count)) (same_Some {A = List A × List ℕ} (a.0.0 ∷ b.0.0, b.0.1) r b.2)
    (then_takes bytes (text a.0.0) a.0.1 (flat_map text b.0.0) b.0.1 p q.0, ap suc q.1)

counted_takes : {A : Type 0} (one_at : List ℕ → Option (A × List ℕ)) (text : A → List ℕ) → TakesOne one_at text → TakesOne (counted_at one_at) (counted text)
counted_takes one_at text one bytes r small e =
    let a = bound (front_number 4 bytes) (λ count. many_at one_at count.0 count.1) r e in
    let p = number_takes 4 bytes a.0 small a.1 in
    let q = many_takes one_at text one a.0.0 a.0.1 r p.small a.2 in
    subst (λ k. Takes bytes (little_bytes 4 k ++ flat_map text r.0) r.1) (sym q.1) (then_takes bytes (little_bytes 4 a.0.0) a.0.1 (flat_map text r.0) r.1 p q.0)

-- each part that is read passes a test
abbrev PassesOne : {A : Type 0} → (List ℕ → Option (A × List ℕ)) → (A → Bool) → Type 0
PassesOne {A = A} one_at p = (bytes : List ℕ) (r : A × List ℕ) → one_at bytes ≡ Some r → p r.0 ≡ true

many_pass : {A : Type 0} (one_at : List ℕ → Option (A × List ℕ)) (p : A → Bool) → PassesOne one_at p → (count : ℕ) (bytes : List ℕ) (r : List A × List ℕ) → many_at one_at count bytes ≡ Some r → list_all p r.0 ≡ true
unfolding many_at
many_pass {A = A} one_at p one zero bytes r e = ap (λ (x : List A × List ℕ). list_all p x.0) (sym (same_Some {A = List A × List ℕ} ([], bytes) r e))
many_pass {A = A} one_at p one (suc count) bytes r e =
    let a = bound (one_at bytes) (λ first. many_at one_at count first.1 >>= λ others. Some (first.0 ∷ others.0, others.1)) r e in
    let b = bound (many_at one_at count a.0.1) (λ others. Some (a.0.0 ∷ others.0, others.1)) r a.2 in
    ap (λ (x : List A × List ℕ). list_all p x.0) (sym (same_Some {A = List A × List ℕ} (a.0.0 ∷ b.0.0, b.0.1) r b.2)) ∙ and_from (p a.0.0) (list_all p b.0.0) (one bytes a.0 a.1) (many_pass one_at p one count a.0.1 b.0 b.1)

extent_takes : TakesOne extent_in extent_text
unfolding extent_in
extent_takes bytes r small e =
    let a = bound (front_number 8 bytes) (λ start. front_number 8 start.1 >>= λ count. front_number 8 count.1 >>= λ size.
    Some (record { run = record { start = start.0; count = count.0 }; bytes = size.0 }, size.1)) r e in
    let b = bound (front_number 8 a.0.1) (λ count. front_number 8 count.1 >>= λ size.
    Some (record { run = record { start = a.0.0; count = count.0 }; bytes = size.0 }, size.1)) r a.2 in
    let c = bound (front_number 8 b.0.1) (λ size. Some (record { run = record { start = a.0.0; count = b.0.0 }; bytes = size.0 }, size.1)) r b.2 in
    let p = number_takes 8 bytes a.0 small a.1 in
    let q = number_takes 8 a.0.1 b.0 p.small b.1 in
    let s = number_takes 8 b.0.1 c.0 q.small c.1 in
    let qs = then_takes a.0.1 (little_bytes 8 b.0.0) b.0.1 (little_bytes 8 c.0.0) c.0.1 q s in
    let all = then_takes bytes (little_bytes 8 a.0.0) a.0.1 (little_bytes 8 b.0.0 ++ little_bytes 8 c.0.0) c.0.1 p qs in
    subst (λ (x : Extent × List ℕ). Takes bytes (extent_text x.0) x.1) (same_Some {A = Extent × List ℕ} (record { run = record { start = a.0.0; count = b.0.0 }; bytes = c.0.0 }, c.0.1) r c.2) all

digest_takes : (form : SegmentForm) → TakesOne (digest_in form) digest_text
unfolding digest_in
digest_takes Bare bytes r small e =
    subst (λ (x : Option (List ℕ) × List ℕ). Takes bytes (digest_text x.0) x.1) (same_Some {A = Option (List ℕ) × List ℕ} (None, bytes) r e) (record { parts = refl; small = small })
digest_takes Digested bytes r small e =
    let a = bound (bytes_in 32 bytes) (λ digest. Some (Some digest.0, digest.1)) r e in
    let t = cond_some (leb 32 (length bytes)) (take 32 bytes, drop 32 bytes) a.0 a.1 in
    let front : Takes bytes (take 32 bytes) (drop 32 bytes) = record { parts = sym (take-append-drop 32 bytes); small = drop-bytes 32 bytes small } in
    subst (λ (x : Option (List ℕ) × List ℕ). Takes bytes (digest_text x.0) x.1) (same_Some {A = Option (List ℕ) × List ℕ} (Some a.0.0, a.0.1) r a.2)
    (subst (λ (x : List ℕ × List ℕ). Takes bytes x.0 x.1) t.1 front)

segment_takes : (form : SegmentForm) → TakesOne (segment_at form) segment_text
unfolding segment_at
segment_takes form bytes r small e =
    let a = bound (extent_in bytes) (λ place. front_number 8 place.1 >>= λ rows. digest_in form rows.1 >>= λ digest. Some (record { place = place.0; rows = rows.0; digest = digest.0 }, digest.1)) r e in
    let b = bound (front_number 8 a.0.1) (λ rows. digest_in form rows.1 >>= λ digest. Some (record { place = a.0.0; rows = rows.0; digest = digest.0 }, digest.1)) r a.2 in
    let c = bound (digest_in form b.0.1) (λ digest. Some (record { place = a.0.0; rows = b.0.0; digest = digest.0 }, digest.1)) r b.2 in
    let p = extent_takes bytes a.0 small a.1 in
    let q = number_takes 8 a.0.1 b.0 p.small b.1 in
    let s = digest_takes form b.0.1 c.0 q.small c.1 in
    let qs = then_takes a.0.1 (little_bytes 8 b.0.0) b.0.1 (digest_text c.0.0) c.0.1 q s in
    let all = then_takes bytes (extent_text a.0.0) a.0.1 (little_bytes 8 b.0.0 ++ digest_text c.0.0) c.0.1 p qs in
    subst (λ (x : Segment × List ℕ). Takes bytes (segment_text x.0) x.1) (same_Some {A = Segment × List ℕ} (record { place = a.0.0; rows = b.0.0; digest = c.0.0 }, c.0.1) r c.2) all

digest_formed : (form : SegmentForm) → PassesOne (digest_in form) (has_digest form)
unfolding digest_in
digest_formed Bare bytes r e = ap (λ (x : Option (List ℕ) × List ℕ). has_digest Bare x.0) (sym (same_Some {A = Option (List ℕ) × List ℕ} (None, bytes) r e))
digest_formed Digested bytes r e =
    let a = bound (bytes_in 32 bytes) (λ digest. Some (Some digest.0, digest.1)) r e in
    ap (λ (x : Option (List ℕ) × List ℕ). has_digest Digested x.0) (sym (same_Some {A = Option (List ℕ) × List ℕ} (Some a.0.0, a.0.1) r a.2))

segment_formed : (form : SegmentForm) → PassesOne (segment_at form) (λ (s : Segment). has_digest form s.digest)
unfolding segment_at
segment_formed form bytes r e =
    let a = bound (extent_in bytes) (λ place. front_number 8 place.1 >>= λ rows. digest_in form rows.1 >>= λ digest. Some (record { place = place.0; rows = rows.0; digest = digest.0 }, digest.1)) r e in
    let b = bound (front_number 8 a.0.1) (λ rows. digest_in form rows.1 >>= λ digest. Some (record { place = a.0.0; rows = rows.0; digest = digest.0 }, digest.1)) r a.2 in
    let c = bound (digest_in form b.0.1) (λ digest. Some (record { place = a.0.0; rows = b.0.0; digest = digest.0 }, digest.1)) r b.2 in
    ap (λ (x : Segment × List ℕ). has_digest form x.0.digest) (sym (same_Some {A = Segment × List ℕ} (record { place = a.0.0; rows = b.0.0; digest = c.0.0 }, c.0.1) r c.2)) ∙ digest_formed form b.0.1 c.0 c.1

-- ---- names

pub record IsNameAt (bytes : List ℕ) (r : List ℕ × List ℕ) : Type 0 where
  pub sized : sized_at bytes ≡ Some r
  pub name : is_name r.0 ≡ true

name_is_at : (bytes : List ℕ) (r : List ℕ × List ℕ) → name_at bytes ≡ Some r → IsNameAt bytes r
unfolding name_at
name_is_at bytes r e =
    let a = bound (sized_at bytes) (λ name. cond (is_name name.0) (Some name) None) r e in
    let t = cond_some (is_name a.0.0) a.0 r a.2 in
    record { sized = a.1 ∙ ap Some t.1; name = ap (λ (x : List ℕ × List ℕ). is_name x.0) (sym t.1) ∙ t.0 }

-- ---- entries

pub schema_takes : (bytes : List ℕ) (s : PlainSchema) → schema_in bytes ≡ Some s → bytes ≡ schema_message s
unfolding schema_in
schema_takes bytes s e =
    let a = bound (raw_schema_in bytes) (λ raw. unfaulted (checked_schema supported_codes raw) >>= λ schema. cond (bytes_eq (schema_message schema) bytes) (Some schema) None) s e in
    let b = bound (unfaulted (checked_schema supported_codes a.0)) (λ schema. cond (bytes_eq (schema_message schema) bytes) (Some schema) None) s a.2 in
    let t = cond_some (bytes_eq (schema_message b.0) bytes) b.0 s b.2 in
    sym ((bytes_eq-Decides (schema_message b.0) bytes).0 t.0) ∙ ap schema_message t.1

-- a table of this schema and these segments
abbrev table_of : PlainSchema × List Segment → PlainEntry
table_of body = entry_from [] None body

body_takes : (form : SegmentForm) → TakesOne (body_at form) (λ (body : PlainSchema × List Segment). table_text (table_of body))
unfolding body_at table_text
body_takes form bytes r small e =
    let a = bound (sized_at bytes) (λ text. schema_in text.0 >>= λ schema. counted_at (segment_at form) text.1 >>= λ segments. Some ((schema, segments.0), segments.1)) r e in
    let b = bound (schema_in a.0.0) (λ schema. counted_at (segment_at form) a.0.1 >>= λ segments. Some ((schema, segments.0), segments.1)) r a.2 in
    let c = bound (counted_at (segment_at form) a.0.1) (λ segments. Some ((b.0, segments.0), segments.1)) r b.2 in
    let p = sized_takes bytes a.0 small a.1 in
    let q = counted_takes (segment_at form) segment_text (segment_takes form) a.0.1 c.0 p.0.small c.1 in
    let message : Takes bytes (sized (schema_message b.0)) a.0.1 = subst (λ m. Takes bytes (sized m) a.0.1) (schema_takes a.0.0 b.0 b.1) p.0 in
    subst (λ (x : (PlainSchema × List Segment) × List ℕ). Takes bytes (sized (schema_message x.0.0) ++ counted segment_text x.0.1) x.1) (same_Some {A = (PlainSchema × List Segment) × List ℕ} ((b.0, c.0.0), c.0.1) r c.2)
    (then_takes bytes (sized (schema_message b.0)) a.0.1 (counted segment_text c.0.0) c.0.1 message q)

body_formed : (form : SegmentForm) → PassesOne (body_at form) (λ (body : PlainSchema × List Segment). has_digests form body.1)
unfolding body_at
body_formed form bytes r e =
    let a = bound (sized_at bytes) (λ text. schema_in text.0 >>= λ schema. counted_at (segment_at form) text.1 >>= λ segments. Some ((schema, segments.0), segments.1)) r e in
    let b = bound (schema_in a.0.0) (λ schema. counted_at (segment_at form) a.0.1 >>= λ segments. Some ((schema, segments.0), segments.1)) r a.2 in
    let c = bound (counted_at (segment_at form) a.0.1) (λ segments. Some ((b.0, segments.0), segments.1)) r b.2 in
    let n = bound (front_number 4 a.0.1) (λ count. many_at (segment_at form) count.0 count.1) c.0 c.1 in
    ap (λ (x : (PlainSchema × List Segment) × List ℕ). has_digests form x.0.1) (sym (same_Some {A = (PlainSchema × List Segment) × List ℕ} ((b.0, c.0.0), c.0.1) r c.2))
    ∙ many_pass (segment_at form) (λ (s : Segment). has_digest form s.digest) (segment_formed form) n.0.0 n.0.1 c.0 n.2

entry_formed : (form : SegmentForm) → PassesOne (entry_at form) (λ (x : PlainEntry). has_digests form x.segments)
unfolding entry_at
entry_formed form bytes r e =
    let a = bound (name_at bytes) (λ name. body_at form name.1 >>= λ body. Some (entry_from name.0 None body.0, body.1)) r e in
    let b = bound (body_at form a.0.1) (λ body. Some (entry_from a.0.0 None body.0, body.1)) r a.2 in
    ap (λ (x : PlainEntry × List ℕ). has_digests form x.0.segments) (sym (same_Some {A = PlainEntry × List ℕ} (entry_from a.0.0 None b.0.0, b.0.1) r b.2)) ∙ body_formed form a.0.1 b.0 b.1

-- a name makes no difference to the text of a table
same_table : (e : PlainEntry) → table_text (table_of (e.schema, e.segments)) ≡ table_text e
unfolding table_text
same_table e = refl

entry_takes : (form : SegmentForm) → TakesOne (entry_at form) entry_text
unfolding entry_at
entry_takes form bytes r small e =
    let a = bound (name_at bytes) (λ name. body_at form name.1 >>= λ body. Some (entry_from name.0 None body.0, body.1)) r e in
    let b = bound (body_at form a.0.1) (λ body. Some (entry_from a.0.0 None body.0, body.1)) r a.2 in
    let p = (sized_takes bytes a.0 small (name_is_at bytes a.0 a.1).sized).0 in
    let q = body_takes form a.0.1 b.0 p.small b.1 in
    let made : PlainEntry × List ℕ = (entry_from a.0.0 None b.0.0, b.0.1) in
    let table : Takes a.0.1 (table_text made.0) b.0.1 = subst (λ t. Takes a.0.1 t b.0.1) (same_table made.0) q in
    subst (λ (x : PlainEntry × List ℕ). Takes bytes (entry_text x.0) x.1) (same_Some {A = PlainEntry × List ℕ} made r b.2) (then_takes bytes (sized a.0.0) a.0.1 (table_text made.0) b.0.1 p table)

-- ---- the catalogue

-- what is read of a text
pub record IsSpelled (form : SegmentForm) (bytes : List ℕ) (c : PlainCatalogue) : Type 0 where
  pub kept : IsCatalogue c
  pub formed : has_form form c ≡ true
  pub spelled : AreBytes bytes → bytes ≡ list_text c

pub catalogue_spelled : (form : SegmentForm) (bytes : List ℕ) (c : PlainCatalogue) → catalogue_at form bytes ≡ Some c → IsSpelled form bytes c
unfolding catalogue_at
catalogue_spelled form bytes c e =
    let a = bound (counted_at (entry_at form) bytes) (λ entries. cond (eqb (length entries.1) 0 && is_catalogue entries.0) (Some entries.0) None) c e in
    let t = cond_some (eqb (length a.0.1) 0 && is_catalogue a.0.0) a.0.0 c a.2 in
    let parts = and_parts (eqb (length a.0.1) 0) (is_catalogue a.0.0) t.0 in
    let n = bound (front_number 4 bytes) (λ count. many_at (entry_at form) count.0 count.1) a.0 a.1 in
    record {
      kept = subst IsCatalogue t.1 (catalogue_is a.0.0 parts.1);
      formed = subst (λ (x : PlainCatalogue). has_form form x ≡ true) t.1
          (many_pass (entry_at form) (λ (x : PlainEntry). has_digests form x.segments) (entry_formed form) n.0.0 n.0.1 a.0 n.2);
      spelled = λ small.
          let p = counted_takes (entry_at form) entry_text (entry_takes form) bytes a.0 small a.1 in
          p.parts ∙ ap (λ rest. list_text a.0.0 ++ rest) (nil_from_length a.0.1 (eqb-true (length a.0.1) 0 parts.0)) ∙ append-nil (list_text a.0.0) ∙ ap list_text t.1;
    }

-- the entries of a text have no pages
entry_pageless : (form : SegmentForm) (bytes : List ℕ) (r : PlainEntry × List ℕ) → entry_at form bytes ≡ Some r → bare r.0 ≡ r.0
unfolding entry_at
entry_pageless form bytes r e =
    let a = bound (name_at bytes) (λ name. body_at form name.1 >>= λ body. Some (entry_from name.0 None body.0, body.1)) r e in
    let b = bound (body_at form a.0.1) (λ body. Some (entry_from a.0.0 None body.0, body.1)) r a.2 in
    subst (λ (x : PlainEntry × List ℕ). bare x.0 ≡ x.0) (same_Some {A = PlainEntry × List ℕ} (entry_from a.0.0 None b.0.0, b.0.1) r b.2) refl

entries_pageless : (form : SegmentForm) (count : ℕ) (bytes : List ℕ) (r : PlainCatalogue × List ℕ) → many_at (entry_at form) count bytes ≡ Some r → map bare r.0 ≡ r.0
unfolding many_at
entries_pageless form zero bytes r e = subst (λ (x : PlainCatalogue × List ℕ). map bare x.0 ≡ x.0) (same_Some {A = PlainCatalogue × List ℕ} ([], bytes) r e) refl
entries_pageless form (suc count) bytes r e =
    let a = bound (entry_at form bytes) (λ first. many_at (entry_at form) count first.1 >>= λ others. Some (first.0 ∷ others.0, others.1)) r e in
    let b = bound (many_at (entry_at form) count a.0.1) (λ others. Some (a.0.0 ∷ others.0, others.1)) r a.2 in
    let first = entry_pageless form bytes a.0 a.1 in
    let others = entries_pageless form count a.0.1 b.0 b.1 in
    subst (λ (x : PlainCatalogue × List ℕ). map bare x.0 ≡ x.0) (same_Some {A = PlainCatalogue × List ℕ} (a.0.0 ∷ b.0.0, b.0.1) r b.2) (λ i. first i ∷ others i)

pub catalogue_pageless : (form : SegmentForm) (bytes : List ℕ) (c : PlainCatalogue) → catalogue_at form bytes ≡ Some c → map bare c ≡ c
unfolding catalogue_at
catalogue_pageless form bytes c e =
    let a = bound (counted_at (entry_at form) bytes) (λ entries. cond (eqb (length entries.1) 0 && is_catalogue entries.0) (Some entries.0) None) c e in
    let t = cond_some (eqb (length a.0.1) 0 && is_catalogue a.0.0) a.0.0 c a.2 in
    let n = bound (front_number 4 bytes) (λ count. many_at (entry_at form) count.0 count.1) a.0 a.1 in
    subst (λ (x : PlainCatalogue). map bare x ≡ x) t.1 (entries_pageless form n.0.0 n.0.1 a.0 n.2)

-- ---- pages

pub record IsPageSpelled (form : SegmentForm) (most : ℕ) (bytes : List ℕ) (e : PlainEntry) : Type 0 where
  pub kept : is_within_limits e.schema ≡ true
  pub segments : list_all is_segment e.segments ≡ true
  pub few : length e.segments ≤ most
  pub formed : has_digests form e.segments ≡ true
  pub spelled : AreBytes bytes → bytes ≡ table_text e

pub page_spelled : (form : SegmentForm) (most : ℕ) (bytes : List ℕ) (e : PlainEntry) → page_at form most bytes ≡ Some (e.schema, e.segments) → IsPageSpelled form most bytes e
unfolding page_at
page_spelled form most bytes e h =
    let b : PlainSchema × List Segment = (e.schema, e.segments) in
    let a = bound (body_at form bytes) (λ body. cond (eqb (length body.1) 0 && (is_within_limits body.0.0 && (list_all is_segment body.0.1 && leb (length body.0.1) most))) (Some body.0) None) b h in
    let t = cond_some (eqb (length a.0.1) 0 && (is_within_limits a.0.0.0 && (list_all is_segment a.0.0.1 && leb (length a.0.0.1) most))) a.0.0 b a.2 in
    let parts = and_parts (eqb (length a.0.1) 0) (is_within_limits a.0.0.0 && (list_all is_segment a.0.0.1 && leb (length a.0.0.1) most)) t.0 in
    let own = and_parts (is_within_limits a.0.0.0) (list_all is_segment a.0.0.1 && leb (length a.0.0.1) most) parts.1 in
    let last = and_parts (list_all is_segment a.0.0.1) (leb (length a.0.0.1) most) own.1 in
    record {
      kept = subst (λ (x : PlainSchema × List Segment). is_within_limits x.0 ≡ true) t.1 own.0;
      segments = subst (λ (x : PlainSchema × List Segment). list_all is_segment x.1 ≡ true) t.1 last.0;
      few = subst (λ (x : PlainSchema × List Segment). length x.1 ≤ most) t.1 (leb-true (length a.0.0.1) most last.1);
      formed = subst (λ (x : PlainSchema × List Segment). has_digests form x.1 ≡ true) t.1 (body_formed form bytes a.0 a.1);
      spelled = λ small.
          let p = body_takes form bytes a.0 small a.1 in
          p.parts ∙ ap (λ rest. table_text (table_of a.0.0) ++ rest) (nil_from_length a.0.1 (eqb-true (length a.0.1) 0 parts.0)) ∙ append-nil (table_text (table_of a.0.0))
          ∙ ap (λ (x : PlainSchema × List Segment). table_text (table_of x)) t.1 ∙ same_table e;
    }

-- ---- roots

root_entry_takes : TakesOne root_entry_at root_entry_text
unfolding root_entry_at
root_entry_takes bytes r small e =
    let a = bound (name_at bytes) (λ name. extent_in name.1 >>= λ page. Some (record { name = name.0; page = page.0 }, page.1)) r e in
    let b = bound (extent_in a.0.1) (λ page. Some (record { name = a.0.0; page = page.0 }, page.1)) r a.2 in
    let p = (sized_takes bytes a.0 small (name_is_at bytes a.0 a.1).sized).0 in
    let q = extent_takes a.0.1 b.0 p.small b.1 in
    subst (λ (x : PlainRoot × List ℕ). Takes bytes (root_entry_text x.0) x.1) (same_Some {A = PlainRoot × List ℕ} (record { name = a.0.0; page = b.0.0 }, b.0.1) r b.2) (then_takes bytes (sized a.0.0) a.0.1 (extent_text b.0.0) b.0.1 p q)

root_entry_named : PassesOne root_entry_at (λ (r : PlainRoot). is_name r.name)
unfolding root_entry_at
root_entry_named bytes r e =
    let a = bound (name_at bytes) (λ name. extent_in name.1 >>= λ page. Some (record { name = name.0; page = page.0 }, page.1)) r e in
    let b = bound (extent_in a.0.1) (λ page. Some (record { name = a.0.0; page = page.0 }, page.1)) r a.2 in
    ap (λ (x : PlainRoot × List ℕ). is_name x.0.name) (sym (same_Some {A = PlainRoot × List ℕ} (record { name = a.0.0; page = b.0.0 }, b.0.1) r b.2)) ∙ (name_is_at bytes a.0 a.1).name

-- what is read of a text
pub record IsRootSpelled (bytes : List ℕ) (rs : List PlainRoot) : Type 0 where
  pub named : list_all (λ (r : PlainRoot). is_name r.name) rs ≡ true
  pub order : ascends (root_names rs) ≡ true
  pub tables : length rs ≤ MAX_TABLES
  pub spelled : AreBytes bytes → bytes ≡ root_text rs

pub root_spelled : (bytes : List ℕ) (rs : List PlainRoot) → root_at bytes ≡ Some rs → IsRootSpelled bytes rs
unfolding root_at
root_spelled bytes rs e =
    let a = bound (counted_at root_entry_at bytes) (λ entries. cond (eqb (length entries.1) 0 && (ascends (root_names entries.0) && leb (length entries.0) MAX_TABLES)) (Some entries.0) None) rs e in
    let t = cond_some (eqb (length a.0.1) 0 && (ascends (root_names a.0.0) && leb (length a.0.0) MAX_TABLES)) a.0.0 rs a.2 in
    let parts = and_parts (eqb (length a.0.1) 0) (ascends (root_names a.0.0) && leb (length a.0.0) MAX_TABLES) t.0 in
    let own = and_parts (ascends (root_names a.0.0)) (leb (length a.0.0) MAX_TABLES) parts.1 in
    let n = bound (front_number 4 bytes) (λ count. many_at root_entry_at count.0 count.1) a.0 a.1 in
    record {
      named = subst (λ (x : List PlainRoot). list_all (λ (r : PlainRoot). is_name r.name) x ≡ true) t.1 (many_pass root_entry_at (λ (r : PlainRoot). is_name r.name) root_entry_named n.0.0 n.0.1 a.0 n.2);
      order = subst (λ (x : List PlainRoot). ascends (root_names x) ≡ true) t.1 own.0;
      tables = subst (λ (x : List PlainRoot). length x ≤ MAX_TABLES) t.1 (leb-true (length a.0.0) MAX_TABLES own.1);
      spelled = λ small.
          let p = counted_takes root_entry_at root_entry_text root_entry_takes bytes a.0 small a.1 in
          p.parts ∙ ap (λ rest. root_text a.0.0 ++ rest) (nil_from_length a.0.1 (eqb-true (length a.0.1) 0 parts.0)) ∙ append-nil (root_text a.0.0) ∙ ap root_text t.1;
    }
