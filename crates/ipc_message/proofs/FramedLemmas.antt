-- The front is what the relation of framing says it is.
use Rattle.std.specs.Prelude.{nat_lt, nat_eq, not, if◌then◌else◌, is_none}
use Rattle.std.specs.List.{starts_with}
use Rattle.std.proofs.Common.{◌≡◌, ℕ, ◌+◌, ◌^◌, ◌≤◌, ◌<◌, Bool, true, false, List, [], ◌∷◌, ◌++◌, length, take, drop, Option, None, Some, Result, Ok, eqb, refl, sym, ap, ◌∙◌, arith, subst, length-append}
use Rattle.std.proofs.Math.Seq.{drop-append_seam, take-append_seam}
use Rattle.std.proofs.lemmas.Bool.Decides.{Decides-eqb}
use Rattle.std.proofs.lemmas.List.{take-append-drop, drop-drop, length-take-le, length-drop}
use Rattle.std.proofs.lemmas.Slice.Eq.{starts_is}
use Rattle.byteorder.specs.Endian.{little_number}
use Rattle.byteorder.specs.Numbers.{little_from-append, little_from-take}
use Rattle.flatbuf.specs.declared.limits.TheConstants.{MAX_BUFFER_BYTES}
use Rattle.flatbuf.specs.Lookup.{number}
use Rattle.flatbuf.specs.Walk.{run}
use Rattle.ipc_message.specs.declared.fault.Fault.{Fault}
use Rattle.ipc_message.specs.declared.fault.Fault.TheVariants.{Truncated, NoContinuation, MetadataSize, MetadataVersion, HeaderKind, BodyLength}
use Rattle.std.proofs.lemmas.Bool.{not-false, ltb-false, le-ltb, eqb-true}
use Rattle.facts.specs.laws.Checks.{first_some-after, first_some-both, unless_passed}
use Rattle.ipc_message.specs.laws.Accepted.{first_none, when_none}
use Rattle.ipc_message.specs.Framing.{Envelope, NextMessage, message, end_of_stream, taken, continuation_marker, next_message, unless, first_some, when, walk_fault, message_things, version_of, type_of, header_type, marker_faults, size_faults, message_faults, metadata_size, metadata_in, after_metadata, message_with, body_length, IsMessage, Framed}

-- ---- the tests of the front, passed

record HasMarker (bytes : List ℕ) : Type 0 where
  long : 8 ≤ length bytes
  starts : bytes ≡ continuation_marker ++ drop 4 bytes

marker_passed : (bytes : List ℕ) → first_some (marker_faults bytes) ≡ None → HasMarker bytes
unfolding marker_faults
marker_passed bytes h =
    let four = first_none (when (nat_lt (length bytes) 4) Truncated) (when (not (starts_with nat_eq bytes continuation_marker)) NoContinuation ∷ when (nat_lt (length bytes) 8) Truncated ∷ []) h in
    let marker = first_none (when (not (starts_with nat_eq bytes continuation_marker)) NoContinuation) (when (nat_lt (length bytes) 8) Truncated ∷ []) four.1 in
    let eight = first_none (when (nat_lt (length bytes) 8) Truncated) [] marker.1 in
    record {
      long = ltb-false (length bytes) 8 (when_none (nat_lt (length bytes) 8) Truncated eight.0);
      starts = (starts_is Decides-eqb bytes continuation_marker (starts_with nat_eq bytes continuation_marker) refl).0 (not-false (starts_with nat_eq bytes continuation_marker) (when_none (not (starts_with nat_eq bytes continuation_marker)) NoContinuation marker.0));
    }

record IsSized (bytes : List ℕ) : Type 0 where
  small : metadata_size bytes ≤ MAX_BUFFER_BYTES
  room : 8 + metadata_size bytes ≤ length bytes

size_passed : (bytes : List ℕ) → first_some (size_faults bytes) ≡ None → IsSized bytes
unfolding size_faults
size_passed bytes h =
    let small = first_none _ _ h in
    let room = first_none _ _ small.1 in
    record {
      small = ltb-false MAX_BUFFER_BYTES (metadata_size bytes) (when_none (nat_lt MAX_BUFFER_BYTES (metadata_size bytes)) MetadataSize small.0);
      room = ltb-false (length bytes) (8 + metadata_size bytes) (when_none (nat_lt (length bytes) (8 + metadata_size bytes)) Truncated room.0);
    }

-- the tests of the metadata alone, before that of its body's length
abbrev table_faults : List ℕ → List (Option Fault)
table_faults metadata =
    walk_fault (run metadata (message_things metadata) 0)
    ∷ when (not (eqb (version_of metadata) 4)) MetadataVersion
    ∷ when (is_none (header_type (type_of metadata))) HeaderKind
    ∷ when (not (nat_lt (body_length metadata) (2 ^ 63))) BodyLength
    ∷ []

message_passed : (metadata : List ℕ) (following : ℕ) → first_some (message_faults metadata following) ≡ None → (first_some (table_faults metadata) ≡ None) × (body_length metadata ≤ following)
unfolding message_faults
message_passed metadata following h =
    let a = first_some-both (table_faults metadata) (when (nat_lt following (body_length metadata)) Truncated ∷ []) h in
    (a.0, ltb-false following (body_length metadata) (when_none (nat_lt following (body_length metadata)) Truncated (first_none (when (nat_lt following (body_length metadata)) Truncated) [] a.1).0))

message_passes : (metadata : List ℕ) (following : ℕ) → first_some (table_faults metadata) ≡ None → body_length metadata ≤ following → first_some (message_faults metadata following) ≡ None
unfolding message_faults
message_passes metadata following h room =
    first_some-after (table_faults metadata) (when (nat_lt following (body_length metadata)) Truncated ∷ []) h
    ∙ rw (le-ltb following (body_length metadata) room) refl

-- ---- what stands at the front is framed

after_marker : (bytes : List ℕ) → HasMarker bytes → bytes ≡ continuation_marker ++ (take 4 (drop 4 bytes) ++ drop 8 bytes)
after_marker bytes marked =
    marked.starts ∙ ap (λ (x : List ℕ). continuation_marker ++ x) (sym (take-append-drop 4 (drop 4 bytes)) ∙ ap (λ (x : List ℕ). take 4 (drop 4 bytes) ++ x) (drop-drop 4 4 bytes))

size_read : (bytes : List ℕ) → little_number 4 (take 4 (drop 4 bytes)) ≡ metadata_size bytes
unfolding metadata_size number
size_read bytes = little_from-take 0 4 4 (drop 4 bytes) (omega arith)

chosen_message : (c : Bool) (r : Result NextMessage Fault) (m : Envelope) → (if c then Ok end_of_stream else r) ≡ Ok (message m) → (c ≡ false) × (r ≡ Ok (message m))
chosen_message true r m h = absurd (cc)
chosen_message false r m h = (refl, h)

chosen_marker : (c : Bool) (o : Option Fault) (m : Envelope) → (if c then Ok end_of_stream else unless o (Ok (message m))) ≡ Ok end_of_stream → c ≡ true
chosen_marker true o m h = refl
chosen_marker false None m h = absurd (cc)
chosen_marker false (Some f) m h = absurd (cc)

-- all that is known of the bytes before a message
record Passed (bytes : List ℕ) (m : Envelope) : Type 0 where
  marked : HasMarker bytes
  sized : IsSized bytes
  some : eqb (metadata_size bytes) 0 ≡ false
  table : first_some (table_faults (metadata_in bytes)) ≡ None
  room : body_length (metadata_in bytes) ≤ length (after_metadata bytes)
  is : record { metadata = metadata_in bytes; body = take (body_length (metadata_in bytes)) (after_metadata bytes) } ≡ m

passed : (bytes : List ℕ) (m : Envelope) → next_message bytes ≡ Ok (message m) → Passed bytes m
unfolding next_message
passed bytes m h =
    let all : List (Option Fault) = size_faults bytes ++ message_faults (metadata_in bytes) (length (after_metadata bytes)) in
    let found : Result NextMessage Fault = Ok (message_with (metadata_in bytes) (after_metadata bytes)) in
    let a = unless_passed (first_some (marker_faults bytes)) (if eqb (metadata_size bytes) 0 then Ok end_of_stream else unless (first_some all) found) (message m) h in
    let b = chosen_message (eqb (metadata_size bytes) 0) (unless (first_some all) found) m a.1 in
    let d = unless_passed (first_some all) found (message m) b.1 in
    let e = first_some-both (size_faults bytes) (message_faults (metadata_in bytes) (length (after_metadata bytes))) d.0 in
    let t = message_passed (metadata_in bytes) (length (after_metadata bytes)) e.1 in
    record { marked = marker_passed bytes a.0; sized = size_passed bytes e.0; some = b.0; table = t.0; room = t.1; is = cc (d.1) }

framed_parts : (bytes : List ℕ) (n b : ℕ) → HasMarker bytes → 8 + n ≤ length bytes
    → bytes ≡ continuation_marker ++ (take 4 (drop 4 bytes) ++ (take n (drop 8 bytes) ++ (take b (drop n (drop 8 bytes)) ++ drop b (drop n (drop 8 bytes)))))
framed_parts bytes n b marked room =
    let inner : drop 8 bytes ≡ take n (drop 8 bytes) ++ (take b (drop n (drop 8 bytes)) ++ drop b (drop n (drop 8 bytes))) =
    sym (take-append-drop n (drop 8 bytes)) ∙ ap (λ (x : List ℕ). take n (drop 8 bytes) ++ x) (sym (take-append-drop b (drop n (drop 8 bytes)))) in
    after_marker bytes marked ∙ ap (λ (x : List ℕ). continuation_marker ++ (take 4 (drop 4 bytes) ++ x)) inner

-- what follows the body
rest_is : (bytes : List ℕ) (n b : ℕ) → drop b (drop n (drop 8 bytes)) ≡ drop (8 + n + b) bytes
rest_is bytes n b = ap (drop b) (drop-drop n 8 bytes) ∙ drop-drop b (8 + n) bytes

metadata_long : (bytes : List ℕ) → IsSized bytes → length (metadata_in bytes) ≡ metadata_size bytes
unfolding metadata_in
metadata_long bytes sized =
    let room : 8 + metadata_size bytes ≤ length bytes = sized.room in
    length-take-le (metadata_size bytes) (drop 8 bytes) (omega (arith, length-drop 8 bytes))

not_zero : (n : ℕ) → eqb n 0 ≡ false → 0 < n
not_zero n h = grind arith

abbrev found : List ℕ → Envelope
found bytes = record { metadata = metadata_in bytes; body = take (body_length (metadata_in bytes)) (after_metadata bytes) }

found_parts : (bytes : List ℕ) (m : Envelope) → Passed bytes m
    → bytes ≡ continuation_marker ++ (take 4 (drop 4 bytes) ++ ((found bytes).metadata ++ ((found bytes).body ++ drop (body_length (metadata_in bytes)) (after_metadata bytes))))
unfolding metadata_in after_metadata
found_parts bytes m p = framed_parts bytes (metadata_size bytes) (body_length (metadata_in bytes)) p.marked p.sized.room

found_rest : (bytes : List ℕ) (m : Envelope) → Passed bytes m → drop (body_length (metadata_in bytes)) (after_metadata bytes) ≡ drop (taken (message (found bytes))) bytes
unfolding after_metadata
found_rest bytes m p =
    let n : length (metadata_in bytes) ≡ metadata_size bytes = metadata_long bytes p.sized in
    let b : length (take (body_length (metadata_in bytes)) (drop (metadata_size bytes) (drop 8 bytes))) ≡ body_length (metadata_in bytes) =
    length-take-le (body_length (metadata_in bytes)) (drop (metadata_size bytes) (drop 8 bytes)) p.room in
    let size : 8 + metadata_size bytes + body_length (metadata_in bytes) ≡ 8 + length (metadata_in bytes) + length (take (body_length (metadata_in bytes)) (drop (metadata_size bytes) (drop 8 bytes))) = omega (arith, n, b) in
    rest_is bytes (metadata_size bytes) (body_length (metadata_in bytes)) ∙ ap (λ (k : ℕ). drop k bytes) size

found_framed : (bytes : List ℕ) (m : Envelope) → Passed bytes m → IsMessage (found bytes) × Framed bytes (found bytes) (drop (taken (message (found bytes))) bytes)
found_framed bytes m p =
    let metadata : List ℕ = metadata_in bytes in
    let body : List ℕ = take (body_length metadata) (after_metadata bytes) in
    let n : length metadata ≡ metadata_size bytes = metadata_long bytes p.sized in
    let b : length body ≡ body_length metadata = length-take-le (body_length metadata) (after_metadata bytes) p.room in
    let some : 0 < metadata_size bytes = not_zero (metadata_size bytes) p.some in
    let small : metadata_size bytes ≤ MAX_BUFFER_BYTES = p.sized.small in
    let long : 8 ≤ length bytes = p.marked.long in (
      record { small = omega (arith, n, small); some = omega (arith, n, some); sound = message_passes metadata (length body) p.table (omega (arith, b)); whole = b },
      record {
        size = take 4 (drop 4 bytes);
        parts = found_parts bytes m p ∙ ap (λ (x : List ℕ). continuation_marker ++ (take 4 (drop 4 bytes) ++ (metadata ++ (body ++ x)))) (found_rest bytes m p);
        four = length-take-le 4 (drop 4 bytes) (omega (arith, length-drop 4 bytes));
        size_is = size_read bytes ∙ sym n;
      },
    )

pub framed_next_message : (bytes : List ℕ) (m : Envelope) → next_message bytes ≡ Ok (message m) → IsMessage m × Framed bytes m (drop (taken (message m)) bytes)
framed_next_message bytes m h =
    let p : Passed bytes m = passed bytes m h in
    subst (λ (x : Envelope). IsMessage x × Framed bytes x (drop (taken (message x)) bytes)) p.is (found_framed bytes m p)

-- ---- what is framed stands at the front

after_size : (size others : List ℕ) → length size ≡ 4 → drop 8 (continuation_marker ++ (size ++ others)) ≡ others
after_size size others four = ap (λ (k : ℕ). drop k (size ++ others)) (sym four) ∙ drop-append_seam size others

size_written : (size others : List ℕ) (n : ℕ) → length size ≡ 4 → little_number 4 size ≡ n → metadata_size (continuation_marker ++ (size ++ others)) ≡ n
unfolding metadata_size number
size_written size others n four is = little_from-append 4 size others (omega arith) ∙ is

metadata_written : (size metadata others : List ℕ) → length size ≡ 4 → metadata_size (continuation_marker ++ (size ++ (metadata ++ others))) ≡ length metadata → metadata_in (continuation_marker ++ (size ++ (metadata ++ others))) ≡ metadata
unfolding metadata_in
metadata_written size metadata others four is =
    ap (λ (k : ℕ). take k (drop 8 (continuation_marker ++ (size ++ (metadata ++ others))))) is
    ∙ ap (take (length metadata)) (after_size size (metadata ++ others) four) ∙ take-append_seam metadata others

after_written : (size metadata others : List ℕ) → length size ≡ 4 → metadata_size (continuation_marker ++ (size ++ (metadata ++ others))) ≡ length metadata → after_metadata (continuation_marker ++ (size ++ (metadata ++ others))) ≡ others
unfolding after_metadata
after_written size metadata others four is =
    ap (λ (k : ℕ). drop k (drop 8 (continuation_marker ++ (size ++ (metadata ++ others))))) is
    ∙ ap (drop (length metadata)) (after_size size (metadata ++ others) four) ∙ drop-append_seam metadata others

marker_passes : (size others : List ℕ) → length size ≡ 4 → first_some (marker_faults (continuation_marker ++ (size ++ others))) ≡ None
unfolding marker_faults
marker_passes size others four =
    let long : 8 ≤ length (continuation_marker ++ (size ++ others)) = omega (arith, length-append size others) in
    let short : 4 ≤ length (continuation_marker ++ (size ++ others)) = omega arith in
    rw (le-ltb (length (continuation_marker ++ (size ++ others))) 4 short, le-ltb (length (continuation_marker ++ (size ++ others))) 8 long) refl

size_passes : (bytes : List ℕ) (n : ℕ) → metadata_size bytes ≡ n → n ≤ MAX_BUFFER_BYTES → 8 + n ≤ length bytes → first_some (size_faults bytes) ≡ None
unfolding size_faults
size_passes bytes n is small room = rw (is, le-ltb MAX_BUFFER_BYTES n small, le-ltb (length bytes) (8 + n) room) refl

no_zero : (n : ℕ) → 0 < n → eqb n 0 ≡ false
no_zero n h = grind arith

written_next_message : (size : List ℕ) (m : Envelope) (others : List ℕ) → length size ≡ 4 → little_number 4 size ≡ length m.metadata → IsMessage m
    → next_message (continuation_marker ++ (size ++ (m.metadata ++ (m.body ++ others)))) ≡ Ok (message m)
unfolding next_message
written_next_message size m others four is good =
    let bytes : List ℕ = continuation_marker ++ (size ++ (m.metadata ++ (m.body ++ others))) in
    let n : metadata_size bytes ≡ length m.metadata = size_written size (m.metadata ++ (m.body ++ others)) (length m.metadata) four is in
    let here : metadata_in bytes ≡ m.metadata = metadata_written size m.metadata (m.body ++ others) four n in
    let after : after_metadata bytes ≡ m.body ++ others = after_written size m.metadata (m.body ++ others) four n in
    let small : length m.metadata ≤ MAX_BUFFER_BYTES = good.small in
    let whole : length m.body ≡ body_length m.metadata = good.whole in
    let room : 8 + length m.metadata ≤ length bytes = omega (arith, length-append size (m.metadata ++ (m.body ++ others)), length-append m.metadata (m.body ++ others)) in
    let table = (message_passed m.metadata (length m.body) good.sound).0 in
    let sound : first_some (message_faults m.metadata (length (m.body ++ others))) ≡ None = message_passes m.metadata (length (m.body ++ others)) table (omega (arith, length-append m.body others)) in
    let all : first_some (size_faults bytes ++ message_faults (metadata_in bytes) (length (after_metadata bytes))) ≡ None =
    first_some-after (size_faults bytes) (message_faults (metadata_in bytes) (length (after_metadata bytes))) (size_passes bytes (length m.metadata) n small room) ∙ rw (here, after) sound in
    rw (marker_passes size (m.metadata ++ (m.body ++ others)) four, all, n, no_zero (length m.metadata) good.some, here, after, sym whole, take-append_seam m.body others) refl

pub next_message_framed : (bytes others : List ℕ) (m : Envelope) → IsMessage m → Framed bytes m others → next_message bytes ≡ Ok (message m)
next_message_framed bytes others m good framed = ap next_message framed.parts ∙ written_next_message framed.size m others framed.four framed.size_is good

-- ---- the end of stream

four_zeros : (xs : List ℕ) → length xs ≡ 4 → little_number 4 xs ≡ 0 → xs ≡ 0 ∷ 0 ∷ 0 ∷ 0 ∷ []
four_zeros [] l h = absurd (omega arith)
four_zeros (a ∷ []) l h = absurd (omega arith)
four_zeros (a ∷ b ∷ []) l h = absurd (omega arith)
four_zeros (a ∷ b ∷ c ∷ []) l h = absurd (omega arith)
four_zeros (a ∷ b ∷ c ∷ d ∷ []) l h =
    let p : a ≡ 0 = omega arith in
    let q : b ≡ 0 = omega arith in
    let r : c ≡ 0 = omega arith in
    let s : d ≡ 0 = omega arith in
    cc
four_zeros (a ∷ b ∷ c ∷ d ∷ e ∷ xs) l h = absurd (omega arith)

pub marked_next_message : (bytes : List ℕ) → next_message bytes ≡ Ok end_of_stream → bytes ≡ continuation_marker ++ (0 ∷ 0 ∷ 0 ∷ 0 ∷ drop 8 bytes)
unfolding next_message
marked_next_message bytes h =
    let all : Option Fault = first_some (size_faults bytes ++ message_faults (metadata_in bytes) (length (after_metadata bytes))) in
    let found : Envelope = record { metadata = metadata_in bytes; body = take (body_length (metadata_in bytes)) (after_metadata bytes) } in
    let a = unless_passed (first_some (marker_faults bytes)) (if eqb (metadata_size bytes) 0 then Ok end_of_stream else unless all (Ok (message found))) end_of_stream h in
    let marked : HasMarker bytes = marker_passed bytes a.0 in
    let none : metadata_size bytes ≡ 0 = eqb-true (metadata_size bytes) 0 (chosen_marker (eqb (metadata_size bytes) 0) all found a.1) in
    let long : 8 ≤ length bytes = marked.long in
    let zeros : take 4 (drop 4 bytes) ≡ 0 ∷ 0 ∷ 0 ∷ 0 ∷ [] =
    four_zeros (take 4 (drop 4 bytes)) (length-take-le 4 (drop 4 bytes) (omega (arith, length-drop 4 bytes))) (size_read bytes ∙ none) in
    after_marker bytes marked ∙ ap (λ (x : List ℕ). continuation_marker ++ (x ++ drop 8 bytes)) zeros

pub next_end_of_stream : (others : List ℕ) → next_message (continuation_marker ++ (0 ∷ 0 ∷ 0 ∷ 0 ∷ others)) ≡ Ok end_of_stream
unfolding next_message
next_end_of_stream others =
    let zeros : List ℕ = 0 ∷ 0 ∷ 0 ∷ 0 ∷ [] in
    let none : metadata_size (continuation_marker ++ (zeros ++ others)) ≡ 0 = size_written zeros others 0 refl refl in
    rw (marker_passes zeros others refl, none) refl
