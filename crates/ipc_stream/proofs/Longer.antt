-- What stands at the front of bytes stands there with more bytes after it, unless it is cut off.
use Rattle.std.specs.Prelude.{nat_lt, nat_eq, not, ◌==◌, if◌then◌else◌, is_none, Option, Some, None}
use Rattle.std.specs.List.{starts_with}
use Rattle.std.proofs.Common.{◌≡◌, ℕ, ◌+◌, ◌^◌, ◌≤◌, Bool, true, false, List, [], ◌∷◌, ◌++◌, length, take, drop, Result, Ok, Err, refl, sym, ap, ◌∙◌, arith, length-append}
use Rattle.std.proofs.lemmas.Bool.{ltb-false, le-ltb}
use Rattle.std.proofs.lemmas.List.{length-drop, length-take, length-take-le, take-append-le, drop-append-le}
use Rattle.facts.specs.laws.Checks.{first_some-after, first_some-before}
use Rattle.flatbuf.specs.declared.limits.TheConstants.{MAX_BUFFER_BYTES}
use Rattle.flatbuf.specs.Lookup.{number}
use Rattle.flatbuf.specs.Walk.{run}
use Rattle.ipc_message.specs.declared.fault.Fault.{Fault}
use Rattle.ipc_message.specs.declared.fault.Fault.TheVariants.{Truncated, NoContinuation, MetadataSize, MetadataVersion, HeaderKind, BodyLength}
use Rattle.ipc_message.specs.Framing.{NextMessage, message, end_of_stream, taken, continuation_marker, next_message, unless, first_some, when, walk_fault, message_things, version_of, type_of, header_type, marker_faults, size_faults, message_faults, metadata_size, metadata_in, after_metadata, message_with, body_length}

-- ---- bytes with more after them

pub starts_longer : (xs ys : List ℕ) → 4 ≤ length xs → starts_with nat_eq (xs ++ ys) continuation_marker ≡ starts_with nat_eq xs continuation_marker
starts_longer [] ys h = absurd (omega (arith, h))
starts_longer (a ∷ []) ys h = absurd (omega (arith, h))
starts_longer (a ∷ b ∷ []) ys h = absurd (omega (arith, h))
starts_longer (a ∷ b ∷ c ∷ []) ys h = absurd (omega (arith, h))
starts_longer (a ∷ b ∷ c ∷ d ∷ xs) ys h = refl

-- ---- the continuation marker

pub too_short : (bytes : List ℕ) → nat_lt (length bytes) 4 ≡ true → next_message bytes ≡ Err Truncated
unfolding next_message marker_faults
too_short bytes four = rw four refl

pub no_marker : (bytes : List ℕ) → nat_lt (length bytes) 4 ≡ false → starts_with nat_eq bytes continuation_marker ≡ false → next_message bytes ≡ Err NoContinuation
unfolding next_message marker_faults
no_marker bytes four starts = rw (four, starts) refl

no_size : (bytes : List ℕ) → nat_lt (length bytes) 4 ≡ false → starts_with nat_eq bytes continuation_marker ≡ true → nat_lt (length bytes) 8 ≡ true → next_message bytes ≡ Err Truncated
unfolding next_message marker_faults
no_size bytes four starts eight = rw (four, starts, eight) refl

-- ---- after the marker and the size

abbrev pub message_checks : List ℕ → List (Option Fault)
message_checks bytes = size_faults bytes ++ message_faults (metadata_in bytes) (length (after_metadata bytes))

abbrev pub checked_message : List ℕ → Result NextMessage Fault
checked_message bytes = unless (first_some (message_checks bytes)) (Ok (message_with (metadata_in bytes) (after_metadata bytes)))

abbrev pub sized_message : List ℕ → Result NextMessage Fault
sized_message bytes = if metadata_size bytes == 0 then Ok end_of_stream else checked_message bytes

pub sized : (bytes : List ℕ) → nat_lt (length bytes) 4 ≡ false → starts_with nat_eq bytes continuation_marker ≡ true → nat_lt (length bytes) 8 ≡ false → next_message bytes ≡ sized_message bytes
unfolding next_message marker_faults
sized bytes four starts eight = rw (four, starts, eight) refl

pub size_longer : (bytes more : List ℕ) → 8 ≤ length bytes → metadata_size (bytes ++ more) ≡ metadata_size bytes
unfolding metadata_size number
size_longer [] more h = absurd (omega (arith, h))
size_longer (a ∷ []) more h = absurd (omega (arith, h))
size_longer (a ∷ b ∷ []) more h = absurd (omega (arith, h))
size_longer (a ∷ b ∷ c ∷ []) more h = absurd (omega (arith, h))
size_longer (a ∷ b ∷ c ∷ d ∷ []) more h = absurd (omega (arith, h))
size_longer (a ∷ b ∷ c ∷ d ∷ e ∷ []) more h = absurd (omega (arith, h))
size_longer (a ∷ b ∷ c ∷ d ∷ e ∷ f ∷ []) more h = absurd (omega (arith, h))
size_longer (a ∷ b ∷ c ∷ d ∷ e ∷ f ∷ g ∷ []) more h = absurd (omega (arith, h))
size_longer (a ∷ b ∷ c ∷ d ∷ e ∷ f ∷ g ∷ i ∷ bytes) more h = refl

-- ---- the metadata and the body

-- the checks of the metadata alone, before that of its body's length
abbrev pub table_checks : List ℕ → List (Option Fault)
table_checks metadata =
    walk_fault (run metadata (message_things metadata) 0)
    ∷ when (not (version_of metadata == 4)) MetadataVersion
    ∷ when (is_none (header_type (type_of metadata))) HeaderKind
    ∷ when (not (nat_lt (body_length metadata) (2 ^ 63))) BodyLength
    ∷ []

pub message_found : (metadata : List ℕ) (following : ℕ) (fault : Fault) → first_some (table_checks metadata) ≡ Some fault → first_some (message_faults metadata following) ≡ Some fault
unfolding message_faults
message_found metadata following fault found = first_some-before (table_checks metadata) (when (nat_lt following (body_length metadata)) Truncated ∷ []) fault found

pub message_last : (metadata : List ℕ) (following : ℕ) → first_some (table_checks metadata) ≡ None
    → first_some (message_faults metadata following) ≡ first_some (when (nat_lt following (body_length metadata)) Truncated ∷ [])
unfolding message_faults
message_last metadata following none = first_some-after (table_checks metadata) (when (nat_lt following (body_length metadata)) Truncated ∷ []) none

size_checked : (bytes : List ℕ) → nat_lt MAX_BUFFER_BYTES (metadata_size bytes) ≡ false → nat_lt (length bytes) (8 + metadata_size bytes) ≡ false
    → first_some (message_checks bytes) ≡ first_some (message_faults (metadata_in bytes) (length (after_metadata bytes)))
unfolding size_faults
size_checked bytes small room = rw (small, room) refl

pub size_refused : (bytes : List ℕ) → nat_lt MAX_BUFFER_BYTES (metadata_size bytes) ≡ true → checked_message bytes ≡ Err MetadataSize
unfolding size_faults
size_refused bytes large = rw large refl

size_cut : (bytes : List ℕ) → nat_lt MAX_BUFFER_BYTES (metadata_size bytes) ≡ false → nat_lt (length bytes) (8 + metadata_size bytes) ≡ true → checked_message bytes ≡ Err Truncated
unfolding size_faults
size_cut bytes small short = rw (small, short) refl

pub metadata_longer : (bytes more : List ℕ) → 8 + metadata_size bytes ≤ length bytes → metadata_size (bytes ++ more) ≡ metadata_size bytes → metadata_in (bytes ++ more) ≡ metadata_in bytes
unfolding metadata_in
metadata_longer bytes more room same =
    ap (λ (n : ℕ). take n (drop 8 (bytes ++ more))) same ∙ ap (take (metadata_size bytes)) (drop-append-le 8 bytes more (omega (arith, room)))
    ∙ take-append-le (metadata_size bytes) (drop 8 bytes) more (omega (arith, room, length-drop 8 bytes))

pub after_longer : (bytes more : List ℕ) → 8 + metadata_size bytes ≤ length bytes → metadata_size (bytes ++ more) ≡ metadata_size bytes → after_metadata (bytes ++ more) ≡ after_metadata bytes ++ more
unfolding after_metadata
after_longer bytes more room same =
    ap (λ (n : ℕ). drop n (drop 8 (bytes ++ more))) same ∙ ap (drop (metadata_size bytes)) (drop-append-le 8 bytes more (omega (arith, room)))
    ∙ drop-append-le (metadata_size bytes) (drop 8 bytes) more (omega (arith, room, length-drop 8 bytes))

-- a message whose metadata is whole
module _ (bytes more : List ℕ) (small : nat_lt MAX_BUFFER_BYTES (metadata_size bytes) ≡ false) (room : 8 + metadata_size bytes ≤ length bytes) (same : metadata_size (bytes ++ more) ≡ metadata_size bytes) where
  abbrev metadata : List ℕ
  metadata = metadata_in bytes

  abbrev following : List ℕ
  following = after_metadata bytes

  pub checks_here : first_some (message_checks bytes) ≡ first_some (message_faults metadata (length following))
  checks_here = size_checked bytes small (le-ltb (length bytes) (8 + metadata_size bytes) room)

  pub checks_there : first_some (message_checks (bytes ++ more)) ≡ first_some (message_faults metadata (length (following ++ more)))
  checks_there =
      size_checked (bytes ++ more) (ap (nat_lt MAX_BUFFER_BYTES) same ∙ small)
      (le-ltb (length (bytes ++ more)) (8 + metadata_size (bytes ++ more)) (omega (arith, room, same, length-append bytes more)))
      ∙ (λ j. first_some (message_faults (metadata_longer bytes more room same j) (length (after_longer bytes more room same j))))

  refused_longer : (fault : Fault) → first_some (table_checks metadata) ≡ Some fault → checked_message (bytes ++ more) ≡ checked_message bytes
  refused_longer fault found =
      ap (λ (o : Option Fault). unless o (Ok (message_with (metadata_in (bytes ++ more)) (after_metadata (bytes ++ more))))) (checks_there ∙ message_found metadata (length (following ++ more)) fault found)
      ∙ sym (ap (λ (o : Option Fault). unless o (Ok (message_with metadata following))) (checks_here ∙ message_found metadata (length following) fault found))

  body_cut : first_some (table_checks metadata) ≡ None → nat_lt (length following) (body_length metadata) ≡ true → checked_message bytes ≡ Err Truncated
  body_cut none short =
      ap (λ (o : Option Fault). unless o (Ok (message_with metadata following)))
      (checks_here ∙ message_last metadata (length following) none ∙ ap (λ (b : Bool). first_some (when b Truncated ∷ [])) short)

  body_whole : first_some (table_checks metadata) ≡ None → nat_lt (length following) (body_length metadata) ≡ false → checked_message (bytes ++ more) ≡ checked_message bytes
  body_whole none whole =
      let long : body_length metadata ≤ length following = ltb-false (length following) (body_length metadata) whole in
      let longer : nat_lt (length (following ++ more)) (body_length metadata) ≡ false = le-ltb (length (following ++ more)) (body_length metadata) (omega (arith, long, length-append following more)) in
      let here : checked_message bytes ≡ Ok (message_with metadata following) =
      ap (λ (o : Option Fault). unless o (Ok (message_with metadata following)))
      (checks_here ∙ message_last metadata (length following) none ∙ ap (λ (b : Bool). first_some (when b Truncated ∷ [])) whole) in
      let there : checked_message (bytes ++ more) ≡ Ok (message_with (metadata_in (bytes ++ more)) (after_metadata (bytes ++ more))) =
      ap (λ (o : Option Fault). unless o (Ok (message_with (metadata_in (bytes ++ more)) (after_metadata (bytes ++ more)))))
      (checks_there ∙ message_last metadata (length (following ++ more)) none ∙ ap (λ (b : Bool). first_some (when b Truncated ∷ [])) longer) in
      there ∙ (λ j. Ok (message_with (metadata_longer bytes more room same j) (after_longer bytes more room same j)))
      ∙ ap (λ (body : List ℕ). Ok (message (record { metadata = metadata; body = body }))) (take-append-le (body_length metadata) following more long)
      ∙ sym here

  with_table : (o : Option Fault) → o ≡ first_some (table_checks metadata) → (checked_message bytes ≡ Err Truncated → ⊥) → checked_message (bytes ++ more) ≡ checked_message bytes
  with_table (Some fault) e whole = refused_longer fault (sym e)
  with_table None e whole = with_body (nat_lt (length following) (body_length metadata)) refl
    where
      with_body : (b : Bool) → b ≡ nat_lt (length following) (body_length metadata) → checked_message (bytes ++ more) ≡ checked_message bytes
      with_body true short = absurd (whole (body_cut (sym e) (sym short)))
      with_body false long = body_whole (sym e) (sym long)

  pub metadata_whole : (checked_message bytes ≡ Err Truncated → ⊥) → checked_message (bytes ++ more) ≡ checked_message bytes
  metadata_whole = with_table (first_some (table_checks metadata)) refl

-- ---- all that may stand at the front

checked_longer : (bytes more : List ℕ) → 8 ≤ length bytes → (checked_message bytes ≡ Err Truncated → ⊥) → checked_message (bytes ++ more) ≡ checked_message bytes
checked_longer bytes more eight whole = by_size (nat_lt MAX_BUFFER_BYTES (metadata_size bytes)) refl (nat_lt (length bytes) (8 + metadata_size bytes)) refl
  where
    same : metadata_size (bytes ++ more) ≡ metadata_size bytes
    same = size_longer bytes more eight

    by_size : (large : Bool) → large ≡ nat_lt MAX_BUFFER_BYTES (metadata_size bytes) → (short : Bool) → short ≡ nat_lt (length bytes) (8 + metadata_size bytes)
        → checked_message (bytes ++ more) ≡ checked_message bytes
    by_size true large short is = size_refused (bytes ++ more) (ap (nat_lt MAX_BUFFER_BYTES) same ∙ sym large) ∙ sym (size_refused bytes (sym large))
    by_size false small true short = absurd (whole (size_cut bytes (sym small) (sym short)))
    by_size false small false room = metadata_whole bytes more (sym small) (ltb-false (length bytes) (8 + metadata_size bytes) (sym room)) same whole

sized_longer : (bytes more : List ℕ) → 8 ≤ length bytes → (sized_message bytes ≡ Err Truncated → ⊥) → sized_message (bytes ++ more) ≡ sized_message bytes
sized_longer bytes more eight whole = by_zero (metadata_size bytes == 0) refl
  where
    none_there : (metadata_size (bytes ++ more) == 0) ≡ (metadata_size bytes == 0)
    none_there = ap (λ (n : ℕ). n == 0) (size_longer bytes more eight)

    by_zero : (zero : Bool) → zero ≡ (metadata_size bytes == 0) → sized_message (bytes ++ more) ≡ sized_message bytes
    by_zero true e = rw (none_there, sym e) refl
    by_zero false e = rw (none_there, sym e) (checked_longer bytes more eight (λ cut. whole (rw (sym e) cut)))

pub next_longer : (bytes more : List ℕ) → (next_message bytes ≡ Err Truncated → ⊥) → next_message (bytes ++ more) ≡ next_message bytes
next_longer bytes more whole = by_length (nat_lt (length bytes) 4) refl (starts_with nat_eq bytes continuation_marker) refl (nat_lt (length bytes) 8) refl
  where
    four_there : 4 ≤ length bytes → nat_lt (length (bytes ++ more)) 4 ≡ false
    four_there four = le-ltb (length (bytes ++ more)) 4 (omega (arith, four, length-append bytes more))

    eight_there : 8 ≤ length bytes → nat_lt (length (bytes ++ more)) 8 ≡ false
    eight_there eight = le-ltb (length (bytes ++ more)) 8 (omega (arith, eight, length-append bytes more))

    by_length : (short : Bool) → short ≡ nat_lt (length bytes) 4 → (starts : Bool) → starts ≡ starts_with nat_eq bytes continuation_marker
        → (half : Bool) → half ≡ nat_lt (length bytes) 8 → next_message (bytes ++ more) ≡ next_message bytes
    by_length true short starts e half is = absurd (whole (too_short bytes (sym short)))
    by_length false four false starts half is =
        let long : 4 ≤ length bytes = ltb-false (length bytes) 4 (sym four) in
        no_marker (bytes ++ more) (four_there long) (starts_longer bytes more long ∙ sym starts) ∙ sym (no_marker bytes (sym four) (sym starts))
    by_length false four true starts true half = absurd (whole (no_size bytes (sym four) (sym starts) (sym half)))
    by_length false four true starts false eight =
        let long : 8 ≤ length bytes = ltb-false (length bytes) 8 (sym eight) in
        let four_long : 4 ≤ length bytes = omega (arith, long) in
        let here : next_message bytes ≡ sized_message bytes = sized bytes (sym four) (sym starts) (sym eight) in
        sized (bytes ++ more) (four_there four_long) (starts_longer bytes more four_long ∙ sym starts) (eight_there long)
        ∙ sized_longer bytes more long (λ cut. whole (here ∙ cut)) ∙ sym here

-- ---- how many bytes it takes

message_taken : (bytes : List ℕ) (o : Option Fault) (f : NextMessage) → 8 + metadata_size bytes ≤ length bytes
    → unless o (Ok (message_with (metadata_in bytes) (after_metadata bytes))) ≡ Ok f → taken f ≤ length bytes
unfolding metadata_in after_metadata
message_taken bytes (Some fault) f room h = absurd cc
message_taken bytes None f room h =
    let is : message_with (metadata_in bytes) (after_metadata bytes) ≡ f = cc in
    let n : length (take (metadata_size bytes) (drop 8 bytes)) ≡ metadata_size bytes = length-take-le (metadata_size bytes) (drop 8 bytes) (omega (arith, room, length-drop 8 bytes)) in
    let b = length-take (body_length (metadata_in bytes)) (drop (metadata_size bytes) (drop 8 bytes)) in
    let whole : taken (message_with (metadata_in bytes) (after_metadata bytes)) ≤ length bytes =
    omega (arith, n, b, room, length-drop (metadata_size bytes) (drop 8 bytes), length-drop 8 bytes) in
    rw (sym is) whole

sized_taken : (bytes : List ℕ) (f : NextMessage) → 8 ≤ length bytes → sized_message bytes ≡ Ok f → taken f ≤ length bytes
sized_taken bytes f eight h = by_size (metadata_size bytes == 0) refl (nat_lt MAX_BUFFER_BYTES (metadata_size bytes)) refl (nat_lt (length bytes) (8 + metadata_size bytes)) refl
  where
    by_size : (zero : Bool) → zero ≡ (metadata_size bytes == 0) → (large : Bool) → large ≡ nat_lt MAX_BUFFER_BYTES (metadata_size bytes)
        → (short : Bool) → short ≡ nat_lt (length bytes) (8 + metadata_size bytes) → taken f ≤ length bytes
    by_size true none large e short is =
        let found : end_of_stream ≡ f = let given : Ok end_of_stream ≡ Ok f = rw (sym none) at h in cc in
        rw (sym found) eight
    by_size false some true large short is = absurd (let given : Err MetadataSize ≡ Ok f = sym (size_refused bytes (sym large)) ∙ (rw (sym some) at h) in cc)
    by_size false some false small true short = absurd (let given : Err Truncated ≡ Ok f = sym (size_cut bytes (sym small) (sym short)) ∙ (rw (sym some) at h) in cc)
    by_size false some false small false room =
        message_taken bytes (first_some (message_checks bytes)) f (ltb-false (length bytes) (8 + metadata_size bytes) (sym room)) (rw (sym some) at h)

pub next_taken : (bytes : List ℕ) (f : NextMessage) → next_message bytes ≡ Ok f → taken f ≤ length bytes
next_taken bytes f h = by_length (nat_lt (length bytes) 4) refl (starts_with nat_eq bytes continuation_marker) refl (nat_lt (length bytes) 8) refl
  where
    by_length : (short : Bool) → short ≡ nat_lt (length bytes) 4 → (starts : Bool) → starts ≡ starts_with nat_eq bytes continuation_marker
        → (half : Bool) → half ≡ nat_lt (length bytes) 8 → taken f ≤ length bytes
    by_length true short starts e half is = absurd (let given : Err Truncated ≡ Ok f = sym (too_short bytes (sym short)) ∙ h in cc)
    by_length false four false starts half is = absurd (let given : Err NoContinuation ≡ Ok f = sym (no_marker bytes (sym four) (sym starts)) ∙ h in cc)
    by_length false four true starts true half = absurd (let given : Err Truncated ≡ Ok f = sym (no_size bytes (sym four) (sym starts) (sym half)) ∙ h in cc)
    by_length false four true starts false eight =
        sized_taken bytes f (ltb-false (length bytes) 8 (sym eight)) (sym (sized bytes (sym four) (sym starts) (sym eight)) ∙ h)

-- nothing stands at the front of no bytes
pub none_there : next_message [] ≡ Err Truncated
none_there = too_short [] refl
