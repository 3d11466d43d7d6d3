-- A front that is cut off is one no more after some bytes.
use Rattle.std.specs.Prelude.{nat_lt, nat_eq, not, ◌==◌, ◌&&◌, is_none, if◌then◌else◌, Option, Some, None}
use Rattle.std.specs.List.{starts_with}
use Rattle.std.proofs.Common.{◌≡◌, ℕ, zero, suc, ◌+◌, ◌-◌, ◌^◌, ◌<◌, ◌≤◌, Bool, true, false, List, [], ◌∷◌, ◌++◌, length, take, drop, replicate, Result, Ok, Err, refl, sym, ap, ◌∙◌, arith, append_assoc, length-append}
use Rattle.std.proofs.lemmas.Bool.{ltb-true, ltb-false, lt-ltb, le-ltb, ne_eqb}
use Rattle.std.proofs.lemmas.List.{length-drop, length-take, length-take-le, length-replicate}
use Rattle.facts.specs.Bytes.{AreBytes}
use Rattle.facts.specs.laws.Bytes.{cons-bytes}
use Rattle.flatbuf.specs.declared.FlatError.{FlatError}
use Rattle.flatbuf.specs.declared.FlatError.TheVariants.{Bounds, VtableSize, Budget}
use Rattle.flatbuf.specs.declared.limits.TheConstants.{MAX_BUFFER_BYTES}
use Rattle.flatbuf.specs.Lookup.{number}
use Rattle.flatbuf.specs.Walk.{run}
use Rattle.ipc_message.specs.declared.fault.Fault.{Fault}
use Rattle.ipc_message.specs.declared.fault.Fault.TheVariants.{Truncated, NoContinuation, MetadataSize, MetadataVersion, HeaderKind, BodyLength}
use Rattle.ipc_message.specs.Framing.{Envelope, message, end_of_stream, taken, continuation_marker, next_message, unless, first_some, when, walk_fault, message_things, version_of, type_of, header_type, metadata_size, metadata_in, after_metadata, message_with, body_length}
use Rattle.ipc_stream.proofs.Faults.{goes}
use Rattle.ipc_stream.proofs.Longer.{starts_longer, no_marker, message_checks, checked_message, sized_message, table_checks, sized, size_longer, message_found, message_last, size_refused, metadata_longer, after_longer, checks_here, checks_there}

-- ---- bytes

no_bytes : AreBytes []
no_bytes k = omega arith

equal_bytes : (n x : ℕ) → x < 256 → AreBytes (replicate n x)
equal_bytes zero x small = no_bytes
equal_bytes (suc n) x small = cons-bytes x (replicate n x) small (equal_bytes n x small)

equal_length : (n x : ℕ) → length (replicate n x) ≡ n
equal_length n x = length-replicate n x

both_bytes : (xs ys : List ℕ) → AreBytes xs → AreBytes ys → AreBytes (xs ++ ys)
both_bytes [] ys first second = second
both_bytes (x ∷ xs) ys first second = cons-bytes x (xs ++ ys) (first 0) (both_bytes xs ys (λ k. first (suc k)) second)

-- ---- what completes a front

-- with these bytes after it the front is not cut off, and if it is a message, that takes all of them
pub record Completes (bytes more : List ℕ) : Type 0 where
  pub fits : AreBytes more
  pub whole : next_message (bytes ++ more) ≡ Err Truncated → ⊥
  pub all : (m : Envelope) → next_message (bytes ++ more) ≡ Ok (message m) → taken (message m) ≡ length (bytes ++ more)

refused_completes : (bytes more : List ℕ) (fault : Fault) → AreBytes more → (fault ≡ Truncated → ⊥) → next_message (bytes ++ more) ≡ Err fault → Completes bytes more
refused_completes bytes more fault fits other e = record {
  fits = fits;
  whole = λ cut. other (let same : Err fault ≡ Err Truncated = sym e ∙ cut in cc);
  all = λ m found. absurd (let same : Err fault ≡ Ok (message m) = sym e ∙ found in cc);
}

-- ---- the continuation marker

and_false : (p : Bool) → (p && false) ≡ false
and_false true = refl
and_false false = refl

and_then_false : (p q : Bool) → (p && (q && false)) ≡ false
and_then_false true q = and_false q
and_then_false false q = refl

and_last_false : (p q r : Bool) → (p && (q && (r && false))) ≡ false
and_last_false true q r = and_then_false q r
and_last_false false q r = refl

-- no marker has a byte 0
no_mark : (bytes : List ℕ) → length bytes < 4 → starts_with nat_eq (bytes ++ replicate 8 0) continuation_marker ≡ false
no_mark [] h = refl
no_mark (a ∷ []) h = and_false (nat_eq 255 a)
no_mark (a ∷ b ∷ []) h = and_then_false (nat_eq 255 a) (nat_eq 255 b)
no_mark (a ∷ b ∷ c ∷ []) h = and_last_false (nat_eq 255 a) (nat_eq 255 b) (nat_eq 255 c)
no_mark (a ∷ b ∷ c ∷ d ∷ bytes) h = absurd (omega (arith, h))

marker_completes : (bytes : List ℕ) → length bytes < 4 → Completes bytes (replicate 8 0)
marker_completes bytes short =
    refused_completes bytes (replicate 8 0) NoContinuation (equal_bytes 8 0 (omega arith)) (λ e. cc)
    (no_marker (bytes ++ replicate 8 0) (le-ltb (length (bytes ++ replicate 8 0)) 4 (omega (arith, length-append bytes (replicate 8 0), equal_length 8 0))) (no_mark bytes short))

-- ---- the size of the metadata

-- a size whose last byte is 255 exceeds the limit
large : (bytes : List ℕ) → 4 ≤ length bytes → length bytes < 8 → MAX_BUFFER_BYTES < metadata_size (bytes ++ replicate 4 255)
unfolding metadata_size number
large [] four eight = absurd (omega (arith, four))
large (a ∷ []) four eight = absurd (omega (arith, four))
large (a ∷ b ∷ []) four eight = absurd (omega (arith, four))
large (a ∷ b ∷ c ∷ []) four eight = absurd (omega (arith, four))
large (a ∷ b ∷ c ∷ d ∷ []) four eight = omega arith
large (a ∷ b ∷ c ∷ d ∷ e ∷ []) four eight = omega arith
large (a ∷ b ∷ c ∷ d ∷ e ∷ f ∷ []) four eight = omega arith
large (a ∷ b ∷ c ∷ d ∷ e ∷ f ∷ g ∷ []) four eight = omega arith
large (a ∷ b ∷ c ∷ d ∷ e ∷ f ∷ g ∷ h ∷ bytes) four eight = absurd (omega (arith, eight))

size_completes : (bytes : List ℕ) → 4 ≤ length bytes → length bytes < 8 → starts_with nat_eq bytes continuation_marker ≡ true → Completes bytes (replicate 4 255)
size_completes bytes four eight starts =
    let all : List ℕ = bytes ++ replicate 4 255 in
    let long : 8 ≤ length all = omega (arith, four, length-append bytes (replicate 4 255), equal_length 4 255) in
    let exceeds : MAX_BUFFER_BYTES < metadata_size all = large bytes four eight in
    refused_completes bytes (replicate 4 255) MetadataSize (equal_bytes 4 255 (omega arith)) (λ e. cc)
    (sized all (le-ltb (length all) 4 (omega (arith, long))) (starts_longer bytes (replicate 4 255) four ∙ starts) (le-ltb (length all) 8 long)
    ∙ ap (λ (b : Bool). if b then Ok end_of_stream else checked_message all) (ne_eqb (metadata_size all) 0 (λ none. omega (arith, exceeds, none)))
    ∙ size_refused all (lt-ltb MAX_BUFFER_BYTES (metadata_size all) exceeds))

-- ---- the metadata and the body

-- the checks of the metadata find other faults
table_whole : (metadata : List ℕ) → first_some (table_checks metadata) ≡ Some Truncated → ⊥
table_whole metadata = by_walk (run metadata (message_things metadata) 0)
  where
    rest : first_some (when (not (version_of metadata == 4)) MetadataVersion ∷ when (is_none (header_type (type_of metadata))) HeaderKind
        ∷ when (not (nat_lt (body_length metadata) (2 ^ 63))) BodyLength ∷ []) ≡ Some Truncated → ⊥
    rest = goes (not (version_of metadata == 4)) MetadataVersion _ (λ e. cc) (goes (is_none (header_type (type_of metadata))) HeaderKind _ (λ e. cc)
        (goes (not (nat_lt (body_length metadata) (2 ^ 63))) BodyLength [] (λ e. cc) (λ h. cc)))

    by_walk : (r : Result ℕ FlatError) → first_some (walk_fault r ∷ when (not (version_of metadata == 4)) MetadataVersion
        ∷ when (is_none (header_type (type_of metadata))) HeaderKind ∷ when (not (nat_lt (body_length metadata) (2 ^ 63))) BodyLength ∷ []) ≡ Some Truncated → ⊥
    by_walk (Ok n) h = rest h
    by_walk (Err Bounds) h = cc
    by_walk (Err VtableSize) h = cc
    by_walk (Err Budget) h = cc

-- how many bytes a message takes whose body goes to the end
takes_all : (bytes : List ℕ) → 8 + metadata_size bytes ≤ length bytes → body_length (metadata_in bytes) ≡ length (after_metadata bytes)
    → taken (message_with (metadata_in bytes) (after_metadata bytes)) ≡ length bytes
unfolding metadata_in after_metadata
takes_all bytes room whole =
    let n : length (take (metadata_size bytes) (drop 8 bytes)) ≡ metadata_size bytes = length-take-le (metadata_size bytes) (drop 8 bytes) (omega (arith, room, length-drop 8 bytes)) in
    let b = length-take (body_length (take (metadata_size bytes) (drop 8 bytes))) (drop (metadata_size bytes) (drop 8 bytes)) in
    omega (arith, n, b, whole, room, length-drop (metadata_size bytes) (drop 8 bytes), length-drop 8 bytes)

module _ (bytes : List ℕ) (eight : 8 ≤ length bytes) (starts : starts_with nat_eq bytes continuation_marker ≡ true) (some : (metadata_size bytes == 0) ≡ false)
    (small : nat_lt MAX_BUFFER_BYTES (metadata_size bytes) ≡ false) where
  next_is : (more : List ℕ) → next_message (bytes ++ more) ≡ checked_message (bytes ++ more)
  next_is more =
      let long : 8 ≤ length (bytes ++ more) = omega (arith, eight, length-append bytes more) in
      sized (bytes ++ more) (le-ltb (length (bytes ++ more)) 4 (omega (arith, long))) (starts_longer bytes more (omega (arith, eight)) ∙ starts) (le-ltb (length (bytes ++ more)) 8 long)
      ∙ ap (λ (b : Bool). if b then Ok end_of_stream else checked_message (bytes ++ more)) (ap (λ (n : ℕ). n == 0) (size_longer bytes more eight) ∙ some)

  -- the metadata is whole, and these bytes complete the body
  body_completes : (more : List ℕ) → 8 + metadata_size bytes ≤ length bytes → AreBytes more → length (after_metadata bytes ++ more) ≡ body_length (metadata_in bytes) → Completes bytes more
  body_completes more room fits whole = by_table (first_some (table_checks (metadata_in bytes))) refl
    where
      same : metadata_size (bytes ++ more) ≡ metadata_size bytes
      same = size_longer bytes more eight

      checked : (o : Option Fault) → first_some (message_checks (bytes ++ more)) ≡ o
          → next_message (bytes ++ more) ≡ unless o (Ok (message_with (metadata_in (bytes ++ more)) (after_metadata (bytes ++ more))))
      checked o is = next_is more ∙ ap (λ (o : Option Fault). unless o (Ok (message_with (metadata_in (bytes ++ more)) (after_metadata (bytes ++ more))))) is

      taking : taken (message_with (metadata_in (bytes ++ more)) (after_metadata (bytes ++ more))) ≡ length (bytes ++ more)
      taking = takes_all (bytes ++ more) (omega (arith, room, same, length-append bytes more))
          (ap body_length (metadata_longer bytes more room same) ∙ sym whole ∙ sym (ap length (after_longer bytes more room same)))

      found : next_message (bytes ++ more) ≡ Ok (message_with (metadata_in (bytes ++ more)) (after_metadata (bytes ++ more))) → Completes bytes more
      found is = record {
        fits = fits;
        whole = λ cut. let given : Ok (message_with (metadata_in (bytes ++ more)) (after_metadata (bytes ++ more))) ≡ Err Truncated = sym is ∙ cut in cc;
        all = λ m e.
            let one : message_with (metadata_in (bytes ++ more)) (after_metadata (bytes ++ more)) ≡ message m =
            (let given : Ok (message_with (metadata_in (bytes ++ more)) (after_metadata (bytes ++ more))) ≡ Ok (message m) = sym is ∙ e in cc) in
            sym (ap taken one) ∙ taking;
      }

      by_table : (o : Option Fault) → o ≡ first_some (table_checks (metadata_in bytes)) → Completes bytes more
      by_table (Some fault) e =
          refused_completes bytes more fault fits (λ is. table_whole (metadata_in bytes) (sym e ∙ ap Some is))
          (checked (Some fault) (checks_there bytes more small room same ∙ message_found (metadata_in bytes) (length (after_metadata bytes ++ more)) fault (sym e)))
      by_table None e =
          found (checked None (checks_there bytes more small room same ∙ message_last (metadata_in bytes) (length (after_metadata bytes ++ more)) (sym e)
          ∙ ap (λ (b : Bool). first_some (when b Truncated ∷ [])) (le-ltb (length (after_metadata bytes ++ more)) (body_length (metadata_in bytes)) (omega (arith, whole)))))

  -- a whole message is not cut off
  not_cut : 8 + metadata_size bytes ≤ length bytes → body_length (metadata_in bytes) ≤ length (after_metadata bytes) → checked_message bytes ≡ Err Truncated → ⊥
  not_cut room long cut = by_table (first_some (table_checks (metadata_in bytes))) refl
    where
      checked : (o : Option Fault) → first_some (message_checks bytes) ≡ o → checked_message bytes ≡ unless o (Ok (message_with (metadata_in bytes) (after_metadata bytes)))
      checked o is = ap (λ (o : Option Fault). unless o (Ok (message_with (metadata_in bytes) (after_metadata bytes)))) is

      by_table : (o : Option Fault) → o ≡ first_some (table_checks (metadata_in bytes)) → ⊥
      by_table (Some fault) e =
          let here = checked (Some fault) (checks_here bytes [] small room (size_longer bytes [] eight) ∙ message_found (metadata_in bytes) (length (after_metadata bytes)) fault (sym e)) in
          let same : fault ≡ Truncated = (let given : Err fault ≡ Err Truncated = sym here ∙ cut in cc) in
          table_whole (metadata_in bytes) (sym e ∙ ap Some same)
      by_table None e =
          let here = checked None (checks_here bytes [] small room (size_longer bytes [] eight) ∙ message_last (metadata_in bytes) (length (after_metadata bytes)) (sym e)
          ∙ ap (λ (b : Bool). first_some (when b Truncated ∷ [])) (le-ltb (length (after_metadata bytes)) (body_length (metadata_in bytes)) long)) in
          let given : Ok (message_with (metadata_in bytes) (after_metadata bytes)) ≡ Err Truncated = sym here ∙ cut in
          cc

-- ---- all that may be cut off

-- the metadata is whole
whole_completes : (bytes : List ℕ) → 8 ≤ length bytes → starts_with nat_eq bytes continuation_marker ≡ true → (metadata_size bytes == 0) ≡ false
    → nat_lt MAX_BUFFER_BYTES (metadata_size bytes) ≡ false → 8 + metadata_size bytes ≤ length bytes → length (after_metadata bytes) ≤ body_length (metadata_in bytes)
    → (more : List ℕ) × Completes bytes more
whole_completes bytes eight starts some small room short =
    let n : ℕ = body_length (metadata_in bytes) - length (after_metadata bytes) in
    let more : List ℕ = replicate n 0 in (
      more,
      body_completes bytes eight starts some small more room (equal_bytes n 0 (omega arith))
          (omega (arith, short, length-append (after_metadata bytes) (replicate n 0), equal_length n 0)),
    )

none_after : (all : List ℕ) → length all ≡ 8 + metadata_size all → length (after_metadata all) ≡ 0
unfolding after_metadata
none_after all long = omega (arith, long, length-drop (metadata_size all) (drop 8 all), length-drop 8 all)

-- the metadata is cut off
metadata_completes : (bytes : List ℕ) → 8 ≤ length bytes → starts_with nat_eq bytes continuation_marker ≡ true → (metadata_size bytes == 0) ≡ false
    → nat_lt MAX_BUFFER_BYTES (metadata_size bytes) ≡ false → length bytes < 8 + metadata_size bytes → (more : List ℕ) × Completes bytes more
metadata_completes bytes eight starts some small short =
    let n : ℕ = 8 + metadata_size bytes - length bytes in
    let front : List ℕ = replicate n 0 in
    let same : metadata_size (bytes ++ front) ≡ metadata_size bytes = size_longer bytes front eight in
    let long : length (bytes ++ front) ≡ 8 + metadata_size bytes = omega (arith, short, length-append bytes front, equal_length n 0) in
    let next = whole_completes (bytes ++ front) (omega (arith, eight, long)) (starts_longer bytes front (omega (arith, eight)) ∙ starts)
    (ap (λ (k : ℕ). k == 0) same ∙ some) (ap (nat_lt MAX_BUFFER_BYTES) same ∙ small) (omega (arith, long, same)) (omega (arith, none_after (bytes ++ front) (long ∙ ap (λ (k : ℕ). 8 + k) (sym same)))) in
    let joined : (bytes ++ front) ++ next.0 ≡ bytes ++ (front ++ next.0) = append_assoc bytes front next.0 in (
      front ++ next.0,
      record {
        fits = both_bytes front next.0 (equal_bytes n 0 (omega arith)) next.1.fits;
        whole = λ cut. next.1.whole (ap next_message joined ∙ cut);
        all = λ m e. next.1.all m (ap next_message joined ∙ e) ∙ ap length joined;
      },
    )

pub completes : (bytes : List ℕ) → next_message bytes ≡ Err Truncated → (more : List ℕ) × Completes bytes more
completes bytes cut = by_length (nat_lt (length bytes) 4) refl (starts_with nat_eq bytes continuation_marker) refl (nat_lt (length bytes) 8) refl
  where
    by_size : 8 ≤ length bytes → starts_with nat_eq bytes continuation_marker ≡ true → sized_message bytes ≡ Err Truncated
        → (none : Bool) → none ≡ (metadata_size bytes == 0) → (large : Bool) → large ≡ nat_lt MAX_BUFFER_BYTES (metadata_size bytes)
        → (short : Bool) → short ≡ nat_lt (length bytes) (8 + metadata_size bytes)
        → (half : Bool) → half ≡ nat_lt (length (after_metadata bytes)) (body_length (metadata_in bytes)) → (more : List ℕ) × Completes bytes more
    by_size eight starts cut true none large e short is half whole = absurd (let given : Ok end_of_stream ≡ Err Truncated = rw (sym none) at cut in cc)
    by_size eight starts cut false some true large short is half whole =
        absurd (let given : Err MetadataSize ≡ Err Truncated = sym (size_refused bytes (sym large)) ∙ (rw (sym some) at cut) in cc)
    by_size eight starts cut false some false small true short half whole =
        metadata_completes bytes eight starts (sym some) (sym small) (ltb-true (length bytes) (8 + metadata_size bytes) (sym short))
    by_size eight starts cut false some false small false room true half =
        let less : length (after_metadata bytes) < body_length (metadata_in bytes) = ltb-true (length (after_metadata bytes)) (body_length (metadata_in bytes)) (sym half) in
        whole_completes bytes eight starts (sym some) (sym small) (ltb-false (length bytes) (8 + metadata_size bytes) (sym room)) (omega (arith, less))
    by_size eight starts cut false some false small false room false whole =
        absurd (not_cut bytes eight starts (sym some) (sym small) (ltb-false (length bytes) (8 + metadata_size bytes) (sym room))
        (ltb-false (length (after_metadata bytes)) (body_length (metadata_in bytes)) (sym whole)) (rw (sym some) at cut))

    by_length : (short : Bool) → short ≡ nat_lt (length bytes) 4 → (starts : Bool) → starts ≡ starts_with nat_eq bytes continuation_marker
        → (half : Bool) → half ≡ nat_lt (length bytes) 8 → (more : List ℕ) × Completes bytes more
    by_length true short starts e half is = (replicate 8 0, marker_completes bytes (ltb-true (length bytes) 4 (sym short)))
    by_length false four false starts half is = absurd (let given : Err NoContinuation ≡ Err Truncated = sym (no_marker bytes (sym four) (sym starts)) ∙ cut in cc)
    by_length false four true starts true half =
        (replicate 4 255, size_completes bytes (ltb-false (length bytes) 4 (sym four)) (ltb-true (length bytes) 8 (sym half)) (sym starts))
    by_length false four true starts false eight =
        by_size (ltb-false (length bytes) 8 (sym eight)) (sym starts) (sym (sized bytes (sym four) (sym starts) (sym eight)) ∙ cut)
        (metadata_size bytes == 0) refl (nat_lt MAX_BUFFER_BYTES (metadata_size bytes)) refl (nat_lt (length bytes) (8 + metadata_size bytes)) refl
        (nat_lt (length (after_metadata bytes)) (body_length (metadata_in bytes))) refl
