-- The front, where its mark and size pass, is what the metadata says.
use Rattle.std.proofs.Common.{◌≡◌, ℕ, ◌+◌, ◌-◌, List, length, take, drop, None, Some, Ok, Err, false, eqb, refl, sym, ap, ◌∙◌, arith}
use Rattle.std.proofs.lemmas.List.{take_rest, drop-drop}
use Rattle.facts.specs.laws.Checks.{first_some-after, first_some-before}
use Rattle.ipc_message.specs.declared.fault.Fault.{Fault}
use Rattle.ipc_message.specs.Framing.{next_message, first_some, marker_faults, size_faults, message_faults, metadata_size, metadata_in, after_metadata, message_with}

-- the size fails
pub size_bad : (bytes : List ℕ) (f : Fault) → first_some (marker_faults bytes) ≡ None → eqb (metadata_size bytes) 0 ≡ false → first_some (size_faults bytes) ≡ Some f
    → next_message bytes ≡ Err f
unfolding next_message
size_bad bytes f marked some bad = rw (marked, some, first_some-before (size_faults bytes) (message_faults (metadata_in bytes) (length (after_metadata bytes))) f bad) refl

-- the tests of the parts, however they were cut
tests_same : (bytes metadata following : List ℕ) → metadata ≡ metadata_in bytes → following ≡ after_metadata bytes
    → first_some (message_faults (metadata_in bytes) (length (after_metadata bytes))) ≡ first_some (message_faults metadata (length following))
tests_same bytes metadata following here after =
    ap (λ (t : List ℕ). first_some (message_faults t (length (after_metadata bytes)))) (sym here) ∙ ap (λ (t : List ℕ). first_some (message_faults metadata (length t))) (sym after)

-- the message fails
pub message_bad : (bytes metadata following : List ℕ) (f : Fault) → first_some (marker_faults bytes) ≡ None → eqb (metadata_size bytes) 0 ≡ false → first_some (size_faults bytes) ≡ None
    → metadata ≡ metadata_in bytes → following ≡ after_metadata bytes → first_some (message_faults metadata (length following)) ≡ Some f → next_message bytes ≡ Err f
unfolding next_message
message_bad bytes metadata following f marked some sized here after bad =
    rw (marked, some, first_some-after (size_faults bytes) (message_faults (metadata_in bytes) (length (after_metadata bytes))) sized, tests_same bytes metadata following here after ∙ bad) refl

-- all pass
pub message_good : (bytes metadata following : List ℕ) → first_some (marker_faults bytes) ≡ None → eqb (metadata_size bytes) 0 ≡ false → first_some (size_faults bytes) ≡ None
    → metadata ≡ metadata_in bytes → following ≡ after_metadata bytes → first_some (message_faults metadata (length following)) ≡ None → next_message bytes ≡ Ok (message_with metadata following)
unfolding next_message
message_good bytes metadata following marked some sized here after good =
    rw (marked, some, first_some-after (size_faults bytes) (message_faults (metadata_in bytes) (length (after_metadata bytes))) sized, tests_same bytes metadata following here after ∙ good)
    (ap (λ (t : List ℕ). Ok (message_with t (after_metadata bytes))) (sym here) ∙ ap (λ (t : List ℕ). Ok (message_with metadata t)) (sym after))

-- the parts as the code cuts them
pub metadata_cut : (bytes : List ℕ) (size : ℕ) → size ≡ metadata_size bytes → take (8 + size - 8) (drop 8 bytes) ≡ metadata_in bytes
unfolding metadata_in
metadata_cut bytes size e =
    let whole : 8 + size - 8 ≡ size = omega arith in
    rw (whole, e) refl

pub following_cut : (bytes : List ℕ) (size : ℕ) → size ≡ metadata_size bytes → take (length bytes - (8 + size)) (drop (8 + size) bytes) ≡ after_metadata bytes
unfolding after_metadata
following_cut bytes size e = take_rest bytes (8 + size) ∙ sym (drop-drop size 8 bytes) ∙ ap (λ n. drop n (drop 8 bytes)) e
