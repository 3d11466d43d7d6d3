-- One step of a stream, by what stands at its front.
use Rattle.std.specs.Prelude.{Option, Some}
use Rattle.std.proofs.Common.{◌≡◌, ℕ, suc, ◌+◌, ◌<◌, ◌≤◌, Bool, false, List, [], ◌∷◌, ◌++◌, length, drop, take, Ok, Err, refl, ap, sym, ◌∙◌, arith}
use Rattle.std.proofs.Math.Seq.{drop-append-add, drop-append_seam, take-append_seam}
use Rattle.std.proofs.lemmas.List.{drop-drop}
use Rattle.ipc_message.specs.declared.fault.Fault.{Fault}
use Rattle.ipc_message.specs.Framing.{Envelope, NextMessage, end_of_stream, message, next_message, taken, Framed, continuation_marker}
use Rattle.ipc_message.specs.Header.{supported_codes}
use Rattle.ipc_stream.specs.Meaning.{Known, read_next, read_from, known_at_end, known_at_end_of_stream, is_empty}

-- ---- the body of a message

pub body_stands : (bytes : List ℕ) (start n : ℕ) (m : Envelope) (others : List ℕ) → Framed (drop start bytes) m others → n + length m.body ≡ start + taken (message m)
    → take (length m.body) (drop n bytes) ≡ m.body
body_stands bytes start n m others framed whole =
    let size : List ℕ = framed.size in
    let at : n ≡ start + (8 + length m.metadata) = omega (arith, whole) in
    let front : 8 + length m.metadata ≡ length continuation_marker + (length size + length m.metadata) = omega (arith, framed.four) in
    let found : drop n bytes ≡ m.body ++ others =
    ap (λ (k : ℕ). drop k bytes) at ∙ sym (drop-drop (8 + length m.metadata) start bytes) ∙ ap (drop (8 + length m.metadata)) framed.parts
    ∙ ap (λ (k : ℕ). drop k (continuation_marker ++ (size ++ (m.metadata ++ (m.body ++ others))))) front
    ∙ drop-append-add continuation_marker (size ++ (m.metadata ++ (m.body ++ others))) (length size + length m.metadata)
    ∙ drop-append-add size (m.metadata ++ (m.body ++ others)) (length m.metadata)
    ∙ drop-append_seam m.metadata (m.body ++ others) in
    ap (take (length m.body)) found ∙ take-append_seam m.body others

-- ---- one step

pub some_there : (bytes : List ℕ) → 0 < length bytes → is_empty bytes ≡ false
some_there [] h = absurd (omega (arith, h))
some_there (b ∷ bytes) h = refl

pub nothing : (bytes : List ℕ) → length bytes ≤ 0 → bytes ≡ []
nothing [] h = refl
nothing (b ∷ bytes) h = absurd (omega (arith, h))

pub taken_some : (f : NextMessage) → 0 < taken f
taken_some end_of_stream = omega arith
taken_some (message m) = omega arith

pub step_end : (less : ℕ) (before : Option Known) → read_from supported_codes (suc less) before [] ≡ known_at_end before
unfolding read_from
step_end less before = refl

pub step_fault : (less : ℕ) (before : Option Known) (bytes : List ℕ) (fault : Fault) → is_empty bytes ≡ false → next_message bytes ≡ Err fault
    → read_from supported_codes (suc less) before bytes ≡ Err fault
unfolding read_from
step_fault less before bytes fault some e = rw (some, e) refl

pub step_end_of_stream : (less : ℕ) (before : Option Known) (bytes : List ℕ) → is_empty bytes ≡ false → next_message bytes ≡ Ok end_of_stream
    → read_from supported_codes (suc less) before bytes ≡ known_at_end_of_stream before (drop 8 bytes)
unfolding read_from
step_end_of_stream less before bytes some e = rw (some, e) refl

pub step_refused : (less : ℕ) (before : Option Known) (bytes : List ℕ) (m : Envelope) (fault : Fault) → is_empty bytes ≡ false → next_message bytes ≡ Ok (message m)
    → read_next supported_codes before m ≡ Err fault → read_from supported_codes (suc less) before bytes ≡ Err fault
unfolding read_from
step_refused less before bytes m fault some e refused = rw (some, e, refused) refl

pub step_on : (supported : ℕ → Bool) (less : ℕ) (before : Option Known) (bytes : List ℕ) (m : Envelope) (k : Known) → is_empty bytes ≡ false → next_message bytes ≡ Ok (message m)
    → read_next supported before m ≡ Ok k → read_from supported (suc less) before bytes ≡ read_from supported less (Some k) (drop (taken (message m)) bytes)
unfolding read_from
step_on supported less before bytes m k some e goes = rw (some, e, goes) refl
