-- The first fault of a stream changes after some bytes, if it is not settled.
use Rattle.std.specs.Prelude.{Option, Some, None}
use Rattle.std.proofs.Common.{◌≡◌, ℕ, zero, suc, ◌<◌, ◌≤◌, false, List, [], ◌∷◌, ◌++◌, length, drop, Result, Ok, Err, refl, ap, sym, ◌∙◌, arith, length-append}
use Rattle.std.proofs.lemmas.List.{length-drop, drop-append-le, drop_all}
use Rattle.facts.specs.Bytes.{AreBytes}
use Rattle.facts.specs.laws.Bytes.{cons-bytes}
use Rattle.ipc_message.specs.declared.fault.Fault.{Fault}
use Rattle.ipc_message.specs.declared.fault.Fault.TheVariants.{Truncated, NoSchema}
use Rattle.ipc_message.specs.Framing.{Envelope, NextMessage, end_of_stream, message, next_message, taken, fault_of}
use Rattle.ipc_message.specs.Header.{supported_codes}
use Rattle.ipc_stream.specs.Meaning.{Known, read_next, read_from, known_at_end, known_at_end_of_stream, known_table, meaning, ◌>>=◌, is_empty}
use Rattle.ipc_stream.specs.Fed.{settled_fault, unless_cut_off}
use Rattle.ipc_stream.proofs.CutOff.{Completes, completes}
use Rattle.ipc_stream.proofs.Faults.{next_whole}
use Rattle.ipc_stream.proofs.Longer.{next_longer, next_taken, too_short}
use Rattle.ipc_stream.proofs.Settled.{some_longer, known_of, settled_is}
use Rattle.ipc_stream.proofs.Steps.{taken_some, step_end, step_fault, step_end_of_stream, step_refused, step_on}

-- ---- a stream that is cut off

-- the first fault of a stream from a state on is that it is cut off
abbrev IsCut : (steps : ℕ) → Option Known → List ℕ → Type 0
IsCut steps before bytes = read_from supported_codes steps before bytes ≡ Err Truncated

-- with these bytes after it, it is another one or none
record GoesOn (before : Option Known) (bytes more : List ℕ) : Type 0 where
  fits : AreBytes more
  other : (steps : ℕ) → length (bytes ++ more) < steps → IsCut steps before (bytes ++ more) → ⊥

end_whole : (before : Option Known) (rest : List ℕ) → known_at_end_of_stream before rest ≡ Err Truncated → ⊥
end_whole None rest h = cc
end_whole (Some k) [] h = cc
end_whole (Some k) (b ∷ rest) h = cc

empty_whole : (before : Option Known) → known_at_end before ≡ Err Truncated → ⊥
empty_whole None h = cc
empty_whole (Some k) h = cc

-- a message that takes all of the bytes
module _ (steps : ℕ) (before : Option Known) (bytes more : List ℕ) (some : is_empty bytes ≡ false) (c : Completes bytes more) (long : length (bytes ++ more) < suc steps)
    (cut : IsCut (suc steps) before (bytes ++ more)) where
  more_there : is_empty (bytes ++ more) ≡ false
  more_there = some_longer bytes more some

  last : (steps : ℕ) (k : Known) (rest : List ℕ) → rest ≡ [] → 0 < steps → IsCut steps (Some k) rest → ⊥
  last zero k rest none h = absurd (omega (arith, h))
  last (suc less) k rest none h = λ e. empty_whole (Some k) (sym (step_end less (Some k)) ∙ ap (read_from supported_codes (suc less) (Some k)) (sym none) ∙ e)

  by_known : (m : Envelope) → Ok (message m) ≡ next_message (bytes ++ more) → (found : Result Known Fault) → found ≡ read_next supported_codes before m → ⊥
  by_known m e (Err fault) is =
      let same : Err fault ≡ Err Truncated = sym (step_refused steps before (bytes ++ more) m fault more_there (sym e) (sym is)) ∙ cut in
      let one : fault ≡ Truncated = cc in
      next_whole supported_codes before m (sym is ∙ ap Err one)
  by_known m e (Ok k) is =
      let all : taken (message m) ≡ length (bytes ++ more) = c.all m (sym e) in
      last steps k (drop (taken (message m)) (bytes ++ more)) (drop_all (taken (message m)) (bytes ++ more) (omega (arith, all))) (omega (arith, long, all, taken_some (message m)))
      (sym (step_on supported_codes steps before (bytes ++ more) m k more_there (sym e) (sym is)) ∙ cut)

  by_next : (found : Result NextMessage Fault) → found ≡ next_message (bytes ++ more) → ⊥
  by_next (Err fault) e =
      let same : Err fault ≡ Err Truncated = sym (step_fault steps before (bytes ++ more) fault more_there (sym e)) ∙ cut in
      let one : fault ≡ Truncated = cc in
      c.whole (sym e ∙ ap Err one)
  by_next (Ok end_of_stream) e = end_whole before (drop 8 (bytes ++ more)) (sym (step_end_of_stream steps before (bytes ++ more) more_there (sym e)) ∙ cut)
  by_next (Ok (message m)) e = by_known m e (read_next supported_codes before m) refl

  complete_whole : ⊥
  complete_whole = by_next (next_message (bytes ++ more)) refl

-- the message at the front is cut off
front_goes_on : (before : Option Known) (bytes : List ℕ) → is_empty bytes ≡ false → next_message bytes ≡ Err Truncated → (more : List ℕ) × GoesOn before bytes more
front_goes_on before bytes some cut =
    let found = completes bytes cut in
    (found.0, record { fits = found.1.fits; other = by_steps found.0 found.1 })
  where
    by_steps : (more : List ℕ) → Completes bytes more → (steps : ℕ) → length (bytes ++ more) < steps → IsCut steps before (bytes ++ more) → ⊥
    by_steps more c zero long cut = omega (arith, long)
    by_steps more c (suc steps) long cut = complete_whole steps before bytes more some c long cut

-- a message is whole, and what follows it goes on
module _ (before : Option Known) (bytes : List ℕ) (m : Envelope) (k : Known) (some : is_empty bytes ≡ false) (e : next_message bytes ≡ Ok (message m))
    (is : read_next supported_codes before m ≡ Ok k) where
  size : taken (message m) ≤ length bytes
  size = next_taken bytes (message m) e

  next_goes_on : (more : List ℕ) → GoesOn (Some k) (drop (taken (message m)) bytes) more → GoesOn before bytes more
  next_goes_on more later = record { fits = later.fits; other = by_steps }
    where
      by_steps : (steps : ℕ) → length (bytes ++ more) < steps → IsCut steps before (bytes ++ more) → ⊥
      by_steps zero long cut = omega (arith, long)
      by_steps (suc steps) long cut =
          let there : next_message (bytes ++ more) ≡ Ok (message m) = next_longer bytes more (λ cut. let given : Ok (message m) ≡ Err Truncated = sym e ∙ cut in cc) ∙ e in
          later.other steps
          (omega (arith, long, size, taken_some (message m), length-append bytes more, length-append (drop (taken (message m)) bytes) more, length-drop (taken (message m)) bytes))
          (ap (read_from supported_codes steps (Some k)) (sym (drop-append-le (taken (message m)) bytes more size))
          ∙ sym (step_on supported_codes steps before (bytes ++ more) m k (some_longer bytes more some) there is) ∙ cut)

-- one step, where what follows it goes on
module _ (steps : ℕ) (before : Option Known) (bytes : List ℕ) (some : is_empty bytes ≡ false)
    (follows : (k : Known) (size : ℕ) → 0 < size → IsCut steps (Some k) (drop size bytes) → (more : List ℕ) × GoesOn (Some k) (drop size bytes) more)
    (cut : IsCut (suc steps) before bytes) where
  step_known : (m : Envelope) → Ok (message m) ≡ next_message bytes → (found : Result Known Fault) → found ≡ read_next supported_codes before m
      → (more : List ℕ) × GoesOn before bytes more
  step_known m e (Err fault) is =
      let same : Err fault ≡ Err Truncated = sym (step_refused steps before bytes m fault some (sym e) (sym is)) ∙ cut in
      let one : fault ≡ Truncated = cc in
      absurd (next_whole supported_codes before m (sym is ∙ ap Err one))
  step_known m e (Ok k) is =
      let later = follows k (taken (message m)) (taken_some (message m)) (sym (step_on supported_codes steps before bytes m k some (sym e) (sym is)) ∙ cut) in
      (later.0, next_goes_on before bytes m k some (sym e) (sym is) later.0 later.1)

  step_next : (found : Result NextMessage Fault) → found ≡ next_message bytes → (more : List ℕ) × GoesOn before bytes more
  step_next (Err fault) e =
      let same : Err fault ≡ Err Truncated = sym (step_fault steps before bytes fault some (sym e)) ∙ cut in
      let one : fault ≡ Truncated = cc in
      front_goes_on before bytes some (sym e ∙ ap Err one)
  step_next (Ok end_of_stream) e = absurd (end_whole before (drop 8 bytes) (sym (step_end_of_stream steps before bytes some (sym e)) ∙ cut))
  step_next (Ok (message m)) e = step_known m e (read_next supported_codes before m) refl

  step_goes_on : (more : List ℕ) × GoesOn before bytes more
  step_goes_on = step_next (next_message bytes) refl

goes_on : (steps : ℕ) (before : Option Known) (bytes : List ℕ) → length bytes < steps → IsCut steps before bytes → (more : List ℕ) × GoesOn before bytes more
goes_on zero before bytes short cut = absurd (omega (arith, short))
goes_on (suc steps) before [] short cut = absurd (empty_whole before (sym (step_end steps before) ∙ cut))
goes_on (suc steps) before (b ∷ rest) short cut =
    step_goes_on steps before (b ∷ rest) refl
    (λ k size some on. goes_on steps (Some k) (drop size (b ∷ rest)) (omega (arith, short, some, length-drop size (b ∷ rest))) on) cut

-- ---- the first fault

-- the state at the end of bytes that have a fault
fault_known : (r : Result Known Fault) (fault : Fault) → (r >>= λ k. Ok (known_table k)) ≡ Err fault → r ≡ Err fault
fault_known (Ok k) fault h = absurd cc
fault_known (Err other) fault h = (let same : other ≡ fault = cc in ap Err same)

meant_known : (bytes : List ℕ) (fault : Fault) → meaning supported_codes bytes ≡ Err fault → known_of bytes ≡ Err fault
unfolding meaning
meant_known bytes fault h = fault_known (known_of bytes) fault h

cut_of : (fault : Fault) → unless_cut_off (Some fault) ≡ None → fault ≡ Truncated
cut_of Truncated h = refl
cut_of fault h = absurd cc

nothing_meant : meaning supported_codes [] ≡ Err NoSchema
unfolding meaning read_from
nothing_meant = refl

one_byte : known_of (0 ∷ []) ≡ Err Truncated
one_byte = step_fault 1 None (0 ∷ []) Truncated refl (too_short (0 ∷ []) refl)

pub unsettled_changes : (bytes : List ℕ) (fault : Fault) → meaning supported_codes bytes ≡ Err fault → settled_fault supported_codes bytes ≡ None
    → (more : List ℕ) × AreBytes more × (meaning supported_codes (bytes ++ more) ≡ Err fault → ⊥)
unsettled_changes [] fault h unsettled = (
  0 ∷ [],
  cons-bytes 0 [] (omega arith) (λ k. omega arith),
  λ e.
      let first : Err NoSchema ≡ Err fault = sym nothing_meant ∙ h in
      let second : Err Truncated ≡ Err fault = sym one_byte ∙ meant_known (0 ∷ []) fault e in
      cc,
)
unsettled_changes (b ∷ rest) fault h unsettled =
    let known : known_of (b ∷ rest) ≡ Err fault = meant_known (b ∷ rest) fault h in
    let cut : fault ≡ Truncated = cut_of fault (sym (ap (λ (r : Result Known Fault). unless_cut_off (fault_of r)) known) ∙ sym (settled_is (b ∷ rest) refl) ∙ unsettled) in
    let found = goes_on (suc (length (b ∷ rest))) None (b ∷ rest) (omega arith) (known ∙ ap Err cut) in
    (found.0, found.1.fits, λ e. found.1.other (suc (length ((b ∷ rest) ++ found.0))) (omega arith) (meant_known ((b ∷ rest) ++ found.0) fault e ∙ ap Err cut))
