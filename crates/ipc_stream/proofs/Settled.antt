-- The first fault of a stream stays its first fault where bytes follow, unless it is cut off or has not begun.
use Rattle.std.specs.Prelude.{Option, Some, None}
use Rattle.std.proofs.Common.{◌≡◌, ℕ, zero, suc, ◌<◌, ◌≤◌, false, List, [], ◌∷◌, ◌++◌, length, drop, Result, Ok, Err, refl, ap, sym, ◌∙◌, arith, length-append}
use Rattle.std.proofs.lemmas.List.{length-drop, drop-append-le}
use Rattle.ipc_message.specs.declared.fault.Fault.{Fault}
use Rattle.ipc_message.specs.declared.fault.Fault.TheVariants.{Truncated}
use Rattle.ipc_message.specs.Framing.{Envelope, NextMessage, end_of_stream, message, next_message, taken, fault_of}
use Rattle.ipc_message.specs.Header.{supported_codes}
use Rattle.ipc_stream.specs.Meaning.{Known, read_next, read_from, known_at_end_of_stream, known_table, meaning, ◌>>=◌, is_empty}
use Rattle.ipc_stream.specs.Fed.{settled_fault, unless_cut_off}
use Rattle.ipc_stream.proofs.Steps.{taken_some, step_end, step_fault, step_end_of_stream, step_refused, step_on}
use Rattle.ipc_stream.proofs.Longer.{next_longer, next_taken}

-- a stream that begins
abbrev Begins : Option Known → List ℕ → Type 0
Begins None bytes = is_empty bytes ≡ false
Begins (Some k) bytes = Unit {0}

pub some_longer : (bytes more : List ℕ) → is_empty bytes ≡ false → is_empty (bytes ++ more) ≡ false
some_longer [] more h = absurd cc
some_longer (b ∷ bytes) more h = refl

end_longer : (before : Option Known) (bytes more : List ℕ) (fault : Fault) → 8 ≤ length bytes → known_at_end_of_stream before (drop 8 bytes) ≡ Err fault
    → known_at_end_of_stream before (drop 8 (bytes ++ more)) ≡ Err fault
end_longer None bytes more fault eight h = h
end_longer (Some k) bytes more fault eight h = ap (λ (rest : List ℕ). known_at_end_of_stream (Some k) rest) (drop-append-le 8 bytes more eight) ∙ behind (drop 8 bytes) h
  where
    behind : (rest : List ℕ) → known_at_end_of_stream (Some k) rest ≡ Err fault → known_at_end_of_stream (Some k) (rest ++ more) ≡ Err fault
    behind [] h = absurd cc
    behind (b ∷ rest) h = h

-- one step, where what follows it stays refused
module _ (steps longer : ℕ) (before : Option Known) (bytes more : List ℕ) (fault : Fault) (some : is_empty bytes ≡ false) (whole : fault ≡ Truncated → ⊥)
    (follows : (k : Known) (size : ℕ) → 0 < size → size ≤ length bytes → read_from supported_codes steps (Some k) (drop size bytes) ≡ Err fault
    → read_from supported_codes longer (Some k) (drop size bytes ++ more) ≡ Err fault)
    (refused : read_from supported_codes (suc steps) before bytes ≡ Err fault) where
  abbrev Refused : Type 0
  Refused = read_from supported_codes (suc longer) before (bytes ++ more) ≡ Err fault

  more_there : is_empty (bytes ++ more) ≡ false
  more_there = some_longer bytes more some

  there : (found : Result NextMessage Fault) → found ≡ next_message bytes → (found ≡ Err Truncated → ⊥) → next_message (bytes ++ more) ≡ found
  there found e kept = next_longer bytes more (λ cut. kept (e ∙ cut)) ∙ sym e

  by_known : (m : Envelope) → Ok (message m) ≡ next_message bytes → (found : Result Known Fault) → found ≡ read_next supported_codes before m → Refused
  by_known m e (Err other) is =
      let same : Err other ≡ Err fault = sym (step_refused steps before bytes m other some (sym e) (sym is)) ∙ refused in
      step_refused longer before (bytes ++ more) m other more_there (there (Ok (message m)) e (λ cut. cc)) (sym is) ∙ same
  by_known m e (Ok k) is =
      let size : taken (message m) ≤ length bytes = next_taken bytes (message m) (sym e) in
      step_on supported_codes longer before (bytes ++ more) m k more_there (there (Ok (message m)) e (λ cut. cc)) (sym is)
      ∙ ap (read_from supported_codes longer (Some k)) (drop-append-le (taken (message m)) bytes more size)
      ∙ follows k (taken (message m)) (taken_some (message m)) size (sym (step_on supported_codes steps before bytes m k some (sym e) (sym is)) ∙ refused)

  by_next : (found : Result NextMessage Fault) → found ≡ next_message bytes → Refused
  by_next (Err other) e =
      let same : Err other ≡ Err fault = sym (step_fault steps before bytes other some (sym e)) ∙ refused in
      step_fault longer before (bytes ++ more) other more_there (there (Err other) e (λ cut. whole (let is : other ≡ fault = cc in let was : other ≡ Truncated = cc in sym is ∙ was))) ∙ same
  by_next (Ok end_of_stream) e =
      step_end_of_stream longer before (bytes ++ more) more_there (there (Ok end_of_stream) e (λ cut. cc))
      ∙ end_longer before bytes more fault (next_taken bytes end_of_stream (sym e)) (sym (step_end_of_stream steps before bytes some (sym e)) ∙ refused)
  by_next (Ok (message m)) e = by_known m e (read_next supported_codes before m) refl

  step_longer : Refused
  step_longer = by_next (next_message bytes) refl

pub refused_longer : (steps longer : ℕ) (before : Option Known) (bytes more : List ℕ) (fault : Fault) → length bytes < steps → length (bytes ++ more) < longer
    → Begins before bytes → (fault ≡ Truncated → ⊥) → read_from supported_codes steps before bytes ≡ Err fault
    → read_from supported_codes longer before (bytes ++ more) ≡ Err fault
refused_longer zero longer before bytes more fault short long begins whole h = absurd (omega (arith, short))
refused_longer (suc steps) zero before bytes more fault short long begins whole h = absurd (omega (arith, long))
refused_longer (suc steps) (suc longer) None [] more fault short long begins whole h = absurd cc
refused_longer (suc steps) (suc longer) (Some k) [] more fault short long begins whole h = absurd (let given : Ok k ≡ Err fault = sym (step_end steps (Some k)) ∙ h in cc)
refused_longer (suc steps) (suc longer) before (b ∷ rest) more fault short long begins whole h =
    step_longer steps longer before (b ∷ rest) more fault refl whole
    (λ k size some within on. refused_longer steps longer (Some k) (drop size (b ∷ rest)) more fault
    (omega (arith, short, some, length-drop size (b ∷ rest)))
    (omega (arith, long, some, within, length-append (b ∷ rest) more, length-append (drop size (b ∷ rest)) more, length-drop size (b ∷ rest)))
    tt whole on) h

-- ---- the settled fault

-- what is known at the end of a stream
abbrev pub known_of : List ℕ → Result Known Fault
known_of bytes = read_from supported_codes (suc (length bytes)) None bytes

faults_same : (r : Result Known Fault) → fault_of (r >>= λ k. Ok (known_table k)) ≡ fault_of r
faults_same (Ok k) = refl
faults_same (Err fault) = refl

pub settled_is : (bytes : List ℕ) → is_empty bytes ≡ false → settled_fault supported_codes bytes ≡ unless_cut_off (fault_of (known_of bytes))
unfolding settled_fault meaning
settled_is bytes some = rw some (ap unless_cut_off (faults_same (known_of bytes)))

pub none_settled : settled_fault supported_codes [] ≡ None
unfolding settled_fault
none_settled = refl

pub settled_refused : (bytes : List ℕ) (fault : Fault) → is_empty bytes ≡ false → (fault ≡ Truncated → ⊥) → known_of bytes ≡ Err fault → settled_fault supported_codes bytes ≡ Some fault
settled_refused bytes fault some whole h = settled_is bytes some ∙ ap (λ (r : Result Known Fault). unless_cut_off (fault_of r)) h ∙ kept fault whole
  where
    kept : (fault : Fault) → (fault ≡ Truncated → ⊥) → unless_cut_off (Some fault) ≡ Some fault
    kept Truncated whole = absurd (whole refl)
    kept fault whole = refl

-- a fault that is left is not that of a message that is cut off
left_whole : (o : Option Fault) (fault : Fault) → unless_cut_off o ≡ Some fault → (fault ≡ Truncated → ⊥) × (o ≡ Some fault)
left_whole None fault h = absurd cc
left_whole (Some Truncated) fault h = absurd cc
left_whole (Some other) fault h = ((λ e. cc), h)

answered : (r : Result Known Fault) (fault : Fault) → fault_of r ≡ Some fault → r ≡ Err fault
answered (Ok k) fault h = absurd cc
answered (Err other) fault h = cc

pub refused_settled : (bytes : List ℕ) (fault : Fault) → settled_fault supported_codes bytes ≡ Some fault → (is_empty bytes ≡ false) × (fault ≡ Truncated → ⊥) × (known_of bytes ≡ Err fault)
refused_settled [] fault h = absurd (let given : None ≡ Some fault = sym none_settled ∙ h in cc)
refused_settled (b ∷ bytes) fault h = (refl, of.0, answered (known_of (b ∷ bytes)) fault of.1)
  where
    of : (fault ≡ Truncated → ⊥) × (fault_of (known_of (b ∷ bytes)) ≡ Some fault)
    of = left_whole (fault_of (known_of (b ∷ bytes))) fault (sym (settled_is (b ∷ bytes) refl) ∙ h)

pub settled_stays : (bytes more : List ℕ) (fault : Fault) → settled_fault supported_codes bytes ≡ Some fault → settled_fault supported_codes (bytes ++ more) ≡ Some fault
settled_stays bytes more fault h =
    let p = refused_settled bytes fault h in
    settled_refused (bytes ++ more) fault (some_longer bytes more p.0) p.1
    (refused_longer (suc (length bytes)) (suc (length (bytes ++ more))) None bytes more fault (omega arith) (omega arith) p.0 p.1 p.2)

pub settled_meant : (bytes : List ℕ) (fault : Fault) → settled_fault supported_codes bytes ≡ Some fault → meaning supported_codes bytes ≡ Err fault
unfolding meaning
settled_meant bytes fault h = ap (λ (r : Result Known Fault). r >>= λ k. Ok (known_table k)) (refused_settled bytes fault h).2
