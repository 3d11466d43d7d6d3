-- What a decoder answers, by the bytes that it was fed.
use Rattle.std.specs.Prelude.{Option, Some, None, Result, Ok, Err}
use Rattle.std.proofs.Common.{◌≡◌, ℕ, List, [], ◌++◌, refl, ap, sym, subst, ◌∙◌}
use Rattle.ipc_message.specs.declared.error.ImportError.{ImportError}
use Rattle.ipc_message.specs.declared.error.ImportError.TheVariants as errors
use Rattle.ipc_message.specs.declared.fault.Fault.{Fault}
use Rattle.ipc_message.specs.Header.{supported_codes}
use Rattle.ipc_stream.specs.declared.reading.Reading.{Reading}
use Rattle.ipc_stream.specs.Fed.{fed, fed_with, reading, refused, settled_fault, held_of, after_whole}
use Rattle.ipc_stream.specs.declared.decoder.FinishError.{FinishError}
use Rattle.ipc_stream.specs.Feeding.{Finishes}
use Rattle.ipc_stream.specs.inner.Failing.{HasFailed}
use Rattle.ipc_stream.specs.Meaning.{Known, known_table, meaning, ◌>>=◌}
use Rattle.ipc_message.specs.Outcome.{Fails}
use Rattle.ipc_stream.specs.inner.Reached.{known_from}
use Rattle.ipc_stream.specs.inner.Decoding.{IsDecoding}
use Rattle.ipc_stream.proofs.Settled.{settled_stays}

-- ---- what is seen of a decoder

pub fed_fault : (bytes : List ℕ) (fault : Fault) → settled_fault supported_codes bytes ≡ Some fault → refused fault ≡ fed supported_codes bytes
fed_fault bytes fault settled = sym (ap (λ (o : Option Fault). fed_with o bytes) settled)

pub still_reading : (bytes items : List ℕ) → reading items ≡ fed supported_codes bytes → items ≡ bytes
still_reading bytes items = by_fault (settled_fault supported_codes bytes)
  where
    by_fault : (o : Option Fault) → reading items ≡ fed_with o bytes → items ≡ bytes
    by_fault None e = cc
    by_fault (Some fault) e = absurd cc

pub was_refused : (bytes : List ℕ) (fault : Fault) → refused fault ≡ fed supported_codes bytes → settled_fault supported_codes bytes ≡ Some fault
was_refused bytes fault = by_fault (settled_fault supported_codes bytes)
  where
    by_fault : (o : Option Fault) → refused fault ≡ fed_with o bytes → o ≡ Some fault
    by_fault None e = absurd cc
    by_fault (Some other) e = cc

pub none_held : held_of supported_codes [] ≡ 0
unfolding held_of settled_fault after_whole
none_held = refl

pub refused_held : (bytes : List ℕ) (fault : Fault) → settled_fault supported_codes bytes ≡ Some fault → held_of supported_codes bytes ≡ 0
unfolding held_of
refused_held bytes fault h = rw h refl

-- how many bytes wait
pub held_decoding : (bytes items : List ℕ) (o : Option Fault) (r : Reading) → IsDecoding o items r → fed_with o items ≡ fed supported_codes bytes → r.held ≡ held_of supported_codes bytes
held_decoding bytes items None r is e = is.held ∙ ap (held_of supported_codes) (still_reading bytes items e)
held_decoding bytes items (Some fault) r is e = is ∙ sym (refused_held bytes fault (was_refused bytes fault e))

-- ---- the end

pub finish_failed : (e : ImportError) (failed : FinishError) (bytes : List ℕ) → HasFailed e bytes failed → Fails e (known_from None bytes) → Finishes (Err failed) (meaning supported_codes bytes)
unfolding meaning
finish_failed errors.OutOfMemory failed bytes is h = subst (λ (x : FinishError). Finishes (Err x) (known_from None bytes >>= λ k. Ok (known_table k))) (sym is) tt
finish_failed (errors.Fault fault) failed bytes is h =
    subst (λ (x : FinishError). Finishes (Err x) (known_from None bytes >>= λ k. Ok (known_table k))) (sym is) (ap (λ (r : Result Known Fault). r >>= λ k. Ok (known_table k)) h)

-- ---- feeding

-- where there was a fault, it is reported again
pub tells_again : (bytes piece : List ℕ) (fault : Fault) → refused fault ≡ fed supported_codes bytes → settled_fault supported_codes (bytes ++ piece) ≡ Some fault
tells_again bytes piece fault e = settled_stays bytes piece fault (was_refused bytes fault e)
