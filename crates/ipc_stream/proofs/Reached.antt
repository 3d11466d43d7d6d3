-- How far the bytes of a stream have been read, from one message to the next.
use Rattle.std.specs.Prelude.{Option, Some, None}
use Rattle.std.proofs.Common.{◌≡◌, ℕ, zero, suc, ◌+◌, ◌-◌, ◌<◌, ◌≤◌, false, List, [], ◌∷◌, ◌++◌, length, drop, Result, Ok, Err, refl, ap, sym, ◌∙◌, subst, arith, length-append}
use Rattle.std.proofs.lemmas.List.{length-drop, drop-drop, drop-append-le, append-nil}
use Rattle.std.proofs.lemmas.List.{append_assoc}
use Rattle.std.proofs.lemmas.List.Sums.{sum_by-append}
use Rattle.ipc_message.specs.declared.error.ImportError.{ImportError}
use Rattle.ipc_message.specs.declared.error.ImportError.TheVariants as errors
use Rattle.ipc_message.specs.declared.fault.Fault.{Fault}
use Rattle.ipc_message.specs.declared.fault.Fault.TheVariants.{Truncated, NoSchema, AfterEnd}
use Rattle.ipc_message.specs.Framing.{Envelope, NextMessage, end_of_stream, message, next_message, taken, fault_of}
use Rattle.ipc_message.specs.Header.{supported_codes}
use Rattle.ipc_message.specs.Outcome.{Fails}
use Rattle.ipc_stream.specs.declared.front.Front.{Front}
use Rattle.ipc_stream.specs.declared.reading.Reading.{Reading}
use Rattle.ipc_stream.specs.Fed.{settled_fault, unless_cut_off, held_of, after_whole}
use Rattle.ipc_stream.specs.Meaning.{Known, read_next, read_from, known_at_end, known_at_end_of_stream, meaning, is_empty}
use Rattle.ipc_stream.specs.Place.{accepted, bytes_taken, place_of}
use Rattle.ipc_stream.specs.Progress.{IsBefore, GivesFront}
use Rattle.ipc_stream.specs.inner.Reached.{IsReadTo, Rests, StoppedBy, EndsReading, BeginsAt, known_from, after_all, accepted_from}
use Rattle.ipc_stream.proofs.Faults.{next_whole}
use Rattle.ipc_stream.proofs.Longer.{next_longer, next_taken, none_there}
use Rattle.ipc_stream.proofs.Settled.{refused_settled, settled_is, settled_refused, none_settled}
use Rattle.ipc_stream.proofs.Steps.{some_there, nothing, taken_some, step_end, step_fault, step_end_of_stream, step_refused, step_on}

-- ---- as many steps as bytes are enough

module _ (s t : ℕ) (before : Option Known) (bytes : List ℕ) (some : is_empty bytes ≡ false)
    (follows : (k : Known) (size : ℕ) → 0 < size → read_from supported_codes s (Some k) (drop size bytes) ≡ read_from supported_codes t (Some k) (drop size bytes)) where
  abbrev Same : Type 0
  Same = read_from supported_codes (suc s) before bytes ≡ read_from supported_codes (suc t) before bytes

  same_known : (m : Envelope) → next_message bytes ≡ Ok (message m) → (found : Result Known Fault) → read_next supported_codes before m ≡ found → Same
  same_known m e (Err fault) is = step_refused s before bytes m fault some e is ∙ sym (step_refused t before bytes m fault some e is)
  same_known m e (Ok k) is = step_on supported_codes s before bytes m k some e is ∙ follows k (taken (message m)) (taken_some (message m)) ∙ sym (step_on supported_codes t before bytes m k some e is)

  same_next : (found : Result NextMessage Fault) → next_message bytes ≡ found → Same
  same_next (Err fault) e = step_fault s before bytes fault some e ∙ sym (step_fault t before bytes fault some e)
  same_next (Ok end_of_stream) e = step_end_of_stream s before bytes some e ∙ sym (step_end_of_stream t before bytes some e)
  same_next (Ok (message m)) e = same_known m e (read_next supported_codes before m) refl

  same_step : Same
  same_step = same_next (next_message bytes) refl

known_enough : (s t : ℕ) (before : Option Known) (bytes : List ℕ) → length bytes < s → length bytes < t → read_from supported_codes s before bytes ≡ read_from supported_codes t before bytes
known_enough zero t before bytes h i = absurd (omega (arith, h))
known_enough (suc s) zero before bytes h i = absurd (omega (arith, i))
known_enough (suc s) (suc t) before [] h i = step_end s before ∙ sym (step_end t before)
known_enough (suc s) (suc t) before (b ∷ rest) h i =
    same_step s t before (b ∷ rest) refl
    (λ k size some. known_enough s t (Some k) (drop size (b ∷ rest)) (omega (arith, h, some, length-drop size (b ∷ rest))) (omega (arith, i, some, length-drop size (b ∷ rest))))

left_cut : (steps : ℕ) (bytes : List ℕ) (fault : Fault) → next_message bytes ≡ Err fault → after_whole (suc steps) bytes ≡ bytes
unfolding after_whole
left_cut steps bytes fault e = rw e refl

left_on : (steps : ℕ) (bytes : List ℕ) (f : NextMessage) → next_message bytes ≡ Ok f → after_whole (suc steps) bytes ≡ after_whole steps (drop (taken f) bytes)
unfolding after_whole
left_on steps bytes f e = rw e refl

none_left : (steps : ℕ) → after_whole steps [] ≡ []
unfolding after_whole
none_left zero = refl
none_left (suc steps) = rw none_there refl

module _ (s t : ℕ) (bytes : List ℕ) (follows : (size : ℕ) → 0 < size → after_whole s (drop size bytes) ≡ after_whole t (drop size bytes)) where
  left_next : (found : Result NextMessage Fault) → next_message bytes ≡ found → after_whole (suc s) bytes ≡ after_whole (suc t) bytes
  left_next (Err fault) e = left_cut s bytes fault e ∙ sym (left_cut t bytes fault e)
  left_next (Ok f) e = left_on s bytes f e ∙ follows (taken f) (taken_some f) ∙ sym (left_on t bytes f e)

  left_step : after_whole (suc s) bytes ≡ after_whole (suc t) bytes
  left_step = left_next (next_message bytes) refl

left_enough : (s t : ℕ) (bytes : List ℕ) → length bytes ≤ s → length bytes ≤ t → after_whole s bytes ≡ after_whole t bytes
left_enough s t [] h i = none_left s ∙ sym (none_left t)
left_enough zero t (b ∷ rest) h i = absurd (omega (arith, h))
left_enough (suc s) zero (b ∷ rest) h i = absurd (omega (arith, i))
left_enough (suc s) (suc t) (b ∷ rest) h i =
    left_step s t (b ∷ rest)
    (λ size some. left_enough s t (drop size (b ∷ rest)) (omega (arith, h, some, length-drop size (b ∷ rest))) (omega (arith, i, some, length-drop size (b ∷ rest))))

-- ---- the whole of one message

known_on : (before : Option Known) (bytes : List ℕ) (m : Envelope) (k : Known) → 0 < length bytes → next_message bytes ≡ Ok (message m) → read_next supported_codes before m ≡ Ok k
    → known_from before bytes ≡ known_from (Some k) (drop (taken (message m)) bytes)
known_on before bytes m k some e goes =
    let rest : List ℕ = drop (taken (message m)) bytes in
    step_on supported_codes (length bytes) before bytes m k (some_there bytes some) e goes
    ∙ known_enough (length bytes) (suc (length rest)) (Some k) rest (omega (arith, some, taken_some (message m), length-drop (taken (message m)) bytes)) (omega arith)

left_behind : (bytes : List ℕ) (f : NextMessage) → next_message bytes ≡ Ok f → after_all bytes ≡ after_all (drop (taken f) bytes)
left_behind bytes f e =
    let rest : List ℕ = drop (taken f) bytes in
    left_enough (length bytes) (suc (length bytes)) bytes (omega arith) (omega arith) ∙ left_on (length bytes) bytes f e
    ∙ left_enough (length bytes) (length rest) rest (omega (arith, length-drop (taken f) bytes)) (omega arith)

-- ---- the messages that are accepted

accepted_on : (steps : ℕ) (before : Option Known) (bytes : List ℕ) (m : Envelope) (k : Known) → next_message bytes ≡ Ok (message m) → read_next supported_codes before m ≡ Ok k
    → accepted supported_codes (suc steps) before bytes ≡ m ∷ accepted supported_codes steps (Some k) (drop (taken (message m)) bytes)
unfolding accepted
accepted_on steps before bytes m k e goes = rw (e, goes) refl

no_more : (steps : ℕ) (before : Option Known) (bytes : List ℕ) (fault : Fault) → next_message bytes ≡ Err fault → accepted supported_codes steps before bytes ≡ []
unfolding accepted
no_more zero before bytes fault e = refl
no_more (suc steps) before bytes fault e = rw e refl

no_more_at_end : (steps : ℕ) (before : Option Known) (bytes : List ℕ) → next_message bytes ≡ Ok end_of_stream → accepted supported_codes steps before bytes ≡ []
unfolding accepted
no_more_at_end zero before bytes e = refl
no_more_at_end (suc steps) before bytes e = rw e refl

no_more_refused : (steps : ℕ) (before : Option Known) (bytes : List ℕ) (m : Envelope) (fault : Fault) → next_message bytes ≡ Ok (message m) → read_next supported_codes before m ≡ Err fault
    → accepted supported_codes steps before bytes ≡ []
unfolding accepted
no_more_refused zero before bytes m fault e refused = refl
no_more_refused (suc steps) before bytes m fault e refused = rw (e, refused) refl

none_accepted : (before : Option Known) (bytes : List ℕ) (fault : Fault) → next_message bytes ≡ Err fault → accepted_from before bytes ≡ []
none_accepted before bytes fault e = no_more (length bytes) before bytes fault e

end_accepts_none : (before : Option Known) (bytes : List ℕ) → next_message bytes ≡ Ok end_of_stream → accepted_from before bytes ≡ []
end_accepts_none before bytes e = no_more_at_end (length bytes) before bytes e

refused_accepts_none : (before : Option Known) (bytes : List ℕ) (m : Envelope) (fault : Fault) → next_message bytes ≡ Ok (message m) → read_next supported_codes before m ≡ Err fault
    → accepted_from before bytes ≡ []
refused_accepts_none before bytes m fault e refused = no_more_refused (length bytes) before bytes m fault e refused

module _ (s t : ℕ) (before : Option Known) (bytes : List ℕ)
    (follows : (k : Known) (size : ℕ) → 0 < size → accepted supported_codes s (Some k) (drop size bytes) ≡ accepted supported_codes t (Some k) (drop size bytes)) where
  abbrev Alike : Type 0
  Alike = accepted supported_codes (suc s) before bytes ≡ accepted supported_codes (suc t) before bytes

  alike_known : (m : Envelope) → next_message bytes ≡ Ok (message m) → (found : Result Known Fault) → read_next supported_codes before m ≡ found → Alike
  alike_known m e (Err fault) is = no_more_refused (suc s) before bytes m fault e is ∙ sym (no_more_refused (suc t) before bytes m fault e is)
  alike_known m e (Ok k) is =
      accepted_on s before bytes m k e is ∙ ap (λ (x : List Envelope). m ∷ x) (follows k (taken (message m)) (taken_some (message m))) ∙ sym (accepted_on t before bytes m k e is)

  alike_next : (found : Result NextMessage Fault) → next_message bytes ≡ found → Alike
  alike_next (Err fault) e = no_more (suc s) before bytes fault e ∙ sym (no_more (suc t) before bytes fault e)
  alike_next (Ok end_of_stream) e = no_more_at_end (suc s) before bytes e ∙ sym (no_more_at_end (suc t) before bytes e)
  alike_next (Ok (message m)) e = alike_known m e (read_next supported_codes before m) refl

  alike_step : Alike
  alike_step = alike_next (next_message bytes) refl

accepted_enough : (s t : ℕ) (before : Option Known) (bytes : List ℕ) → length bytes ≤ s → length bytes ≤ t → accepted supported_codes s before bytes ≡ accepted supported_codes t before bytes
accepted_enough s t before [] h i = no_more s before [] Truncated none_there ∙ sym (no_more t before [] Truncated none_there)
accepted_enough zero t before (b ∷ rest) h i = absurd (omega (arith, h))
accepted_enough (suc s) zero before (b ∷ rest) h i = absurd (omega (arith, i))
accepted_enough (suc s) (suc t) before (b ∷ rest) h i =
    alike_step s t before (b ∷ rest)
    (λ k size some. accepted_enough s t (Some k) (drop size (b ∷ rest)) (omega (arith, h, some, length-drop size (b ∷ rest))) (omega (arith, i, some, length-drop size (b ∷ rest))))

accepted_one : (before : Option Known) (bytes : List ℕ) (m : Envelope) (k : Known) → next_message bytes ≡ Ok (message m) → read_next supported_codes before m ≡ Ok k
    → accepted_from before bytes ≡ m ∷ accepted_from (Some k) (drop (taken (message m)) bytes)
accepted_one before bytes m k e goes =
    let rest : List ℕ = drop (taken (message m)) bytes in
    accepted_enough (length bytes) (suc (length bytes)) before bytes (omega arith) (omega arith) ∙ accepted_on (length bytes) before bytes m k e goes
    ∙ ap (λ (x : List Envelope). m ∷ x) (accepted_enough (length bytes) (length rest) (Some k) rest (omega (arith, length-drop (taken (message m)) bytes)) (omega arith))

somewhere : (bytes : List ℕ) (fault : Fault) → known_from None bytes ≡ Err fault
    → place_of supported_codes bytes ≡ Some (length (accepted_from None bytes), bytes_taken (accepted_from None bytes))
unfolding place_of meaning
somewhere bytes fault h = rw h refl

nowhere : (bytes : List ℕ) (k : Known) → known_from None bytes ≡ Ok k → place_of supported_codes bytes ≡ None
unfolding place_of meaning
nowhere bytes k h = rw h refl

-- ---- reading

-- a message that stands at the front of the rest
module _ (bytes : List ℕ) (start : ℕ) (m : Envelope) (some : 0 < length (drop start bytes)) (e : next_message (drop start bytes) ≡ Ok (message m)) where
  abbrev rest : List ℕ
  rest = drop start bytes

  abbrev size : ℕ
  size = taken (message m)

  abbrev within_rest : size ≤ length rest
  within_rest = next_taken rest (message m) e

  stays : (more : List ℕ) → next_message (rest ++ more) ≡ Ok (message m)
  stays more = next_longer rest more (λ cut. let given : Ok (message m) ≡ Err Truncated = sym e ∙ cut in cc) ∙ e

  behind : (more : List ℕ) → drop size (rest ++ more) ≡ drop (start + size) bytes ++ more
  behind more = drop-append-le size rest more within_rest ∙ ap (λ (x : List ℕ). x ++ more) (drop-drop size start bytes)

  others_on : (before : Option Known) (k : Known) → read_next supported_codes before m ≡ Ok k → (more : List ℕ)
      → known_from before (rest ++ more) ≡ known_from (Some k) (drop (start + size) bytes ++ more)
  others_on before k goes more =
      known_on before (rest ++ more) m k (omega (arith, some, length-append rest more)) (stays more) goes ∙ ap (known_from (Some k)) (behind more)

  waits_on : (more : List ℕ) → after_all (rest ++ more) ≡ after_all (drop (start + size) bytes ++ more)
  waits_on more = left_behind (rest ++ more) (message m) (stays more) ∙ ap after_all (behind more)

  passed_on : (before : Option Known) (k : Known) → read_next supported_codes before m ≡ Ok k → (more : List ℕ)
      → accepted_from before (rest ++ more) ≡ m ∷ accepted_from (Some k) (drop (start + size) bytes ++ more)
  passed_on before k goes more = accepted_one before (rest ++ more) m k (stays more) goes ∙ ap (λ (x : List ℕ). m ∷ accepted_from (Some k) x) (behind more)

  pub reads_on : (number : ℕ) (front : Option Front) (next : Front) → IsReadTo bytes number start front
      → ((before : Option Known) → IsBefore bytes front before → GivesFront bytes (Ok next) (read_next supported_codes before m))
      → IsReadTo bytes (number + 1) (start + size) (Some next)
  reads_on number front next r h =
      let given = h r.before r.known in
      let one : bytes_taken (m ∷ []) ≡ 0 + size = refl in
      record {
        before = Some given.0;
        known = given.2;
        within = omega (arith, r.within, within_rest, length-drop start bytes);
        begins = tt;
        others = λ more. r.others more ∙ others_on r.before given.0 given.1 more;
        waits = λ more. r.waits more ∙ waits_on more;
        messages = r.messages ++ m ∷ [];
        counted = omega (arith, r.counted, length-append r.messages (m ∷ []));
        sized = omega (arith, one, r.sized, sum_by-append (λ (x : Envelope). taken (message x)) r.messages (m ∷ []));
        passed = λ more.
            r.passed more ∙ ap (λ (x : List Envelope). r.messages ++ x) (passed_on r.before given.0 given.1 more)
            ∙ sym (append_assoc r.messages (m ∷ []) (accepted_from (Some given.0) (drop (start + size) bytes ++ more)));
      }

-- ---- what the bytes mean

pub means : (bytes : List ℕ) (number start : ℕ) (front : Option Front) (r : IsReadTo bytes number start front) → known_from None bytes ≡ known_from r.before (drop start bytes)
means bytes number start front r = ap (known_from None) (sym (append-nil bytes)) ∙ r.others [] ∙ ap (known_from r.before) (append-nil (drop start bytes))

left : (bytes : List ℕ) (number start : ℕ) (front : Option Front) → IsReadTo bytes number start front → after_all bytes ≡ after_all (drop start bytes)
left bytes number start front r = ap after_all (sym (append-nil bytes)) ∙ r.waits [] ∙ ap after_all (append-nil (drop start bytes))

placed : (bytes : List ℕ) (number start : ℕ) (front : Option Front) (r : IsReadTo bytes number start front) (fault : Fault) → accepted_from r.before (drop start bytes) ≡ []
    → known_from None bytes ≡ Err fault → place_of supported_codes bytes ≡ Some (number, start)
placed bytes number start front r fault none h =
    let all : accepted_from None bytes ≡ r.messages =
    ap (accepted_from None) (sym (append-nil bytes)) ∙ r.passed [] ∙ ap (λ (x : List ℕ). r.messages ++ accepted_from r.before x) (append-nil (drop start bytes))
    ∙ ap (λ (x : List Envelope). r.messages ++ x) none ∙ append-nil r.messages in
    somewhere bytes fault h ∙ ap (λ (x : List Envelope). Some (length x, bytes_taken x)) all ∙ (λ j. Some (sym r.counted j, sym r.sized j))

some_before : (bytes : List ℕ) (start : ℕ) → 0 < length (drop start bytes) → is_empty bytes ≡ false
some_before bytes start some = some_there bytes (omega (arith, some, length-drop start bytes))

held_is : (bytes : List ℕ) → settled_fault supported_codes bytes ≡ None → held_of supported_codes bytes ≡ length (after_all bytes)
unfolding held_of
held_is bytes settled = rw settled refl

-- ---- where the bytes are cut off

pub rests_cut : (bytes : List ℕ) (number start : ℕ) (front : Option Front) → IsReadTo bytes number start front → 0 < length (drop start bytes) → next_message (drop start bytes) ≡ Err Truncated
    → Rests bytes (record { front = front; number = number; start = start; held = length bytes - start })
rests_cut bytes number start front r some e =
    let rest : List ℕ = drop start bytes in
    let known : known_from None bytes ≡ Err Truncated = means bytes number start front r ∙ step_fault (length rest) r.before rest Truncated (some_there rest some) e in
    let settled : settled_fault supported_codes bytes ≡ None = settled_is bytes (some_before bytes start some) ∙ ap (λ (x : Result Known Fault). unless_cut_off (fault_of x)) known in
    let all : after_all rest ≡ rest = left_enough (length rest) (suc (length rest)) rest (omega arith) (omega arith) ∙ left_cut (length rest) rest Truncated e in
    record {
      read = r;
      settled = settled;
      held = sym (held_is bytes settled ∙ ap length (left bytes number start front r ∙ all) ∙ length-drop start bytes);
      cut_off = λ h. known;
      whole = λ h. absurd (omega (arith, h, some, length-drop start bytes));
      stops = none_accepted r.before rest Truncated e;
    }

-- ---- between two messages

settled_known : (bytes : List ℕ) (k : Known) → known_from None bytes ≡ Ok k → settled_fault supported_codes bytes ≡ None
settled_known [] k h = none_settled
settled_known (b ∷ bytes) k h = settled_is (b ∷ bytes) refl ∙ ap (λ (x : Result Known Fault). unless_cut_off (fault_of x)) h

settled_at_end : (bytes : List ℕ) (start : ℕ) (before : Option Known) → BeginsAt before start → length bytes ≤ start → known_from None bytes ≡ known_at_end before → settled_fault supported_codes bytes ≡ None
settled_at_end bytes start None begins end h = ap (settled_fault supported_codes) (nothing bytes (omega (arith, begins, end))) ∙ none_settled
settled_at_end bytes start (Some k) begins end h = settled_known bytes k h

pub rests_end : (bytes : List ℕ) (number start : ℕ) (front : Option Front) → IsReadTo bytes number start front → length bytes ≤ start → Rests bytes (record { front = front; number = number; start = start; held = 0 })
rests_end bytes number start front r end =
    let none : drop start bytes ≡ [] = nothing (drop start bytes) (omega (arith, end, length-drop start bytes)) in
    let known : known_from None bytes ≡ known_at_end r.before = means bytes number start front r ∙ ap (known_from r.before) none ∙ step_end 0 r.before in
    let settled : settled_fault supported_codes bytes ≡ None = settled_at_end bytes start r.before r.begins end known in
    record {
      read = r;
      settled = settled;
      held = sym (held_is bytes settled ∙ ap length (left bytes number start front r ∙ ap after_all none ∙ none_left 0));
      cut_off = λ h. absurd (omega (arith, h));
      whole = λ h. known;
      stops = ap (accepted_from r.before) none ∙ none_accepted r.before [] Truncated none_there;
    }

-- ---- at the end of stream

short_end : (before : Option Known) (rest : List ℕ) → rest ≡ [] → known_at_end_of_stream before rest ≡ known_at_end before
short_end None rest e = refl
short_end (Some k) rest e = rw e refl

long_end : (k : Known) (rest : List ℕ) → is_empty rest ≡ false → known_at_end_of_stream (Some k) rest ≡ Err AfterEnd
long_end k rest e = rw e refl

module _ (bytes : List ℕ) (number start behind : ℕ) (ends : EndsReading bytes start behind) where
  some_left : 0 < length (drop start bytes)
  some_left = omega (arith, ends.size, length-drop start bytes)

  length_behind : length (drop 8 (drop start bytes)) ≡ behind
  length_behind = omega (arith, ends.size, length-drop start bytes, length-drop 8 (drop start bytes))

  known_behind : (front : Option Front) (r : IsReadTo bytes number start front) → known_from None bytes ≡ known_at_end_of_stream r.before (drop 8 (drop start bytes))
  known_behind front r =
      means bytes number start front r ∙ step_end_of_stream (length (drop start bytes)) r.before (drop start bytes) (some_there (drop start bytes) some_left) ends.next

  end_refused : (front : Option Front) → IsReadTo bytes number start front → (fault : Fault) → (fault ≡ Truncated → ⊥) → known_from None bytes ≡ Err fault
      → StoppedBy bytes (errors.Fault fault) number start
  end_refused front r fault whole h =
      (settled_refused bytes fault (some_before bytes start some_left) whole h, placed bytes number start front r fault (end_accepts_none r.before (drop start bytes) ends.next) h)

  pub end_without_schema : IsReadTo bytes number start None → StoppedBy bytes (errors.Fault NoSchema) number start
  end_without_schema r = end_refused None r NoSchema (λ h. cc) (known_behind None r ∙ no_schema r.before r.known)
    where
      no_schema : (before : Option Known) → IsBefore bytes None before → known_at_end_of_stream before (drop 8 (drop start bytes)) ≡ Err NoSchema
      no_schema None is = refl
      no_schema (Some k) is = absurd is

  pub bytes_after_end : (f : Front) → IsReadTo bytes number start (Some f) → 0 < behind → StoppedBy bytes (errors.Fault AfterEnd) number start
  bytes_after_end f r more = end_refused (Some f) r AfterEnd (λ h. cc) (known_behind (Some f) r ∙ after_end r.before r.known)
    where
      after_end : (before : Option Known) → IsBefore bytes (Some f) before → known_at_end_of_stream before (drop 8 (drop start bytes)) ≡ Err AfterEnd
      after_end None is = absurd is
      after_end (Some k) is = long_end k (drop 8 (drop start bytes)) (some_there (drop 8 (drop start bytes)) (omega (arith, more, length_behind)))

  pub rests_at_end_of_stream : (f : Front) → IsReadTo bytes number start (Some f) → behind ≤ 0 → Rests bytes (record { front = Some f; number = number; start = start; held = 0 })
  rests_at_end_of_stream f r none =
      let rest : List ℕ = drop start bytes in
      let empty : drop 8 rest ≡ [] = nothing (drop 8 rest) (omega (arith, none, length_behind)) in
      let known : known_from None bytes ≡ known_at_end r.before = known_behind (Some f) r ∙ short_end r.before (drop 8 rest) empty in
      let settled : settled_fault supported_codes bytes ≡ None = at_end r.before r.known known in
      record {
        read = r;
        settled = settled;
        held = sym (held_is bytes settled ∙ ap length (left bytes number start (Some f) r ∙ left_behind rest end_of_stream ends.next ∙ ap after_all empty ∙ none_left 0));
        cut_off = λ h. absurd (omega (arith, h));
        whole = λ h. known;
        stops = end_accepts_none r.before rest ends.next;
      }
    where
      at_end : (before : Option Known) → IsBefore bytes (Some f) before → known_from None bytes ≡ known_at_end before → settled_fault supported_codes bytes ≡ None
      at_end None is h = absurd is
      at_end (Some k) is h = settled_known bytes k h

-- ---- where a message is refused

pub refused_next : (bytes : List ℕ) (number start : ℕ) (front : Option Front) (fault : Fault) → IsReadTo bytes number start front → 0 < length (drop start bytes)
    → (next_message (drop start bytes) ≡ Err fault) × (fault ≡ Truncated → ⊥) → StoppedBy bytes (errors.Fault fault) number start
refused_next bytes number start front fault r some e =
    let known : known_from None bytes ≡ Err fault =
    means bytes number start front r ∙ step_fault (length (drop start bytes)) r.before (drop start bytes) fault (some_there (drop start bytes) some) e.0 in
    (settled_refused bytes fault (some_before bytes start some) e.1 known, placed bytes number start front r fault (none_accepted r.before (drop start bytes) fault e.0) known)

pub refused_message : (bytes : List ℕ) (number start : ℕ) (front : Option Front) (m : Envelope) (e : ImportError) → IsReadTo bytes number start front
    → 0 < length (drop start bytes) → next_message (drop start bytes) ≡ Ok (message m)
    → ((before : Option Known) → IsBefore bytes front before → Fails e (read_next supported_codes before m))
    → StoppedBy bytes e number start
refused_message bytes number start front m errors.OutOfMemory r some next h = tt
refused_message bytes number start front m (errors.Fault fault) r some next h =
    let refused : read_next supported_codes r.before m ≡ Err fault = h r.before r.known in
    let known : known_from None bytes ≡ Err fault =
    means bytes number start front r ∙ step_refused (length (drop start bytes)) r.before (drop start bytes) m fault (some_there (drop start bytes) some) next refused in (
      settled_refused bytes fault (some_before bytes start some) (λ cut. next_whole supported_codes r.before m (refused ∙ ap Err cut)) known,
      placed bytes number start front r fault (refused_accepts_none r.before (drop start bytes) m fault next refused) known,
    )

-- ---- at the end of the bytes

pub ends_without_schema : (bytes : List ℕ) (r : Reading) → Rests bytes r → r.held ≤ 0 → r.front ≡ None → GivesFront bytes (Err (errors.Fault NoSchema)) (known_from None bytes)
ends_without_schema bytes r rests h none = rests.whole h ∙ no_schema rests.read.before (subst (λ (x : Option Front). IsBefore bytes x rests.read.before) none rests.read.known)
  where
    no_schema : (before : Option Known) → IsBefore bytes None before → known_at_end before ≡ Err NoSchema
    no_schema None is = refl
    no_schema (Some k) is = absurd is

pub ends_whole : (bytes : List ℕ) (r : Reading) (f : Front) → Rests bytes r → r.held ≤ 0 → r.front ≡ Some f → GivesFront bytes (Ok f) (known_from None bytes)
ends_whole bytes r f rests h is = given rests.read.before (subst (λ (x : Option Front). IsBefore bytes x rests.read.before) is rests.read.known) (rests.whole h)
  where
    given : (before : Option Known) → IsBefore bytes (Some f) before → known_from None bytes ≡ known_at_end before → GivesFront bytes (Ok f) (known_from None bytes)
    given None is e = absurd is
    given (Some k) is e = (k, e, is)

-- a fault that is settled is the first of the bytes
pub stopped_fails : (bytes : List ℕ) (e : ImportError) (number start : ℕ) → StoppedBy bytes e number start → Fails e (known_from None bytes)
stopped_fails bytes errors.OutOfMemory number start h = tt
stopped_fails bytes (errors.Fault fault) number start h = (refused_settled bytes fault h.0).2

-- ---- where a fault stands

pub cut_place : (bytes : List ℕ) (r : Reading) → Rests bytes r → 0 < r.held → Some (r.number, r.start) ≡ place_of supported_codes bytes
cut_place bytes r rests h = sym (placed bytes r.number r.start r.front rests.read Truncated rests.stops (rests.cut_off h))

pub unbegun_place : (bytes : List ℕ) (r : Reading) → Rests bytes r → r.held ≤ 0 → r.front ≡ None → Some (r.number, r.start) ≡ place_of supported_codes bytes
unbegun_place bytes r rests h none = sym (placed bytes r.number r.start r.front rests.read NoSchema rests.stops (ends_without_schema bytes r rests h none))

pub no_place : (bytes : List ℕ) (r : Reading) (f : Front) → Rests bytes r → r.held ≤ 0 → r.front ≡ Some f → None ≡ place_of supported_codes bytes
no_place bytes r f rests h is = let given = ends_whole bytes r f rests h is in sym (nowhere bytes given.0 given.1)

pub fault_place : (bytes : List ℕ) (e : ImportError) (number start : ℕ) (fault : Fault) → e ≡ errors.Fault fault → StoppedBy bytes e number start → Some (number, start) ≡ place_of supported_codes bytes
fault_place bytes e number start fault is stopped = sym (subst (λ (x : ImportError). StoppedBy bytes x number start) is stopped).1

-- a message takes bytes, so that there are no more messages than bytes
pub few_messages : (messages : List Envelope) → length messages ≤ bytes_taken messages
few_messages [] = omega arith
few_messages (m ∷ messages) =
    let one : bytes_taken (m ∷ []) ≡ 0 + taken (message m) = refl in
    let all : bytes_taken (m ∷ messages) ≡ bytes_taken (m ∷ []) + bytes_taken messages = sum_by-append (λ (x : Envelope). taken (message x)) (m ∷ []) messages in
    omega (arith, one, all, taken_some (message m), few_messages messages)
