-- The messages before a fault that stands are those that are accepted, so that it stands where its place says.
use Rattle.std.specs.Prelude.{Option, Some, None}
use Rattle.std.proofs.Common.{◌≡◌, ℕ, zero, suc, ◌+◌, ◌-◌, ◌≤◌, ◌<◌, Bool, List, [], ◌∷◌, length, drop, Ok, refl, sym, ap, ◌∙◌, arith}
use Rattle.std.proofs.lemmas.List.{length-drop}
use Rattle.cells.specs.Cell.{PlainTable}
use Rattle.ipc_message.specs.declared.fault.Fault.{Fault}
use Rattle.ipc_message.specs.Framing.{Envelope, Frames, Framed, next_message, marker_faults, message}
use Rattle.ipc_stream.proofs.BadMessages.{bad_is_refused}
use Rattle.ipc_stream.proofs.FramedBack.{fault_reported, follows, some_length, some_next_message}
use Rattle.ipc_stream.proofs.NextMessageLaw.{NextMessageLaw}
use Rattle.ipc_stream.proofs.ReadMessages.{read_goes}
use Rattle.ipc_stream.specs.FramedFault.{IsRefused, no_next_message, bad_message, nothing, only_end_of_stream, after_end_of_stream, FaultStands}
use Rattle.ipc_stream.specs.FramedTable.{AreRead}
use Rattle.ipc_stream.specs.Meaning.{Known, meaning, is_empty}
use Rattle.ipc_stream.specs.Place.{accepted, bytes_taken, place_of}

-- what is refused has no message that is accepted
none_accepted : (supported : ℕ → Bool) (steps : ℕ) (before : Option Known) (rest : List ℕ) (fault : Fault) → IsRefused supported before rest fault
    → accepted supported steps before rest ≡ []
unfolding accepted next_message marker_faults
none_accepted supported zero before rest fault refused = refl
none_accepted supported (suc steps) before rest fault (no_next_message some bad) = rw bad refl
none_accepted supported (suc steps) before rest fault (bad_message m h bad) = rw (h, bad_is_refused supported before m fault bad) refl
none_accepted supported (suc steps) before rest fault (nothing none early reported) = rw none refl
none_accepted supported (suc steps) before rest fault (only_end_of_stream h early reported) = rw h refl
none_accepted supported (suc steps) before rest fault (after_end_of_stream h late some reported) = rw h refl

-- messages that are read up to a fault are those that are accepted
all_accepted : NextMessageLaw → (supported : ℕ → Bool) (steps : ℕ) (before : Option Known) (ms : List Envelope) (after : Option Known) (bytes rest : List ℕ) (fault : Fault)
    → Frames bytes ms rest → AreRead supported before ms after → IsRefused supported after rest fault → length bytes ≤ steps → accepted supported steps before bytes ≡ ms
unfolding accepted
all_accepted law supported steps before [] after bytes rest fault framed are refused enough =
    (λ i. accepted supported steps (are i) (framed i)) ∙ none_accepted supported steps after rest fault refused
all_accepted law supported zero before (m ∷ ms) after bytes rest fault framed are refused enough =
    let h : next_message bytes ≡ Ok (message m) = law.read bytes framed.1.0 m framed.0 framed.1.1 in
    let long : 0 < length bytes = some_length bytes (some_next_message bytes (message m) h) in
    absurd (omega (arith, long, enough))
all_accepted law supported (suc steps) before (m ∷ ms) after bytes rest fault framed are refused enough =
    let others : List ℕ = framed.1.0 in
    let stands : Framed bytes m others = framed.1.1 in
    let h : next_message bytes ≡ Ok (message m) = law.read bytes others m framed.0 stands in
    let long : 0 < length bytes = some_length bytes (some_next_message bytes (message m) h) in
    let rest_is : drop (8 + length m.metadata + length m.body) bytes ≡ others = follows bytes others m stands in
    let len : length others ≡ length bytes - (8 + length m.metadata + length m.body) = sym (ap length rest_is) ∙ length-drop (8 + length m.metadata + length m.body) bytes in
    let next : accepted supported steps (Some are.0) others ≡ ms =
    all_accepted law supported steps (Some are.0) ms after others rest fault framed.1.2 are.2 refused (omega (arith, len, long, enough)) in
    rw (h, read_goes supported before m are.0 are.1) (ap (λ (x : List ℕ). m ∷ accepted supported steps (Some are.0) x) rest_is ∙ ap (λ (x : List Envelope). m ∷ x) next)

pub fault_place : NextMessageLaw → (supported : ℕ → Bool) (bytes : List ℕ) (fault : Fault) → (s : FaultStands supported bytes fault)
    → place_of supported bytes ≡ Some (length s.messages, bytes_taken s.messages)
unfolding place_of
fault_place law supported bytes fault s =
    let before : accepted supported (length bytes) None bytes ≡ s.messages =
    all_accepted law supported (length bytes) None s.messages s.known bytes s.rest fault s.framed s.are_read s.refused (omega arith) in
    rw (fault_reported law supported bytes fault s, before) refl

pub no_fault_place : (supported : ℕ → Bool) (bytes : List ℕ) (t : PlainTable) → meaning supported bytes ≡ Ok t → place_of supported bytes ≡ None
unfolding place_of
no_fault_place supported bytes t means = rw means refl
