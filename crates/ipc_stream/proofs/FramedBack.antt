-- The other way: messages that are framed and read up to the end mean their table, and a fault that stands is reported.
use Rattle.std.specs.Prelude.{◌≢◌, Option, Some, None}
use Rattle.std.proofs.Common.{◌≡◌, ℕ, zero, suc, ◌+◌, ◌-◌, ◌<◌, Bool, false, List, [], ◌∷◌, ◌++◌, length, drop, Result, Ok, Err, inl, inr, refl, sym, ap, ◌∙◌, arith, append_assoc, length-append}
use Rattle.std.proofs.Math.Seq.{drop-append_seam}
use Rattle.std.proofs.lemmas.List.{length-drop}
use Rattle.cells.specs.Cell.{PlainTable}
use Rattle.ipc_message.specs.declared.fault.Fault.{Fault}
use Rattle.ipc_message.specs.Framing.{Envelope, NextMessage, Frames, Framed, next_message, marker_faults, end_of_stream, message, taken, continuation_marker}
use Rattle.ipc_stream.proofs.BadMessages.{bad_is_refused}
use Rattle.ipc_stream.proofs.NextMessageLaw.{NextMessageLaw}
use Rattle.ipc_stream.proofs.ReadMessages.{read_goes, batches_keep}
use Rattle.ipc_stream.proofs.Steps.{step_on}
use Rattle.ipc_stream.specs.FramedFault.{IsRefused, no_next_message, bad_message, nothing, only_end_of_stream, after_end_of_stream, FaultStands}
use Rattle.ipc_stream.specs.FramedTable.{IsEnd, AreRead, StreamEncodes}
use Rattle.ipc_stream.specs.Meaning.{Known, known_first, known_table, read_from, meaning, ◌>>=◌, is_empty}

not_empty : (bytes : List ℕ) → bytes ≢ [] → is_empty bytes ≡ false
not_empty [] some = absurd (some refl)
not_empty (x ∷ xs) some = refl

-- bytes with something at their front
pub some_next_message : (bytes : List ℕ) (f : NextMessage) → next_message bytes ≡ Ok f → is_empty bytes ≡ false
unfolding next_message marker_faults
some_next_message [] f h = absurd cc
some_next_message (x ∷ xs) f h = refl

pub some_length : (bytes : List ℕ) → is_empty bytes ≡ false → 0 < length bytes
some_length [] h = absurd cc
some_length (b ∷ bytes) h = omega arith

-- what follows a message
pub follows : (bytes others : List ℕ) (m : Envelope) → Framed bytes m others → drop (taken (message m)) bytes ≡ others
follows bytes others m framed =
    let before : List ℕ = continuation_marker ++ (framed.size ++ (m.metadata ++ m.body)) in
    let cut : bytes ≡ before ++ others =
    framed.parts ∙ ap (λ (x : List ℕ). continuation_marker ++ (framed.size ++ x)) (sym (append_assoc m.metadata m.body others))
    ∙ ap (λ (x : List ℕ). continuation_marker ++ x) (sym (append_assoc framed.size (m.metadata ++ m.body) others)) in
    let four : length framed.size ≡ 4 = framed.four in
    let long : 8 + length m.metadata + length m.body ≡ length before = omega (arith, four, length-append framed.size (m.metadata ++ m.body), length-append m.metadata m.body) in
    ap (drop (8 + length m.metadata + length m.body)) cut ∙ ap (λ (k : ℕ). drop k (before ++ others)) long ∙ drop-append_seam before others

-- the messages of a front are read, and what follows is read from there
record Through (supported : ℕ → Bool) (steps : ℕ) (before after : Option Known) (bytes rest : List ℕ) : Type 0 where
  left : ℕ
  enough : length rest < left
  same : read_from supported steps before bytes ≡ read_from supported left after rest

through : NextMessageLaw → (supported : ℕ → Bool) (steps : ℕ) (before : Option Known) (ms : List Envelope) (after : Option Known) (bytes rest : List ℕ) → Frames bytes ms rest
    → AreRead supported before ms after → length bytes < steps → Through supported steps before after bytes rest
through law supported steps before [] after bytes rest framed are enough =
    record { left = steps; enough = rw (← framed) enough; same = λ i. read_from supported steps (are i) (framed i) }
through law supported zero before (m ∷ ms) after bytes rest framed are enough = absurd (omega arith)
through law supported (suc steps) before (m ∷ ms) after bytes rest framed are enough =
    let others : List ℕ = framed.1.0 in
    let stands : Framed bytes m others = framed.1.1 in
    let h : next_message bytes ≡ Ok (message m) = law.read bytes others m framed.0 stands in
    let some : is_empty bytes ≡ false = some_next_message bytes (message m) h in
    let rest_is : drop (8 + length m.metadata + length m.body) bytes ≡ others = follows bytes others m stands in
    let long : 0 < length bytes = some_length bytes some in
    let len : length others ≡ length bytes - (8 + length m.metadata + length m.body) = sym (ap length rest_is) ∙ length-drop (8 + length m.metadata + length m.body) bytes in
    let next : Through supported steps (Some are.0) after others rest = through law supported steps (Some are.0) ms after others rest framed.1.2 are.2 (omega (arith, len, long, enough)) in
    record {
      left = next.left;
      enough = next.enough;
      same = step_on supported steps before bytes m are.0 some h (read_goes supported before m are.0 are.1) ∙ ap (read_from supported steps (Some are.0)) rest_is ∙ next.same;
    }

-- ---- up to the end

ends : NextMessageLaw → (supported : ℕ → Bool) (left : ℕ) (last : Known) (rest : List ℕ) → IsEnd rest → length rest < left → read_from supported left (Some last) rest ≡ Ok last
unfolding read_from
ends law supported zero last rest ended enough = absurd (omega arith)
ends law supported (suc left) last rest (inl none) enough = rw none refl
ends law supported (suc left) last rest (inr marked) enough = rw (marked, law.ended []) refl

read_mean : NextMessageLaw → (supported : ℕ → Bool) (bytes : List ℕ) (ms : List Envelope) (rest : List ℕ) (last : Known) → Frames bytes ms rest → IsEnd rest → AreRead supported None ms (Some last)
    → meaning supported bytes ≡ Ok (known_table last)
unfolding meaning
read_mean law supported bytes ms rest last framed ended are =
    let t : Through supported (suc (length bytes)) None (Some last) bytes rest = through law supported (suc (length bytes)) None ms (Some last) bytes rest framed are (omega arith) in
    ap (λ (r : Result Known Fault). r >>= λ k. Ok (known_table k)) (t.same ∙ ends law supported t.left last rest ended t.enough)

pub encoded_means : NextMessageLaw → (supported : ℕ → Bool) (bytes : List ℕ) (t : PlainTable) → StreamEncodes supported bytes t → meaning supported bytes ≡ Ok t
encoded_means law supported bytes t e =
    let schema : e.last.schema ≡ t.schema = batches_keep supported (known_first e.schema) e.others e.last e.are_batches ∙ e.schema_is in
    let rows : e.last.rows ≡ t.rows = e.rows_are in
    let same : known_table e.last ≡ t = λ i. record { schema = schema i; rows = rows i } in
    read_mean law supported bytes (e.first ∷ e.others) e.rest e.last e.framed e.ended (known_first e.schema, (e.schema, e.is_schema, refl), e.are_batches) ∙ ap Ok same

pub one_table : NextMessageLaw → (supported : ℕ → Bool) (bytes : List ℕ) (t u : PlainTable) → StreamEncodes supported bytes t → StreamEncodes supported bytes u → t ≡ u
one_table law supported bytes t u a b =
    let first = encoded_means law supported bytes t a in
    let second = encoded_means law supported bytes u b in
    cc (first, second)

-- ---- a fault

refused_reported : (supported : ℕ → Bool) (left : ℕ) (before : Option Known) (rest : List ℕ) (fault : Fault) → IsRefused supported before rest fault → length rest < left
    → read_from supported left before rest ≡ Err fault
unfolding read_from
refused_reported supported zero before rest fault refused enough = absurd (omega arith)
refused_reported supported (suc left) before rest fault (no_next_message some bad) enough = rw (not_empty rest some, bad) refl
refused_reported supported (suc left) before rest fault (bad_message m h bad) enough =
    rw (some_next_message rest (message m) h, h, bad_is_refused supported before m fault bad) refl
refused_reported supported (suc left) before rest fault (nothing none early reported) enough = rw (none, early, reported) refl
refused_reported supported (suc left) before rest fault (only_end_of_stream h early reported) enough = rw (some_next_message rest end_of_stream h, h, early, reported) refl
refused_reported supported (suc left) None rest fault (after_end_of_stream h late some reported) enough = absurd (late refl)
refused_reported supported (suc left) (Some k) rest fault (after_end_of_stream h late some reported) enough =
    rw (some_next_message rest end_of_stream h, h, not_empty (drop 8 rest) some, reported) refl

pub fault_reported : NextMessageLaw → (supported : ℕ → Bool) (bytes : List ℕ) (fault : Fault) → FaultStands supported bytes fault → meaning supported bytes ≡ Err fault
unfolding meaning
fault_reported law supported bytes fault s =
    let t : Through supported (suc (length bytes)) None s.known bytes s.rest = through law supported (suc (length bytes)) None s.messages s.known bytes s.rest s.framed s.are_read (omega arith) in
    ap (λ (r : Result Known Fault). r >>= λ k. Ok (known_table k)) (t.same ∙ refused_reported supported t.left s.known s.rest fault s.refused t.enough)
