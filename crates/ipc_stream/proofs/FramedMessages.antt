-- The messages of a stream are framed in it, and a fault is reported of what follows them.
use Rattle.std.specs.Prelude.{◌≢◌, Option, Some, None}
use Rattle.std.proofs.Common.{◌≡◌, ℕ, zero, suc, ◌+◌, ◌<◌, Bool, List, [], ◌∷◌, ◌++◌, length, drop, Ok, Err, inl, inr, refl, sym, ap, ◌∙◌, arith}
use Rattle.std.proofs.lemmas.List.{length-drop}
use Rattle.ipc_stream.specs.laws.First.{bound, after_next}
use Rattle.cells.specs.Cell.{PlainTable}
use Rattle.ipc_message.specs.declared.fault.Fault.{Fault}
use Rattle.ipc_message.specs.Framing.{Envelope, NextMessage, Frames, next_message, end_of_stream, message, taken, continuation_marker, no_size}
use Rattle.ipc_stream.proofs.BadMessages.{refused, refused_before, some_known, refused_is_bad}
use Rattle.ipc_stream.proofs.NextMessageLaw.{NextMessageLaw}
use Rattle.ipc_stream.proofs.ReadMessages.{next_is_read, batches_keep}
use Rattle.ipc_stream.specs.FramedFault.{IsRefused, no_next_message, bad_message, nothing, only_end_of_stream, after_end_of_stream, FaultStands}
use Rattle.ipc_stream.specs.FramedTable.{IsEnd, AreRead, StreamEncodes}
use Rattle.ipc_stream.specs.Meaning.{Known, known_table, read_next, known_at_end, known_at_end_of_stream, read_from, meaning}

-- ---- the messages up to the end

-- messages that are read after what is known, up to the end of the bytes
record Reads (supported : ℕ → Bool) (before : Option Known) (bytes : List ℕ) (last : Known) : Type 0 where
  messages : List Envelope
  rest : List ℕ
  framed : Frames bytes messages rest
  ended : IsEnd rest
  are : AreRead supported before messages (Some last)

-- nothing more: all was read before
ends_here : (supported : ℕ → Bool) (k : Known) (bytes : List ℕ) (last : Known) → IsEnd bytes → k ≡ last → Reads supported (Some k) bytes last
ends_here supported k bytes last ended is = record { messages = []; rest = bytes; framed = refl; ended = ended; are = ap Some is }

at_end_ok : (supported : ℕ → Bool) (before : Option Known) (last : Known) → known_at_end before ≡ Ok last → Reads supported before [] last
at_end_ok supported None last h = absurd cc
at_end_ok supported (Some k) last h = ends_here supported k [] last (inl refl) (cc h)

marked_end : NextMessageLaw → (bytes : List ℕ) → next_message bytes ≡ Ok end_of_stream → drop 8 bytes ≡ [] → IsEnd bytes
marked_end law bytes h none = inr (law.marked bytes h ∙ ap (λ (x : List ℕ). continuation_marker ++ (no_size ++ x)) none)

at_end_of_stream_ok : NextMessageLaw → (supported : ℕ → Bool) (before : Option Known) (last : Known) (bytes others : List ℕ) → next_message bytes ≡ Ok end_of_stream → drop 8 bytes ≡ others
    → known_at_end_of_stream before others ≡ Ok last → Reads supported before bytes last
at_end_of_stream_ok law supported None last bytes others h d e = absurd cc
at_end_of_stream_ok law supported (Some k) last bytes (x ∷ xs) h d e = absurd cc
at_end_of_stream_ok law supported (Some k) last bytes [] h d e = ends_here supported k bytes last (marked_end law bytes h d) (cc e)

-- one message more in front
one_more : NextMessageLaw → (supported : ℕ → Bool) (before : Option Known) (last : Known) (bytes : List ℕ) (m : Envelope) (k : Known) → next_message bytes ≡ Ok (message m)
    → read_next supported before m ≡ Ok k → Reads supported (Some k) (drop (taken (message m)) bytes) last → Reads supported before bytes last
one_more law supported before last bytes m k h goes next =
    let f = law.framed bytes m h in
    record {
      messages = m ∷ next.messages;
      rest = next.rest;
      framed = (f.0, (drop (taken (message m)) bytes, f.1, next.framed));
      ended = next.ended;
      are = (k, next_is_read supported before m k goes, next.are);
    }

after_next_read : NextMessageLaw → (supported : ℕ → Bool) (steps : ℕ) (before : Option Known) (last : Known) (bytes : List ℕ) (f : NextMessage)
    → ((k : Known) (others : List ℕ) → read_from supported steps (Some k) others ≡ Ok last → Reads supported (Some k) others last)
    → next_message bytes ≡ Ok f → after_next supported steps before bytes f ≡ Ok last → Reads supported before bytes last
after_next_read law supported steps before last bytes end_of_stream next h e = at_end_of_stream_ok law supported before last bytes (drop 8 bytes) h refl e
after_next_read law supported steps before last bytes (message m) next h e =
    let others : List ℕ = drop (taken (message m)) bytes in
    let found = bound (read_next supported before m) (λ (k : Known). read_from supported steps (Some k) others) last e in
    one_more law supported before last bytes m found.0 h found.1 (next found.0 others found.2)

messages_framed : NextMessageLaw → (supported : ℕ → Bool) (steps : ℕ) (before : Option Known) (last : Known) (bytes : List ℕ) → read_from supported steps before bytes ≡ Ok last
    → Reads supported before bytes last
unfolding read_from
messages_framed law supported zero before last bytes h = absurd cc
messages_framed law supported (suc steps) before last [] h = at_end_ok supported before last h
messages_framed law supported (suc steps) before last (x ∷ xs) h =
    let found = bound (next_message (x ∷ xs)) (after_next supported steps before (x ∷ xs)) last h in
    after_next_read law supported steps before last (x ∷ xs) found.0 (λ k others e. messages_framed law supported steps (Some k) last others e) found.1 found.2

-- ---- the table

encodes : (supported : ℕ → Bool) (bytes : List ℕ) (t : PlainTable) (ms : List Envelope) (rest : List ℕ) (last : Known) → Frames bytes ms rest → IsEnd rest → AreRead supported None ms (Some last)
    → known_table last ≡ t → StreamEncodes supported bytes t
encodes supported bytes t [] rest last framed ended are is = absurd cc
encodes supported bytes t (m ∷ ms) rest last framed ended (k, (s, schema, first), are) is =
    record {
      first = m;
      others = ms;
      rest = rest;
      framed = framed;
      ended = ended;
      schema = s;
      is_schema = schema;
      schema_is = ap (λ (x : Known). x.schema) (sym first) ∙ sym (batches_keep supported k ms last are) ∙ ap (λ (x : PlainTable). x.schema) is;
      last = last;
      are_batches = rw (← first) are;
      rows_are = ap (λ (x : PlainTable). x.rows) is;
    }

pub table_encoded : NextMessageLaw → (supported : ℕ → Bool) (bytes : List ℕ) (t : PlainTable) → meaning supported bytes ≡ Ok t → StreamEncodes supported bytes t
unfolding meaning
table_encoded law supported bytes t h =
    let found = bound (read_from supported (suc (length bytes)) None bytes) (λ (k : Known). Ok (known_table k)) t h in
    let r : Reads supported None bytes found.0 = messages_framed law supported (suc (length bytes)) None found.0 bytes found.1 in
    let is : known_table found.0 ≡ t = cc (found.2) in
    encodes supported bytes t r.messages r.rest found.0 r.framed r.ended r.are is

-- ---- a fault

-- messages that are read after what is known, and then what is refused
record Stops (supported : ℕ → Bool) (before : Option Known) (bytes : List ℕ) (fault : Fault) : Type 0 where
  messages : List Envelope
  known : Option Known
  rest : List ℕ
  framed : Frames bytes messages rest
  are : AreRead supported before messages known
  refused : IsRefused supported known rest fault

stops_here : (supported : ℕ → Bool) (before : Option Known) (bytes : List ℕ) (fault : Fault) → IsRefused supported before bytes fault → Stops supported before bytes fault
stops_here supported before bytes fault refused = record { messages = []; known = before; rest = bytes; framed = refl; are = refl; refused = refused }

at_end_err : (supported : ℕ → Bool) (before : Option Known) (fault : Fault) → known_at_end before ≡ Err fault → Stops supported before [] fault
at_end_err supported None fault h = stops_here supported None [] fault (nothing refl refl (cc h))
at_end_err supported (Some k) fault h = absurd cc

some_left : {A : Type 0} (x : A) (xs ys : List A) → ys ≡ x ∷ xs → ys ≢ []
some_left x xs ys is none = cc

at_end_of_stream_err : (supported : ℕ → Bool) (before : Option Known) (bytes others : List ℕ) (fault : Fault) → next_message bytes ≡ Ok end_of_stream → drop 8 bytes ≡ others
    → known_at_end_of_stream before others ≡ Err fault → Stops supported before bytes fault
at_end_of_stream_err supported None bytes others fault h d e = stops_here supported None bytes fault (only_end_of_stream h refl (cc e))
at_end_of_stream_err supported (Some k) bytes [] fault h d e = absurd cc
at_end_of_stream_err supported (Some k) bytes (x ∷ xs) fault h d e =
    stops_here supported (Some k) bytes fault (after_end_of_stream h (some_known k) (some_left x xs (drop 8 bytes) d) (cc e))

stops_later : NextMessageLaw → (supported : ℕ → Bool) (before : Option Known) (bytes : List ℕ) (fault : Fault) (m : Envelope) (k : Known) → next_message bytes ≡ Ok (message m)
    → read_next supported before m ≡ Ok k → Stops supported (Some k) (drop (taken (message m)) bytes) fault → Stops supported before bytes fault
stops_later law supported before bytes fault m k h goes next =
    let f = law.framed bytes m h in
    record {
      messages = m ∷ next.messages;
      known = next.known;
      rest = next.rest;
      framed = (f.0, (drop (taken (message m)) bytes, f.1, next.framed));
      are = (k, next_is_read supported before m k goes, next.are);
      refused = next.refused;
    }

after_next_stops : NextMessageLaw → (supported : ℕ → Bool) (steps : ℕ) (before : Option Known) (bytes : List ℕ) (fault : Fault) (f : NextMessage)
    → ((k : Known) (others : List ℕ) → length others < length bytes → read_from supported steps (Some k) others ≡ Err fault → Stops supported (Some k) others fault)
    → 0 < length bytes → next_message bytes ≡ Ok f → after_next supported steps before bytes f ≡ Err fault → Stops supported before bytes fault
after_next_stops law supported steps before bytes fault end_of_stream next some h e = at_end_of_stream_err supported before bytes (drop 8 bytes) fault h refl e
after_next_stops law supported steps before bytes fault (message m) next some h e =
    let others : List ℕ = drop (taken (message m)) bytes in
    elim (refused (read_next supported before m) (λ (k : Known). read_from supported steps (Some k) others) fault e) [
      | inl bad ↦ stops_here supported before bytes fault (bad_message m h (refused_is_bad supported before m fault bad))
      | inr found ↦
          stops_later law supported before bytes fault m found.0 h found.1
          (next found.0 others (omega (arith, some, length-drop (8 + length m.metadata + length m.body) bytes)) found.2)
    ]

stopped : NextMessageLaw → (supported : ℕ → Bool) (steps : ℕ) (before : Option Known) (bytes : List ℕ) (fault : Fault) → length bytes < steps → read_from supported steps before bytes ≡ Err fault
    → Stops supported before bytes fault
unfolding read_from
stopped law supported zero before bytes fault enough h = absurd (omega arith)
stopped law supported (suc steps) before [] fault enough h = at_end_err supported before fault h
stopped law supported (suc steps) before (x ∷ xs) fault enough h =
    elim (refused (next_message (x ∷ xs)) (after_next supported steps before (x ∷ xs)) fault h) [
      | inl bad ↦ stops_here supported before (x ∷ xs) fault (no_next_message (some_left x xs (x ∷ xs) refl) bad)
      | inr found ↦
          after_next_stops law supported steps before (x ∷ xs) fault found.0 (λ k others less e. stopped law supported steps (Some k) others fault (omega arith) e) (omega arith) found.1 found.2
    ]

pub fault_stands : NextMessageLaw → (supported : ℕ → Bool) (bytes : List ℕ) (fault : Fault) → meaning supported bytes ≡ Err fault → FaultStands supported bytes fault
unfolding meaning
fault_stands law supported bytes fault h =
    let s : Stops supported None bytes fault =
    stopped law supported (suc (length bytes)) None bytes fault (omega arith) (refused_before (read_from supported (suc (length bytes)) None bytes) known_table fault h) in
    record { messages = s.messages; known = s.known; rest = s.rest; framed = s.framed; are_read = s.are; refused = s.refused }
