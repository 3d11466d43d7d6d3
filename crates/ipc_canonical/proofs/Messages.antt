-- Bytes that are read whatever follows them: a message, and one after another.
use Rattle.std.specs.Prelude.{Option, Some, None}
use Rattle.std.proofs.Common.{◌≡◌, ℕ, zero, suc, ◌<◌, ◌≤◌, Bool, false, List, [], ◌∷◌, ◌++◌, length, drop, Ok, refl, ap, ◌∙◌, arith, append_assoc, length-append}
use Rattle.flatbuf.specs.Lookup.{number}
use Rattle.ipc_message.specs.Framing.{Envelope, message, next_message, taken, marker_faults, metadata_size}
use Rattle.ipc_message.specs.Framing as framing
use Rattle.ipc_write.specs.Written.{end_of_stream}
use Rattle.ipc_stream.specs.Meaning.{◌>>=◌, Known, known_table, read_next, read_from, meaning, is_empty}

-- what follows is read from what is known then, with steps enough
pub record Goes (supported : ℕ → Bool) (before : Option Known) (after : Known) (bytes rest : List ℕ) (steps : ℕ) : Type 0 where
  pub left : ℕ
  pub enough : length rest < left
  pub same : read_from supported steps before (bytes ++ rest) ≡ read_from supported left (Some after) rest

-- these bytes lead from what was known to what is known then
abbrev pub Reads : (ℕ → Bool) → Option Known → Known → List ℕ → Type 0
Reads supported before after bytes = (rest : List ℕ) (steps : ℕ) → length (bytes ++ rest) < steps → Goes supported before after bytes rest steps

-- ---- a message

-- a message has bytes
some_bytes : (bytes : List ℕ) (m : Envelope) → next_message (bytes ++ []) ≡ Ok (message m) → 1 ≤ length bytes
unfolding next_message marker_faults
some_bytes [] m h = absurd cc
some_bytes (b ∷ bytes) m h = omega arith

some_front : (bytes rest : List ℕ) → 1 ≤ length bytes → is_empty (bytes ++ rest) ≡ false
some_front [] rest some = absurd (omega (arith, some))
some_front (b ∷ bytes) rest some = refl

-- a reader finds this message at the front of whatever follows, and then what follows
pub record Stands (bytes : List ℕ) (m : Envelope) : Type 0 where
  pub found : (rest : List ℕ) → next_message (bytes ++ rest) ≡ Ok (message m)
  pub after : (rest : List ℕ) → drop (taken (message m)) (bytes ++ rest) ≡ rest

step_on : (supported : ℕ → Bool) (steps : ℕ) (before : Option Known) (k : Known) (bytes : List ℕ) (m : Envelope) → is_empty bytes ≡ false → next_message bytes ≡ Ok (message m)
    → read_next supported before m ≡ Ok k → read_from supported (suc steps) before bytes ≡ read_from supported steps (Some k) (drop (taken (message m)) bytes)
unfolding read_from
step_on supported steps before k bytes m some found read = rw (some, found, read) refl

pub message_reads : (supported : ℕ → Bool) (before : Option Known) (k : Known) (bytes : List ℕ) (m : Envelope) → Stands bytes m → read_next supported before m ≡ Ok k
    → Reads supported before k bytes
message_reads supported before k bytes m stands read rest zero enough = absurd (omega (arith, enough))
message_reads supported before k bytes m stands read rest (suc steps) enough =
    let some : 1 ≤ length bytes = some_bytes bytes m (stands.found []) in
    let whole = length-append bytes rest in
    record {
      left = steps;
      enough = omega (arith, some, whole, enough);
      same = step_on supported steps before k (bytes ++ rest) m (some_front bytes rest some) (stands.found rest) read ∙ ap (read_from supported steps (Some k)) (stands.after rest);
    }

-- ---- one after another

pub nothing_reads : (supported : ℕ → Bool) (k : Known) → Reads supported (Some k) k []
nothing_reads supported k rest steps enough = record { left = steps; enough = enough; same = refl }

pub both_read : (supported : ℕ → Bool) (before : Option Known) (k last : Known) (xs ys : List ℕ) → Reads supported before k xs → Reads supported (Some k) last ys
    → Reads supported before last (xs ++ ys)
both_read supported before k last xs ys first second rest steps enough =
    let same : (xs ++ ys) ++ rest ≡ xs ++ (ys ++ rest) = append_assoc xs ys rest in
    let long : length ((xs ++ ys) ++ rest) ≡ length (xs ++ (ys ++ rest)) = ap length same in
    let a = first (ys ++ rest) steps (omega (arith, enough, long)) in
    let b = second rest a.left a.enough in
    record { left = b.left; enough = b.enough; same = ap (read_from supported steps before) same ∙ a.same ∙ b.same }

-- ---- the whole stream

marker_stands : next_message end_of_stream ≡ Ok framing.end_of_stream
unfolding next_message marker_faults metadata_size number
marker_stands = refl

at_the_end : (supported : ℕ → Bool) (steps : ℕ) (k : Known) → length end_of_stream < steps → read_from supported steps (Some k) end_of_stream ≡ Ok k
unfolding read_from
at_the_end supported zero k enough = absurd (omega (arith, enough))
at_the_end supported (suc steps) k enough = rw marker_stands refl

pub whole_means : (supported : ℕ → Bool) (bytes : List ℕ) (k : Known) → Reads supported None k bytes → meaning supported (bytes ++ end_of_stream) ≡ Ok (known_table k)
unfolding meaning
whole_means supported bytes k reads =
    let g = reads end_of_stream (suc (length (bytes ++ end_of_stream))) (omega arith) in
    ap (λ r. r >>= λ last. Ok (known_table last)) (g.same ∙ at_the_end supported g.left k g.enough)
