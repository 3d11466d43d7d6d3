-- Whether bytes are whole messages.
use Rattle.std.proofs.Common.{◌≡◌, ◌≢◌, ◌↔◌, ◌∙◌, ◌+◌, ◌-◌, ◌++◌, ℕ, List, [], ◌∷◌, length, take, drop, refl, sym, ap, subst, arith, Result, Ok, Err, append_assoc, length-append, length-drop}
use Rattle.std.proofs.lemmas.List.{take_all}
use Rattle.ipc_message.specs.Framing.{Envelope, NextMessage, message, end_of_stream, next_message, taken, continuation_marker, IsMessage, Framed, Frames}
use Rattle.cli_commands.specs.Complete.{LacksEnd}

abbrev pub IsFramed : Type 0
IsFramed = (bytes : List ℕ) (m : Envelope) → next_message bytes ≡ Ok (message m) → IsMessage m × Framed bytes m (drop (taken (message m)) bytes)

abbrev pub IsReadBack : Type 0
IsReadBack = (bytes others : List ℕ) (m : Envelope) → IsMessage m → Framed bytes m others → next_message bytes ≡ Ok (message m)

same_message : (bytes : List ℕ) (m n : Envelope) → next_message bytes ≡ Ok (message m) → next_message bytes ≡ Ok (message n) → m ≡ n
same_message bytes m n one other = cc (one, other)

drop_front : (front rest : List ℕ) → drop (length front) (front ++ rest) ≡ rest
drop_front [] rest = refl
drop_front (x ∷ xs) rest = drop_front xs rest

-- what is after a framed message
others_are : (bytes others : List ℕ) (m : Envelope) → Framed bytes m others → drop (taken (message m)) bytes ≡ others
others_are bytes others m f =
    let front : List ℕ = continuation_marker ++ (f.size ++ (m.metadata ++ m.body)) in
    let flat : front ++ others ≡ continuation_marker ++ (f.size ++ (m.metadata ++ (m.body ++ others))) = simp append_assoc in
    let all : front ++ others ≡ bytes = flat ∙ sym f.parts in
    let marker : length continuation_marker ≡ 4 = refl in
    let long : length front ≡ taken (message m) =
    omega (
      arith,
      f.four,
      marker,
      length-append continuation_marker (f.size ++ (m.metadata ++ m.body)),
      length-append f.size (m.metadata ++ m.body),
      length-append m.metadata m.body,
    ) in
    subst (λ (b : List ℕ). drop (taken (message m)) b ≡ others) all (subst (λ (n : ℕ). drop n (front ++ others) ≡ others) long (drop_front front others))

module _ (framed : IsFramed) (read : IsReadBack) where
  pub after_message : (bytes : List ℕ) (m : Envelope) → next_message bytes ≡ Ok (message m) → LacksEnd (drop (taken (message m)) bytes) ↔ LacksEnd bytes
  after_message bytes m next = (
    (λ lacks. (m ∷ lacks.0, ((framed bytes m next).0, (drop (taken (message m)) bytes, (framed bytes m next).1, lacks.1)))),
    (λ lacks. shorter lacks.0 lacks.1),
  )
    where
      shorter : (ms : List Envelope) → Frames bytes ms [] → LacksEnd (drop (taken (message m)) bytes)
      shorter [] is = absurd (cc (sym is ∙ (framed bytes m next).1.parts))
      shorter (n ∷ ms) is =
          let same : n ≡ m = same_message bytes n m (read bytes is.1.0 n is.0 is.1.1) next in
          let others : drop (taken (message n)) bytes ≡ is.1.0 = others_are bytes is.1.0 n is.1.1 in
          (ms, subst (λ (b : List ℕ). Frames b ms []) (sym others ∙ ap (λ (x : Envelope). drop (taken (message x)) bytes) same) is.1.2)

  -- bytes that do not begin with a message are none, if there are some
  pub no_message : (bytes : List ℕ) → ¬ (bytes ≡ []) → ((m : Envelope) → next_message bytes ≢ Ok (message m)) → ¬ LacksEnd bytes
  no_message bytes some none lacks = without lacks.0 lacks.1
    where
      without : (ms : List Envelope) → ¬ Frames bytes ms []
      without [] is = some is
      without (n ∷ ms) is = none n (read bytes is.1.0 n is.0 is.1.1)

-- the slice from a place to the end has all bytes from there on
pub rest_of : (start : ℕ) (bytes : List ℕ) → take (length bytes - start) (drop start bytes) ≡ drop start bytes
rest_of start bytes = take_all (length bytes - start) (drop start bytes) (omega (arith, length-drop start bytes))

-- nothing is left
pub at_end : (bytes : List ℕ) → bytes ≡ [] → LacksEnd bytes
at_end bytes is = ([], is)
