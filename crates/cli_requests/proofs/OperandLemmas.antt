-- `clap` reads operands as it reads them after `--`, whatever the command has besides.
use Rattle.std.proofs.Common.{◌≡◌, ◌∙◌, ◌==◌, ℕ, Bool, true, false, refl, sym, ap, ap₂, subst, List, [], ◌∷◌, ◌++◌, append_assoc, map, Option, Some, None}
use Rattle.std.specs.Prelude.{fold, option_map, if◌then◌else◌}
use Rattle.std.specs.Str.{bytes_eq}
use Rattle.std.proofs.lemmas.Slice.Eq.{bytes_eq-Decides}
use Rattle.std.proofs.lemmas.List.{append-nil}
use Rattle.std.proofs.lemmas.Option.{none-some, same_Some}
use Rattle.clap.specs.Lexer.{long_of, short_of}
use Rattle.clap.specs.Walk.{Held, Rule, Row, Walk, idle, positional, value, nothing_held, walked, arg_by_index, positional_held, is_multiple, next_position}
use Rattle.clap.specs.Walk.{to_positional, finished, settled}
use Rattle.clap.specs.Simple.{App, Shape, built, label_of, matches_of}
use Rattle.clap.specs.Kinds.{or_else, Kinds}
use Rattle.clap.specs.Faults.{fault_of, built_fault, walk_fault, turn_fault, step_fault, settle_fault, defaults_fault, check_fault}
use Rattle.clap.specs.Words.{Text}
use Rattle.clap.proofs.FaultLemmas as clap
use Rattle.cli_requests.specs.Operands.{is_option, operands}

abbrev pub dashes : Text
dashes = 45 ∷ 45 ∷ []

-- between two words, of which none is the value of an option
abbrev pub at : Held → Bool → ℕ → Bool → Walk
at h several p trailing = record {
  held = h;
  waiting = if several then positional else idle;
  position = p;
  is_trailing = trailing;
  stopped = None;
}

-- ---- a word that is an operand

one_long : (c : ℕ) (b : Bool) → (c == 45) ≡ b → long_of (c ∷ []) ≡ None
one_long c true e = rw e refl
one_long c false e = rw e refl

one_short : (c : ℕ) (b : Bool) → (c == 45) ≡ b → short_of (c ∷ []) ≡ None
one_short c true e = rw e refl
one_short c false e = rw e refl

pub no_long : (word : Text) → is_option word ≡ false → long_of word ≡ None
no_long [] e = refl
no_long (c ∷ []) e = one_long c (c == 45) refl
no_long (c ∷ d ∷ rest) e = rw e refl

pub no_short : (word : Text) → is_option word ≡ false → short_of word ≡ None
no_short [] e = refl
no_short (c ∷ []) e = one_short c (c == 45) refl
no_short (c ∷ d ∷ rest) e = rw e refl

-- after `--` each word is one
abbrev IsValue : Bool → Text → Type 0
IsValue true word = Unit {0}
IsValue false word = (bytes_eq word dashes ≡ false) × (long_of word ≡ None) × (short_of word ≡ None)

turn_value : (s : Shape) (h : Held) (several : Bool) (p : ℕ) (trailing : Bool) (word : Text) → IsValue trailing word
    → turn_fault s [] (at h several p trailing) word ≡ step_fault s p h value
turn_value s h true p true word is = refl
turn_value s h false p true word is = refl
turn_value s h true p false word is = rw (is.0, is.1, is.2) refl
turn_value s h false p false word is = rw (is.0, is.1, is.2) refl

walked_value : (s : Shape) (h : Held) (several : Bool) (p : ℕ) (trailing : Bool) (word : Text) → IsValue trailing word
    → walked s.rules [] (at h several p trailing) word ≡ to_positional s.rules (arg_by_index s.rules p) word (at h several p trailing) h
unfolding walked
walked_value s h true p true word is = refl
walked_value s h false p true word is = refl
walked_value s h true p false word is = rw (is.0, is.1, is.2) refl
walked_value s h false p false word is = rw (is.0, is.1, is.2) refl

-- what is after the positional is no option
abbrev pub ends_options : Option Rule → Bool
ends_options None = false
ends_options (Some a) = a.trailing_var_arg

abbrev held_after : List Rule → Option Rule → Text → Held → Held
held_after c None word h = h
held_after c (Some a) word h = positional_held c a word h

abbrev several_after : Option Rule → Bool → Bool
several_after None several = several
several_after (Some a) several = is_multiple a

abbrev position_after : Option Rule → ℕ → ℕ
position_after None p = p
position_after (Some a) p = next_position a p

positional_is : (c : List Rule) (o : Option Rule) (word : Text) (h : Held) (several : Bool) (p : ℕ) (trailing : Bool) → ends_options o ≡ false
    → to_positional c o word (at h several p trailing) h ≡ at (held_after c o word h) (several_after o several) (position_after o p) trailing
positional_is c None word h several p trailing e = refl
positional_is c (Some a) word h several p true e = refl
positional_is c (Some a) word h several p false e = rw e refl

-- ---- words that are operands, and the same after `--`

abbrev Alike : Shape → Walk → List Text → Walk → List Text → Type 0
Alike s w words v others =
    (walk_fault s [] w words ≡ walk_fault s [] v others) × ((fold (walked s.rules []) w words).held ≡ (fold (walked s.rules []) v others).held)

alike_end : (s : Shape) (h : Held) (several : Bool) (p : ℕ) → Alike s (at h several p false) [] (at h several p true) []
unfolding walk_fault
alike_end s h several p = (refl, refl)

alike_dashes : (s : Shape) (h : Held) (several : Bool) (p : ℕ) (rest : List Text) → Alike s (at h several p false) (dashes ∷ rest) (at h several p true) rest
unfolding walk_fault walked
alike_dashes s h true p rest = (refl, refl)
alike_dashes s h false p rest = (refl, refl)

-- a plain walk over the rest of the words is the one after `--`
abbrev AreAlike : Shape → List Text → List Text → Type 0
AreAlike s rest others = (h : Held) (several : Bool) (p : ℕ) → Alike s (at h several p false) rest (at h several p true) others

module _ (s : Shape) (plain : (p : ℕ) → ends_options (arg_by_index s.rules p) ≡ false) where
  value_alike : (word : Text) (rest others : List Text) → IsValue false word → AreAlike s rest others → AreAlike s (word ∷ rest) (word ∷ others)
  unfolding walk_fault
  value_alike word rest others is alike h several p =
      let o = arg_by_index s.rules p in
      let first = walked_value s h several p false word is ∙ positional_is s.rules o word h several p false (plain p) in
      let second = walked_value s h several p true word tt ∙ positional_is s.rules o word h several p true (plain p) in
      let next = alike (held_after s.rules o word h) (several_after o several) (position_after o p) in (
        ap₂ or_else (turn_value s h several p false word is ∙ sym (turn_value s h several p true word tt))
            (ap (λ (w : Walk). walk_fault s [] w rest) first ∙ next.0 ∙ sym (ap (λ (w : Walk). walk_fault s [] w others) second)),
        ap (λ (w : Walk). (fold (walked s.rules []) w rest).held) first ∙ next.1 ∙ sym (ap (λ (w : Walk). (fold (walked s.rules []) w others).held) second),
      )

  others_alike : (word : Text) (rest ops : List Text) → IsValue false word → ((others : List Text) → operands rest ≡ Some others → AreAlike s rest others)
      → (o : Option (List Text)) → operands rest ≡ o → option_map (λ (others : List Text). word ∷ others) o ≡ Some ops → AreAlike s (word ∷ rest) ops
  others_alike word rest ops is alike None e all = absurd (none-some ops all)
  others_alike word rest ops is alike (Some others) e all =
      subst (λ (xs : List Text). AreAlike s (word ∷ rest) xs) (same_Some (word ∷ others) ops all) (value_alike word rest others is (alike others e))

  word_alike : (word : Text) (rest ops : List Text) → ((others : List Text) → operands rest ≡ Some others → AreAlike s rest others)
      → (ends option : Bool) → bytes_eq word dashes ≡ ends → is_option word ≡ option → operands (word ∷ rest) ≡ Some ops → AreAlike s (word ∷ rest) ops
  unfolding operands
  word_alike word rest ops alike true option d o e =
      let all : Some rest ≡ Some ops = rw d at e in
      subst (λ (w : Text). AreAlike s (w ∷ rest) ops) (sym ((bytes_eq-Decides word dashes).0 d))
      (subst (λ (xs : List Text). AreAlike s (dashes ∷ rest) xs) (same_Some rest ops all) (λ h several p. alike_dashes s h several p rest))
  word_alike word rest ops alike false true d o e =
      let all : None ≡ Some ops = rw (d, o) at e in
      absurd (none-some ops all)
  word_alike word rest ops alike false false d o e =
      let all : option_map (λ (others : List Text). word ∷ others) (operands rest) ≡ Some ops = rw (d, o) at e in
      others_alike word rest ops (d, no_long word o, no_short word o) alike (operands rest) refl all

  operands_alike : (words ops : List Text) → operands words ≡ Some ops → AreAlike s words ops
  unfolding operands
  operands_alike [] ops e = subst (λ (xs : List Text). AreAlike s [] xs) (same_Some [] ops e) (λ h several p. alike_end s h several p)
  operands_alike (word ∷ rest) ops e = word_alike word rest ops (operands_alike rest) (bytes_eq word dashes) (is_option word) refl refl e

-- ---- a command without commands of its own

-- a walk over words after `--`, from the first positional
abbrev pub operands_held : Shape → List Text → Held
operands_held s ops = (fold (walked s.rules []) (at nothing_held false 1 true) ops).held

abbrev pub operands_fault : Shape → List Text → Kinds
operands_fault s ops =
    let end = operands_held s ops in
    or_else (walk_fault s [] (at nothing_held false 1 true) ops) (or_else (settle_fault s.rules s.args_override_self end)
    (or_else (defaults_fault (settled s.rules end).rows s.rules) (check_fault s (finished s.rules end) false)))

abbrev pub level_with : Shape → Kinds → Held → Kinds
level_with s turns end = or_else turns (or_else (settle_fault s.rules s.args_override_self end)
    (or_else (defaults_fault (settled s.rules end).rows s.rules) (check_fault s (finished s.rules end) false)))

abbrev pub operand_rows : Shape → List Text → List Row
operand_rows s ops = finished s.rules (operands_held s ops)

-- the words after the command are read as its operands
pub record ReadsOperands (a : App) (command : Text) (words ops : List Text) : Type 0 where
  pub fault : fault_of a (command ∷ words) ≡ operands_fault (built a).top ops
  pub rows : matches_of a (command ∷ words) ≡ operand_rows (built a).top ops

pub reads_operands : (a : App) (command : Text) (words ops : List Text) → operands words ≡ Some ops → a.top.no_binary_name ≡ false → (built a).subs ≡ []
    → ((p : ℕ) → ends_options (arg_by_index (built a).top.rules p) ≡ false) → ReadsOperands a command words ops
reads_operands a command words ops is named alone plain =
    let s = (built a).top in
    let alike = operands_alike s plain words ops is nothing_held false 1 in
    let after : (if a.top.no_binary_name then command ∷ words else words) ≡ words = rw named refl in
    record {
      fault = ap (built_fault (built a) nothing_held) after ∙ clap.leaf_fault (built a) nothing_held words alone ∙ ap₂ (level_with s) alike.0 alike.1;
      rows = ap₂ (λ (subs : List Shape) (ws : List Text). finished s.rules (fold (walked s.rules (map label_of subs))
          (at nothing_held false 1 false) ws).held) alone after
          ∙ ap (finished s.rules) alike.1;
    }

-- ---- words without end, of one argument

abbrev pub words_held : List Row → Text → List Text → Held
words_held rows id words = record { rows = rows; pending = Some (id, words); skip = 0 }

pub words_read : (s : Shape) (id : Text) (rows : List Row)
    → ((vs : List Text) (c : Text) → walked s.rules [] (at (words_held rows id vs) true 3 true) c ≡ at (words_held rows id (vs ++ c ∷ [])) true 3 true)
    → (vs rest : List Text) → (fold (walked s.rules []) (at (words_held rows id vs) true 3 true) rest).held ≡ words_held rows id (vs ++ rest)
words_read s id rows met vs [] = ap (words_held rows id) (sym (append-nil vs))
words_read s id rows met vs (c ∷ rest) =
    ap (λ (w : Walk). (fold (walked s.rules []) w rest).held) (met vs c) ∙ words_read s id rows met (vs ++ c ∷ []) rest
    ∙ ap (words_held rows id) (append_assoc vs (c ∷ []) rest)

pub words_faultless : (s : Shape) (id : Text) (rows : List Row)
    → ((vs : List Text) (c : Text) → walked s.rules [] (at (words_held rows id vs) true 3 true) c ≡ at (words_held rows id (vs ++ c ∷ [])) true 3 true)
    → ((vs : List Text) (c : Text) → turn_fault s [] (at (words_held rows id vs) true 3 true) c ≡ [])
    → (vs rest : List Text) → walk_fault s [] (at (words_held rows id vs) true 3 true) rest ≡ []
unfolding walk_fault
words_faultless s id rows met free vs [] = refl
words_faultless s id rows met free vs (c ∷ rest) =
    ap₂ or_else (free vs c) (ap (λ (w : Walk). walk_fault s [] w rest) (met vs c) ∙ words_faultless s id rows met free (vs ++ c ∷ []) rest)
