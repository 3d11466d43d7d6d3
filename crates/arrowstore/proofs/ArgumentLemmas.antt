-- How `clap` reads the arguments of the program, whatever they are.
use Rattle.std.proofs.Common.{◌≡◌, ◌⊎◌, ◌∙◌, ◌==◌, ◌+◌, ℕ, Bool, true, false, refl, sym, ap, ap₂, subst, List, [], ◌∷◌, ◌++◌, length, take, drop, Option, Some, None, inl, inr, codes, is_some, eqb-true, true≢false, append_assoc, arith, one-add}
use Rattle.std.specs.Prelude.{slice_get, fold, encode_utf8, if◌then◌else◌, option_and_then}
use Rattle.std.specs.List.{before_first, after_first, list_any, position_or_len}
use Rattle.std.specs.Str.{bytes_eq, chars}
use Rattle.std.proofs.lemmas.Slice.Eq.{bytes_eq-Decides}
use Rattle.std.proofs.lemmas.Option.{none-some, same_Some, cond_some}
use Rattle.std.proofs.lemmas.List.{append-nil}
use Rattle.std.proofs.lemmas.Bool.{or_parts}
use Rattle.clap.specs.Lexer.{strip_byte, long_of, short_of, long_of_rest, short_of_rest, name_and_value, has_byte}
use Rattle.clap.specs.Walk.{Names, Rule, Step, Walk, idle, plain, done, value, nothing_held, walk, walk_from, walked, arg_by_long, arg_by_short, long_or_other, after_flag, long_met, short_met, bundle_step, bundle_met, settled, finished}
use Rattle.clap.specs.Simple.{Shape, built, help_rule, filled_from, names_of, entered}
use Rattle.clap.specs.Kinds.{or_else, Kinds, IsAmong}
use Rattle.clap.specs.Faults.{fault_of, walk_fault, turn_fault, flag_word_fault, long_fault, short_fault, bundle_step_fault, flags_fault, level_fault, entered_fault, settle_fault, defaults_fault, check_fault}
use Rattle.clap.specs.Words.{Text}
use Rattle.clap.specs.declared.error.kind.ErrorKind.{ErrorKind}
use Rattle.clap.specs.declared.error.kind.ErrorKind.TheVariants.{DisplayHelp, DisplayVersion, UnknownArgument, InvalidSubcommand, TooManyValues, MissingSubcommand}
use Rattle.clap.proofs.OnLiterals.{clap_on_literals}
use Rattle.clap.proofs.FaultLemmas.{stopped_fault}
use Rattle.arrowstore.specs.Arguments.{program_command, have_extra_words, AreRecode, IsHelpFlag, long, short, AskForHelp, flag, flag_of_recode}
use Rattle.arrowstore.proofs.WordLemmas.{help_asks}

-- ---- a word that is read for flags

abbrev rules : List Rule
rules = filled_from 1 (help_rule ∷ [])

abbrev first_rule : List Rule → Rule
first_rule [] = help_rule
first_rule (r ∷ rs) = r

abbrev help : Rule
help = first_rule rules

abbrev unless_value : Kinds → Step → Kinds
unless_value stray value = stray
unless_value stray _ = []

abbrev word_kinds : Kinds → Option (Text × Option Text) → Text → Kinds
word_kinds stray parts word = or_else (flag_word_fault rules false parts word nothing_held) (unless_value stray (long_or_other rules idle word parts nothing_held).1)

pub data Reads (word : Text) (stray kinds : Kinds) : Type 0 where
  asks : IsHelpFlag word → kinds ≡ DisplayHelp ∷ [] → Reads word stray kinds
  strays : kinds ≡ stray → Reads word stray kinds
  unknown : kinds ≡ UnknownArgument ∷ [] → Reads word stray kinds
  valued : kinds ≡ TooManyValues ∷ [] → Reads word stray kinds

abbrev long_kinds : Kinds → Option Rule → Option Text → Text → Kinds
long_kinds stray found v word =
    let met = long_met rules found v nothing_held in
    or_else (long_fault rules false found v nothing_held) (unless_value stray (after_flag rules idle word met.0 met.1).1)

long_found : (name : Text) → (b : Bool) → bytes_eq (codes "help") name ≡ b → ((arg_by_long rules name ≡ Some help) × (codes "help" ≡ name)) ⊎ (arg_by_long rules name ≡ None)
long_found name true e = inl (rw e refl, (bytes_eq-Decides (codes "help") name).0 e)
long_found name false e = inr (rw e refl)

-- ---- letters after a hyphen

abbrev letter_kinds : Kinds → Option ℕ → ℕ → Text → Text → Kinds
letter_kinds stray letter k flags word =
    let met = bundle_step rules letter flags 0 plain nothing_held (bundle_met rules k) in
    or_else (bundle_step_fault rules false letter flags 0 nothing_held (flags_fault rules false k)) (unless_value stray (after_flag rules idle word met.0 met.1).1)

letters_are : (stray : Kinds) (x : ℕ) (xs word : Text) → short_of word ≡ Some (x ∷ xs) → word_kinds stray None word ≡ letter_kinds stray (slice_get (chars (x ∷ xs)) 0) (length xs) (x ∷ xs) word
unfolding clap_on_literals
letters_are stray x xs word e = rw e refl

letter_found : (x : ℕ) (b : Bool) → (104 == x) ≡ b → ((arg_by_short rules x ≡ Some help) × (104 ≡ x)) ⊎ (arg_by_short rules x ≡ None)
letter_found x true e = inl (rw e refl, eqb-true 104 x e)
letter_found x false e = inr (rw e refl)

-- what a first letter comes to, by the rule that is found for it
abbrev found_kinds : Kinds → Option Rule → ℕ → ℕ → Text → Text → Kinds
found_kinds stray found x k flags word =
    let rest = drop (length (encode_utf8 x)) flags in
    let met = short_met rules found rest nothing_held (bundle_met rules k rest 0 done) in
    or_else (short_fault rules false found rest nothing_held (flags_fault rules false k rest 0)) (unless_value stray (after_flag rules idle word met.0 met.1).1)

-- ---- what the words look like

hyphen : (c : ℕ) (word rest : Text) → strip_byte c word ≡ Some rest → word ≡ c ∷ rest
hyphen c [] rest e = absurd (none-some rest e)
hyphen c (x ∷ xs) rest e = let parts = cond_some (x == c) xs rest e in λ i. eqb-true x c parts.0 i ∷ parts.1 i

-- two hyphens, and a name with its value
pub record IsLong (word : Text) (p : Text × Option Text) : Type 0 where
  pub rest : Text
  pub word_is : word ≡ 45 ∷ 45 ∷ rest
  pub parts : name_and_value rest ≡ p

long_rest : (word a : Text) (p : Text × Option Text) → word ≡ 45 ∷ a → (b : Option Text) → strip_byte 45 a ≡ b → option_and_then long_of_rest b ≡ Some p → IsLong word p
long_rest word a p one None two e = absurd (none-some p e)
long_rest word a p one (Some []) two e = absurd (none-some p e)
long_rest word a p one (Some (x ∷ xs)) two e =
    record { rest = x ∷ xs; word_is = one ∙ ap (λ (t : Text). 45 ∷ t) (hyphen 45 a (x ∷ xs) two); parts = same_Some (name_and_value (x ∷ xs)) p e }

long_after : (word : Text) (p : Text × Option Text) (a : Option Text) → strip_byte 45 word ≡ a → option_and_then long_of_rest (option_and_then (strip_byte 45) a) ≡ Some p → IsLong word p
long_after word p None one e = absurd (none-some p e)
long_after word p (Some a) one e = long_rest word a p (hyphen 45 word a one) (strip_byte 45 a) refl e

long_parts : (word : Text) (p : Text × Option Text) → long_of word ≡ Some p → IsLong word p
long_parts word p e = long_after word p (strip_byte 45 word) refl e

no_byte : (b : Bool) (v : Text) → (if b then Some v else None) ≡ None → b ≡ false
no_byte true v e = absurd (none-some v (sym e))
no_byte false v e = refl

nowhere : (c : ℕ) (xs : Text) → has_byte c xs ≡ false → before_first (λ x. x == c) xs ≡ xs
nowhere c [] e = refl
nowhere c (x ∷ xs) e =
    let parts = or_parts (x == c) (has_byte c xs) e in
    rw parts.0 (ap (λ (n : ℕ). take n (x ∷ xs)) (one-add (position_or_len (λ y. y == c) xs)) ∙ ap (λ (ys : Text). x ∷ ys) (nowhere c xs parts.1))

-- the flag without a value
help_flag : (word : Text) (p : Text × Option Text) → long_of word ≡ Some p → codes "help" ≡ p.0 → p.1 ≡ None → IsHelpFlag word
help_flag word p e name alone =
    let is = long_parts word p e in
    let none = no_byte (has_byte 61 is.rest) (after_first (λ x. x == 61) is.rest) ((λ i. (is.parts i).1) ∙ alone) in
    let rest : is.rest ≡ codes "help" = sym (nowhere 61 is.rest none) ∙ (λ i. (is.parts i).0) ∙ sym name in
    long (is.word_is ∙ ap (λ (t : Text). 45 ∷ 45 ∷ t) rest)

not_hyphen : (b : Bool) (xs ys : Text) → (if b then None else Some xs) ≡ Some ys → xs ≡ ys
not_hyphen true xs ys e = absurd (none-some ys e)
not_hyphen false xs ys e = same_Some xs ys e

short_after : (word flags : Text) (a : Option Text) → strip_byte 45 word ≡ a → option_and_then short_of_rest a ≡ Some flags → word ≡ 45 ∷ flags
short_after word flags None one e = absurd (none-some flags e)
short_after word flags (Some []) one e = absurd (none-some flags e)
short_after word flags (Some (x ∷ xs)) one e = hyphen 45 word (x ∷ xs) one ∙ ap (λ (t : Text). 45 ∷ t) (not_hyphen (x == 45) (x ∷ xs) flags e)

-- ---- each word that is read for flags

help_alone : (stray : Kinds) (word : Text) (p : Text × Option Text) → long_of word ≡ Some p → arg_by_long rules p.0 ≡ Some help → codes "help" ≡ p.0 → (v : Option Text) → p.1 ≡ v
    → Reads word stray (word_kinds stray (Some p) word)
help_alone stray word p e found name (Some v) is = valued (ap (λ f. long_kinds stray f p.1 word) found ∙ ap (λ x. long_kinds stray (Some help) x word) is)
help_alone stray word p e found name None is =
    asks (help_flag word p e name is) (ap (λ f. long_kinds stray f p.1 word) found ∙ ap (λ x. long_kinds stray (Some help) x word) is)

long_reads : (stray : Kinds) (word : Text) (p : Text × Option Text) → long_of word ≡ Some p → Reads word stray (word_kinds stray (Some p) word)
long_reads stray word p e =
    elim (long_found p.0 (bytes_eq (codes "help") p.0) refl) [
      | inl found ↦ help_alone stray word p e found.0 found.1 p.1 refl
      | inr none ↦ unknown (ap (λ f. long_kinds stray f p.1 word) none)
    ]

letter_reads : (stray : Kinds) (word : Text) (x : ℕ) (xs : Text) → short_of word ≡ Some (x ∷ xs) → (letter : Option ℕ) → slice_get (chars (x ∷ xs)) 0 ≡ letter
    → Reads word stray (word_kinds stray None word)
letter_reads stray word x xs e None is = strays (letters_are stray x xs word e ∙ ap (λ l. letter_kinds stray l (length xs) (x ∷ xs) word) is)
letter_reads stray word x xs e (Some c) is =
    let first = letters_are stray x xs word e ∙ ap (λ l. letter_kinds stray l (length xs) (x ∷ xs) word) is in
    elim (letter_found c (104 == c) refl) [
      | inl found ↦ asks (short (x ∷ xs) (short_after word (x ∷ xs) (strip_byte 45 word) refl e) (is ∙ ap Some (sym found.1)))
          (first ∙ ap (λ f. found_kinds stray f c (length xs) (x ∷ xs) word) found.0)
      | inr none ↦ unknown (first ∙ ap (λ f. found_kinds stray f c (length xs) (x ∷ xs) word) none)
    ]

short_reads : (stray : Kinds) (word : Text) (flags : Option Text) → short_of word ≡ flags → Reads word stray (word_kinds stray None word)
unfolding clap_on_literals
short_reads stray word None e = strays (rw e refl)
short_reads stray word (Some []) e = strays (rw e refl)
short_reads stray word (Some (x ∷ xs)) e = letter_reads stray word x xs e (slice_get (chars (x ∷ xs)) 0) refl

word_reads : (stray : Kinds) (word : Text) (parts : Option (Text × Option Text)) → long_of word ≡ parts → Reads word stray (word_kinds stray parts word)
word_reads stray word (Some p) e = long_reads stray word p e
word_reads stray word None e = short_reads stray word (short_of word) refl

-- ---- what is found first is the fault

walk_first : (s : Shape) (names : Names) (w : Walk) (word : Text) (rest : List Text) (k : ErrorKind) (ks : Kinds) → turn_fault s names w word ≡ k ∷ ks → walk_fault s names w (word ∷ rest) ≡ k ∷ ks
unfolding walk_fault
walk_first s names w word rest k ks e = ap (λ turn. or_else turn (walk_fault s names (walked s.rules names w word) rest)) e

level_first : (s : Shape) (names : Names) (words : List Text) (has : Bool) (below : Kinds) (k : ErrorKind) (ks : Kinds) → walk_fault s names (walk_from nothing_held) words ≡ k ∷ ks
    → level_fault s names nothing_held words has below ≡ k ∷ ks
level_first s names words has below k ks e = rw e refl

-- ---- the arguments of `recode`

abbrev top : Shape
top = (built program_command).top

abbrev names : Names
names = names_of (built program_command)

abbrev first_shape : List Shape → Shape
first_shape [] = top
first_shape (s ∷ ss) = s

abbrev leaf : Shape
leaf = first_shape (built program_command).subs

abbrev leaf_fault : List Text → Kinds
leaf_fault words = level_fault leaf [] nothing_held words false []

some_kind : (k : ErrorKind) (ks : Kinds) → k ∷ ks ≡ [] → ⊥
some_kind k ks h = let longer : length (k ∷ ks) ≡ 0 = ap (λ (xs : Kinds). length xs) h in absurd (omega (arith, longer))

abbrev pub is_help : ErrorKind → Bool
is_help DisplayHelp = true
is_help _ = false

abbrev pub is_version : ErrorKind → Bool
is_version DisplayVersion = true
is_version _ = false

lacks : (test : ErrorKind → Bool) (k : ErrorKind) → test k ≡ true → (ks : Kinds) → list_any test ks ≡ false → IsAmong k ks → ⊥
lacks test k passes [] none h = absurd h
lacks test k passes (x ∷ xs) none (inl e) = absurd (true≢false (sym passes ∙ ap test e ∙ (or_parts (test x) (list_any test xs) none).0))
lacks test k passes (x ∷ xs) none (inr h) = lacks test k passes xs (or_parts (test x) (list_any test xs) none).1 h

pub record IsWrong (kinds : Kinds) : Type 0 where
  pub some : kinds ≡ [] → ⊥
  pub help : list_any is_help kinds ≡ false
  pub version : list_any is_version kinds ≡ false

unknown_wrong : IsWrong (UnknownArgument ∷ [])
unknown_wrong = record { some = some_kind UnknownArgument []; help = refl; version = refl }

valued_wrong : IsWrong (TooManyValues ∷ [])
valued_wrong = record { some = some_kind TooManyValues []; help = refl; version = refl }

pub data LeafReads (words : List Text) : Type 0 where
  nothing : (words ≡ []) ⊎ (words ≡ codes "--" ∷ []) → leaf_fault words ≡ [] → LeafReads words
  asks_leaf : (word : Text) (rest : List Text) → words ≡ word ∷ rest → IsHelpFlag word → leaf_fault words ≡ DisplayHelp ∷ [] → LeafReads words
  wrong_leaf : (k : ErrorKind) → IsWrong (k ∷ []) → leaf_fault words ≡ k ∷ [] → LeafReads words

leaf_first : (word : Text) (rest : List Text) (k : ErrorKind) → bytes_eq word (45 ∷ 45 ∷ []) ≡ false → word_kinds (UnknownArgument ∷ []) (long_of word) word ≡ k ∷ [] → leaf_fault (word ∷ rest) ≡ k ∷ []
leaf_first word rest k dashes e =
    let turn : turn_fault leaf [] (walk_from nothing_held) word ≡ word_kinds (UnknownArgument ∷ []) (long_of word) word = rw dashes refl in
    level_first leaf [] (word ∷ rest) false [] k [] (walk_first leaf [] (walk_from nothing_held) word rest k [] (turn ∙ e))

leaf_dashes : (rest : List Text) → LeafReads (codes "--" ∷ rest)
unfolding clap_on_literals
leaf_dashes [] = nothing (inr refl) refl
leaf_dashes (x ∷ xs) = wrong_leaf UnknownArgument unknown_wrong refl

leaf_word : (word : Text) (rest : List Text) → bytes_eq word (45 ∷ 45 ∷ []) ≡ false → Reads word (UnknownArgument ∷ []) (word_kinds (UnknownArgument ∷ []) (long_of word) word) → LeafReads (word ∷ rest)
leaf_word word rest dashes (asks is_flag is) = asks_leaf word rest refl is_flag (leaf_first word rest DisplayHelp dashes is)
leaf_word word rest dashes (strays is) = wrong_leaf UnknownArgument unknown_wrong (leaf_first word rest UnknownArgument dashes is)
leaf_word word rest dashes (unknown is) = wrong_leaf UnknownArgument unknown_wrong (leaf_first word rest UnknownArgument dashes is)
leaf_word word rest dashes (valued is) = wrong_leaf TooManyValues valued_wrong (leaf_first word rest TooManyValues dashes is)

leaf_by : (word : Text) (rest : List Text) (b : Bool) → bytes_eq word (45 ∷ 45 ∷ []) ≡ b → LeafReads (word ∷ rest)
leaf_by word rest true e = subst (λ (w : Text). LeafReads (w ∷ rest)) (sym ((bytes_eq-Decides word (45 ∷ 45 ∷ [])).0 e)) (leaf_dashes rest)
leaf_by word rest false e = leaf_word word rest e (word_reads (UnknownArgument ∷ []) word (long_of word) refl)

leaf_reads : (words : List Text) → LeafReads words
unfolding clap_on_literals
leaf_reads [] = nothing (inl refl) refl
leaf_reads (word ∷ rest) = leaf_by word rest (bytes_eq word (45 ∷ 45 ∷ [])) refl

-- ---- the arguments of the program

stopped_walk : (rs : List Rule) (ns : Names) (w : Walk) (p : Text × List Text) (words : List Text) → fold (walked rs ns) (record w { stopped = Some p }) words ≡ record w { stopped = Some (p.0, p.1 ++ words) }
unfolding walked
stopped_walk rs ns w p [] = ap (λ (ws : List Text). record w { stopped = Some (p.0, ws) }) (sym (append-nil p.1))
stopped_walk rs ns w p (x ∷ xs) =
    stopped_walk rs ns w (p.0, p.1 ++ x ∷ []) xs ∙ ap (λ (ws : List Text). record w { stopped = Some (p.0, ws) }) (append_assoc p.1 (x ∷ []) xs)

abbrev whole : Kinds → Walk → Kinds
whole kinds end =
    let stop = end.stopped in
    or_else kinds (or_else (entered_fault (built program_command) stop) (or_else (settle_fault top.rules top.args_override_self end.held)
    (or_else (defaults_fault (settled top.rules end.held).rows top.rules) (check_fault top (finished top.rules end.held) (is_some (entered (built program_command) stop))))))

abbrev at_recode : Walk
at_recode = record (walk_from nothing_held) { stopped = Some (codes "recode", []) }

recode_fault : (name : Text) (rest : List Text) → fault_of program_command (name ∷ codes "recode" ∷ rest) ≡ or_else (leaf_fault rest) []
unfolding clap_on_literals
recode_fault name rest =
    ap₂ whole (stopped_fault top names at_recode (codes "recode", []) rest) (stopped_walk top.rules names at_recode (codes "recode", []) rest)

abbrev strays_on_top : Kinds
strays_on_top = UnknownArgument ∷ InvalidSubcommand ∷ []

top_first : (name word : Text) (rest : List Text) (k : ErrorKind) (ks : Kinds) → turn_fault top names (walk_from nothing_held) word ≡ k ∷ ks → fault_of program_command (name ∷ word ∷ rest) ≡ k ∷ ks
top_first name word rest k ks e =
    let stop = (walk top.rules names nothing_held (word ∷ rest)).stopped in
    level_first top names (word ∷ rest) (is_some (entered (built program_command) stop)) (entered_fault (built program_command) stop) k ks
    (walk_first top names (walk_from nothing_held) word rest k ks e)

-- what the program makes of its arguments
pub record Judged (arguments : List Text) (kinds : Kinds) : Type 0 where
  pub right : kinds ≡ [] → AreRecode arguments
  pub help : have_extra_words arguments ≡ false → IsAmong DisplayHelp kinds → AskForHelp arguments
  pub version : IsAmong DisplayVersion kinds → ⊥

wrongly : (arguments : List Text) (kinds : Kinds) → IsWrong kinds → Judged arguments kinds
wrongly arguments kinds w = record {
  right = λ h. absurd (w.some h);
  help = λ few h. absurd (lacks is_help DisplayHelp refl kinds w.help h);
  version = lacks is_version DisplayVersion refl kinds w.version;
}

helpfully : (arguments : List Text) (ks : Kinds) → list_any is_version ks ≡ false → (have_extra_words arguments ≡ false → AskForHelp arguments)
    → Judged arguments (DisplayHelp ∷ ks)
helpfully arguments ks none asked = record {
  right = λ h. absurd (some_kind DisplayHelp ks h);
  help = λ few h. asked few;
  version = lacks is_version DisplayVersion refl (DisplayHelp ∷ ks) none;
}

strays_wrong : IsWrong strays_on_top
strays_wrong = record { some = some_kind UnknownArgument (InvalidSubcommand ∷ []); help = refl; version = refl }

missing_wrong : IsWrong (MissingSubcommand ∷ [])
missing_wrong = record { some = some_kind MissingSubcommand []; help = refl; version = refl }

as_kinds : (arguments : List Text) (kinds : Kinds) → fault_of program_command arguments ≡ kinds → Judged arguments kinds → Judged arguments (fault_of program_command arguments)
as_kinds arguments kinds e judged = subst (Judged arguments) (sym e) judged

judged_recode : (name : Text) (rest : List Text) → LeafReads rest → Judged (name ∷ codes "recode" ∷ rest) (or_else (leaf_fault rest) [])
unfolding AreRecode
judged_recode name rest (nothing ended is) = subst (λ (ks : Kinds). Judged (name ∷ codes "recode" ∷ rest) (or_else ks [])) (sym is) (record {
  right = λ h. elim ended [
    | inl none ↦ (name, inl (ap (λ (ws : List Text). name ∷ codes "recode" ∷ ws) none))
    | inr dashes ↦ (name, inr (ap (λ (ws : List Text). name ∷ codes "recode" ∷ ws) dashes))
  ];
  help = λ few h. absurd h;
  version = λ h. absurd h;
})
judged_recode name rest (asks_leaf word others words is_flag is) = subst (λ (ks : Kinds). Judged (name ∷ codes "recode" ∷ rest) (or_else ks [])) (sym is)
    (helpfully (name ∷ codes "recode" ∷ rest) [] refl (λ few. flag_of_recode name word others (ap (λ (ws : List Text). name ∷ codes "recode" ∷ ws) words) is_flag))
judged_recode name rest (wrong_leaf k wrong is) = subst (λ (ks : Kinds). Judged (name ∷ codes "recode" ∷ rest) (or_else ks [])) (sym is) (wrongly (name ∷ codes "recode" ∷ rest) (k ∷ []) wrong)

judged_dashes : (name : Text) (rest : List Text) → Judged (name ∷ codes "--" ∷ rest) (fault_of program_command (name ∷ codes "--" ∷ rest))
unfolding clap_on_literals
judged_dashes name [] = wrongly (name ∷ codes "--" ∷ []) (MissingSubcommand ∷ []) missing_wrong
judged_dashes name (x ∷ xs) = wrongly (name ∷ codes "--" ∷ x ∷ xs) strays_on_top strays_wrong

judged_help : (name : Text) (rest : List Text) → Judged (name ∷ codes "help" ∷ rest) (fault_of program_command (name ∷ codes "help" ∷ rest))
judged_help name rest = as_kinds (name ∷ codes "help" ∷ rest) (DisplayHelp ∷ InvalidSubcommand ∷ []) (top_first name (codes "help") rest DisplayHelp (InvalidSubcommand ∷ []) refl)
    (helpfully (name ∷ codes "help" ∷ rest) (InvalidSubcommand ∷ []) refl (help_asks name rest))

top_word : (name word : Text) (rest : List Text) → turn_fault top names (walk_from nothing_held) word ≡ word_kinds strays_on_top (long_of word) word
    → Reads word strays_on_top (word_kinds strays_on_top (long_of word) word) → Judged (name ∷ word ∷ rest) (fault_of program_command (name ∷ word ∷ rest))
top_word name word rest turn (asks is_flag is) =
    as_kinds (name ∷ word ∷ rest) (DisplayHelp ∷ []) (top_first name word rest DisplayHelp [] (turn ∙ is)) (helpfully (name ∷ word ∷ rest) [] refl (λ few. flag name word rest refl is_flag))
top_word name word rest turn (strays is) =
    as_kinds (name ∷ word ∷ rest) strays_on_top (top_first name word rest UnknownArgument (InvalidSubcommand ∷ []) (turn ∙ is)) (wrongly (name ∷ word ∷ rest) strays_on_top strays_wrong)
top_word name word rest turn (unknown is) =
    as_kinds (name ∷ word ∷ rest) (UnknownArgument ∷ []) (top_first name word rest UnknownArgument [] (turn ∙ is)) (wrongly (name ∷ word ∷ rest) (UnknownArgument ∷ []) unknown_wrong)
top_word name word rest turn (valued is) =
    as_kinds (name ∷ word ∷ rest) (TooManyValues ∷ []) (top_first name word rest TooManyValues [] (turn ∙ is)) (wrongly (name ∷ word ∷ rest) (TooManyValues ∷ []) valued_wrong)

judged_word : (name word : Text) (rest : List Text) (recode help dashes : Bool) → bytes_eq (codes "recode") word ≡ recode → bytes_eq (codes "help") word ≡ help → bytes_eq word (45 ∷ 45 ∷ []) ≡ dashes
    → Judged (name ∷ word ∷ rest) (fault_of program_command (name ∷ word ∷ rest))
judged_word name word rest true help dashes r h d =
    subst (λ (w : Text). Judged (name ∷ w ∷ rest) (fault_of program_command (name ∷ w ∷ rest))) ((bytes_eq-Decides (codes "recode") word).0 r)
    (as_kinds (name ∷ codes "recode" ∷ rest) (or_else (leaf_fault rest) []) (recode_fault name rest) (judged_recode name rest (leaf_reads rest)))
judged_word name word rest false true dashes r h d =
    subst (λ (w : Text). Judged (name ∷ w ∷ rest) (fault_of program_command (name ∷ w ∷ rest))) ((bytes_eq-Decides (codes "help") word).0 h) (judged_help name rest)
judged_word name word rest false false true r h d =
    subst (λ (w : Text). Judged (name ∷ w ∷ rest) (fault_of program_command (name ∷ w ∷ rest))) (sym ((bytes_eq-Decides word (45 ∷ 45 ∷ [])).0 d)) (judged_dashes name rest)
judged_word name word rest false false false r h d =
    let turn : turn_fault top names (walk_from nothing_held) word ≡ word_kinds strays_on_top (long_of word) word = rw (r, h, d) refl in
    top_word name word rest turn (word_reads strays_on_top word (long_of word) refl)

pub judged : (arguments : List Text) → Judged arguments (fault_of program_command arguments)
unfolding clap_on_literals
judged [] = wrongly [] (MissingSubcommand ∷ []) missing_wrong
judged (name ∷ []) = wrongly (name ∷ []) (MissingSubcommand ∷ []) missing_wrong
judged (name ∷ word ∷ rest) = judged_word name word rest (bytes_eq (codes "recode") word) (bytes_eq (codes "help") word) (bytes_eq word (45 ∷ 45 ∷ [])) refl refl refl
