-- Which command lines are for a store, and which for a text of the program's own: none that asks for `recode`, and none for both.
use Rattle.std.proofs.Common.{◌≡◌, ◌≤◌, ◌∙◌, ◌&&◌, ◌||◌, Bool, true, false, List, [], ◌∷◌, length, codes, refl, ap, sym, subst, inl, inr, true≢false, arith}
use Rattle.std.specs.Str.{bytes_eq}
use Rattle.std.proofs.lemmas.Slice.Eq.{bytes_eq-Decides}
use Rattle.clap.specs.Words.{Text}
use Rattle.arrowstore.specs.Arguments.{asks_topic, have_extra_words, AreRecode, AskForHelp, command}
use Rattle.cli_reports.specs.OwnTexts.{is_own, asks_version, asks_refusals, asks_commands, is_version_word, is_refusals_topic, is_help_alone}
use Rattle.cli_requests.specs.StoreWords.{is_of_store, is_store_word, changes_word, makes_word, reads_word, changes_by_input_word, reads_table_word, reads_tables_word, is_help_word, ask_help_of_command}

recode_of_none : (name : Text) (rest : List Text) → is_of_store (name ∷ codes "recode" ∷ rest) ≡ false
unfolding is_of_store is_store_word changes_word makes_word reads_word changes_by_input_word reads_table_word reads_tables_word
recode_of_none name rest = refl

-- what comes of the word `recode`, whatever stands after it, comes of its arguments
of_recode : {A : Type 0} (f : List Text → A) (x : A) (arguments : List Text) → AreRecode arguments → ((name : Text) (rest : List Text) → f (name ∷ codes "recode" ∷ rest) ≡ x) → f arguments ≡ x
unfolding AreRecode
of_recode f x arguments are always = elim are.1 [ inl alone ↦ ap f alone ∙ always are.0 [] | inr ended ↦ ap f ended ∙ always are.0 (codes "--" ∷ []) ]

pub recode_of_no_store : (arguments : List Text) → AreRecode arguments → is_of_store arguments ≡ false
recode_of_no_store arguments are = of_recode is_of_store false arguments are recode_of_none

recode_of_no_own : (name : Text) (rest : List Text) → is_own (name ∷ codes "recode" ∷ rest) ≡ false
unfolding is_own asks_version asks_refusals asks_commands is_version_word is_refusals_topic is_help_alone
recode_of_no_own name [] = refl
recode_of_no_own name (topic ∷ []) = refl
recode_of_no_own name (topic ∷ more ∷ rest) = refl

pub recode_is_not_own : (arguments : List Text) → AreRecode arguments → is_own arguments ≡ false
recode_is_not_own arguments are = of_recode is_own false arguments are recode_of_no_own

-- a word that is another one
same_of_none : (other word : Text) (name : Text) (rest : List Text) → bytes_eq other word ≡ true → is_of_store (name ∷ other ∷ rest) ≡ false → is_of_store (name ∷ word ∷ rest) ≡ false
same_of_none other word name rest same none = subst (λ (w : Text). is_of_store (name ∷ w ∷ rest) ≡ false) ((bytes_eq-Decides other word).0 same) none

no_word_of_own : (name word : Text) (rest : List Text) → bytes_eq (codes "--version") word ≡ false → bytes_eq (codes "-V") word ≡ false → bytes_eq (codes "help") word ≡ false
    → bytes_eq (codes "--help") word ≡ false → bytes_eq (codes "-h") word ≡ false → is_own (name ∷ word ∷ rest) ≡ false
unfolding is_own asks_version asks_refusals asks_commands is_version_word is_refusals_topic is_help_alone
no_word_of_own name word [] l s h a c = rw (l, s, h, a, c) refl
no_word_of_own name word (topic ∷ []) l s h a c = rw h refl
no_word_of_own name word (topic ∷ more ∷ rest) l s h a c = refl

own_word_of_none : (name word : Text) (rest : List Text) (long short help asks letter : Bool) → bytes_eq (codes "--version") word ≡ long → bytes_eq (codes "-V") word ≡ short
    → bytes_eq (codes "help") word ≡ help → bytes_eq (codes "--help") word ≡ asks → bytes_eq (codes "-h") word ≡ letter
    → is_own (name ∷ word ∷ rest) ≡ true → is_of_store (name ∷ word ∷ rest) ≡ false
unfolding is_of_store is_store_word changes_word makes_word reads_word changes_by_input_word reads_table_word reads_tables_word
own_word_of_none name word rest true short help asks letter l s h a c own = same_of_none (codes "--version") word name rest l refl
own_word_of_none name word rest false true help asks letter l s h a c own = same_of_none (codes "-V") word name rest s refl
own_word_of_none name word rest false false true asks letter l s h a c own = same_of_none (codes "help") word name rest h refl
own_word_of_none name word rest false false false true letter l s h a c own = same_of_none (codes "--help") word name rest a refl
own_word_of_none name word rest false false false false true l s h a c own = same_of_none (codes "-h") word name rest c refl
own_word_of_none name word rest false false false false false l s h a c own = absurd (true≢false (sym own ∙ no_word_of_own name word rest l s h a c))

pub own_of_no_store : (arguments : List Text) → is_own arguments ≡ true → is_of_store arguments ≡ false
unfolding is_of_store
own_of_no_store [] own = refl
own_of_no_store (name ∷ []) own = refl
own_of_no_store (name ∷ word ∷ rest) own =
    own_word_of_none name word rest (bytes_eq (codes "--version") word) (bytes_eq (codes "-V") word) (bytes_eq (codes "help") word) (bytes_eq (codes "--help") word) (bytes_eq (codes "-h") word)
    refl refl refl refl refl own

-- `help` without more than one word after it asks for help
pub few_topics : (name : Text) (topics : List Text) → have_extra_words (name ∷ codes "help" ∷ topics) ≡ false → length topics ≤ 1
unfolding have_extra_words is_version_word
few_topics name [] few = omega arith
few_topics name (topic ∷ []) few = omega arith
few_topics name (topic ∷ more ∷ rest) few = absurd (true≢false few)

pub help_asks : (name : Text) (topics : List Text) → have_extra_words (name ∷ codes "help" ∷ topics) ≡ false → AskForHelp (name ∷ codes "help" ∷ topics)
help_asks name topics few = command name topics (few_topics name topics few) refl

-- so do `help` and a command of a store, and they do not ask for `recode`
help_word_asks : (name word : Text) (topics : List Text) (help known : Bool) → bytes_eq (codes "help") word ≡ help → (help && known) ≡ true
    → have_extra_words (name ∷ word ∷ topics) ≡ false → AskForHelp (name ∷ word ∷ topics)
help_word_asks name word topics true known e is =
    subst (λ (w : Text). have_extra_words (name ∷ w ∷ topics) ≡ false → AskForHelp (name ∷ w ∷ topics)) ((bytes_eq-Decides (codes "help") word).0 e) (help_asks name topics)
help_word_asks name word topics false known e is = absurd (true≢false (sym is))

pub help_of_command_asks : (arguments : List Text) → ask_help_of_command arguments ≡ true → have_extra_words arguments ≡ false → AskForHelp arguments
unfolding ask_help_of_command
help_of_command_asks [] asks few = absurd (true≢false (sym asks))
help_of_command_asks (name ∷ []) asks few = absurd (true≢false (sym asks))
help_of_command_asks (name ∷ word ∷ []) asks few = absurd (true≢false (sym asks))
help_of_command_asks (name ∷ word ∷ other ∷ rest) asks few =
    help_word_asks name word (other ∷ rest) (bytes_eq (codes "help") word) (is_store_word other || is_help_word other) refl asks few

recode_asks_no_help : (name : Text) (rest : List Text) → ask_help_of_command (name ∷ codes "recode" ∷ rest) ≡ false
unfolding ask_help_of_command
recode_asks_no_help name [] = refl
recode_asks_no_help name (other ∷ rest) = refl

pub recode_is_not_help : (arguments : List Text) → AreRecode arguments → ask_help_of_command arguments ≡ false
recode_is_not_help arguments are = of_recode ask_help_of_command false arguments are recode_asks_no_help

no_extra_words_of_recode : (name : Text) (rest : List Text) → have_extra_words (name ∷ codes "recode" ∷ rest) ≡ false
unfolding have_extra_words is_version_word
no_extra_words_of_recode name [] = refl
no_extra_words_of_recode name (other ∷ []) = refl
no_extra_words_of_recode name (other ∷ more ∷ rest) = refl

pub recode_has_no_extra_words : (arguments : List Text) → AreRecode arguments → have_extra_words arguments ≡ false
recode_has_no_extra_words arguments are = of_recode have_extra_words false arguments are no_extra_words_of_recode

-- `help` and one more word ask for help, and not for `recode`
topic_asks : (name word topic : Text) (help : Bool) → bytes_eq (codes "help") word ≡ help → help ≡ true → AskForHelp (name ∷ word ∷ topic ∷ [])
topic_asks name word topic help e is =
    subst (λ (w : Text). AskForHelp (name ∷ w ∷ topic ∷ [])) ((bytes_eq-Decides (codes "help") word).0 (e ∙ is)) (command name (topic ∷ []) (omega arith) refl)

pub help_of_topic_asks : (arguments : List Text) → asks_topic arguments ≡ true → AskForHelp arguments
unfolding asks_topic
help_of_topic_asks [] asks = absurd (true≢false (sym asks))
help_of_topic_asks (name ∷ []) asks = absurd (true≢false (sym asks))
help_of_topic_asks (name ∷ word ∷ []) asks = absurd (true≢false (sym asks))
help_of_topic_asks (name ∷ word ∷ topic ∷ []) asks = topic_asks name word topic (bytes_eq (codes "help") word) refl asks
help_of_topic_asks (name ∷ word ∷ topic ∷ more ∷ rest) asks = absurd (true≢false (sym asks))

recode_of_no_topic : (name : Text) (rest : List Text) → asks_topic (name ∷ codes "recode" ∷ rest) ≡ false
unfolding asks_topic
recode_of_no_topic name [] = refl
recode_of_no_topic name (topic ∷ []) = refl
recode_of_no_topic name (topic ∷ more ∷ rest) = refl

pub recode_asks_no_topic : (arguments : List Text) → AreRecode arguments → asks_topic arguments ≡ false
recode_asks_no_topic arguments are = of_recode asks_topic false arguments are recode_of_no_topic
