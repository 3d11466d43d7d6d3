-- Command lines with options, which `clap` takes.
use Rattle.std.proofs.Common.{◌≡◌, ◌⊎◌, ◌∙◌, ◌≤◌, ◌++◌, Bool, true, false, refl, sym, ap, subst, List, [], ◌∷◌, length, drop, codes, Option, Some, None, inl, inr, true≢false}
use Rattle.std.specs.Prelude.{unwrap_or, fold, if◌then◌else◌}
use Rattle.std.specs.Str.{bytes_eq}
use Rattle.clap.specs.Kinds.{Kinds, or_else}
use Rattle.clap.specs.ValueTests.{accepts}
use Rattle.clap.specs.Values.{reading_of, refused_kind}
use Rattle.clap.specs.declared.parser.matches.ValueSource.TheVariants.{CommandLine}
use Rattle.clap.specs.Words.{App, Text, fault_of, matches_of}
use Rattle.clap.specs.Walk.{Held, Row, finished, nothing_held, walked}
use Rattle.clap.specs.Simple.{Shape, built}
use Rattle.clap.proofs.FaultLemmas as clap
use Rattle.clap.specs.Faults.{turn_fault, walk_fault}
use Rattle.clap.specs.Lexer.{usize_max}
use Rattle.clap.specs.declared.builder.value_parser.ValueParser.TheVariants as parsers
use Rattle.clap.proofs.OnLiterals.{clap_on_literals}
use Rattle.clap.specs.declared.builder.value_parser.ValueParser.{ValueParser}
use Rattle.cli_requests.specs.Apps.{AreForms, AreDateForms, is_form, is_date_form, IsOwnApp, info_app, compact_app, send_app, receive_app, store_app, format_app, apply_app, schema_app, import_app, create_app, query_app, replay_app, append_app, other_parameters, parameters_of}
use Rattle.cli_requests.specs.Examples.{AreExamples, AreFound, AreReadAs, AreValuesRead, IsHow, IsVersion, Valued, called}
use Rattle.cli_requests.specs.Numbers.{is_number, is_number_if_any}
use Rattle.cli_requests.specs.Operands.{names_file, names_table}
use Rattle.cli_requests.specs.Right.{AreRowsTakable, IsTakable, NamesChoice}
use Rattle.cli_requests.specs.StoreWords.{first_word}
use Rattle.cli_requests.proofs.AppLemmas.{query_top}
use Rattle.cli_requests.proofs.OperandLemmas.{at, level_with, words_faultless, words_held, words_read}
use Rattle.cli_requests.proofs.RightLemmas.{name_fault, number_accepted, words_free}

-- ---- what each command asks for

module _ (first flag : Text → Option Text) where
  format_takable : is_number_if_any (first (codes "SECTORS")) ≡ true → is_number_if_any (first (codes "format-version")) ≡ true
      → IsTakable (codes "format") first flag
  format_takable room version = record {
    sectors = λ e. absurd (true≢false (sym e));
    room = λ e. room;
    version = λ e. version;
    like = λ e. absurd (true≢false (sym e));
    complete = λ e. absurd (true≢false (sym e));
    limit = λ e. absurd (true≢false (sym e));
    steps = λ e. absurd (true≢false (sym e));
    printed = λ e. absurd (true≢false (sym e));
    size = λ e. absurd (true≢false (sym e));
    fail = λ e. absurd (true≢false (sym e));
    stop = λ e. absurd (true≢false (sym e));
    choice = λ e. absurd (true≢false (sym e));
    played = λ e. absurd (true≢false (sym e));
  }

  -- a command of which nothing that is found is refused
  plain_takable : (word : Text) → bytes_eq (codes "copy") word ≡ false → bytes_eq (codes "format") word ≡ false
      → (bytes_eq (codes "create") word ≡ true → (first (codes "like") ≡ None) ⊎ (first (codes "FIELD") ≡ None))
      → (bytes_eq (codes "append") word ≡ true
      → (bytes_eq (unwrap_or (first (codes "as")) []) (codes "stream") ≡ true) ⊎ (flag (codes "complete") ≡ Some (codes "false")))
      → bytes_eq (codes "query") word ≡ false → (bytes_eq (codes "compact") word ≡ true → is_number_if_any (first (codes "steps")) ≡ true)
      → bytes_eq (codes "replay") word ≡ false → IsTakable word first flag
  plain_takable word copy format like complete query steps replay = record {
    sectors = λ e. absurd (true≢false (sym e ∙ copy));
    room = λ e. absurd (true≢false (sym e ∙ format));
    version = λ e. absurd (true≢false (sym e ∙ format));
    like = like;
    complete = complete;
    limit = λ e. absurd (true≢false (sym e ∙ query));
    steps = steps;
    printed = λ e. absurd (true≢false (sym e ∙ query));
    size = λ e. absurd (true≢false (sym e ∙ replay));
    fail = λ e. absurd (true≢false (sym e ∙ replay));
    stop = λ e. absurd (true≢false (sym e ∙ replay));
    choice = λ e. absurd (true≢false (sym e ∙ replay));
    played = λ e. absurd (true≢false (sym e ∙ replay));
  }

  info_takable : IsTakable (codes "info") first flag
  info_takable = plain_takable (codes "info") refl refl (λ e. absurd (true≢false (sym e))) (λ e. absurd (true≢false (sym e))) refl (λ e. absurd (true≢false (sym e))) refl

  compact_takable : is_number_if_any (first (codes "steps")) ≡ true → IsTakable (codes "compact") first flag
  compact_takable steps = plain_takable (codes "compact") refl refl (λ e. absurd (true≢false (sym e))) (λ e. absurd (true≢false (sym e))) refl (λ e. steps) refl

  apply_takable : IsTakable (codes "apply") first flag
  apply_takable = plain_takable (codes "apply") refl refl (λ e. absurd (true≢false (sym e))) (λ e. absurd (true≢false (sym e))) refl (λ e. absurd (true≢false (sym e))) refl

  send_takable : IsTakable (codes "send") first flag
  send_takable = plain_takable (codes "send") refl refl (λ e. absurd (true≢false (sym e))) (λ e. absurd (true≢false (sym e))) refl (λ e. absurd (true≢false (sym e))) refl

  receive_takable : IsTakable (codes "receive") first flag
  receive_takable = plain_takable (codes "receive") refl refl (λ e. absurd (true≢false (sym e))) (λ e. absurd (true≢false (sym e))) refl (λ e. absurd (true≢false (sym e))) refl

  have_takable : IsTakable (codes "have") first flag
  have_takable = plain_takable (codes "have") refl refl (λ e. absurd (true≢false (sym e))) (λ e. absurd (true≢false (sym e))) refl (λ e. absurd (true≢false (sym e))) refl

  create_takable : (first (codes "like") ≡ None) ⊎ (first (codes "FIELD") ≡ None) → IsTakable (codes "create") first flag
  create_takable like = plain_takable (codes "create") refl refl (λ e. like) (λ e. absurd (true≢false (sym e))) refl (λ e. absurd (true≢false (sym e))) refl

  schema_takable : IsTakable (codes "schema") first flag
  schema_takable = plain_takable (codes "schema") refl refl (λ e. absurd (true≢false (sym e))) (λ e. absurd (true≢false (sym e))) refl (λ e. absurd (true≢false (sym e))) refl

  import_takable : IsTakable (codes "import") first flag
  import_takable = plain_takable (codes "import") refl refl (λ e. absurd (true≢false (sym e))) (λ e. absurd (true≢false (sym e))) refl (λ e. absurd (true≢false (sym e))) refl

  append_takable : (bytes_eq (unwrap_or (first (codes "as")) []) (codes "stream") ≡ true) ⊎ (flag (codes "complete") ≡ Some (codes "false"))
      → IsTakable (codes "append") first flag
  append_takable complete = plain_takable (codes "append") refl refl (λ e. absurd (true≢false (sym e))) (λ e. complete) refl (λ e. absurd (true≢false (sym e))) refl

  query_takable : is_number_if_any (first (codes "limit")) ≡ true → (first (codes "save") ≡ None) ⊎ (flag (codes "objects") ≡ Some (codes "false"))
      → IsTakable (codes "query") first flag
  query_takable limit printed = record {
    sectors = λ e. absurd (true≢false (sym e));
    room = λ e. absurd (true≢false (sym e));
    version = λ e. absurd (true≢false (sym e));
    like = λ e. absurd (true≢false (sym e));
    complete = λ e. absurd (true≢false (sym e));
    limit = λ e. limit;
    steps = λ e. absurd (true≢false (sym e));
    printed = λ e. printed;
    size = λ e. absurd (true≢false (sym e));
    fail = λ e. absurd (true≢false (sym e));
    stop = λ e. absurd (true≢false (sym e));
    choice = λ e. absurd (true≢false (sym e));
    played = λ e. absurd (true≢false (sym e));
  }

  replay_takable : is_number_if_any (first (codes "sectors")) ≡ true → is_number_if_any (first (codes "fail")) ≡ true
      → is_number_if_any (first (codes "stop")) ≡ true → NamesChoice (unwrap_or (first (codes "choice")) [])
      → is_number_if_any (first (codes "format-version")) ≡ true → IsTakable (codes "replay") first flag
  replay_takable size fail stop choice played = record {
    sectors = λ e. absurd (true≢false (sym e));
    room = λ e. absurd (true≢false (sym e));
    version = λ e. absurd (true≢false (sym e));
    like = λ e. absurd (true≢false (sym e));
    complete = λ e. absurd (true≢false (sym e));
    limit = λ e. absurd (true≢false (sym e));
    steps = λ e. absurd (true≢false (sym e));
    printed = λ e. absurd (true≢false (sym e));
    size = λ e. size;
    fail = λ e. fail;
    stop = λ e. stop;
    choice = λ e. choice;
    played = λ e. played;
  }

-- ---- the examples

-- what is so of the only command that is read is so of each one
module _ (words : List Text) (values : List Valued) (app : App) where
  read_as : ((command : App) → IsOwnApp (first_word (called words)) command → app ≡ command) → fault_of app words ≡ []
      → AreRowsTakable (first_word (called words)) (matches_of app words) → AreFound (matches_of app words) values → AreReadAs (called words) values
  read_as only faultless takable found = record {
    taken = λ command own.
        subst (λ (a : App). (fault_of a words ≡ []) × AreRowsTakable (first_word (called words)) (matches_of a words)) (only command own) (faultless, takable);
    found = λ command own. subst (λ (a : App). AreFound (matches_of a words) values) (only command own) found;
  }

-- of a query, however dates are said
module _ (rest : List Text) (values : List Valued) where
  abbrev words_of_query : List Text
  words_of_query = codes "query" ∷ rest

  abbrev IsQueryRead : App → Type 0
  IsQueryRead a = (fault_of a words_of_query ≡ []) × AreRowsTakable (codes "query") (matches_of a words_of_query) × AreFound (matches_of a words_of_query) values

  read_query : ((dates : ValueParser) → AreDateForms dates → IsQueryRead (query_app dates (codes "query"))) → AreReadAs (called words_of_query) values
  unfolding names_file names_table other_parameters parameters_of first_word
  read_query each =
      let only : (command : App) → IsOwnApp (codes "query") command → IsQueryRead command = λ command own. subst IsQueryRead (sym own.2) (each own.0 own.1) in
      record { taken = λ command own. ((only command own).0, (only command own).1); found = λ command own. (only command own).2 }

format_example : AreReadAs (called (codes "format" ∷ codes "store" ∷ codes "4096" ∷ codes "--format-version" ∷ codes "1" ∷ []))
    ((codes "STORE", codes "store" ∷ []) ∷ (codes "SECTORS", codes "4096" ∷ []) ∷ (codes "format-version", codes "1" ∷ []) ∷ [])
unfolding names_file names_table other_parameters parameters_of first_word is_number walked clap_on_literals
format_example = read_as _ _ (format_app (codes "format")) (λ command own. sym own) refl (format_takable _ _ refl refl) (refl, (refl, (refl, tt)))

device_example : AreReadAs (called (codes "format" ∷ codes "device" ∷ codes "--over" ∷ []))
    ((codes "STORE", codes "device" ∷ []) ∷ (codes "SECTORS", []) ∷ (codes "over", codes "true" ∷ []) ∷ [])
unfolding names_file names_table other_parameters parameters_of first_word is_number walked clap_on_literals
device_example = read_as _ _ (format_app (codes "format")) (λ command own. sym own) refl (format_takable _ _ refl refl) (refl, (refl, (refl, tt)))

info_example : AreReadAs (called (codes "info" ∷ codes "--json" ∷ codes "store" ∷ []))
    ((codes "STORE", codes "store" ∷ []) ∷ (codes "json", codes "true" ∷ []) ∷ [])
unfolding names_file names_table other_parameters parameters_of first_word is_number walked clap_on_literals
info_example = read_as _ _ (info_app (codes "info")) (λ command own. sym own) refl (info_takable _ _) (refl, (refl, tt))

compact_example : AreReadAs (called (codes "compact" ∷ codes "store" ∷ codes "--steps" ∷ codes "100" ∷ []))
    ((codes "STORE", codes "store" ∷ []) ∷ (codes "steps", codes "100" ∷ []) ∷ [])
unfolding names_file names_table other_parameters parameters_of first_word is_number walked clap_on_literals
compact_example = read_as _ _ (compact_app (codes "compact")) (λ command own. sym own) refl (compact_takable _ _ refl) (refl, (refl, tt))

send_example : AreReadAs (called (codes "send" ∷ codes "store" ∷ codes "--have" ∷ codes "digests" ∷ []))
    ((codes "STORE", codes "store" ∷ []) ∷ (codes "have", codes "digests" ∷ []) ∷ [])
unfolding names_file names_table other_parameters parameters_of first_word is_number walked clap_on_literals
send_example = read_as _ _ (send_app (codes "send")) (λ command own. sym own) refl (send_takable _ _) (refl, (refl, tt))

receive_example : AreReadAs (called (codes "receive" ∷ codes "--delete" ∷ codes "store" ∷ []))
    ((codes "STORE", codes "store" ∷ []) ∷ (codes "delete", codes "true" ∷ []) ∷ [])
unfolding names_file names_table other_parameters parameters_of first_word is_number walked clap_on_literals
receive_example = read_as _ _ (receive_app (codes "receive")) (λ command own. sym own) refl (receive_takable _ _) (refl, (refl, tt))

apply_example : AreReadAs (called (codes "apply" ∷ codes "store" ∷ codes "-" ∷ codes "--wait" ∷ []))
    ((codes "STORE", codes "store" ∷ []) ∷ (codes "SCRIPT", codes "-" ∷ []) ∷ (codes "wait", codes "true" ∷ []) ∷ [])
unfolding names_file names_table other_parameters parameters_of first_word is_number walked clap_on_literals
apply_example = read_as _ _ (apply_app (codes "apply")) (λ command own. sym own) refl (apply_takable _ _) (refl, (refl, (refl, tt)))

like_example : AreReadAs (called (codes "create" ∷ codes "store" ∷ codes "copy" ∷ codes "--like" ∷ codes "readings" ∷ []))
    ((codes "STORE", codes "store" ∷ []) ∷ (codes "NAME", codes "copy" ∷ []) ∷ (codes "like", codes "readings" ∷ []) ∷ [])
unfolding names_file names_table other_parameters parameters_of first_word is_number walked clap_on_literals
like_example = read_as _ _ (create_app (codes "create")) (λ command own. sym own) refl (create_takable _ _ (inr refl)) (refl, (refl, (refl, tt)))

import_example : AreReadAs (called (codes "import" ∷ codes "store" ∷ codes "--new" ∷ codes "readings" ∷ []))
    ((codes "STORE", codes "store" ∷ []) ∷ (codes "NAME", codes "readings" ∷ []) ∷ (codes "new", codes "true" ∷ []) ∷ (codes "complete", codes "false" ∷ []) ∷ [])
unfolding names_file names_table other_parameters parameters_of first_word is_number walked clap_on_literals
import_example = read_as _ _ (import_app (codes "import")) (λ command own. sym own) refl (import_takable _ _) (refl, (refl, (refl, (refl, tt))))

described_example : AreReadAs (called (codes "schema" ∷ codes "--fields" ∷ codes "store" ∷ codes "readings" ∷ []))
    ((codes "STORE", codes "store" ∷ []) ∷ (codes "NAME", codes "readings" ∷ []) ∷ (codes "fields", codes "true" ∷ []) ∷ [])
unfolding names_file names_table other_parameters parameters_of first_word is_number walked clap_on_literals
described_example = read_as _ _ (schema_app (codes "schema")) (λ command own. sym own) refl (schema_takable _ _) (refl, (refl, (refl, tt)))

-- of `append` any command that knows the forms

abbrev append_words : List Text
append_words = codes "append" ∷ codes "store" ∷ codes "readings" ∷ codes "--as" ∷ codes "csv" ∷ codes "--null=NA" ∷ []

abbrev AreTakenAs : App → Type 0
AreTakenAs command = (fault_of command append_words ≡ []) × AreRowsTakable (codes "append") (matches_of command append_words)
    × AreFound (matches_of command append_words)
    ((codes "STORE", codes "store" ∷ []) ∷ (codes "NAME", codes "readings" ∷ []) ∷ (codes "as", codes "csv" ∷ []) ∷ (codes "null", codes "NA" ∷ []) ∷ [])

-- a fault with none after it
abbrev past : Kinds → Kinds
past fault = or_else fault []

-- that of the default of the dates, after the words
abbrev default_fault : ValueParser → Bool → Kinds
default_fault dates accepted = past (past (name_fault dates accepted))

append_faultless : (forms dates : ValueParser) → AreForms forms → AreDateForms dates → fault_of (append_app forms dates (codes "append")) append_words ≡ []
unfolding walked clap_on_literals
append_faultless forms dates known dated =
    λ i. or_else (past (past (past (name_fault forms (known (codes "csv") i))))) (default_fault dates (dated (codes "number") i))

append_example : AreReadAs (called (codes "append" ∷ codes "store" ∷ codes "readings" ∷ codes "--as" ∷ codes "csv" ∷ codes "--null=NA" ∷ []))
    ((codes "STORE", codes "store" ∷ []) ∷ (codes "NAME", codes "readings" ∷ []) ∷ (codes "as", codes "csv" ∷ []) ∷ (codes "null", codes "NA" ∷ []) ∷ [])
unfolding names_file names_table other_parameters parameters_of first_word is_number walked clap_on_literals
append_example =
    let only : (command : App) → IsOwnApp (codes "append") command → AreTakenAs command = λ command own.
    subst AreTakenAs (sym own.4) (append_faultless own.0 own.2 own.1 own.3, append_takable _ _ (inr refl), (refl, (refl, (refl, (refl, tt))))) in
    record { taken = λ command own. ((only command own).0, (only command own).1); found = λ command own. (only command own).2 }

printed_example : AreReadAs
    (called (codes "query" ∷ codes "store" ∷ codes "readings" ∷ codes "value >= 7" ∷ codes "--columns" ∷ codes "id,value" ∷ codes "--limit" ∷ codes "10" ∷ []))
    ((codes "STORE", codes "store" ∷ []) ∷ (codes "NAME", codes "readings" ∷ []) ∷ (codes "CONDITION", codes "value >= 7" ∷ [])
    ∷ (codes "columns", codes "id,value" ∷ []) ∷ (codes "limit", codes "10" ∷ []) ∷ (codes "objects", codes "false" ∷ []) ∷ [])
unfolding names_file names_table other_parameters parameters_of first_word is_number walked clap_on_literals
printed_example = read_query _ _ (λ dates known. (refl, query_takable _ _ refl (inl refl), (refl, (refl, (refl, (refl, (refl, (refl, tt))))))))

objects_example : AreReadAs
    (called (codes "query" ∷ codes "--objects" ∷ codes "store" ∷ codes "readings" ∷ codes "a = 1" ∷ codes "--limit=10" ∷ codes "b = 2" ∷ []))
    ((codes "STORE", codes "store" ∷ []) ∷ (codes "NAME", codes "readings" ∷ []) ∷ (codes "CONDITION", codes "a = 1" ∷ codes "b = 2" ∷ [])
    ∷ (codes "limit", codes "10" ∷ []) ∷ (codes "objects", codes "true" ∷ []) ∷ [])
unfolding names_file names_table other_parameters parameters_of first_word is_number walked clap_on_literals
objects_example = read_query _ _ (λ dates known. (refl, query_takable _ _ refl (inl refl), (refl, (refl, (refl, (refl, (refl, tt)))))))

saved_example : AreReadAs (called (codes "query" ∷ codes "--save=chosen" ∷ codes "store" ∷ codes "readings" ∷ []))
    ((codes "STORE", codes "store" ∷ []) ∷ (codes "NAME", codes "readings" ∷ []) ∷ (codes "save", codes "chosen" ∷ []) ∷ [])
unfolding names_file names_table other_parameters parameters_of first_word is_number walked clap_on_literals
saved_example = read_query _ _ (λ dates known. (refl, query_takable _ _ refl (inr refl), (refl, (refl, (refl, tt)))))

replay_example : AreReadAs
    (called (codes "replay" ∷ codes "script" ∷ codes "--sectors" ∷ codes "16" ∷ codes "--stop" ∷ codes "8" ∷ codes "--choice" ∷ codes "new" ∷ []))
    ((codes "SCRIPT", codes "script" ∷ []) ∷ (codes "sectors", codes "16" ∷ []) ∷ (codes "stop", codes "8" ∷ []) ∷ (codes "choice", codes "new" ∷ []) ∷ [])
unfolding names_file names_table other_parameters parameters_of first_word is_number walked clap_on_literals
replay_example = read_as _ _ (replay_app (codes "replay")) (λ command own. sym own) refl (replay_takable _ _ refl refl refl (inr (inl refl)) refl) (refl, (refl, (refl, (refl, tt))))

-- ---- whatever the values are

abbrev number_kinds : Bool → Kinds
number_kinds accepted = if accepted then [] else refused_kind (parsers.Unsigned 0 18446744073709551615) ∷ []

abbrev format_words : (version file number : Text) → List Text
format_words version file number = codes "format" ∷ (codes "--format-version=" ++ version) ∷ codes "--" ∷ file ∷ number ∷ []

format_number : (version file number : Text) → IsVersion version → is_number number ≡ true → fault_of (format_app (codes "format")) (format_words version file number) ≡ []
unfolding walked clap_on_literals
format_number version file number (inl one) is =
    subst (λ (v : Text). fault_of (format_app (codes "format")) (format_words v file number) ≡ []) (sym one)
    (ap (λ (ok : Bool). past (past (number_kinds ok))) (number_accepted number is))
format_number version file number (inr two) is =
    subst (λ (v : Text). fault_of (format_app (codes "format")) (format_words v file number) ≡ []) (sym two)
    (ap (λ (ok : Bool). past (past (number_kinds ok))) (number_accepted number is))

version_number : (version : Text) → IsVersion version → is_number version ≡ true
unfolding is_number
version_number version (inl one) = subst (λ (v : Text). is_number v ≡ true) (sym one) refl
version_number version (inr two) = subst (λ (v : Text). is_number v ≡ true) (sym two) refl

format_values : (version file number : Text) → IsVersion version → is_number number ≡ true → AreReadAs (called (format_words version file number))
    ((codes "STORE", file ∷ []) ∷ (codes "SECTORS", number ∷ []) ∷ (codes "format-version", version ∷ []) ∷ (codes "over", codes "false" ∷ []) ∷ [])
unfolding names_file names_table other_parameters parameters_of first_word is_number walked clap_on_literals
format_values version file number known is =
    read_as _ _ (format_app (codes "format")) (λ command own. sym own) (format_number version file number known is)
    (format_takable _ _ is (version_number version known)) (refl, (refl, (refl, (refl, tt))))

-- over what is on a block device
abbrev over_words : (version : Text) → List Text → List Text
over_words version operands = codes "format" ∷ codes "--over" ∷ (codes "--format-version=" ++ version) ∷ codes "--" ∷ operands

over_number : (version file number : Text) → IsVersion version → is_number number ≡ true → fault_of (format_app (codes "format")) (over_words version (file ∷ number ∷ [])) ≡ []
unfolding walked clap_on_literals
over_number version file number (inl one) is =
    subst (λ (v : Text). fault_of (format_app (codes "format")) (over_words v (file ∷ number ∷ [])) ≡ []) (sym one)
    (ap (λ (ok : Bool). past (past (number_kinds ok))) (number_accepted number is))
over_number version file number (inr two) is =
    subst (λ (v : Text). fault_of (format_app (codes "format")) (over_words v (file ∷ number ∷ [])) ≡ []) (sym two)
    (ap (λ (ok : Bool). past (past (number_kinds ok))) (number_accepted number is))

over_values : (version file number : Text) → IsVersion version → is_number number ≡ true → AreReadAs (called (over_words version (file ∷ number ∷ [])))
    ((codes "STORE", file ∷ []) ∷ (codes "SECTORS", number ∷ []) ∷ (codes "format-version", version ∷ []) ∷ (codes "over", codes "true" ∷ []) ∷ [])
unfolding names_file names_table other_parameters parameters_of first_word is_number walked clap_on_literals
over_values version file number known is =
    read_as _ _ (format_app (codes "format")) (λ command own. sym own) (over_number version file number known is)
    (format_takable _ _ is (version_number version known)) (refl, (refl, (refl, (refl, tt))))

whole_faultless : (version file : Text) → IsVersion version → fault_of (format_app (codes "format")) (over_words version (file ∷ [])) ≡ []
unfolding walked clap_on_literals
whole_faultless version file (inl one) = subst (λ (v : Text). fault_of (format_app (codes "format")) (over_words v (file ∷ [])) ≡ []) (sym one) refl
whole_faultless version file (inr two) = subst (λ (v : Text). fault_of (format_app (codes "format")) (over_words v (file ∷ [])) ≡ []) (sym two) refl

whole_values : (version file : Text) → IsVersion version → AreReadAs (called (over_words version (file ∷ [])))
    ((codes "STORE", file ∷ []) ∷ (codes "SECTORS", []) ∷ (codes "format-version", version ∷ []) ∷ (codes "over", codes "true" ∷ []) ∷ [])
unfolding names_file names_table other_parameters parameters_of first_word is_number walked clap_on_literals
whole_values version file known =
    read_as _ _ (format_app (codes "format")) (λ command own. sym own) (whole_faultless version file known)
    (format_takable _ _ refl (version_number version known)) (refl, (refl, (refl, (refl, tt))))

info_values : (file : Text) → AreReadAs (called (codes "info" ∷ codes "--json" ∷ codes "--" ∷ file ∷ []))
    ((codes "STORE", file ∷ []) ∷ (codes "json", codes "true" ∷ []) ∷ [])
unfolding names_file names_table other_parameters parameters_of first_word is_number walked clap_on_literals
info_values file = read_as _ _ (info_app (codes "info")) (λ command own. sym own) refl (info_takable _ _) (refl, (refl, tt))

compact_faultless : (steps file : Text) → is_number steps ≡ true
    → fault_of (compact_app (codes "compact")) (codes "compact" ∷ (codes "--steps=" ++ steps) ∷ codes "--" ∷ file ∷ []) ≡ []
unfolding walked clap_on_literals
compact_faultless steps file is = ap (λ (ok : Bool). past (past (past (past (number_kinds ok))))) (number_accepted steps is)

compact_values : (steps file : Text) → is_number steps ≡ true → AreReadAs (called (codes "compact" ∷ (codes "--steps=" ++ steps) ∷ codes "--" ∷ file ∷ []))
    ((codes "STORE", file ∷ []) ∷ (codes "steps", steps ∷ []) ∷ [])
unfolding names_file names_table other_parameters parameters_of first_word walked clap_on_literals
compact_values steps file is =
    read_as _ _ (compact_app (codes "compact")) (λ command own. sym own) (compact_faultless steps file is) (compact_takable _ _ is) (refl, (refl, tt))

send_values : (digests file : Text) → AreReadAs (called (codes "send" ∷ (codes "--have=" ++ digests) ∷ codes "--" ∷ file ∷ []))
    ((codes "STORE", file ∷ []) ∷ (codes "have", digests ∷ []) ∷ [])
unfolding names_file names_table other_parameters parameters_of first_word is_number walked clap_on_literals
send_values digests file = read_as _ _ (send_app (codes "send")) (λ command own. sym own) refl (send_takable _ _) (refl, (refl, tt))

receive_values : (file : Text) → AreReadAs (called (codes "receive" ∷ codes "--delete" ∷ codes "--" ∷ file ∷ []))
    ((codes "STORE", file ∷ []) ∷ (codes "delete", codes "true" ∷ []) ∷ [])
unfolding names_file names_table other_parameters parameters_of first_word is_number walked clap_on_literals
receive_values file = read_as _ _ (receive_app (codes "receive")) (λ command own. sym own) refl (receive_takable _ _) (refl, (refl, tt))

have_values : (file : Text) → AreReadAs (called (codes "have" ∷ codes "--wait" ∷ codes "--" ∷ file ∷ []))
    ((codes "STORE", file ∷ []) ∷ (codes "wait", codes "true" ∷ []) ∷ [])
unfolding names_file names_table other_parameters parameters_of first_word is_number walked clap_on_literals
have_values file = read_as _ _ (store_app (codes "have")) (λ command own. sym own) refl (have_takable _ _) (refl, (refl, tt))

apply_values : (file script : Text) → AreReadAs (called (codes "apply" ∷ codes "--wait" ∷ codes "--" ∷ file ∷ script ∷ []))
    ((codes "STORE", file ∷ []) ∷ (codes "SCRIPT", script ∷ []) ∷ (codes "wait", codes "true" ∷ []) ∷ [])
unfolding names_file names_table other_parameters parameters_of first_word is_number walked clap_on_literals
apply_values file script = read_as _ _ (apply_app (codes "apply")) (λ command own. sym own) refl (apply_takable _ _) (refl, (refl, (refl, tt)))

like_values : (table file name : Text) → AreReadAs (called (codes "create" ∷ (codes "--like=" ++ table) ∷ codes "--" ∷ file ∷ name ∷ []))
    ((codes "STORE", file ∷ []) ∷ (codes "NAME", name ∷ []) ∷ (codes "like", table ∷ []) ∷ [])
unfolding names_file names_table other_parameters parameters_of first_word is_number walked clap_on_literals
like_values table file name = read_as _ _ (create_app (codes "create")) (λ command own. sym own) refl (create_takable _ _ (inr refl)) (refl, (refl, (refl, tt)))

described_values : (file name : Text) → AreReadAs (called (codes "schema" ∷ codes "--fields" ∷ codes "--" ∷ file ∷ name ∷ []))
    ((codes "STORE", file ∷ []) ∷ (codes "NAME", name ∷ []) ∷ (codes "fields", codes "true" ∷ []) ∷ [])
unfolding names_file names_table other_parameters parameters_of first_word is_number walked clap_on_literals
described_values file name = read_as _ _ (schema_app (codes "schema")) (λ command own. sym own) refl (schema_takable _ _) (refl, (refl, (refl, tt)))

import_values : (file name : Text) → AreReadAs (called (codes "import" ∷ codes "--new" ∷ codes "--complete" ∷ codes "--" ∷ file ∷ name ∷ []))
    ((codes "STORE", file ∷ []) ∷ (codes "NAME", name ∷ []) ∷ (codes "new", codes "true" ∷ []) ∷ (codes "complete", codes "true" ∷ []) ∷ [])
unfolding names_file names_table other_parameters parameters_of first_word is_number walked clap_on_literals
import_values file name = read_as _ _ (import_app (codes "import")) (λ command own. sym own) refl (import_takable _ _) (refl, (refl, (refl, (refl, tt))))

module _ (forms dates : ValueParser) (known : AreForms forms) (dated : AreDateForms dates) where
  abbrev words_of_append : (form null file name : Text) → List Text
  words_of_append form null file name = codes "append" ∷ (codes "--as=" ++ form) ∷ (codes "--null=" ++ null) ∷ codes "--" ∷ file ∷ name ∷ []

  append_form : (form null file name : Text) → (form ≡ codes "csv") ⊎ (form ≡ codes "jsonl")
      → fault_of (append_app forms dates (codes "append")) (words_of_append form null file name) ≡ []
  unfolding walked clap_on_literals
  append_form form null file name (inl csv) =
      subst (λ (f : Text). fault_of (append_app forms dates (codes "append")) (words_of_append f null file name) ≡ []) (sym csv)
      (λ i. or_else (past (past (name_fault forms (known (codes "csv") i)))) (default_fault dates (dated (codes "number") i)))
  append_form form null file name (inr lines) =
      subst (λ (f : Text). fault_of (append_app forms dates (codes "append")) (words_of_append f null file name) ≡ []) (sym lines)
      (λ i. or_else (past (past (name_fault forms (known (codes "jsonl") i)))) (default_fault dates (dated (codes "number") i)))

append_values : (form null file name : Text) → (form ≡ codes "csv") ⊎ (form ≡ codes "jsonl")
    → AreReadAs (called (codes "append" ∷ (codes "--as=" ++ form) ∷ (codes "--null=" ++ null) ∷ codes "--" ∷ file ∷ name ∷ []))
    ((codes "STORE", file ∷ []) ∷ (codes "NAME", name ∷ []) ∷ (codes "as", form ∷ []) ∷ (codes "null", null ∷ []) ∷ [])
unfolding names_file names_table other_parameters parameters_of first_word is_number walked clap_on_literals
append_values form null file name is = record {
  taken = λ command own. subst (λ (a : App). (fault_of a (codes "append" ∷ (codes "--as=" ++ form) ∷ (codes "--null=" ++ null) ∷ codes "--" ∷ file ∷ name ∷ []) ≡ [])
      × AreRowsTakable (codes "append") (matches_of a (codes "append" ∷ (codes "--as=" ++ form) ∷ (codes "--null=" ++ null) ∷ codes "--" ∷ file ∷ name ∷ [])))
      (sym own.4) (append_form own.0 own.2 own.1 own.3 form null file name is, append_takable _ _ (inr refl));
  found = λ command own. subst (λ (a : App). AreFound (matches_of a (codes "append" ∷ (codes "--as=" ++ form) ∷ (codes "--null=" ++ null) ∷ codes "--" ∷ file ∷ name ∷ []))
      ((codes "STORE", file ∷ []) ∷ (codes "NAME", name ∷ []) ∷ (codes "as", form ∷ []) ∷ (codes "null", null ∷ []) ∷ [])) (sym own.4) (refl, (refl, (refl, (refl, tt))));
}

module _ (forms dates : ValueParser) (known : AreForms forms) (dated : AreDateForms dates) (file name : Text) where
  abbrev whole_words : List Text
  whole_words = codes "append" ∷ codes "--complete" ∷ codes "--" ∷ file ∷ name ∷ []

  whole_free : fault_of (append_app forms dates (codes "append")) whole_words ≡ []
  unfolding walked clap_on_literals
  whole_free = λ i. past (or_else (name_fault forms (known (codes "stream") i)) (past (name_fault dates (dated (codes "number") i))))

append_whole_values : (file name : Text) → AreReadAs (called (codes "append" ∷ codes "--complete" ∷ codes "--" ∷ file ∷ name ∷ []))
    ((codes "STORE", file ∷ []) ∷ (codes "NAME", name ∷ []) ∷ (codes "as", codes "stream" ∷ []) ∷ (codes "complete", codes "true" ∷ []) ∷ [])
unfolding names_file names_table other_parameters parameters_of first_word is_number walked clap_on_literals
append_whole_values file name = record {
  taken = λ command own. subst (λ (a : App). (fault_of a (codes "append" ∷ codes "--complete" ∷ codes "--" ∷ file ∷ name ∷ []) ≡ [])
      × AreRowsTakable (codes "append") (matches_of a (codes "append" ∷ codes "--complete" ∷ codes "--" ∷ file ∷ name ∷ [])))
      (sym own.4) (whole_free own.0 own.2 own.1 own.3 file name, append_takable _ _ (inl refl));
  found = λ command own. subst (λ (a : App). AreFound (matches_of a (codes "append" ∷ codes "--complete" ∷ codes "--" ∷ file ∷ name ∷ []))
      ((codes "STORE", file ∷ []) ∷ (codes "NAME", name ∷ []) ∷ (codes "as", codes "stream" ∷ []) ∷ (codes "complete", codes "true" ∷ []) ∷ []))
      (sym own.4) (refl, (refl, (refl, (refl, tt))));
}

-- with `--dates` too
form_is : (form : Text) → (form ≡ codes "csv") ⊎ (form ≡ codes "jsonl") → is_form form ≡ true
form_is form (inl csv) = subst (λ (f : Text). is_form f ≡ true) (sym csv) refl
form_is form (inr lines) = subst (λ (f : Text). is_form f ≡ true) (sym lines) refl

how_is : (how : Text) → IsHow how → is_date_form how ≡ true
how_is how (inl number) = subst (λ (h : Text). is_date_form h ≡ true) (sym number) refl
how_is how (inr iso) = subst (λ (h : Text). is_date_form h ≡ true) (sym iso) refl

module _ (form null how file name : Text) where
  abbrev dated_words : List Text
  dated_words = codes "append" ∷ (codes "--as=" ++ form) ∷ (codes "--null=" ++ null) ∷ (codes "--dates=" ++ how) ∷ codes "--" ∷ file ∷ name ∷ []

  abbrev dated_found : List Valued
  dated_found = (codes "STORE", file ∷ []) ∷ (codes "NAME", name ∷ []) ∷ (codes "as", form ∷ []) ∷ (codes "null", null ∷ []) ∷ (codes "dates", how ∷ []) ∷ []

  abbrev IsDatedRead : App → Type 0
  IsDatedRead a = (fault_of a dated_words ≡ []) × AreRowsTakable (codes "append") (matches_of a dated_words) × AreFound (matches_of a dated_words) dated_found

  dated_read : (forms dates : ValueParser) → accepts false forms form ≡ true → accepts false dates how ≡ true → IsDatedRead (append_app forms dates (codes "append"))
  unfolding walked clap_on_literals
  dated_read forms dates known dated = (
    (λ i. past (or_else (past (name_fault forms (known i))) (past (past (name_fault dates (dated i)))))),
    append_takable _ _ (inr refl),
    (refl, (refl, (refl, (refl, (refl, tt))))),
  )

  dated_values : (form ≡ codes "csv") ⊎ (form ≡ codes "jsonl") → IsHow how → AreReadAs (called dated_words) dated_found
  unfolding names_file names_table other_parameters parameters_of first_word
  dated_values is how_said =
      let only : (command : App) → IsOwnApp (codes "append") command → IsDatedRead command = λ command own.
      subst IsDatedRead (sym own.4) (dated_read own.0 own.2 (own.1 form ∙ form_is form is) (own.3 how ∙ how_is how how_said)) in
      record { taken = λ command own. ((only command own).0, (only command own).1); found = λ command own. (only command own).2 }

-- ---- a query, with any conditions

abbrev query_shape : ValueParser → Shape
query_shape dates = query_top dates (codes "query")

-- what was found of an argument
abbrev found_row : Text → List Text → ValueParser → Row
found_row id values parser = record { id = id; values = values; count = None; source = Some CommandLine; reading = reading_of parser }

abbrev number_parser : ValueParser
number_parser = parsers.Unsigned 0 18446744073709551615

module _ (dates : ValueParser) (rows : List Row) where
  met : (vs : List Text) (c : Text) → walked (query_shape dates).rules [] (at (words_held rows (codes "CONDITION") vs) true 3 true) c
      ≡ at (words_held rows (codes "CONDITION") (vs ++ c ∷ [])) true 3 true
  unfolding walked clap_on_literals
  met vs c = refl

  without_fault : (vs : List Text) (c : Text) → turn_fault (query_shape dates) [] (at (words_held rows (codes "CONDITION") vs) true 3 true) c ≡ []
  unfolding walked clap_on_literals
  without_fault vs c = refl

  conditions_held : (c : Text) (rest : List Text)
      → (fold (walked (query_shape dates).rules []) (at (words_held rows (codes "CONDITION") (c ∷ [])) true 3 true) rest).held ≡ words_held rows (codes "CONDITION") (c ∷ rest)
  conditions_held c rest = words_read (query_shape dates) (codes "CONDITION") rows met (c ∷ []) rest

  conditions_free : (c : Text) (rest : List Text) → walk_fault (query_shape dates) [] (at (words_held rows (codes "CONDITION") (c ∷ [])) true 3 true) rest ≡ []
  conditions_free c rest = words_faultless (query_shape dates) (codes "CONDITION") rows met without_fault (c ∷ []) rest

module _ (columns limit file name : Text) where
  abbrev objects_before : List Row
  objects_before = found_row (codes "columns") (columns ∷ []) parsers.String ∷ found_row (codes "limit") (limit ∷ []) number_parser ∷ found_row (codes "objects") (codes "true" ∷ []) parsers.Bool
      ∷ found_row (codes "STORE") (file ∷ []) parsers.String ∷ found_row (codes "NAME") (name ∷ []) parsers.String ∷ []

  abbrev objects_words : List Text → List Text
  objects_words conditions = codes "query" ∷ (codes "--columns=" ++ columns) ∷ (codes "--limit=" ++ limit) ∷ codes "--objects" ∷ codes "--" ∷ file ∷ name ∷ conditions

  abbrev objects_found : List Text → List Valued
  objects_found conditions = (codes "STORE", file ∷ []) ∷ (codes "NAME", name ∷ []) ∷ (codes "CONDITION", conditions) ∷ (codes "columns", columns ∷ [])
      ∷ (codes "limit", limit ∷ []) ∷ (codes "objects", codes "true" ∷ []) ∷ []

  abbrev Is_objects : List Text → List Row → Type 0
  Is_objects conditions rows = AreRowsTakable (codes "query") rows × AreFound rows (objects_found conditions)

  objects_faultless : (dates : ValueParser) (conditions : List Text) → is_number limit ≡ true → length conditions ≤ usize_max
      → fault_of (query_app dates (codes "query")) (objects_words conditions) ≡ []
  unfolding walked clap_on_literals
  objects_faultless dates [] is few = ap (λ (ok : Bool). past (past (past (past (number_kinds ok))))) (number_accepted limit is)
  objects_faultless dates (c ∷ rest) is few =
      let rows = objects_before in
      clap.leaf_fault (built (query_app dates (codes "query"))) nothing_held (drop 1 (objects_words (c ∷ rest))) refl
      ∙ (λ i. level_with (query_shape dates) (or_else (past (past (number_kinds (number_accepted limit is i)))) (conditions_free dates rows c rest i)) (conditions_held dates rows c rest i))
      ∙ words_free c rest few

  objects_rows : (dates : ValueParser) (conditions : List Text) → is_number limit ≡ true → Is_objects conditions (matches_of (query_app dates (codes "query")) (objects_words conditions))
  unfolding walked clap_on_literals
  objects_rows dates [] is = (query_takable _ _ is (inl refl), (refl, (refl, (refl, (refl, (refl, (refl, tt)))))))
  objects_rows dates (c ∷ rest) is =
      subst (λ (h : Held). Is_objects (c ∷ rest) (finished (query_shape dates).rules h)) (sym (conditions_held dates objects_before c rest))
      (query_takable _ _ is (inl refl), (refl, (refl, (refl, (refl, (refl, (refl, tt)))))))

  objects_values : (conditions : List Text) → is_number limit ≡ true → length conditions ≤ usize_max
      → AreReadAs (called (objects_words conditions)) (objects_found conditions)
  objects_values conditions is few = read_query _ _ (λ dates known.
      let rows = objects_rows dates conditions is in
      (objects_faultless dates conditions is few, rows.0, rows.1))

module _ (columns limit new file name : Text) where
  abbrev saved_before : List Row
  saved_before = found_row (codes "columns") (columns ∷ []) parsers.String ∷ found_row (codes "limit") (limit ∷ []) number_parser ∷ found_row (codes "save") (new ∷ []) parsers.String
      ∷ found_row (codes "STORE") (file ∷ []) parsers.String ∷ found_row (codes "NAME") (name ∷ []) parsers.String ∷ []

  abbrev saved_words : List Text → List Text
  saved_words conditions = codes "query" ∷ (codes "--columns=" ++ columns) ∷ (codes "--limit=" ++ limit) ∷ (codes "--save=" ++ new) ∷ codes "--" ∷ file ∷ name ∷ conditions

  abbrev saved_found : List Text → List Valued
  saved_found conditions = (codes "STORE", file ∷ []) ∷ (codes "NAME", name ∷ []) ∷ (codes "CONDITION", conditions) ∷ (codes "columns", columns ∷ [])
      ∷ (codes "limit", limit ∷ []) ∷ (codes "save", new ∷ []) ∷ []

  abbrev Is_saved : List Text → List Row → Type 0
  Is_saved conditions rows = AreRowsTakable (codes "query") rows × AreFound rows (saved_found conditions)

  saved_faultless : (dates : ValueParser) (conditions : List Text) → is_number limit ≡ true → length conditions ≤ usize_max
      → fault_of (query_app dates (codes "query")) (saved_words conditions) ≡ []
  unfolding walked clap_on_literals
  saved_faultless dates [] is few = ap (λ (ok : Bool). past (past (past (past (number_kinds ok))))) (number_accepted limit is)
  saved_faultless dates (c ∷ rest) is few =
      let rows = saved_before in
      clap.leaf_fault (built (query_app dates (codes "query"))) nothing_held (drop 1 (saved_words (c ∷ rest))) refl
      ∙ (λ i. level_with (query_shape dates) (or_else (past (past (number_kinds (number_accepted limit is i)))) (conditions_free dates rows c rest i)) (conditions_held dates rows c rest i))
      ∙ words_free c rest few

  saved_rows : (dates : ValueParser) (conditions : List Text) → is_number limit ≡ true → Is_saved conditions (matches_of (query_app dates (codes "query")) (saved_words conditions))
  unfolding walked clap_on_literals
  saved_rows dates [] is = (query_takable _ _ is (inr refl), (refl, (refl, (refl, (refl, (refl, (refl, tt)))))))
  saved_rows dates (c ∷ rest) is =
      subst (λ (h : Held). Is_saved (c ∷ rest) (finished (query_shape dates).rules h)) (sym (conditions_held dates saved_before c rest))
      (query_takable _ _ is (inr refl), (refl, (refl, (refl, (refl, (refl, (refl, tt)))))))

  saved_values : (conditions : List Text) → is_number limit ≡ true → length conditions ≤ usize_max
      → AreReadAs (called (saved_words conditions)) (saved_found conditions)
  saved_values conditions is few = read_query _ _ (λ dates known.
      let rows = saved_rows dates conditions is in
      (saved_faultless dates conditions is few, rows.0, rows.1))

-- with `--dates` too
module _ (columns limit how file name : Text) where
  abbrev dated_objects_before : ValueParser → List Row
  dated_objects_before dates = found_row (codes "columns") (columns ∷ []) parsers.String ∷ found_row (codes "limit") (limit ∷ []) number_parser ∷ found_row (codes "objects") (codes "true" ∷ []) parsers.Bool
      ∷ found_row (codes "dates") (how ∷ []) dates ∷ found_row (codes "STORE") (file ∷ []) parsers.String ∷ found_row (codes "NAME") (name ∷ []) parsers.String ∷ []

  abbrev dated_objects_words : List Text → List Text
  dated_objects_words conditions =
      codes "query" ∷ (codes "--columns=" ++ columns) ∷ (codes "--limit=" ++ limit) ∷ codes "--objects" ∷ (codes "--dates=" ++ how) ∷ codes "--" ∷ file ∷ name ∷ conditions

  abbrev dated_objects_found : List Text → List Valued
  dated_objects_found conditions = (codes "STORE", file ∷ []) ∷ (codes "NAME", name ∷ []) ∷ (codes "CONDITION", conditions) ∷ (codes "columns", columns ∷ [])
      ∷ (codes "limit", limit ∷ []) ∷ (codes "objects", codes "true" ∷ []) ∷ (codes "dates", how ∷ []) ∷ []

  abbrev IsDated_objects : List Text → List Row → Type 0
  IsDated_objects conditions rows = AreRowsTakable (codes "query") rows × AreFound rows (dated_objects_found conditions)

  dated_objects_faultless : (dates : ValueParser) (conditions : List Text) → is_number limit ≡ true → accepts false dates how ≡ true → length conditions ≤ usize_max
      → fault_of (query_app dates (codes "query")) (dated_objects_words conditions) ≡ []
  unfolding walked clap_on_literals
  dated_objects_faultless dates [] is dated few =
      λ i. past (or_else (past (past (number_kinds (number_accepted limit is i)))) (past (past (name_fault dates (dated i)))))
  dated_objects_faultless dates (c ∷ rest) is dated few =
      let rows = dated_objects_before dates in
      clap.leaf_fault (built (query_app dates (codes "query"))) nothing_held (drop 1 (dated_objects_words (c ∷ rest))) refl
      ∙ (λ i. level_with (query_shape dates)
      (or_else (past (past (number_kinds (number_accepted limit is i)))) (or_else (past (name_fault dates (dated i))) (conditions_free dates rows c rest i)))
      (conditions_held dates rows c rest i))
      ∙ words_free c rest few

  dated_objects_rows : (dates : ValueParser) (conditions : List Text) → is_number limit ≡ true
      → IsDated_objects conditions (matches_of (query_app dates (codes "query")) (dated_objects_words conditions))
  unfolding walked clap_on_literals
  dated_objects_rows dates [] is = (query_takable _ _ is (inl refl), (refl, (refl, (refl, (refl, (refl, (refl, (refl, tt))))))))
  dated_objects_rows dates (c ∷ rest) is =
      subst (λ (h : Held). IsDated_objects (c ∷ rest) (finished (query_shape dates).rules h)) (sym (conditions_held dates (dated_objects_before dates) c rest))
      (query_takable _ _ is (inl refl), (refl, (refl, (refl, (refl, (refl, (refl, (refl, tt))))))))

  dated_objects_values : (conditions : List Text) → is_number limit ≡ true → IsHow how → length conditions ≤ usize_max
      → AreReadAs (called (dated_objects_words conditions)) (dated_objects_found conditions)
  dated_objects_values conditions is how_said few = read_query _ _ (λ dates known.
      let rows = dated_objects_rows dates conditions is in
      (dated_objects_faultless dates conditions is (known how ∙ how_is how how_said) few, rows.0, rows.1))

module _ (columns limit new how file name : Text) where
  abbrev dated_saved_before : ValueParser → List Row
  dated_saved_before dates = found_row (codes "columns") (columns ∷ []) parsers.String ∷ found_row (codes "limit") (limit ∷ []) number_parser ∷ found_row (codes "save") (new ∷ []) parsers.String
      ∷ found_row (codes "dates") (how ∷ []) dates ∷ found_row (codes "STORE") (file ∷ []) parsers.String ∷ found_row (codes "NAME") (name ∷ []) parsers.String ∷ []

  abbrev dated_saved_words : List Text → List Text
  dated_saved_words conditions =
      codes "query" ∷ (codes "--columns=" ++ columns) ∷ (codes "--limit=" ++ limit) ∷ (codes "--save=" ++ new) ∷ (codes "--dates=" ++ how) ∷ codes "--" ∷ file ∷ name ∷ conditions

  abbrev dated_saved_found : List Text → List Valued
  dated_saved_found conditions = (codes "STORE", file ∷ []) ∷ (codes "NAME", name ∷ []) ∷ (codes "CONDITION", conditions) ∷ (codes "columns", columns ∷ [])
      ∷ (codes "limit", limit ∷ []) ∷ (codes "save", new ∷ []) ∷ (codes "dates", how ∷ []) ∷ []

  abbrev IsDated_saved : List Text → List Row → Type 0
  IsDated_saved conditions rows = AreRowsTakable (codes "query") rows × AreFound rows (dated_saved_found conditions)

  dated_saved_faultless : (dates : ValueParser) (conditions : List Text) → is_number limit ≡ true → accepts false dates how ≡ true → length conditions ≤ usize_max
      → fault_of (query_app dates (codes "query")) (dated_saved_words conditions) ≡ []
  unfolding walked clap_on_literals
  dated_saved_faultless dates [] is dated few =
      λ i. past (or_else (past (past (number_kinds (number_accepted limit is i)))) (past (past (name_fault dates (dated i)))))
  dated_saved_faultless dates (c ∷ rest) is dated few =
      let rows = dated_saved_before dates in
      clap.leaf_fault (built (query_app dates (codes "query"))) nothing_held (drop 1 (dated_saved_words (c ∷ rest))) refl
      ∙ (λ i. level_with (query_shape dates)
      (or_else (past (past (number_kinds (number_accepted limit is i)))) (or_else (past (name_fault dates (dated i))) (conditions_free dates rows c rest i)))
      (conditions_held dates rows c rest i))
      ∙ words_free c rest few

  dated_saved_rows : (dates : ValueParser) (conditions : List Text) → is_number limit ≡ true
      → IsDated_saved conditions (matches_of (query_app dates (codes "query")) (dated_saved_words conditions))
  unfolding walked clap_on_literals
  dated_saved_rows dates [] is = (query_takable _ _ is (inr refl), (refl, (refl, (refl, (refl, (refl, (refl, (refl, tt))))))))
  dated_saved_rows dates (c ∷ rest) is =
      subst (λ (h : Held). IsDated_saved (c ∷ rest) (finished (query_shape dates).rules h)) (sym (conditions_held dates (dated_saved_before dates) c rest))
      (query_takable _ _ is (inr refl), (refl, (refl, (refl, (refl, (refl, (refl, (refl, tt))))))))

  dated_saved_values : (conditions : List Text) → is_number limit ≡ true → IsHow how → length conditions ≤ usize_max
      → AreReadAs (called (dated_saved_words conditions)) (dated_saved_found conditions)
  dated_saved_values conditions is how_said few = read_query _ _ (λ dates known.
      let rows = dated_saved_rows dates conditions is in
      (dated_saved_faultless dates conditions is (known how ∙ how_is how how_said) few, rows.0, rows.1))

-- ---- a script

module _ (sectors fail stop choice file : Text) where
  abbrev replay_words : Text → List Text
  replay_words version = codes "replay" ∷ (codes "--sectors=" ++ sectors) ∷ (codes "--fail=" ++ fail) ∷ (codes "--stop=" ++ stop) ∷ (codes "--choice=" ++ choice)
      ∷ (codes "--format-version=" ++ version) ∷ codes "--" ∷ file ∷ []

  abbrev replay_fault : Bool → Bool → Bool → Kinds
  replay_fault a b c = past (or_else (past (past (number_kinds a))) (or_else (past (past (number_kinds b))) (past (past (past (number_kinds c))))))

  replay_faultless : (version : Text) → is_number sectors ≡ true → is_number fail ≡ true → is_number stop ≡ true → IsVersion version
      → fault_of (replay_app (codes "replay")) (replay_words version) ≡ []
  unfolding walked clap_on_literals
  replay_faultless version s f k (inl one) =
      subst (λ (v : Text). fault_of (replay_app (codes "replay")) (replay_words v) ≡ []) (sym one)
      (λ i. replay_fault (number_accepted sectors s i) (number_accepted fail f i) (number_accepted stop k i))
  replay_faultless version s f k (inr two) =
      subst (λ (v : Text). fault_of (replay_app (codes "replay")) (replay_words v) ≡ []) (sym two)
      (λ i. replay_fault (number_accepted sectors s i) (number_accepted fail f i) (number_accepted stop k i))

  replay_values : (version : Text) → is_number sectors ≡ true → is_number fail ≡ true → is_number stop ≡ true → NamesChoice choice → IsVersion version
      → AreReadAs (called (replay_words version))
      ((codes "SCRIPT", file ∷ []) ∷ (codes "sectors", sectors ∷ []) ∷ (codes "fail", fail ∷ []) ∷ (codes "stop", stop ∷ []) ∷ (codes "choice", choice ∷ [])
      ∷ (codes "format-version", version ∷ []) ∷ [])
  unfolding names_file names_table other_parameters parameters_of first_word is_number walked clap_on_literals
  replay_values version s f k named known =
      read_as _ _ (replay_app (codes "replay")) (λ command own. sym own) (replay_faultless version s f k known)
      (replay_takable _ _ s f k named (version_number version known)) (refl, (refl, (refl, (refl, (refl, (refl, tt))))))

pub examples : AreExamples
examples = record {
  format = format_example;
  device = device_example;
  info = info_example;
  compacted = compact_example;
  sent = send_example;
  received = receive_example;
  like = like_example;
  described = described_example;
  imported = import_example;
  append = append_example;
  printed = printed_example;
  objects = objects_example;
  saved = saved_example;
  applied = apply_example;
  replay = replay_example;
}

pub values_read : AreValuesRead
values_read = record {
  format = format_values;
  over = over_values;
  whole = whole_values;
  info = info_values;
  compacted = compact_values;
  sent = send_values;
  received = receive_values;
  had = have_values;
  like = like_values;
  described = described_values;
  imported = import_values;
  append = append_values;
  appended = append_whole_values;
  dated = dated_values;
  objects = objects_values;
  saved = saved_values;
  dated_objects = dated_objects_values;
  dated_saved = dated_saved_values;
  applied = apply_values;
  replay = λ sectors fail stop choice version file s f k named known. replay_values sectors fail stop choice file version s f k named known;
}
