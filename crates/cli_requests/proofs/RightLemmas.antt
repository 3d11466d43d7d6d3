-- Operands that a command takes, and words that `clap` takes, are refused for memory alone.
use Rattle.std.proofs.Common.{◌≡◌, ◌⊎◌, ◌∙◌, ◌==◌, ◌+◌, ◌^◌, ◌<◌, ◌≤◌, ◌&&◌, ℕ, Bool, true, false, refl, sym, ap, ap₂, subst, subst₂, List, [], ◌∷◌, length, drop, codes, Option, Some, None, inl}
use Rattle.std.proofs.Common.{inr, eqb-true, ltb-true, le-ltb, le-leb, true≢false, arith}
use Rattle.std.proofs.lemmas.Bool.{and_parts, and_from}
use Rattle.std.specs.Prelude.{IfErr, IfOk, IsOk, Result, Ok, Err, option_map, unwrap_or, nat_le, nat_lt, if◌then◌else◌}
use Rattle.std.specs.Char.{digit_value}
use Rattle.std.specs.List.{list_all}
use Rattle.std.specs.Option.{option_map_or}
use Rattle.std.specs.Str.Parse.{digits_value, without_leading_plus}
use Rattle.std.specs.Str.{bytes_eq}
use Rattle.std.proofs.lemmas.Option.{none-some, same_Some}
use Rattle.std.proofs.lemmas.Slice.Eq.{bytes_eq-Decides}
use Rattle.clap.specs.Walk.{Row, first_of, rows_of}
use Rattle.clap.specs.Simple.{App, HasMatchesOf, is_simple, matches_of}
use Rattle.clap.specs.Matches.{first_value, found_of}
use Rattle.clap.specs.Kinds.{IsAmong, Kinds, or_else, values_kinds}
use Rattle.clap.specs.Values.{refused_kind}
use Rattle.clap.specs.Lexer.{usize_max}
use Rattle.clap.specs.ValueTests.{is_numeral, is_unsigned_in}
use Rattle.clap.specs.Faults.{fault_of, is_simple_and_free}
use Rattle.clap.specs.declared.builder.value_parser.ValueParser.{ValueParser}
use Rattle.clap.specs.declared.builder.value_parser.ValueParser.TheVariants as parsers
use Rattle.clap.specs.Words.{Text}
use Rattle.clap.specs.declared.error.kind.ErrorKind.{ErrorKind}
use Rattle.clap.specs.declared.error.kind.ErrorKind.TheVariants.{OutOfMemory}
use Rattle.clap.specs.declared.error.kind.ErrorKind.TheVariants as kinds
use Rattle.clap.specs.declared.parser.matches.ArgMatches.{ArgMatches}
use Rattle.clap.specs.declared.parser.matches.Found.{Found}
use Rattle.clap.proofs.OnLiterals.{clap_on_literals}
use Rattle.clap.specs.Walk.{walked}
use Rattle.cli_requests.specs.Apps.{info_app, compact_app, send_app, receive_app, format_app, copy_app, apply_app, table_app, schema_app, import_app, rename_app, create_app, append_app, query_app, other_parameters, parameters_of, AreForms, AreDateForms, IsAppWith, IsOwnApp}
use Rattle.cli_requests.specs.Apps.{HasFound, IsOfMemory, value_of}
use Rattle.cli_requests.specs.Numbers.{is_number, is_number_if_any}
use Rattle.cli_requests.specs.Operands.{is_option, operands, names_file, names_table}
use Rattle.cli_requests.specs.Right.{are_file_and_number, are_files_and_number, takes, are_right, AreRowsTakable, AreTaken, NamesChoice, IsFoundTakable, IsReadFrom}
use Rattle.cli_requests.specs.StoreWords.{is_store_word, first_word}
use Rattle.cli_requests.specs.declared.command_parameters.Parameters.{Parameters}
use Rattle.cli_requests.specs.declared.command_parameters.Parameters.TheVariants as parameters
use Rattle.cli_requests.specs.declared.store_command_line.Mistake.{Mistake}
use Rattle.cli_requests.specs.declared.store_words.StoreRequest.{StoreRequest}
use Rattle.cli_requests.proofs.NumberLemmas.{signed_is_none}
use Rattle.cli_requests.proofs.OperandLemmas.{operands_fault, reads_operands, level_with, words_read, words_faultless}
use Rattle.cli_requests.proofs.AppLemmas.{Parsed, file_app, file_top, info_top, compact_top, send_top, receive_top, apply_top, table_top, schema_top, import_top, rename_top, format_top, copy_top, append_top, create_top, query_top, file_and_table, field_met, condition_met}
use Rattle.cli_requests.proofs.AppLemmas.{file_plain, info_plain, compact_plain, send_plain, receive_plain, apply_plain, table_plain, schema_plain, import_plain, rename_plain, format_plain, copy_plain, append_plain, create_plain, query_plain, found_first, found_one}
use Rattle.cli_requests.proofs.AppLemmas.{AreFileAndNumber, names_sectors, asks_newest, names_new_store, asks_own_fields, asks_no_end, asks_all, names_steps}

-- ---- numbers

digits_alone : (c : ℕ) (cs : Text) (plus : Bool) → (c == 43) ≡ plus → is_number (c ∷ cs) ≡ true → without_leading_plus (c ∷ cs) ≡ c ∷ cs
digits_alone c cs true e is = absurd (signed_is_none (c ∷ cs) true (sym e) refl is)
digits_alone c cs false e is = rw e refl

without_plus : (word : Text) → is_number word ≡ true → without_leading_plus word ≡ word
without_plus [] is = refl
without_plus (c ∷ cs) is = digits_alone c cs (c == 43) refl is

abbrev in_bounds : Text → Bool
in_bounds digits = is_numeral digits && (nat_lt (digits_value 10 digits) (2 ^ 64) && (nat_le 0 (digits_value 10 digits) && nat_le (digits_value 10 digits)
    18446744073709551615))

number_in_bounds : (word : Text) → is_number word ≡ true → in_bounds word ≡ true
unfolding is_number
number_in_bounds word is =
    let n = digits_value 10 word in
    let some = and_parts (nat_lt 0 (length word)) (list_all (λ c. nat_lt (digit_value c) 10) word && nat_lt n (2 ^ 64)) is in
    let all = and_parts (list_all (λ c. nat_lt (digit_value c) 10) word) (nat_lt n (2 ^ 64)) some.1 in
    let below : n < 18446744073709551616 = ltb-true n (2 ^ 64) all.1 in
    and_from _ _ (and_from _ _ some.0 all.0) (and_from _ _ all.1 (and_from _ _ (le-leb 0 n (omega arith)) (le-leb n 18446744073709551615 (omega (arith, below)))))

pub number_accepted : (word : Text) → is_number word ≡ true → is_unsigned_in 0 18446744073709551615 word ≡ true
number_accepted word is = subst (λ (t : Text). in_bounds t ≡ true) (sym (without_plus word is)) (number_in_bounds word is)

-- ---- operands that a command takes have no fault

full_file : (name : Text) (ops : List Text) → length ops ≡ 1 → operands_fault (file_top name) ops ≡ []
unfolding clap_on_literals
full_file name [] e = absurd (omega (arith, e))
full_file name (a ∷ []) e = refl
full_file name (a ∷ b ∷ rest) e = absurd (omega (arith, e))

full_info : (name : Text) (ops : List Text) → length ops ≡ 1 → operands_fault (info_top name) ops ≡ []
unfolding clap_on_literals
full_info name [] e = absurd (omega (arith, e))
full_info name (a ∷ []) e = refl
full_info name (a ∷ b ∷ rest) e = absurd (omega (arith, e))

full_compact : (name : Text) (ops : List Text) → length ops ≡ 1 → operands_fault (compact_top name) ops ≡ []
unfolding clap_on_literals
full_compact name [] e = absurd (omega (arith, e))
full_compact name (a ∷ []) e = refl
full_compact name (a ∷ b ∷ rest) e = absurd (omega (arith, e))

full_send : (name : Text) (ops : List Text) → length ops ≡ 1 → operands_fault (send_top name) ops ≡ []
unfolding clap_on_literals
full_send name [] e = absurd (omega (arith, e))
full_send name (a ∷ []) e = refl
full_send name (a ∷ b ∷ rest) e = absurd (omega (arith, e))

full_receive : (name : Text) (ops : List Text) → length ops ≡ 1 → operands_fault (receive_top name) ops ≡ []
unfolding clap_on_literals
full_receive name [] e = absurd (omega (arith, e))
full_receive name (a ∷ []) e = refl
full_receive name (a ∷ b ∷ rest) e = absurd (omega (arith, e))

full_table : (name : Text) (ops : List Text) → length ops ≡ 2 → operands_fault (table_top name) ops ≡ []
unfolding clap_on_literals
full_table name [] e = absurd (omega (arith, e))
full_table name (a ∷ []) e = absurd (omega (arith, e))
full_table name (a ∷ b ∷ []) e = refl
full_table name (a ∷ b ∷ c ∷ rest) e = absurd (omega (arith, e))

full_apply : (name : Text) (ops : List Text) → length ops ≡ 2 → operands_fault (apply_top name) ops ≡ []
unfolding clap_on_literals
full_apply name [] e = absurd (omega (arith, e))
full_apply name (a ∷ []) e = absurd (omega (arith, e))
full_apply name (a ∷ b ∷ []) e = refl
full_apply name (a ∷ b ∷ c ∷ rest) e = absurd (omega (arith, e))

full_schema : (name : Text) (ops : List Text) → length ops ≡ 2 → operands_fault (schema_top name) ops ≡ []
unfolding clap_on_literals
full_schema name [] e = absurd (omega (arith, e))
full_schema name (a ∷ []) e = absurd (omega (arith, e))
full_schema name (a ∷ b ∷ []) e = refl
full_schema name (a ∷ b ∷ c ∷ rest) e = absurd (omega (arith, e))

full_import : (name : Text) (ops : List Text) → length ops ≡ 2 → operands_fault (import_top name) ops ≡ []
unfolding clap_on_literals
full_import name [] e = absurd (omega (arith, e))
full_import name (a ∷ []) e = absurd (omega (arith, e))
full_import name (a ∷ b ∷ []) e = refl
full_import name (a ∷ b ∷ c ∷ rest) e = absurd (omega (arith, e))

full_rename : (name : Text) (ops : List Text) → length ops ≡ 3 → operands_fault (rename_top name) ops ≡ []
unfolding clap_on_literals
full_rename name [] e = absurd (omega (arith, e))
full_rename name (a ∷ []) e = absurd (omega (arith, e))
full_rename name (a ∷ b ∷ []) e = absurd (omega (arith, e))
full_rename name (a ∷ b ∷ c ∷ []) e = refl
full_rename name (a ∷ b ∷ c ∷ d ∷ rest) e = absurd (omega (arith, e))

-- what is left of the fault of a number, by whether it is accepted
abbrev number_fault : Bool → Kinds
number_fault accepted = or_else (or_else (if accepted then [] else refused_kind (parsers.Unsigned 0 18446744073709551615) ∷ []) []) []

full_format : (name : Text) (ops : List Text) → are_file_and_number ops ≡ true → operands_fault (format_top name) ops ≡ []
unfolding clap_on_literals
full_format name [] e = absurd (true≢false (sym e))
full_format name (a ∷ []) e = refl
full_format name (a ∷ b ∷ []) e = ap number_fault (number_accepted b e)
full_format name (a ∷ b ∷ c ∷ rest) e = absurd (true≢false (sym e))

full_copy : (name : Text) (ops : List Text) → are_files_and_number ops ≡ true → operands_fault (copy_top name) ops ≡ []
unfolding clap_on_literals
full_copy name [] e = absurd (true≢false (sym e))
full_copy name (a ∷ []) e = absurd (true≢false (sym e))
full_copy name (a ∷ b ∷ []) e = absurd (true≢false (sym e))
full_copy name (a ∷ b ∷ c ∷ []) e = ap number_fault (number_accepted c e)
full_copy name (a ∷ b ∷ c ∷ d ∷ rest) e = absurd (true≢false (sym e))

-- the fault of one of some names, by whether it is accepted
abbrev pub name_fault : ValueParser → Bool → Kinds
name_fault names accepted = or_else (if accepted then [] else refused_kind names ∷ []) []

full_append : (forms dates : ValueParser) (name : Text) (ops : List Text) → AreForms forms → AreDateForms dates → length ops ≡ 2
    → operands_fault (append_top forms dates name) ops ≡ []
unfolding clap_on_literals
full_append forms dates name [] known dated e = absurd (omega (arith, e))
full_append forms dates name (a ∷ []) known dated e = absurd (omega (arith, e))
full_append forms dates name (a ∷ b ∷ []) known dated e =
    λ i. or_else (or_else (name_fault forms (known (codes "stream") i)) (or_else (name_fault dates (dated (codes "number") i)) [])) []
full_append forms dates name (a ∷ b ∷ c ∷ rest) known dated e = absurd (omega (arith, e))

texts_accepted : (vs : List Text) → values_kinds false parsers.String vs ≡ []
texts_accepted [] = refl
texts_accepted (v ∷ vs) = texts_accepted vs

-- what is left of the fault of words without end, by whether these are too few or too many, and the fault of their values
abbrev words_fault : Bool → Bool → Kinds → Kinds
words_fault few many values = or_else (or_else (if few then kinds.TooFewValues ∷ [] else (if many then kinds.TooManyValues ∷ [] else [])) values) []

pub words_free : (c : Text) (rest : List Text) → length (c ∷ rest) ≤ usize_max
    → words_fault (nat_lt (length (c ∷ rest)) 0) (nat_lt usize_max (length (c ∷ rest))) (values_kinds false parsers.String rest) ≡ []
words_free c rest few =
    let some : nat_lt (length (c ∷ rest)) 0 ≡ false = le-ltb (length (c ∷ rest)) 0 (omega arith) in
    let within : nat_lt usize_max (length (c ∷ rest)) ≡ false = le-ltb usize_max (length (c ∷ rest)) few in
    λ i. words_fault (some i) (within i) (texts_accepted rest i)

full_create : (name : Text) (ops : List Text) → nat_le 2 (length ops) ≡ true → length ops ≤ usize_max → operands_fault (create_top name) ops ≡ []
unfolding walked clap_on_literals
full_create name [] e few = absurd (true≢false (sym e))
full_create name (a ∷ []) e few = absurd (true≢false (sym e))
full_create name (a ∷ b ∷ []) e few = refl
full_create name (a ∷ b ∷ c ∷ rest) e few =
    let s = create_top name in
    let rows = file_and_table s.rules a b in
    let held = words_read s (codes "FIELD") rows (field_met name a b) (c ∷ []) rest in
    let free = words_faultless s (codes "FIELD") rows (field_met name a b) (λ vs v. refl) (c ∷ []) rest in
    ap₂ (level_with s) free held ∙ words_free c rest (omega (arith, few))

full_query : (dates : ValueParser) (name : Text) (ops : List Text) → nat_le 2 (length ops) ≡ true → length ops ≤ usize_max → operands_fault (query_top dates name) ops ≡ []
unfolding walked clap_on_literals
full_query dates name [] e few = absurd (true≢false (sym e))
full_query dates name (a ∷ []) e few = absurd (true≢false (sym e))
full_query dates name (a ∷ b ∷ []) e few = refl
full_query dates name (a ∷ b ∷ c ∷ rest) e few =
    let s = query_top dates name in
    let rows = file_and_table s.rules a b in
    let held = words_read s (codes "CONDITION") rows (condition_met dates name a b) (c ∷ []) rest in
    let free = words_faultless s (codes "CONDITION") rows (condition_met dates name a b) (λ vs v. refl) (c ∷ []) rest in
    ap₂ (level_with s) free held ∙ words_free c rest (omega (arith, few))

abbrev IsFaultless : App → List Text → Type 0
IsFaultless a words = (is_simple_and_free a ≡ true) × (fault_of a words ≡ [])

module _ (word : Text) (words ops : List Text) (is : operands words ≡ Some ops) (few : length ops ≤ usize_max) where
  right_faultless : (b : Parameters) (a : App) → IsAppWith word b a → takes b ops ≡ true → IsFaultless a (word ∷ words)
  unfolding clap_on_literals
  right_faultless parameters.Nothing a own right =
      subst (λ (x : App). IsFaultless x (word ∷ words)) (sym own)
      (refl, (reads_operands (file_app word) word words ops is refl refl (file_plain word)).fault ∙ full_file word ops (eqb-true (length ops) 1 right))
  right_faultless parameters.FileAndForm a own right =
      subst (λ (x : App). IsFaultless x (word ∷ words)) (sym own)
      (refl, (reads_operands (info_app word) word words ops is refl refl (info_plain word)).fault ∙ full_info word ops (eqb-true (length ops) 1 right))
  right_faultless parameters.FileAndSteps a own right =
      subst (λ (x : App). IsFaultless x (word ∷ words)) (sym own)
      (refl, (reads_operands (compact_app word) word words ops is refl refl (compact_plain word)).fault ∙ full_compact word ops (eqb-true (length ops) 1 right))
  right_faultless parameters.FileAndDigests a own right =
      subst (λ (x : App). IsFaultless x (word ∷ words)) (sym own)
      (refl, (reads_operands (send_app word) word words ops is refl refl (send_plain word)).fault ∙ full_send word ops (eqb-true (length ops) 1 right))
  right_faultless parameters.FileAndDeletion a own right =
      subst (λ (x : App). IsFaultless x (word ∷ words)) (sym own)
      (refl, (reads_operands (receive_app word) word words ops is refl refl (receive_plain word)).fault ∙ full_receive word ops (eqb-true (length ops) 1 right))
  right_faultless parameters.Table a own right =
      subst (λ (x : App). IsFaultless x (word ∷ words)) (sym own)
      (refl, (reads_operands (table_app word) word words ops is refl refl (table_plain word)).fault ∙ full_table word ops (eqb-true (length ops) 2 right))
  right_faultless parameters.TableToDescribe a own right =
      subst (λ (x : App). IsFaultless x (word ∷ words)) (sym own)
      (refl, (reads_operands (schema_app word) word words ops is refl refl (schema_plain word)).fault ∙ full_schema word ops (eqb-true (length ops) 2 right))
  right_faultless parameters.TableToImport a own right =
      subst (λ (x : App). IsFaultless x (word ∷ words)) (sym own)
      (refl, (reads_operands (import_app word) word words ops is refl refl (import_plain word)).fault ∙ full_import word ops (eqb-true (length ops) 2 right))
  right_faultless parameters.TableAndNewName a own right =
      subst (λ (x : App). IsFaultless x (word ∷ words)) (sym own)
      (refl, (reads_operands (rename_app word) word words ops is refl refl (rename_plain word)).fault ∙ full_rename word ops (eqb-true (length ops) 3 right))
  right_faultless parameters.Sectors a own right =
      subst (λ (x : App). IsFaultless x (word ∷ words)) (sym own)
      (refl, (reads_operands (format_app word) word words ops is refl refl (format_plain word)).fault ∙ full_format word ops right)
  right_faultless parameters.NewStore a own right =
      subst (λ (x : App). IsFaultless x (word ∷ words)) (sym own)
      (refl, (reads_operands (copy_app word) word words ops is refl refl (copy_plain word)).fault ∙ full_copy word ops right)
  right_faultless parameters.Script a own right =
      subst (λ (x : App). IsFaultless x (word ∷ words)) (sym own)
      (refl, (reads_operands (apply_app word) word words ops is refl refl (apply_plain word)).fault ∙ full_apply word ops (eqb-true (length ops) 2 right))
  right_faultless parameters.TableAndFields a own right =
      subst (λ (x : App). IsFaultless x (word ∷ words)) (sym own)
      (refl, (reads_operands (create_app word) word words ops is refl refl (create_plain word)).fault ∙ full_create word ops right few)
  right_faultless parameters.TableAndRows a own right =
      subst (λ (x : App). IsFaultless x (word ∷ words)) (sym own.4) (
        refl,
        (reads_operands (append_app own.0 own.2 word) word words ops is refl refl (append_plain own.0 own.2 word)).fault
            ∙ full_append own.0 own.2 word ops own.1 own.3 (eqb-true (length ops) 2 right),
      )
  right_faultless parameters.TableAndQuery a own right =
      subst (λ (x : App). IsFaultless x (word ∷ words)) (sym own.2)
      (refl, (reads_operands (query_app own.0 word) word words ops is refl refl (query_plain own.0 word)).fault ∙ full_query own.0 word ops right few)
  right_faultless parameters.ScriptAndFaults a own right = absurd (true≢false (sym right))

-- ---- what is found of them

of_right : (word : Text) (o : Option (List Text)) → option_map_or (takes (parameters_of word)) o false ≡ true
    → (ops : List Text) × (o ≡ Some ops) × (takes (parameters_of word) ops ≡ true)
of_right word None right = absurd (true≢false (sym right))
of_right word (Some ops) right = (ops, refl, right)

named_as : (b : Parameters) (other word : Text) → bytes_eq other word ≡ true → parameters_of other ≡ b → parameters_of word ≡ b
named_as b other word e is = subst (λ (w : Text). parameters_of w ≡ b) ((bytes_eq-Decides other word).0 e) is

is_format : (word : Text) → bytes_eq (codes "format") word ≡ true → parameters_of word ≡ parameters.Sectors
unfolding names_file names_table other_parameters parameters_of
is_format word e = named_as parameters.Sectors (codes "format") word e refl

is_copy : (word : Text) → bytes_eq (codes "copy") word ≡ true → parameters_of word ≡ parameters.NewStore
unfolding names_file names_table other_parameters parameters_of
is_copy word e = named_as parameters.NewStore (codes "copy") word e refl

is_create : (word : Text) → bytes_eq (codes "create") word ≡ true → parameters_of word ≡ parameters.TableAndFields
unfolding names_file names_table other_parameters parameters_of
is_create word e = named_as parameters.TableAndFields (codes "create") word e refl

is_append : (word : Text) → bytes_eq (codes "append") word ≡ true → parameters_of word ≡ parameters.TableAndRows
unfolding names_file names_table other_parameters parameters_of
is_append word e = named_as parameters.TableAndRows (codes "append") word e refl

is_compact : (word : Text) → bytes_eq (codes "compact") word ≡ true → parameters_of word ≡ parameters.FileAndSteps
unfolding names_file names_table other_parameters parameters_of
is_compact word e = named_as parameters.FileAndSteps (codes "compact") word e refl

is_query : (word : Text) → bytes_eq (codes "query") word ≡ true → parameters_of word ≡ parameters.TableAndQuery
unfolding names_file names_table other_parameters parameters_of
is_query word e = named_as parameters.TableAndQuery (codes "query") word e refl

is_replay : (word : Text) → bytes_eq (codes "replay") word ≡ true → parameters_of word ≡ parameters.ScriptAndFaults
unfolding names_file names_table other_parameters parameters_of
is_replay word e = named_as parameters.ScriptAndFaults (codes "replay") word e refl

no_replay : (word : Text) (ops : List Text) → takes (parameters_of word) ops ≡ true → bytes_eq (codes "replay") word ≡ true → ⊥
no_replay word ops right e = true≢false (sym (subst (λ (b : Parameters). takes b ops ≡ true) (is_replay word e) right))

no_number : (o : Option Text) → o ≡ None → is_number_if_any o ≡ true
no_number o none = rw none refl

number_if_any : (ops : List Text) (file : Text) (o : Option Text) → AreFileAndNumber ops file o → are_file_and_number ops ≡ true → is_number_if_any o ≡ true
number_if_any ops file None are right = refl
number_if_any ops file (Some number) are right = subst (λ (words : List Text). are_file_and_number words ≡ true) are right

module _ (word : Text) (words : List Text) (m : ArgMatches) (a : App) (own : IsOwnApp word a) (parsed : Parsed a (word ∷ words) m) (ops : List Text)
    (is : operands words ≡ Some ops) (right : takes (parameters_of word) ops ≡ true) where
  sectors_right : bytes_eq (codes "copy") word ≡ true → is_number (value_of (found_of m) (codes "SECTORS")) ≡ true
  sectors_right c =
      let p = is_copy word c in
      subst (λ (words : List Text). are_files_and_number words ≡ true) (names_new_store word words m a own parsed p ops is)
      (subst (λ (b : Parameters). takes b ops ≡ true) p right)

  room_right : bytes_eq (codes "format") word ≡ true → is_number_if_any (first_value (found_of m) (codes "SECTORS")) ≡ true
  room_right f =
      let p = is_format word f in
      number_if_any ops _ (first_value (found_of m) (codes "SECTORS")) (names_sectors word words m a own parsed p ops is)
      (subst (λ (b : Parameters). takes b ops ≡ true) p right)

  right_takable : IsFoundTakable word (found_of m)
  right_takable = record {
    sectors = sectors_right;
    room = room_right;
    version = λ e. no_number _ (asks_newest word words m a own parsed (is_format word e) ops is);
    like = λ e. inl (asks_own_fields word words m a own parsed (is_create word e) ops is);
    complete = λ e. inr (asks_no_end word words m a own parsed (is_append word e) ops is);
    limit = λ e. no_number _ (asks_all word words m a own parsed (is_query word e) ops is).limit;
    steps = λ e. no_number _ (names_steps word words m a own parsed (is_compact word e) ops is).1;
    printed = λ e. inl (asks_all word words m a own parsed (is_query word e) ops is).save;
    size = λ e. absurd (no_replay word ops right e);
    fail = λ e. absurd (no_replay word ops right e);
    stop = λ e. absurd (no_replay word ops right e);
    choice = λ e. absurd (no_replay word ops right e);
    played = λ e. absurd (no_replay word ops right e);
  }

only_memory : (kind : ErrorKind) (kinds : Kinds) → kinds ≡ [] → (kind ≡ OutOfMemory) ⊎ IsAmong kind kinds → kind ≡ OutOfMemory
only_memory kind kinds none (inl memory) = memory
only_memory kind kinds none (inr among) = absurd (subst (IsAmong kind) none among)

fewer_with : (n : ℕ) (word : Text) (o : Option (List Text)) (ops : List Text) → ((others : List Text) → o ≡ Some others → length others ≤ n)
    → option_map (λ (others : List Text). word ∷ others) o ≡ Some ops → length ops ≤ n + 1
fewer_with n word None ops few e = absurd (none-some ops e)
fewer_with n word (Some others) ops few e =
    subst (λ (xs : List Text). length xs ≤ n + 1) (same_Some (word ∷ others) ops e) (omega (arith, few others refl))

-- no more than the words
fewer_by : (word : Text) (rest ops : List Text) → ((others : List Text) → operands rest ≡ Some others → length others ≤ length rest)
    → (ends option : Bool) → bytes_eq word (codes "--") ≡ ends → is_option word ≡ option → operands (word ∷ rest) ≡ Some ops → length ops ≤ length (word ∷ rest)
unfolding operands
fewer_by word rest ops few true option d o e =
    let all : Some rest ≡ Some ops = rw d at e in
    subst (λ (xs : List Text). length xs ≤ length (word ∷ rest)) (same_Some rest ops all) (omega arith)
fewer_by word rest ops few false true d o e =
    let all : None ≡ Some ops = rw (d, o) at e in
    absurd (none-some ops all)
fewer_by word rest ops few false false d o e =
    let all : option_map (λ (others : List Text). word ∷ others) (operands rest) ≡ Some ops = rw (d, o) at e in
    let fewer = fewer_with (length rest) word (operands rest) ops few all in
    omega (arith, fewer)

fewer : (words ops : List Text) → operands words ≡ Some ops → length ops ≤ length words
unfolding operands
fewer [] ops e = subst (λ (xs : List Text). length xs ≤ 0) (same_Some [] ops e) (omega arith)
fewer (word ∷ rest) ops e = fewer_by word rest ops (fewer rest) (bytes_eq word (codes "--")) (is_option word) refl refl e

-- the parts of right arguments
pub record RightWords (args : List Text) (word : Text) (words : List Text) : Type 0 where
  pub rest : List Text
  pub after : words ≡ word ∷ rest
  pub ops : List Text
  pub are : operands rest ≡ Some ops
  pub taken : takes (parameters_of word) ops ≡ true
  pub few : length ops ≤ length args

right_words : (args : List Text) (word : Text) (words : List Text) → are_right args ≡ true → word ≡ first_word args → words ≡ drop 1 args → RightWords args word words
unfolding are_right first_word
right_words [] word words right first after = absurd (true≢false (sym right))
right_words (name ∷ []) word words right first after = absurd (true≢false (sym right))
right_words (name ∷ w ∷ rest) word words right first after =
    let parts = and_parts (is_store_word w) (option_map_or (takes (parameters_of w)) (operands rest) false) right in
    let p = of_right w (operands rest) parts.1 in
    record {
      rest = rest;
      after = after ∙ ap (λ (x : Text). x ∷ rest) (sym first);
      ops = p.0;
      are = p.1;
      taken = subst (λ (x : Text). takes (parameters_of x) p.0 ≡ true) (sym first) p.2;
      few = omega (arith, fewer rest p.0 p.1);
    }

pub right_by_memory : (args : List Text) (word : Text) (words : List Text) (a : App) (kind : ErrorKind) → are_right args ≡ true → word ≡ first_word args
    → words ≡ drop 1 args → IsOwnApp word a → length args ≤ usize_max
    → (is_simple_and_free a ≡ true → (kind ≡ OutOfMemory) ⊎ IsAmong kind (fault_of a words)) → kind ≡ OutOfMemory
right_by_memory args word words a kind right first after own few has =
    let r = right_words args word words right first after in
    let faultless = subst (IsFaultless a) (sym r.after) (right_faultless word r.rest r.ops r.are (omega (arith, r.few, few)) (parameters_of word) a own r.taken) in
    only_memory kind (fault_of a words) faultless.1 (has faultless.0)

pub right_is_takable : (args : List Text) (word : Text) (words : List Text) (m : ArgMatches) (a : App) → are_right args ≡ true → word ≡ first_word args
    → words ≡ drop 1 args → IsOwnApp word a → (is_simple_and_free a ≡ true → fault_of a words ≡ []) → HasMatchesOf a words m → IsFoundTakable word (found_of m)
right_is_takable args word words m a right first after own faultless matches =
    let r = right_words args word words right first after in
    let parsed : Parsed a words m = record { faultless = faultless; matches = matches } in
    right_takable word r.rest m a own (subst (λ (ws : List Text). Parsed a ws m) r.after parsed) r.ops r.are r.taken

-- ---- words that `clap` takes

own_free : (word : Text) (b : Parameters) (a : App) → IsAppWith word b a → is_simple_and_free a ≡ true
unfolding clap_on_literals
own_free word parameters.Nothing a own = rw own refl
own_free word parameters.FileAndForm a own = rw own refl
own_free word parameters.FileAndSteps a own = rw own refl
own_free word parameters.FileAndDigests a own = rw own refl
own_free word parameters.FileAndDeletion a own = rw own refl
own_free word parameters.Table a own = rw own refl
own_free word parameters.TableToDescribe a own = rw own refl
own_free word parameters.TableToImport a own = rw own refl
own_free word parameters.TableAndNewName a own = rw own refl
own_free word parameters.Sectors a own = rw own refl
own_free word parameters.NewStore a own = rw own refl
own_free word parameters.Script a own = rw own refl
own_free word parameters.TableAndFields a own = rw own refl
own_free word parameters.TableAndRows a own = rw own.4 refl
own_free word parameters.TableAndQuery a own = rw own.2 refl
own_free word parameters.ScriptAndFaults a own = rw own refl

-- what is so of the rows is so of what was found
found_takable : (word : Text) (m : ArgMatches) (rows : List Row) → rows_of (found_of m) ≡ rows → AreRowsTakable word rows
    → IsFoundTakable word (found_of m)
found_takable word m rows same is =
    let first : (id : Text) → first_of id rows ≡ first_value (found_of m) id = λ id. found_first m rows id same in
    let number : (id : Text) → is_number_if_any (first_of id rows) ≡ true → is_number_if_any (first_value (found_of m) id) ≡ true =
    λ id e. subst (λ (o : Option Text). is_number_if_any o ≡ true) (first id) e in
    record {
      sectors = λ e. subst (λ (o : Option Text). is_number (unwrap_or o []) ≡ true) (first (codes "SECTORS")) (is.sectors e);
      room = λ e. number (codes "SECTORS") (is.room e);
      version = λ e. number (codes "format-version") (is.version e);
      like = λ e. subst₂ (λ (o p : Option Text). (o ≡ None) ⊎ (p ≡ None)) (first (codes "like")) (first (codes "FIELD")) (is.like e);
      complete =
          λ e. subst₂ (λ (o p : Option Text). (bytes_eq (unwrap_or o []) (codes "stream") ≡ true) ⊎ (p ≡ Some (codes "false"))) (first (codes "as"))
          (found_one m rows (codes "complete") same) (is.complete e);
      limit = λ e. number (codes "limit") (is.limit e);
      steps = λ e. number (codes "steps") (is.steps e);
      printed =
          λ e. subst₂ (λ (o p : Option Text). (o ≡ None) ⊎ (p ≡ Some (codes "false"))) (first (codes "save")) (found_one m rows (codes "objects") same) (is.printed e);
      size = λ e. number (codes "sectors") (is.size e);
      fail = λ e. number (codes "fail") (is.fail e);
      stop = λ e. number (codes "stop") (is.stop e);
      choice = λ e. subst (λ (o : Option Text). NamesChoice (unwrap_or o [])) (first (codes "choice")) (is.choice e);
      played = λ e. number (codes "format-version") (is.played e);
    }

module _ (args : List Text) (word : Text) (words : List Text) (a : App) (first : word ≡ first_word args) (after : words ≡ drop 1 args) (own : IsOwnApp word a) where
  free : is_simple_and_free a ≡ true
  free = own_free word (parameters_of word) a own

  simple : is_simple a ≡ true
  simple = (and_parts (is_simple a) _ free).0

  own_first : IsOwnApp (first_word args) a
  own_first = subst (λ (w : Text). IsOwnApp w a) first own

  found_rows : (m : ArgMatches) → HasMatchesOf a words m → rows_of (found_of m) ≡ matches_of a (drop 1 args)
  found_rows m matches = (matches simple).0 ∙ ap (matches_of a) after

  pub taken_is_takable : (m : ArgMatches) → AreTaken args → HasMatchesOf a words m → IsFoundTakable word (found_of m)
  taken_is_takable m taken matches =
      subst (λ (w : Text). IsFoundTakable w (found_of m)) (sym first)
      (found_takable (first_word args) m (matches_of a (drop 1 args)) (found_rows m matches) (taken a own_first).1)

  pub taken_by_memory : (kind : ErrorKind) → AreTaken args → (is_simple_and_free a ≡ true → (kind ≡ OutOfMemory) ⊎ IsAmong kind (fault_of a words))
      → kind ≡ OutOfMemory
  taken_by_memory kind taken has = only_memory kind (fault_of a words) (ap (fault_of a) after ∙ (taken a own_first).0) (has free)

  pub read_result : {E : Type 0} (m : ArgMatches) (r : Result StoreRequest E) → (is_simple_and_free a ≡ true → fault_of a words ≡ []) → HasMatchesOf a words m
      → IfOk r (HasFound (found_of m)) → IfOk r (IsReadFrom args)
  read_result m (Ok request) faultless matches found = record {
    command = a;
    own = own_first;
    faultless = ap (fault_of a) (sym after) ∙ faultless free;
    found = found_of m;
    matches = found_rows m matches;
    has = found;
  }
  read_result m (Err e) faultless matches found = tt

-- ---- what `format` and `copy` ask for

no_error : {X E : Type 0} (r : Result X E) (P : E → Type 0) → IsOk r → IfErr r P
no_error (Ok x) P ok = tt
no_error (Err e) P ok = absurd (true≢false (sym ok))

module _ {X : Type 0} (word : Text) (found : Found) (r : Result X Mistake) where
  pub takable_format : word ≡ codes "format"
      → (is_number_if_any (first_value found (codes "SECTORS")) ≡ true → is_number_if_any (first_value found (codes "format-version")) ≡ true → IsOk r)
      → IsFoundTakable word found → IfErr r IsOfMemory
  takable_format is taken all =
      let right : IsFoundTakable (codes "format") found = subst (λ (w : Text). IsFoundTakable w found) is all in
      no_error r IsOfMemory (taken (right.room refl) (right.version refl))

  pub takable_copy : word ≡ codes "copy" → (is_number (value_of found (codes "SECTORS")) ≡ true → IsOk r) → IsFoundTakable word found → IfErr r IsOfMemory
  takable_copy is taken all =
      let right : IsFoundTakable (codes "copy") found = subst (λ (w : Text). IsFoundTakable w found) is all in
      no_error r IsOfMemory (taken (right.sectors refl))
