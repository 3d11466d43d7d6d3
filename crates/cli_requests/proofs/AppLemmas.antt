-- What the commands of names alone make of their operands.
use Rattle.std.proofs.Common.{◌≡◌, ◌∙◌, ◌==◌, ℕ, Bool, true, false, refl, sym, ap, subst, subst₂, List, [], ◌∷◌, ◌++◌, length, drop, codes, Option, Some, None}
use Rattle.std.proofs.Common.{inl, inr, true≢false, arith}
use Rattle.std.specs.Prelude.{IfSome, IfOk, Result, Ok, Err, option_map, unwrap_or}
use Rattle.std.specs.Borrow.{Bor}
use Rattle.std.specs.Str.{bytes_eq}
use Rattle.std.specs.Str.Parse.{digits_value}
use Rattle.std.proofs.lemmas.Option.{none-some}
use Rattle.clap.specs.Walk.{Held, Row, Rule, first_of, one_of, all_of, arg_by_index, finished, rows_of, settled, walked}
use Rattle.clap.specs.Simple.{App, HasMatchesOf, Shape, app_of, built}
use Rattle.clap.specs.declared.builder.command.Command.{Command}
use Rattle.clap.specs.Matches.{first_value, found_of, one_text}
use Rattle.clap.specs.declared.parser.matches.Found.{Found}
use Rattle.clap.specs.Kinds.{Kinds, or_else}
use Rattle.clap.specs.Faults.{fault_of, is_simple_and_free, defaults_fault, check_fault}
use Rattle.clap.specs.declared.builder.value_parser.ValueParser.{ValueParser}
use Rattle.clap.specs.Words.{Text}
use Rattle.clap.specs.declared.error.kind.ErrorKind.{ErrorKind}
use Rattle.clap.specs.declared.parser.matches.ArgMatches.{ArgMatches}
use Rattle.clap.proofs.OnLiterals.{clap_on_literals}
use Rattle.clap.proofs.WalkLemmas.{first_value-rows, one_text-rows, raw_values-rows}
use Rattle.cli_requests.specs.Apps.{info_app, compact_app, send_app, receive_app, format_app, copy_app, store_app, apply_app, table_app, schema_app, import_app, rename_app, create_app, append_app, query_app, other_parameters, parameters_of, IsAppWith, IsOwnApp, value_of, values_of}
use Rattle.civil_days.specs.declared.date_form.DateForm.{DateForm}
use Rattle.civil_days.specs.declared.date_form.DateForm.TheVariants.{Numbers, Iso}
use Rattle.cli_requests.specs.Apps.{HasDates, HasFound}
use Rattle.cli_requests.specs.Asked.{request_word}
use Rattle.cli_requests.specs.Numbers.{IsNumber, is_number}
use Rattle.cli_requests.specs.Operands.{version_named, operands, names_file, names_table, IsNamedBy, Names}
use Rattle.cli_requests.specs.StoreWords.{is_of_store, is_store_word, first_word}
use Rattle.cli_requests.specs.declared.command_parameters.Parameters.{Parameters}
use Rattle.cli_requests.specs.declared.command_parameters.Parameters.TheVariants as parameters
use Rattle.cli_requests.specs.declared.store_words.StoreCommand.TheVariants as commands
use Rattle.cli_requests.specs.declared.store_words.StoreRequest.{StoreRequest}
use Rattle.cli_requests.specs.declared.store_words.StoreRequest.TheVariants as requests
use Rattle.cli_requests.proofs.WordLemmas.{first_of_store}
use Rattle.cli_requests.proofs.OperandLemmas.{at, ends_options, operands_fault, operands_held, operand_rows, reads_operands, words_held, words_read}

-- ---- the three commands, by what they take after the file

abbrev pub file_app : Text → App
file_app name = store_app name

-- none of their positionals ends the options
pub file_plain : (name : Text) (p : ℕ) → ends_options (arg_by_index (built (file_app name)).top.rules p) ≡ false
file_plain name p = by_first (1 == p) refl
  where
    by_first : (b : Bool) → (1 == p) ≡ b → ends_options (arg_by_index (built (file_app name)).top.rules p) ≡ false
    by_first true e = rw e refl
    by_first false e = rw e refl

pub info_plain : (name : Text) (p : ℕ) → ends_options (arg_by_index (built (info_app name)).top.rules p) ≡ false
info_plain name p = by_first (1 == p) refl
  where
    by_first : (b : Bool) → (1 == p) ≡ b → ends_options (arg_by_index (built (info_app name)).top.rules p) ≡ false
    by_first true e = rw e refl
    by_first false e = rw e refl

pub compact_plain : (name : Text) (p : ℕ) → ends_options (arg_by_index (built (compact_app name)).top.rules p) ≡ false
compact_plain name p = by_first (1 == p) refl
  where
    by_first : (b : Bool) → (1 == p) ≡ b → ends_options (arg_by_index (built (compact_app name)).top.rules p) ≡ false
    by_first true e = rw e refl
    by_first false e = rw e refl

pub send_plain : (name : Text) (p : ℕ) → ends_options (arg_by_index (built (send_app name)).top.rules p) ≡ false
send_plain name p = by_first (1 == p) refl
  where
    by_first : (b : Bool) → (1 == p) ≡ b → ends_options (arg_by_index (built (send_app name)).top.rules p) ≡ false
    by_first true e = rw e refl
    by_first false e = rw e refl

pub receive_plain : (name : Text) (p : ℕ) → ends_options (arg_by_index (built (receive_app name)).top.rules p) ≡ false
receive_plain name p = by_first (1 == p) refl
  where
    by_first : (b : Bool) → (1 == p) ≡ b → ends_options (arg_by_index (built (receive_app name)).top.rules p) ≡ false
    by_first true e = rw e refl
    by_first false e = rw e refl

pub table_plain : (name : Text) (p : ℕ) → ends_options (arg_by_index (built (table_app name)).top.rules p) ≡ false
table_plain name p = by_each (1 == p) (2 == p) refl refl
  where
    by_each : (a b : Bool) → (1 == p) ≡ a → (2 == p) ≡ b → ends_options (arg_by_index (built (table_app name)).top.rules p) ≡ false
    by_each true b d e = rw d refl
    by_each false true d e = rw (d, e) refl
    by_each false false d e = rw (d, e) refl

pub apply_plain : (name : Text) (p : ℕ) → ends_options (arg_by_index (built (apply_app name)).top.rules p) ≡ false
apply_plain name p = by_each (1 == p) (2 == p) refl refl
  where
    by_each : (a b : Bool) → (1 == p) ≡ a → (2 == p) ≡ b → ends_options (arg_by_index (built (apply_app name)).top.rules p) ≡ false
    by_each true b d e = rw d refl
    by_each false true d e = rw (d, e) refl
    by_each false false d e = rw (d, e) refl

pub schema_plain : (name : Text) (p : ℕ) → ends_options (arg_by_index (built (schema_app name)).top.rules p) ≡ false
schema_plain name p = by_each (1 == p) (2 == p) refl refl
  where
    by_each : (a b : Bool) → (1 == p) ≡ a → (2 == p) ≡ b → ends_options (arg_by_index (built (schema_app name)).top.rules p) ≡ false
    by_each true b d e = rw d refl
    by_each false true d e = rw (d, e) refl
    by_each false false d e = rw (d, e) refl

pub import_plain : (name : Text) (p : ℕ) → ends_options (arg_by_index (built (import_app name)).top.rules p) ≡ false
import_plain name p = by_each (1 == p) (2 == p) refl refl
  where
    by_each : (a b : Bool) → (1 == p) ≡ a → (2 == p) ≡ b → ends_options (arg_by_index (built (import_app name)).top.rules p) ≡ false
    by_each true b d e = rw d refl
    by_each false true d e = rw (d, e) refl
    by_each false false d e = rw (d, e) refl

pub rename_plain : (name : Text) (p : ℕ) → ends_options (arg_by_index (built (rename_app name)).top.rules p) ≡ false
rename_plain name p = by_each (1 == p) (2 == p) (3 == p) refl refl refl
  where
    by_each : (a b c : Bool) → (1 == p) ≡ a → (2 == p) ≡ b → (3 == p) ≡ c → ends_options (arg_by_index (built (rename_app name)).top.rules p) ≡ false
    by_each true b c d e f = rw d refl
    by_each false true c d e f = rw (d, e) refl
    by_each false false true d e f = rw (d, e, f) refl
    by_each false false false d e f = rw (d, e, f) refl

pub format_plain : (name : Text) (p : ℕ) → ends_options (arg_by_index (built (format_app name)).top.rules p) ≡ false
format_plain name p = by_each (1 == p) (2 == p) refl refl
  where
    by_each : (a b : Bool) → (1 == p) ≡ a → (2 == p) ≡ b → ends_options (arg_by_index (built (format_app name)).top.rules p) ≡ false
    by_each true b d e = rw d refl
    by_each false true d e = rw (d, e) refl
    by_each false false d e = rw (d, e) refl

pub copy_plain : (name : Text) (p : ℕ) → ends_options (arg_by_index (built (copy_app name)).top.rules p) ≡ false
copy_plain name p = by_each (1 == p) (2 == p) (3 == p) refl refl refl
  where
    by_each : (a b c : Bool) → (1 == p) ≡ a → (2 == p) ≡ b → (3 == p) ≡ c → ends_options (arg_by_index (built (copy_app name)).top.rules p) ≡ false
    by_each true b c d e f = rw d refl
    by_each false true c d e f = rw (d, e) refl
    by_each false false true d e f = rw (d, e, f) refl
    by_each false false false d e f = rw (d, e, f) refl

pub append_plain : (forms dates : ValueParser) (name : Text) (p : ℕ) → ends_options (arg_by_index (built (append_app forms dates name)).top.rules p) ≡ false
append_plain forms dates name p = by_each (1 == p) (2 == p) refl refl
  where
    by_each : (a b : Bool) → (1 == p) ≡ a → (2 == p) ≡ b → ends_options (arg_by_index (built (append_app forms dates name)).top.rules p) ≡ false
    by_each true b d e = rw d refl
    by_each false true d e = rw (d, e) refl
    by_each false false d e = rw (d, e) refl

pub create_plain : (name : Text) (p : ℕ) → ends_options (arg_by_index (built (create_app name)).top.rules p) ≡ false
create_plain name p = by_each (1 == p) (2 == p) (3 == p) refl refl refl
  where
    by_each : (a b c : Bool) → (1 == p) ≡ a → (2 == p) ≡ b → (3 == p) ≡ c → ends_options (arg_by_index (built (create_app name)).top.rules p) ≡ false
    by_each true b c d e f = rw d refl
    by_each false true c d e f = rw (d, e) refl
    by_each false false true d e f = rw (d, e, f) refl
    by_each false false false d e f = rw (d, e, f) refl

pub query_plain : (dates : ValueParser) (name : Text) (p : ℕ) → ends_options (arg_by_index (built (query_app dates name)).top.rules p) ≡ false
query_plain dates name p = by_each (1 == p) (2 == p) (3 == p) refl refl refl
  where
    by_each : (a b c : Bool) → (1 == p) ≡ a → (2 == p) ≡ b → (3 == p) ≡ c → ends_options (arg_by_index (built (query_app dates name)).top.rules p) ≡ false
    by_each true b c d e f = rw d refl
    by_each false true c d e f = rw (d, e) refl
    by_each false false true d e f = rw (d, e, f) refl
    by_each false false false d e f = rw (d, e, f) refl

some_kind : (k : ErrorKind) (ks : Kinds) → k ∷ ks ≡ [] → ⊥
some_kind k ks h = let longer : length (k ∷ ks) ≡ 0 = ap (λ (xs : Kinds). length xs) h in absurd (omega (arith, longer))

abbrev pub file_top : Text → Shape
file_top name = (built (file_app name)).top

abbrev pub info_top : Text → Shape
info_top name = (built (info_app name)).top

abbrev pub compact_top : Text → Shape
compact_top name = (built (compact_app name)).top

abbrev pub send_top : Text → Shape
send_top name = (built (send_app name)).top

abbrev pub receive_top : Text → Shape
receive_top name = (built (receive_app name)).top

abbrev pub table_top : Text → Shape
table_top name = (built (table_app name)).top

abbrev pub apply_top : Text → Shape
apply_top name = (built (apply_app name)).top

abbrev pub schema_top : Text → Shape
schema_top name = (built (schema_app name)).top

abbrev pub import_top : Text → Shape
import_top name = (built (import_app name)).top

abbrev pub rename_top : Text → Shape
rename_top name = (built (rename_app name)).top

abbrev pub format_top : Text → Shape
format_top name = (built (format_app name)).top

abbrev pub copy_top : Text → Shape
copy_top name = (built (copy_app name)).top

abbrev pub append_top : (forms dates : ValueParser) → Text → Shape
append_top forms dates name = (built (append_app forms dates name)).top

abbrev pub create_top : Text → Shape
create_top name = (built (create_app name)).top

abbrev pub query_top : (dates : ValueParser) → Text → Shape
query_top dates name = (built (query_app dates name)).top

-- ---- operands that are no fault

abbrev pub row_value : Text → List Row → Text
row_value id rows = unwrap_or (first_of id rows) []

file_named : (name : Text) (ops : List Text) → operands_fault (file_top name) ops ≡ [] → ops ≡ row_value (codes "STORE") (operand_rows (file_top name) ops) ∷ []
unfolding clap_on_literals
file_named name [] e = absurd (some_kind _ _ e)
file_named name (a ∷ []) e = refl
file_named name (a ∷ b ∷ rest) e = absurd (some_kind _ _ e)

info_named : (name : Text) (ops : List Text) → operands_fault (info_top name) ops ≡ [] → ops ≡ row_value (codes "STORE") (operand_rows (info_top name) ops) ∷ []
unfolding clap_on_literals
info_named name [] e = absurd (some_kind _ _ e)
info_named name (a ∷ []) e = refl
info_named name (a ∷ b ∷ rest) e = absurd (some_kind _ _ e)

-- without its option
info_alone : (name : Text) (ops : List Text) → operands_fault (info_top name) ops ≡ [] → one_of (codes "json") (operand_rows (info_top name) ops) ≡ Some (codes "false")
unfolding clap_on_literals
info_alone name [] e = absurd (some_kind _ _ e)
info_alone name (a ∷ []) e = refl
info_alone name (a ∷ b ∷ rest) e = absurd (some_kind _ _ e)

compact_named : (name : Text) (ops : List Text) → operands_fault (compact_top name) ops ≡ []
    → ops ≡ row_value (codes "STORE") (operand_rows (compact_top name) ops) ∷ []
unfolding clap_on_literals
compact_named name [] e = absurd (some_kind _ _ e)
compact_named name (a ∷ []) e = refl
compact_named name (a ∷ b ∷ rest) e = absurd (some_kind _ _ e)

-- without its option
compact_alone : (name : Text) (ops : List Text) → operands_fault (compact_top name) ops ≡ [] → first_of (codes "steps") (operand_rows (compact_top name) ops) ≡ None
unfolding clap_on_literals
compact_alone name [] e = absurd (some_kind _ _ e)
compact_alone name (a ∷ []) e = refl
compact_alone name (a ∷ b ∷ rest) e = absurd (some_kind _ _ e)

send_named : (name : Text) (ops : List Text) → operands_fault (send_top name) ops ≡ []
    → ops ≡ row_value (codes "STORE") (operand_rows (send_top name) ops) ∷ []
unfolding clap_on_literals
send_named name [] e = absurd (some_kind _ _ e)
send_named name (a ∷ []) e = refl
send_named name (a ∷ b ∷ rest) e = absurd (some_kind _ _ e)

-- without its option
send_alone : (name : Text) (ops : List Text) → operands_fault (send_top name) ops ≡ [] → first_of (codes "have") (operand_rows (send_top name) ops) ≡ None
unfolding clap_on_literals
send_alone name [] e = absurd (some_kind _ _ e)
send_alone name (a ∷ []) e = refl
send_alone name (a ∷ b ∷ rest) e = absurd (some_kind _ _ e)

receive_named : (name : Text) (ops : List Text) → operands_fault (receive_top name) ops ≡ []
    → ops ≡ row_value (codes "STORE") (operand_rows (receive_top name) ops) ∷ []
unfolding clap_on_literals
receive_named name [] e = absurd (some_kind _ _ e)
receive_named name (a ∷ []) e = refl
receive_named name (a ∷ b ∷ rest) e = absurd (some_kind _ _ e)

-- without its option
receive_alone : (name : Text) (ops : List Text) → operands_fault (receive_top name) ops ≡ []
    → one_of (codes "delete") (operand_rows (receive_top name) ops) ≡ Some (codes "false")
unfolding clap_on_literals
receive_alone name [] e = absurd (some_kind _ _ e)
receive_alone name (a ∷ []) e = refl
receive_alone name (a ∷ b ∷ rest) e = absurd (some_kind _ _ e)

table_named : (name : Text) (ops : List Text) → operands_fault (table_top name) ops ≡ []
    → ops ≡ row_value (codes "STORE") (operand_rows (table_top name) ops) ∷ row_value (codes "NAME") (operand_rows (table_top name) ops) ∷ []
unfolding clap_on_literals
table_named name [] e = absurd (some_kind _ _ e)
table_named name (a ∷ []) e = absurd (some_kind _ _ e)
table_named name (a ∷ b ∷ []) e = refl
table_named name (a ∷ b ∷ c ∷ rest) e = absurd (some_kind _ _ e)

apply_named : (name : Text) (ops : List Text) → operands_fault (apply_top name) ops ≡ []
    → ops ≡ row_value (codes "STORE") (operand_rows (apply_top name) ops) ∷ row_value (codes "SCRIPT") (operand_rows (apply_top name) ops) ∷ []
unfolding clap_on_literals
apply_named name [] e = absurd (some_kind _ _ e)
apply_named name (a ∷ []) e = absurd (some_kind _ _ e)
apply_named name (a ∷ b ∷ []) e = refl
apply_named name (a ∷ b ∷ c ∷ rest) e = absurd (some_kind _ _ e)

schema_named : (name : Text) (ops : List Text) → operands_fault (schema_top name) ops ≡ []
    → ops ≡ row_value (codes "STORE") (operand_rows (schema_top name) ops) ∷ row_value (codes "NAME") (operand_rows (schema_top name) ops) ∷ []
unfolding clap_on_literals
schema_named name [] e = absurd (some_kind _ _ e)
schema_named name (a ∷ []) e = absurd (some_kind _ _ e)
schema_named name (a ∷ b ∷ []) e = refl
schema_named name (a ∷ b ∷ c ∷ rest) e = absurd (some_kind _ _ e)

import_named : (name : Text) (ops : List Text) → operands_fault (import_top name) ops ≡ []
    → ops ≡ row_value (codes "STORE") (operand_rows (import_top name) ops) ∷ row_value (codes "NAME") (operand_rows (import_top name) ops) ∷ []
unfolding clap_on_literals
import_named name [] e = absurd (some_kind _ _ e)
import_named name (a ∷ []) e = absurd (some_kind _ _ e)
import_named name (a ∷ b ∷ []) e = refl
import_named name (a ∷ b ∷ c ∷ rest) e = absurd (some_kind _ _ e)

-- without its option
schema_alone : (name : Text) (ops : List Text) → operands_fault (schema_top name) ops ≡ [] → one_of (codes "fields") (operand_rows (schema_top name) ops) ≡ Some (codes "false")
unfolding clap_on_literals
schema_alone name [] e = absurd (some_kind _ _ e)
schema_alone name (a ∷ []) e = absurd (some_kind _ _ e)
schema_alone name (a ∷ b ∷ []) e = refl
schema_alone name (a ∷ b ∷ c ∷ rest) e = absurd (some_kind _ _ e)

-- without its options
import_alone : (name : Text) (ops : List Text) → operands_fault (import_top name) ops ≡ [] → one_of (codes "new") (operand_rows (import_top name) ops) ≡ Some (codes "false")
unfolding clap_on_literals
import_alone name [] e = absurd (some_kind _ _ e)
import_alone name (a ∷ []) e = absurd (some_kind _ _ e)
import_alone name (a ∷ b ∷ []) e = refl
import_alone name (a ∷ b ∷ c ∷ rest) e = absurd (some_kind _ _ e)

import_whole : (name : Text) (ops : List Text) → operands_fault (import_top name) ops ≡ [] → one_of (codes "complete") (operand_rows (import_top name) ops) ≡ Some (codes "false")
unfolding clap_on_literals
import_whole name [] e = absurd (some_kind _ _ e)
import_whole name (a ∷ []) e = absurd (some_kind _ _ e)
import_whole name (a ∷ b ∷ []) e = refl
import_whole name (a ∷ b ∷ c ∷ rest) e = absurd (some_kind _ _ e)

rename_named : (name : Text) (ops : List Text) → operands_fault (rename_top name) ops ≡ []
    → ops ≡ row_value (codes "STORE") (operand_rows (rename_top name) ops) ∷ row_value (codes "NAME") (operand_rows (rename_top name) ops)
    ∷ row_value (codes "NEW") (operand_rows (rename_top name) ops) ∷ []
unfolding clap_on_literals
rename_named name [] e = absurd (some_kind _ _ e)
rename_named name (a ∷ []) e = absurd (some_kind _ _ e)
rename_named name (a ∷ b ∷ []) e = absurd (some_kind _ _ e)
rename_named name (a ∷ b ∷ c ∷ []) e = refl
rename_named name (a ∷ b ∷ c ∷ d ∷ rest) e = absurd (some_kind _ _ e)

-- a file, and a number if there is one
abbrev pub AreFileAndNumber : List Text → (file : Text) → Option Text → Type 0
AreFileAndNumber ops file None = ops ≡ file ∷ []
AreFileAndNumber ops file (Some number) = ops ≡ file ∷ number ∷ []

format_named : (name : Text) (ops : List Text) → operands_fault (format_top name) ops ≡ []
    → AreFileAndNumber ops (row_value (codes "STORE") (operand_rows (format_top name) ops)) (first_of (codes "SECTORS") (operand_rows (format_top name) ops))
unfolding clap_on_literals
format_named name [] e = absurd (some_kind _ _ e)
format_named name (a ∷ []) e = refl
format_named name (a ∷ b ∷ []) e = refl
format_named name (a ∷ b ∷ c ∷ rest) e = absurd (some_kind _ _ e)

-- without its option
format_alone : (name : Text) (ops : List Text) → operands_fault (format_top name) ops ≡ []
    → first_of (codes "format-version") (operand_rows (format_top name) ops) ≡ None
unfolding clap_on_literals
format_alone name [] e = absurd (some_kind _ _ e)
format_alone name (a ∷ []) e = refl
format_alone name (a ∷ b ∷ []) e = refl
format_alone name (a ∷ b ∷ c ∷ rest) e = absurd (some_kind _ _ e)

format_over : (name : Text) (ops : List Text) → operands_fault (format_top name) ops ≡ []
    → one_of (codes "over") (operand_rows (format_top name) ops) ≡ Some (codes "false")
unfolding clap_on_literals
format_over name [] e = absurd (some_kind _ _ e)
format_over name (a ∷ []) e = refl
format_over name (a ∷ b ∷ []) e = refl
format_over name (a ∷ b ∷ c ∷ rest) e = absurd (some_kind _ _ e)

copy_named : (name : Text) (ops : List Text) → operands_fault (copy_top name) ops ≡ []
    → ops ≡ row_value (codes "STORE") (operand_rows (copy_top name) ops) ∷ row_value (codes "NEW") (operand_rows (copy_top name) ops)
    ∷ row_value (codes "SECTORS") (operand_rows (copy_top name) ops) ∷ []
unfolding clap_on_literals
copy_named name [] e = absurd (some_kind _ _ e)
copy_named name (a ∷ []) e = absurd (some_kind _ _ e)
copy_named name (a ∷ b ∷ []) e = absurd (some_kind _ _ e)
copy_named name (a ∷ b ∷ c ∷ []) e = refl
copy_named name (a ∷ b ∷ c ∷ d ∷ rest) e = absurd (some_kind _ _ e)

later_fault : (first next : Kinds) → or_else first next ≡ [] → next ≡ []
later_fault [] next e = e
later_fault (k ∷ ks) next e = absurd (some_kind k ks e)

-- the last checks, after those of the defaults
last_fault : (s : Shape) (ops : List Text) → or_else (defaults_fault (settled s.rules (operands_held s ops)).rows s.rules) (check_fault s (finished s.rules (operands_held s ops)) false) ≡ []
    → check_fault s (finished s.rules (operands_held s ops)) false ≡ []
last_fault s ops e = later_fault (defaults_fault (settled s.rules (operands_held s ops)).rows s.rules) (check_fault s (finished s.rules (operands_held s ops)) false) e

append_named : (forms dates : ValueParser) (name : Text) (ops : List Text) → operands_fault (append_top forms dates name) ops ≡ []
    → ops ≡ row_value (codes "STORE") (operand_rows (append_top forms dates name) ops) ∷ row_value (codes "NAME") (operand_rows (append_top forms dates name) ops) ∷ []
unfolding clap_on_literals
append_named forms dates name [] e = absurd (some_kind _ _ (last_fault (append_top forms dates name) [] e))
append_named forms dates name (a ∷ []) e = absurd (some_kind _ _ (last_fault (append_top forms dates name) (a ∷ []) e))
append_named forms dates name (a ∷ b ∷ []) e = refl
append_named forms dates name (a ∷ b ∷ c ∷ rest) e = absurd (some_kind _ _ e)

-- all values of an argument
abbrev row_values : Text → List Row → List Text
row_values id rows = unwrap_or (all_of id rows) []

-- the file, the table, and words without end
abbrev pub file_and_table : List Rule → Text → Text → List Row
file_and_table rules a b = (settled rules (record {
  rows = (settled rules (record { rows = []; pending = Some (codes "STORE", a ∷ []); skip = 0 })).rows;
  pending = Some (codes "NAME", b ∷ []);
  skip = 0;
})).rows

pub field_met : (name a b : Text) (vs : List Text) (c : Text) → walked (create_top name).rules [] (at (words_held (file_and_table (create_top name).rules a b) (codes "FIELD") vs) true 3 true) c
    ≡ at (words_held (file_and_table (create_top name).rules a b) (codes "FIELD") (vs ++ c ∷ [])) true 3 true
unfolding walked clap_on_literals
field_met name a b vs c = refl

pub condition_met : (dates : ValueParser) (name a b : Text) (vs : List Text) (c : Text)
    → walked (query_top dates name).rules [] (at (words_held (file_and_table (query_top dates name).rules a b) (codes "CONDITION") vs) true 3 true) c
    ≡ at (words_held (file_and_table (query_top dates name).rules a b) (codes "CONDITION") (vs ++ c ∷ [])) true 3 true
unfolding walked clap_on_literals
condition_met dates name a b vs c = refl

abbrev named_in : Shape → Text → Held → List Text
named_in s id h = row_value (codes "STORE") (finished s.rules h) ∷ row_value (codes "NAME") (finished s.rules h) ∷ row_values id (finished s.rules h)

create_named : (name : Text) (ops : List Text) → operands_fault (create_top name) ops ≡ [] → ops ≡ named_in (create_top name) (codes "FIELD") (operands_held (create_top name) ops)
unfolding walked clap_on_literals
create_named name [] e = absurd (some_kind _ _ e)
create_named name (a ∷ []) e = absurd (some_kind _ _ e)
create_named name (a ∷ b ∷ []) e = refl
create_named name (a ∷ b ∷ c ∷ rest) e =
    let s = create_top name in
    let held = words_read s (codes "FIELD") (file_and_table s.rules a b) (field_met name a b) (c ∷ []) rest in
    ap (named_in s (codes "FIELD")) (sym held)

abbrev like_in : Text → Held → Option Text
like_in name h = first_of (codes "like") (finished (create_top name).rules h)

-- without its option
create_alone : (name : Text) (ops : List Text) → operands_fault (create_top name) ops ≡ [] → like_in name (operands_held (create_top name) ops) ≡ None
unfolding walked clap_on_literals
create_alone name [] e = absurd (some_kind _ _ e)
create_alone name (a ∷ []) e = absurd (some_kind _ _ e)
create_alone name (a ∷ b ∷ []) e = refl
create_alone name (a ∷ b ∷ c ∷ rest) e =
    let s = create_top name in
    ap (like_in name) (words_read s (codes "FIELD") (file_and_table s.rules a b) (field_met name a b) (c ∷ []) rest)

query_named : (dates : ValueParser) (name : Text) (ops : List Text) → operands_fault (query_top dates name) ops ≡ []
    → ops ≡ named_in (query_top dates name) (codes "CONDITION") (operands_held (query_top dates name) ops)
unfolding walked clap_on_literals
query_named dates name [] e = absurd (some_kind _ _ e)
query_named dates name (a ∷ []) e = absurd (some_kind _ _ e)
query_named dates name (a ∷ b ∷ []) e = refl
query_named dates name (a ∷ b ∷ c ∷ rest) e =
    let s = query_top dates name in
    let held = words_read s (codes "CONDITION") (file_and_table s.rules a b) (condition_met dates name a b) (c ∷ []) rest in
    ap (named_in s (codes "CONDITION")) (sym held)

-- without options
append_stream : (forms dates : ValueParser) (name : Text) (ops : List Text) → operands_fault (append_top forms dates name) ops ≡ []
    → row_value (codes "as") (operand_rows (append_top forms dates name) ops) ≡ codes "stream"
unfolding clap_on_literals
append_stream forms dates name [] e = absurd (some_kind _ _ (last_fault (append_top forms dates name) [] e))
append_stream forms dates name (a ∷ []) e = absurd (some_kind _ _ (last_fault (append_top forms dates name) (a ∷ []) e))
append_stream forms dates name (a ∷ b ∷ []) e = refl
append_stream forms dates name (a ∷ b ∷ c ∷ rest) e = absurd (some_kind _ _ e)

append_whole : (forms dates : ValueParser) (name : Text) (ops : List Text) → operands_fault (append_top forms dates name) ops ≡ []
    → one_of (codes "complete") (operand_rows (append_top forms dates name) ops) ≡ Some (codes "false")
unfolding clap_on_literals
append_whole forms dates name [] e = absurd (some_kind _ _ (last_fault (append_top forms dates name) [] e))
append_whole forms dates name (a ∷ []) e = absurd (some_kind _ _ (last_fault (append_top forms dates name) (a ∷ []) e))
append_whole forms dates name (a ∷ b ∷ []) e = refl
append_whole forms dates name (a ∷ b ∷ c ∷ rest) e = absurd (some_kind _ _ e)

abbrev options_in : ValueParser → Text → Held → Option Text × Option Text × Option Text × Option Text × Option Text
options_in dates name h =
    let rows = finished (query_top dates name).rules h in
    (first_of (codes "columns") rows, first_of (codes "limit") rows, first_of (codes "save") rows, one_of (codes "objects") rows, first_of (codes "dates") rows)

query_alone : (dates : ValueParser) (name : Text) (ops : List Text) → operands_fault (query_top dates name) ops ≡ []
    → options_in dates name (operands_held (query_top dates name) ops) ≡ (None, None, None, Some (codes "false"), None)
unfolding walked clap_on_literals
query_alone dates name [] e = absurd (some_kind _ _ e)
query_alone dates name (a ∷ []) e = absurd (some_kind _ _ e)
query_alone dates name (a ∷ b ∷ []) e = refl
query_alone dates name (a ∷ b ∷ c ∷ rest) e =
    let s = query_top dates name in
    ap (options_in dates name) (words_read s (codes "CONDITION") (file_and_table s.rules a b) (condition_met dates name a b) (c ∷ []) rest)

-- ---- what is read of a command that was made

pub own_of : {E : Type 0} (r : Result Command E) (word : Text) (has b : Parameters) → has ≡ parameters_of word → has ≡ b
    → IfOk r (λ c. IsAppWith word b (app_of c))
    → IfOk r (λ c. IsOwnApp word (app_of c))
own_of (Ok c) word has b e is own = subst (λ (x : Parameters). IsAppWith word x (app_of c)) (sym is ∙ e) own
own_of (Err x) word has b e is own = tt

-- ---- the names that a request has

-- what was found by a parse that has succeeded
pub record Parsed (a : App) (words : List Text) (m : ArgMatches) : Type 0 where
  pub faultless : is_simple_and_free a ≡ true → fault_of a words ≡ []
  pub matches : HasMatchesOf a words m

found_value : (m : ArgMatches) (rows : List Row) (id : Text) → rows_of (found_of m) ≡ rows → row_value id rows ≡ value_of (found_of m) id
found_value m rows id e = ap (row_value id) (sym e) ∙ ap (λ (o : Option Text). unwrap_or o []) (sym (first_value-rows (found_of m) id))

pub found_first : (m : ArgMatches) (rows : List Row) (id : Text) → rows_of (found_of m) ≡ rows → first_of id rows ≡ first_value (found_of m) id
found_first m rows id e = ap (first_of id) (sym e) ∙ sym (first_value-rows (found_of m) id)

pub found_one : (m : ArgMatches) (rows : List Row) (id : Text) → rows_of (found_of m) ≡ rows → one_of id rows ≡ one_text (found_of m) id
found_one m rows id e = ap (one_of id) (sym e) ∙ sym (one_text-rows (found_of m) id)

found_values : (m : ArgMatches) (rows : List Row) (id : Text) → rows_of (found_of m) ≡ rows → row_values id rows ≡ values_of (found_of m) id
found_values m rows id e = ap (row_values id) (sym e) ∙ ap (λ (o : Option (List Text)). unwrap_or o []) (sym (raw_values-rows (found_of m) id))

-- none of the options of a query was found
pub record HasNoOption (found : Found) : Type 0 where
  pub columns : first_value found (codes "columns") ≡ None
  pub limit : first_value found (codes "limit") ≡ None
  pub save : first_value found (codes "save") ≡ None
  pub objects : one_text found (codes "objects") ≡ Some (codes "false")
  pub dates : first_value found (codes "dates") ≡ None

module _ (word : Text) (words : List Text) (m : ArgMatches) (a : App) (name : Text) (parsed : Parsed a (word ∷ words) m) where
  file_found : a ≡ file_app name → (ops : List Text) → operands words ≡ Some ops → ops ≡ value_of (found_of m) (codes "STORE") ∷ []
  unfolding clap_on_literals
  file_found is ops e =
      let reads = reads_operands (file_app name) word words ops e refl refl (file_plain name) in
      let p : Parsed (file_app name) (word ∷ words) m = subst (λ (x : App). Parsed x (word ∷ words) m) is parsed in
      let rows = (p.matches refl).0 ∙ reads.rows in
      file_named name ops (sym reads.fault ∙ p.faultless refl) ∙ ap (λ (v : Text). v ∷ []) (found_value m _ (codes "STORE") rows)

  info_found : a ≡ info_app name → (ops : List Text) → operands words ≡ Some ops
      → (ops ≡ value_of (found_of m) (codes "STORE") ∷ []) × (one_text (found_of m) (codes "json") ≡ Some (codes "false"))
  unfolding clap_on_literals
  info_found is ops e =
      let reads = reads_operands (info_app name) word words ops e refl refl (info_plain name) in
      let p : Parsed (info_app name) (word ∷ words) m = subst (λ (x : App). Parsed x (word ∷ words) m) is parsed in
      let rows = (p.matches refl).0 ∙ reads.rows in
      let faultless = sym reads.fault ∙ p.faultless refl in (
        info_named name ops faultless ∙ ap (λ (v : Text). v ∷ []) (found_value m _ (codes "STORE") rows),
        sym (found_one m _ (codes "json") rows) ∙ info_alone name ops faultless,
      )

  compact_found : a ≡ compact_app name → (ops : List Text) → operands words ≡ Some ops
      → (ops ≡ value_of (found_of m) (codes "STORE") ∷ []) × (first_value (found_of m) (codes "steps") ≡ None)
  unfolding clap_on_literals
  compact_found is ops e =
      let reads = reads_operands (compact_app name) word words ops e refl refl (compact_plain name) in
      let p : Parsed (compact_app name) (word ∷ words) m = subst (λ (x : App). Parsed x (word ∷ words) m) is parsed in
      let rows = (p.matches refl).0 ∙ reads.rows in
      let faultless = sym reads.fault ∙ p.faultless refl in (
        compact_named name ops faultless ∙ ap (λ (v : Text). v ∷ []) (found_value m _ (codes "STORE") rows),
        sym (found_first m _ (codes "steps") rows) ∙ compact_alone name ops faultless,
      )

  send_found : a ≡ send_app name → (ops : List Text) → operands words ≡ Some ops
      → (ops ≡ value_of (found_of m) (codes "STORE") ∷ []) × (first_value (found_of m) (codes "have") ≡ None)
  unfolding clap_on_literals
  send_found is ops e =
      let reads = reads_operands (send_app name) word words ops e refl refl (send_plain name) in
      let p : Parsed (send_app name) (word ∷ words) m = subst (λ (x : App). Parsed x (word ∷ words) m) is parsed in
      let rows = (p.matches refl).0 ∙ reads.rows in
      let faultless = sym reads.fault ∙ p.faultless refl in (
        send_named name ops faultless ∙ ap (λ (v : Text). v ∷ []) (found_value m _ (codes "STORE") rows),
        sym (found_first m _ (codes "have") rows) ∙ send_alone name ops faultless,
      )

  receive_found : a ≡ receive_app name → (ops : List Text) → operands words ≡ Some ops
      → (ops ≡ value_of (found_of m) (codes "STORE") ∷ []) × (one_text (found_of m) (codes "delete") ≡ Some (codes "false"))
  unfolding clap_on_literals
  receive_found is ops e =
      let reads = reads_operands (receive_app name) word words ops e refl refl (receive_plain name) in
      let p : Parsed (receive_app name) (word ∷ words) m = subst (λ (x : App). Parsed x (word ∷ words) m) is parsed in
      let rows = (p.matches refl).0 ∙ reads.rows in
      let faultless = sym reads.fault ∙ p.faultless refl in (
        receive_named name ops faultless ∙ ap (λ (v : Text). v ∷ []) (found_value m _ (codes "STORE") rows),
        sym (found_one m _ (codes "delete") rows) ∙ receive_alone name ops faultless,
      )

  table_found : a ≡ table_app name → (ops : List Text) → operands words ≡ Some ops
      → ops ≡ value_of (found_of m) (codes "STORE") ∷ value_of (found_of m) (codes "NAME") ∷ []
  unfolding clap_on_literals
  table_found is ops e =
      let reads = reads_operands (table_app name) word words ops e refl refl (table_plain name) in
      let p : Parsed (table_app name) (word ∷ words) m = subst (λ (x : App). Parsed x (word ∷ words) m) is parsed in
      let rows = (p.matches refl).0 ∙ reads.rows in
      table_named name ops (sym reads.fault ∙ p.faultless refl)
      ∙ (λ i. found_value m _ (codes "STORE") rows i ∷ found_value m _ (codes "NAME") rows i ∷ [])

  apply_found : a ≡ apply_app name → (ops : List Text) → operands words ≡ Some ops
      → ops ≡ value_of (found_of m) (codes "STORE") ∷ value_of (found_of m) (codes "SCRIPT") ∷ []
  unfolding clap_on_literals
  apply_found is ops e =
      let reads = reads_operands (apply_app name) word words ops e refl refl (apply_plain name) in
      let p : Parsed (apply_app name) (word ∷ words) m = subst (λ (x : App). Parsed x (word ∷ words) m) is parsed in
      let rows = (p.matches refl).0 ∙ reads.rows in
      apply_named name ops (sym reads.fault ∙ p.faultless refl)
      ∙ (λ i. found_value m _ (codes "STORE") rows i ∷ found_value m _ (codes "SCRIPT") rows i ∷ [])

  schema_found : a ≡ schema_app name → (ops : List Text) → operands words ≡ Some ops
      → (ops ≡ value_of (found_of m) (codes "STORE") ∷ value_of (found_of m) (codes "NAME") ∷ []) × (one_text (found_of m) (codes "fields") ≡ Some (codes "false"))
  unfolding clap_on_literals
  schema_found is ops e =
      let reads = reads_operands (schema_app name) word words ops e refl refl (schema_plain name) in
      let p : Parsed (schema_app name) (word ∷ words) m = subst (λ (x : App). Parsed x (word ∷ words) m) is parsed in
      let rows = (p.matches refl).0 ∙ reads.rows in
      let faultless = sym reads.fault ∙ p.faultless refl in (
        schema_named name ops faultless ∙ (λ i. found_value m _ (codes "STORE") rows i ∷ found_value m _ (codes "NAME") rows i ∷ []),
        sym (found_one m _ (codes "fields") rows) ∙ schema_alone name ops faultless,
      )

  import_found : a ≡ import_app name → (ops : List Text) → operands words ≡ Some ops
      → (ops ≡ value_of (found_of m) (codes "STORE") ∷ value_of (found_of m) (codes "NAME") ∷ []) × (one_text (found_of m) (codes "new") ≡ Some (codes "false"))
      × (one_text (found_of m) (codes "complete") ≡ Some (codes "false"))
  unfolding clap_on_literals
  import_found is ops e =
      let reads = reads_operands (import_app name) word words ops e refl refl (import_plain name) in
      let p : Parsed (import_app name) (word ∷ words) m = subst (λ (x : App). Parsed x (word ∷ words) m) is parsed in
      let rows = (p.matches refl).0 ∙ reads.rows in
      let faultless = sym reads.fault ∙ p.faultless refl in (
        import_named name ops faultless ∙ (λ i. found_value m _ (codes "STORE") rows i ∷ found_value m _ (codes "NAME") rows i ∷ []),
        sym (found_one m _ (codes "new") rows) ∙ import_alone name ops faultless,
        sym (found_one m _ (codes "complete") rows) ∙ import_whole name ops faultless,
      )

  rename_found : a ≡ rename_app name → (ops : List Text) → operands words ≡ Some ops
      → ops ≡ value_of (found_of m) (codes "STORE") ∷ value_of (found_of m) (codes "NAME") ∷ value_of (found_of m) (codes "NEW") ∷ []
  unfolding clap_on_literals
  rename_found is ops e =
      let reads = reads_operands (rename_app name) word words ops e refl refl (rename_plain name) in
      let p : Parsed (rename_app name) (word ∷ words) m = subst (λ (x : App). Parsed x (word ∷ words) m) is parsed in
      let rows = (p.matches refl).0 ∙ reads.rows in
      rename_named name ops (sym reads.fault ∙ p.faultless refl)
      ∙ (λ i. found_value m _ (codes "STORE") rows i ∷ found_value m _ (codes "NAME") rows i ∷ found_value m _ (codes "NEW") rows i ∷ [])

  format_found : a ≡ format_app name → (ops : List Text) → operands words ≡ Some ops
      → AreFileAndNumber ops (value_of (found_of m) (codes "STORE")) (first_value (found_of m) (codes "SECTORS"))
  unfolding clap_on_literals
  format_found is ops e =
      let reads = reads_operands (format_app name) word words ops e refl refl (format_plain name) in
      let p : Parsed (format_app name) (word ∷ words) m = subst (λ (x : App). Parsed x (word ∷ words) m) is parsed in
      let rows = (p.matches refl).0 ∙ reads.rows in
      subst₂ (AreFileAndNumber ops) (found_value m _ (codes "STORE") rows) (found_first m _ (codes "SECTORS") rows)
      (format_named name ops (sym reads.fault ∙ p.faultless refl))

  format_default : a ≡ format_app name → (ops : List Text) → operands words ≡ Some ops → first_value (found_of m) (codes "format-version") ≡ None
  unfolding clap_on_literals
  format_default is ops e =
      let reads = reads_operands (format_app name) word words ops e refl refl (format_plain name) in
      let p : Parsed (format_app name) (word ∷ words) m = subst (λ (x : App). Parsed x (word ∷ words) m) is parsed in
      let rows = (p.matches refl).0 ∙ reads.rows in
      sym (found_first m _ (codes "format-version") rows) ∙ format_alone name ops (sym reads.fault ∙ p.faultless refl)

  format_keeps : a ≡ format_app name → (ops : List Text) → operands words ≡ Some ops → one_text (found_of m) (codes "over") ≡ Some (codes "false")
  unfolding clap_on_literals
  format_keeps is ops e =
      let reads = reads_operands (format_app name) word words ops e refl refl (format_plain name) in
      let p : Parsed (format_app name) (word ∷ words) m = subst (λ (x : App). Parsed x (word ∷ words) m) is parsed in
      let rows = (p.matches refl).0 ∙ reads.rows in
      sym (found_one m _ (codes "over") rows) ∙ format_over name ops (sym reads.fault ∙ p.faultless refl)

  copy_found : a ≡ copy_app name → (ops : List Text) → operands words ≡ Some ops
      → ops ≡ value_of (found_of m) (codes "STORE") ∷ value_of (found_of m) (codes "NEW") ∷ value_of (found_of m) (codes "SECTORS") ∷ []
  unfolding clap_on_literals
  copy_found is ops e =
      let reads = reads_operands (copy_app name) word words ops e refl refl (copy_plain name) in
      let p : Parsed (copy_app name) (word ∷ words) m = subst (λ (x : App). Parsed x (word ∷ words) m) is parsed in
      let rows = (p.matches refl).0 ∙ reads.rows in
      copy_named name ops (sym reads.fault ∙ p.faultless refl)
      ∙ (λ i. found_value m _ (codes "STORE") rows i ∷ found_value m _ (codes "NEW") rows i ∷ found_value m _ (codes "SECTORS") rows i ∷ [])

  append_found : (forms dates : ValueParser) → a ≡ append_app forms dates name → (ops : List Text) → operands words ≡ Some ops
      → ops ≡ value_of (found_of m) (codes "STORE") ∷ value_of (found_of m) (codes "NAME") ∷ []
  unfolding clap_on_literals
  append_found forms dates is ops e =
      let reads = reads_operands (append_app forms dates name) word words ops e refl refl (append_plain forms dates name) in
      let p : Parsed (append_app forms dates name) (word ∷ words) m = subst (λ (x : App). Parsed x (word ∷ words) m) is parsed in
      let rows = (p.matches refl).0 ∙ reads.rows in
      append_named forms dates name ops (sym reads.fault ∙ p.faultless refl)
      ∙ (λ i. found_value m _ (codes "STORE") rows i ∷ found_value m _ (codes "NAME") rows i ∷ [])

  create_found : a ≡ create_app name → (ops : List Text) → operands words ≡ Some ops
      → ops ≡ value_of (found_of m) (codes "STORE") ∷ value_of (found_of m) (codes "NAME") ∷ values_of (found_of m) (codes "FIELD")
  unfolding clap_on_literals
  create_found is ops e =
      let reads = reads_operands (create_app name) word words ops e refl refl (create_plain name) in
      let p : Parsed (create_app name) (word ∷ words) m = subst (λ (x : App). Parsed x (word ∷ words) m) is parsed in
      let rows = (p.matches refl).0 ∙ reads.rows in
      create_named name ops (sym reads.fault ∙ p.faultless refl)
      ∙ (λ i. found_value m _ (codes "STORE") rows i ∷ found_value m _ (codes "NAME") rows i ∷ found_values m _ (codes "FIELD") rows i)

  create_default : a ≡ create_app name → (ops : List Text) → operands words ≡ Some ops → first_value (found_of m) (codes "like") ≡ None
  unfolding clap_on_literals
  create_default is ops e =
      let reads = reads_operands (create_app name) word words ops e refl refl (create_plain name) in
      let p : Parsed (create_app name) (word ∷ words) m = subst (λ (x : App). Parsed x (word ∷ words) m) is parsed in
      let rows = (p.matches refl).0 ∙ reads.rows in
      sym (found_first m _ (codes "like") rows) ∙ create_alone name ops (sym reads.fault ∙ p.faultless refl)

  query_found : (dates : ValueParser) → a ≡ query_app dates name → (ops : List Text) → operands words ≡ Some ops
      → ops ≡ value_of (found_of m) (codes "STORE") ∷ value_of (found_of m) (codes "NAME") ∷ values_of (found_of m) (codes "CONDITION")
  unfolding clap_on_literals
  query_found dates is ops e =
      let reads = reads_operands (query_app dates name) word words ops e refl refl (query_plain dates name) in
      let p : Parsed (query_app dates name) (word ∷ words) m = subst (λ (x : App). Parsed x (word ∷ words) m) is parsed in
      let rows = (p.matches refl).0 ∙ reads.rows in
      query_named dates name ops (sym reads.fault ∙ p.faultless refl)
      ∙ (λ i. found_value m _ (codes "STORE") rows i ∷ found_value m _ (codes "NAME") rows i ∷ found_values m _ (codes "CONDITION") rows i)

  append_default : (forms dates : ValueParser) → a ≡ append_app forms dates name → (ops : List Text) → operands words ≡ Some ops → value_of (found_of m) (codes "as") ≡ codes "stream"
  unfolding clap_on_literals
  append_default forms dates is ops e =
      let reads = reads_operands (append_app forms dates name) word words ops e refl refl (append_plain forms dates name) in
      let p : Parsed (append_app forms dates name) (word ∷ words) m = subst (λ (x : App). Parsed x (word ∷ words) m) is parsed in
      let rows = (p.matches refl).0 ∙ reads.rows in
      sym (found_value m _ (codes "as") rows) ∙ append_stream forms dates name ops (sym reads.fault ∙ p.faultless refl)

  append_unasked : (forms dates : ValueParser) → a ≡ append_app forms dates name → (ops : List Text) → operands words ≡ Some ops
      → one_text (found_of m) (codes "complete") ≡ Some (codes "false")
  unfolding clap_on_literals
  append_unasked forms dates is ops e =
      let reads = reads_operands (append_app forms dates name) word words ops e refl refl (append_plain forms dates name) in
      let p : Parsed (append_app forms dates name) (word ∷ words) m = subst (λ (x : App). Parsed x (word ∷ words) m) is parsed in
      let rows = (p.matches refl).0 ∙ reads.rows in
      sym (found_one m _ (codes "complete") rows) ∙ append_whole forms dates name ops (sym reads.fault ∙ p.faultless refl)

  query_options : (dates : ValueParser) → a ≡ query_app dates name → (ops : List Text) → operands words ≡ Some ops → HasNoOption (found_of m)
  unfolding clap_on_literals
  query_options dates is ops e =
      let reads = reads_operands (query_app dates name) word words ops e refl refl (query_plain dates name) in
      let p : Parsed (query_app dates name) (word ∷ words) m = subst (λ (x : App). Parsed x (word ∷ words) m) is parsed in
      let rows = (p.matches refl).0 ∙ reads.rows in
      let none = query_alone dates name ops (sym reads.fault ∙ p.faultless refl) in
      record {
        columns = sym (found_first m _ (codes "columns") rows) ∙ (λ i. (none i).0);
        limit = sym (found_first m _ (codes "limit") rows) ∙ (λ i. (none i).1);
        save = sym (found_first m _ (codes "save") rows) ∙ (λ i. (none i).2);
        objects = sym (found_one m _ (codes "objects") rows) ∙ (λ i. (none i).3);
        dates = sym (found_first m _ (codes "dates") rows) ∙ (λ i. (none i).4);
      }

-- dates are numbers where nothing is said of them
numbers_left : (found : Found) (dates : DateForm) → HasDates found dates → first_value found (codes "dates") ≡ None → dates ≡ Numbers
numbers_left found Numbers has none = refl
numbers_left found Iso has none =
    let left : value_of found (codes "dates") ≡ [] = ap (λ (o : Option Text). unwrap_or o []) none in
    absurd (true≢false (ap (λ (t : Text). bytes_eq t (codes "iso")) (sym has ∙ left)))

-- a number that is asked for is the second operand
with_number : (ops : List Text) (file : Text) (o : Option Text) (sectors : ℕ) → AreFileAndNumber ops file o → IsNumber (unwrap_or o []) sectors
    → (number : Text) × (ops ≡ file ∷ number ∷ []) × IsNumber number sectors
unfolding is_number
with_number ops file None sectors are is = absurd (true≢false (sym is.0))
with_number ops file (Some number) sectors are is = (number, are, is)

left_out : (o : Option Text) → option_map (digits_value 10) o ≡ None → o ≡ None
left_out None e = refl
left_out (Some t) e = absurd (none-some (digits_value 10 t) (sym e))

no_text : (o : Option (Bor Text)) → option_map (λ s. s.now) o ≡ None → o ≡ None
no_text None e = refl
no_text (Some t) e = absurd (none-some t.now (sym e))

if_some : (o : Option (List Text)) (P : List Text → Type 0) → ((ops : List Text) → o ≡ Some ops → P ops) → IfSome o P
if_some None P h = tt
if_some (Some ops) P h = h ops refl

module _ (word : Text) (words : List Text) (m : ArgMatches) (a : App) (own : IsOwnApp word a) (parsed : Parsed a (word ∷ words) m) where
  names_file_only : parameters_of word ≡ parameters.Nothing → (ops : List Text) → operands words ≡ Some ops → ops ≡ value_of (found_of m) (codes "STORE") ∷ []
  names_file_only is ops e = file_found word words m a word parsed (subst (λ (b : Parameters). IsAppWith word b a) is own) ops e

  names_form : parameters_of word ≡ parameters.FileAndForm → (ops : List Text) → operands words ≡ Some ops
      → (ops ≡ value_of (found_of m) (codes "STORE") ∷ []) × (one_text (found_of m) (codes "json") ≡ Some (codes "false"))
  names_form is ops e = info_found word words m a word parsed (subst (λ (b : Parameters). IsAppWith word b a) is own) ops e

  pub names_steps : parameters_of word ≡ parameters.FileAndSteps → (ops : List Text) → operands words ≡ Some ops
      → (ops ≡ value_of (found_of m) (codes "STORE") ∷ []) × (first_value (found_of m) (codes "steps") ≡ None)
  names_steps is ops e = compact_found word words m a word parsed (subst (λ (b : Parameters). IsAppWith word b a) is own) ops e

  names_digests : parameters_of word ≡ parameters.FileAndDigests → (ops : List Text) → operands words ≡ Some ops
      → (ops ≡ value_of (found_of m) (codes "STORE") ∷ []) × (first_value (found_of m) (codes "have") ≡ None)
  names_digests is ops e = send_found word words m a word parsed (subst (λ (b : Parameters). IsAppWith word b a) is own) ops e

  names_deletion : parameters_of word ≡ parameters.FileAndDeletion → (ops : List Text) → operands words ≡ Some ops
      → (ops ≡ value_of (found_of m) (codes "STORE") ∷ []) × (one_text (found_of m) (codes "delete") ≡ Some (codes "false"))
  names_deletion is ops e = receive_found word words m a word parsed (subst (λ (b : Parameters). IsAppWith word b a) is own) ops e

  names_one_table : parameters_of word ≡ parameters.Table → (ops : List Text) → operands words ≡ Some ops
      → ops ≡ value_of (found_of m) (codes "STORE") ∷ value_of (found_of m) (codes "NAME") ∷ []
  names_one_table is ops e = table_found word words m a word parsed (subst (λ (b : Parameters). IsAppWith word b a) is own) ops e

  names_script : parameters_of word ≡ parameters.Script → (ops : List Text) → operands words ≡ Some ops
      → ops ≡ value_of (found_of m) (codes "STORE") ∷ value_of (found_of m) (codes "SCRIPT") ∷ []
  names_script is ops e = apply_found word words m a word parsed (subst (λ (b : Parameters). IsAppWith word b a) is own) ops e

  names_schema : parameters_of word ≡ parameters.TableToDescribe → (ops : List Text) → operands words ≡ Some ops
      → (ops ≡ value_of (found_of m) (codes "STORE") ∷ value_of (found_of m) (codes "NAME") ∷ []) × (one_text (found_of m) (codes "fields") ≡ Some (codes "false"))
  names_schema is ops e = schema_found word words m a word parsed (subst (λ (b : Parameters). IsAppWith word b a) is own) ops e

  names_import : parameters_of word ≡ parameters.TableToImport → (ops : List Text) → operands words ≡ Some ops
      → (ops ≡ value_of (found_of m) (codes "STORE") ∷ value_of (found_of m) (codes "NAME") ∷ []) × (one_text (found_of m) (codes "new") ≡ Some (codes "false"))
      × (one_text (found_of m) (codes "complete") ≡ Some (codes "false"))
  names_import is ops e = import_found word words m a word parsed (subst (λ (b : Parameters). IsAppWith word b a) is own) ops e

  names_two : parameters_of word ≡ parameters.TableAndNewName → (ops : List Text) → operands words ≡ Some ops
      → ops ≡ value_of (found_of m) (codes "STORE") ∷ value_of (found_of m) (codes "NAME") ∷ value_of (found_of m) (codes "NEW") ∷ []
  names_two is ops e = rename_found word words m a word parsed (subst (λ (b : Parameters). IsAppWith word b a) is own) ops e

  pub names_sectors : parameters_of word ≡ parameters.Sectors → (ops : List Text) → operands words ≡ Some ops
      → AreFileAndNumber ops (value_of (found_of m) (codes "STORE")) (first_value (found_of m) (codes "SECTORS"))
  names_sectors is ops e = format_found word words m a word parsed (subst (λ (b : Parameters). IsAppWith word b a) is own) ops e

  pub asks_newest : parameters_of word ≡ parameters.Sectors → (ops : List Text) → operands words ≡ Some ops → first_value (found_of m) (codes "format-version") ≡ None
  asks_newest is ops e = format_default word words m a word parsed (subst (λ (b : Parameters). IsAppWith word b a) is own) ops e

  asks_to_keep : parameters_of word ≡ parameters.Sectors → (ops : List Text) → operands words ≡ Some ops
      → one_text (found_of m) (codes "over") ≡ Some (codes "false")
  asks_to_keep is ops e = format_keeps word words m a word parsed (subst (λ (b : Parameters). IsAppWith word b a) is own) ops e

  pub names_new_store : parameters_of word ≡ parameters.NewStore → (ops : List Text) → operands words ≡ Some ops
      → ops ≡ value_of (found_of m) (codes "STORE") ∷ value_of (found_of m) (codes "NEW") ∷ value_of (found_of m) (codes "SECTORS") ∷ []
  names_new_store is ops e = copy_found word words m a word parsed (subst (λ (b : Parameters). IsAppWith word b a) is own) ops e

  names_rows : parameters_of word ≡ parameters.TableAndRows → (ops : List Text) → operands words ≡ Some ops
      → ops ≡ value_of (found_of m) (codes "STORE") ∷ value_of (found_of m) (codes "NAME") ∷ []
  names_rows is ops e =
      let own_app = subst (λ (b : Parameters). IsAppWith word b a) is own in
      append_found word words m a word parsed own_app.0 own_app.2 own_app.4 ops e

  names_fields : parameters_of word ≡ parameters.TableAndFields → (ops : List Text) → operands words ≡ Some ops
      → ops ≡ value_of (found_of m) (codes "STORE") ∷ value_of (found_of m) (codes "NAME") ∷ values_of (found_of m) (codes "FIELD")
  names_fields is ops e = create_found word words m a word parsed (subst (λ (b : Parameters). IsAppWith word b a) is own) ops e

  pub asks_own_fields : parameters_of word ≡ parameters.TableAndFields → (ops : List Text) → operands words ≡ Some ops → first_value (found_of m) (codes "like") ≡ None
  asks_own_fields is ops e = create_default word words m a word parsed (subst (λ (b : Parameters). IsAppWith word b a) is own) ops e

  names_conditions : parameters_of word ≡ parameters.TableAndQuery → (ops : List Text) → operands words ≡ Some ops
      → ops ≡ value_of (found_of m) (codes "STORE") ∷ value_of (found_of m) (codes "NAME") ∷ values_of (found_of m) (codes "CONDITION")
  names_conditions is ops e =
      let own_app = subst (λ (b : Parameters). IsAppWith word b a) is own in
      query_found word words m a word parsed own_app.0 own_app.2 ops e

  asks_stream : parameters_of word ≡ parameters.TableAndRows → (ops : List Text) → operands words ≡ Some ops → bytes_eq (value_of (found_of m) (codes "as")) (codes "stream") ≡ false → ⊥
  asks_stream is ops e other =
      let own_app = subst (λ (b : Parameters). IsAppWith word b a) is own in
      true≢false (ap (λ (form : Text). bytes_eq form (codes "stream")) (sym (append_default word words m a word parsed own_app.0 own_app.2 own_app.4 ops e)) ∙ other)

  pub asks_no_end : parameters_of word ≡ parameters.TableAndRows → (ops : List Text) → operands words ≡ Some ops
      → one_text (found_of m) (codes "complete") ≡ Some (codes "false")
  asks_no_end is ops e =
      let own_app = subst (λ (b : Parameters). IsAppWith word b a) is own in
      append_unasked word words m a word parsed own_app.0 own_app.2 own_app.4 ops e

  pub asks_all : parameters_of word ≡ parameters.TableAndQuery → (ops : List Text) → operands words ≡ Some ops → HasNoOption (found_of m)
  asks_all is ops e =
      let own_app = subst (λ (b : Parameters). IsAppWith word b a) is own in
      query_options word words m a word parsed own_app.0 own_app.2 ops e

  of_word : (w : Text) (b : Parameters) → w ≡ word → parameters_of w ≡ b → parameters_of word ≡ b
  of_word w b is e = subst (λ (x : Text). parameters_of x ≡ b) is e

  named : (request : StoreRequest) → ((ops : List Text) → operands words ≡ Some ops → IsNamedBy request ops) → IfSome (operands words) (IsNamedBy request)
  named request h = if_some (operands words) (IsNamedBy request) h

  pub names_command : (request : StoreRequest) → request_word request ≡ word → HasFound (found_of m) request → IfSome (operands words) (IsNamedBy request)
  unfolding IsNamedBy names_file names_table other_parameters parameters_of
  names_command (requests.Format file sectors version) is found =
      named (requests.Format file sectors version)
      (λ ops e.
      let taken = of_word (codes "format") parameters.Sectors is refl in
      let named = with_number ops _ (first_value (found_of m) (codes "SECTORS")) sectors (names_sectors taken ops e) found.1 in
      (named.0, named.1 ∙ ap (λ (f : Text). f ∷ named.0 ∷ []) (sym found.0), named.2, found.2.1 ∙ ap version_named (asks_newest taken ops e)))
  names_command (requests.FormatDevice file sectors over version) is found =
      named (requests.FormatDevice file sectors over version)
      (λ ops e.
      let taken = of_word (codes "format") parameters.Sectors is refl in
      let kept = found.3.left_out (asks_to_keep taken ops e) in
      let none : sectors ≡ None = elim found.4 [ inl none ↦ none | inr overwrites ↦ absurd (true≢false (sym overwrites ∙ kept)) ] in
      let no_word = left_out _ (sym found.1.1 ∙ none) in (
        subst (AreFileAndNumber ops (value_of (found_of m) (codes "STORE"))) no_word (names_sectors taken ops e) ∙ ap (λ (f : Text). f ∷ []) (sym found.0),
        none,
        kept,
        found.2.1 ∙ ap version_named (asks_newest taken ops e),
      ))
  names_command (requests.Copy file new sectors) is found =
      named (requests.Copy file new sectors)
      (λ ops e. (
        value_of (found_of m) (codes "SECTORS"),
        names_new_store (of_word (codes "copy") parameters.NewStore is refl) ops e
            ∙ (λ i. sym found.0 i ∷ sym found.1 i ∷ value_of (found_of m) (codes "SECTORS") ∷ []),
        found.2,
      ))
  names_command (requests.Salvage file name) is found =
      named (requests.Salvage file name)
      (λ ops e. names_one_table (of_word (codes "salvage") parameters.Table is refl) ops e ∙ (λ i. sym found.0 i ∷ sym found.1 i ∷ []))
  names_command (requests.Apply file script) is found =
      named (requests.Apply file script)
      (λ ops e. names_script (of_word (codes "apply") parameters.Script is refl) ops e ∙ (λ i. sym found.0 i ∷ sym found.1 i ∷ []))
  names_command (requests.Send file have) is found =
      named (requests.Send file have)
      (λ ops e.
      let has = names_digests (of_word (codes "send") parameters.FileAndDigests is refl) ops e in
      (has.0 ∙ ap (λ (v : Text). v ∷ []) (sym found.0), no_text have (found.1 ∙ has.1)))
  names_command (requests.Receive file delete) is found =
      named (requests.Receive file delete)
      (λ ops e.
      let has = names_deletion (of_word (codes "receive") parameters.FileAndDeletion is refl) ops e in
      (has.0 ∙ ap (λ (v : Text). v ∷ []) (sym found.0), found.1.left_out has.1))
  names_command (requests.Replay script) is found = named (requests.Replay script) (λ ops e. tt)
  names_command (requests.Command file commands.Tables) is found =
      named (requests.Command file commands.Tables)
      (λ ops e. (names_file_only (of_word (codes "tables") parameters.Nothing is refl) ops e ∙ ap (λ (v : Text). v ∷ []) (sym found.0), tt))
  names_command (requests.Command file commands.Check) is found =
      named (requests.Command file commands.Check)
      (λ ops e. (names_file_only (of_word (codes "check") parameters.Nothing is refl) ops e ∙ ap (λ (v : Text). v ∷ []) (sym found.0), tt))
  names_command (requests.Command file commands.Have) is found =
      named (requests.Command file commands.Have)
      (λ ops e. (names_file_only (of_word (codes "have") parameters.Nothing is refl) ops e ∙ ap (λ (v : Text). v ∷ []) (sym found.0), tt))
  names_command (requests.Command file (commands.Compact steps)) is found =
      named (requests.Command file (commands.Compact steps))
      (λ ops e.
      let has = names_steps (of_word (codes "compact") parameters.FileAndSteps is refl) ops e in
      (has.0 ∙ ap (λ (v : Text). v ∷ []) (sym found.0), found.1.1 ∙ ap (option_map (digits_value 10)) has.1))
  names_command (requests.Command file (commands.Import name)) is found =
      named (requests.Command file (commands.Import name))
      (λ ops e. ((names_import (of_word (codes "import") parameters.TableToImport is refl) ops e).0 ∙ (λ i. sym found.0 i ∷ sym found.1.0 i ∷ []), tt))
  names_command (requests.Command file (commands.ImportNew name)) is found =
      named (requests.Command file (commands.ImportNew name))
      (λ ops e. absurd (true≢false (found.1.1.left_out (names_import (of_word (codes "import") parameters.TableToImport is refl) ops e).1)))
  names_command (requests.Command file (commands.ImportComplete name is_new)) is found =
      named (requests.Command file (commands.ImportComplete name is_new))
      (λ ops e. absurd (true≢false (found.1.2.left_out (names_import (of_word (codes "import") parameters.TableToImport is refl) ops e).2)))
  names_command (requests.Command file (commands.Drop name)) is found =
      named (requests.Command file (commands.Drop name))
      (λ ops e. (names_one_table (of_word (codes "drop") parameters.Table is refl) ops e ∙ (λ i. sym found.0 i ∷ sym found.1 i ∷ []), tt))
  names_command (requests.Command file (commands.Schema name)) is found =
      named (requests.Command file (commands.Schema name))
      (λ ops e. ((names_schema (of_word (codes "schema") parameters.TableToDescribe is refl) ops e).0 ∙ (λ i. sym found.0 i ∷ sym found.1.0 i ∷ []), tt))
  names_command (requests.Command file (commands.SchemaFields name)) is found =
      named (requests.Command file (commands.SchemaFields name))
      (λ ops e. absurd (true≢false (found.1.1.left_out (names_schema (of_word (codes "schema") parameters.TableToDescribe is refl) ops e).1)))
  names_command (requests.Command file (commands.Export name)) is found =
      named (requests.Command file (commands.Export name))
      (λ ops e. (names_one_table (of_word (codes "export") parameters.Table is refl) ops e ∙ (λ i. sym found.0 i ∷ sym found.1 i ∷ []), tt))
  names_command (requests.Command file commands.Upgrade) is found =
      named (requests.Command file commands.Upgrade)
      (λ ops e. (names_file_only (of_word (codes "upgrade") parameters.Nothing is refl) ops e ∙ ap (λ (v : Text). v ∷ []) (sym found.0), tt))
  names_command (requests.Command file (commands.Info as_json)) is found =
      named (requests.Command file (commands.Info as_json))
      (λ ops e.
      let has = names_form (of_word (codes "info") parameters.FileAndForm is refl) ops e in
      (has.0 ∙ ap (λ (v : Text). v ∷ []) (sym found.0), found.1.left_out has.1))
  names_command (requests.Command file (commands.Rename from to)) is found =
      named (requests.Command file (commands.Rename from to))
      (λ ops e. (
        names_two (of_word (codes "rename") parameters.TableAndNewName is refl) ops e
            ∙ (λ i. sym found.0 i ∷ sym found.1.0 i ∷ sym found.1.1 i ∷ []),
        tt,
      ))
  names_command (requests.Command file (commands.Create name fields)) is found =
      named (requests.Command file (commands.Create name fields))
      (λ ops e. (
        names_fields (of_word (codes "create") parameters.TableAndFields is refl) ops e
            ∙ (λ i. sym found.0 i ∷ sym found.1.0 i ∷ sym found.1.1 i),
        tt,
      ))
  names_command (requests.Command file (commands.CreateLike name like)) is found =
      named (requests.Command file (commands.CreateLike name like))
      (λ ops e.
      let none = asks_own_fields (of_word (codes "create") parameters.TableAndFields is refl) ops e in
      absurd (none-some like.now (sym none ∙ sym found.1.1)))
  names_command (requests.Command file (commands.Append name)) is found =
      named (requests.Command file (commands.Append name))
      (λ ops e. (names_rows (of_word (codes "append") parameters.TableAndRows is refl) ops e ∙ (λ i. sym found.0 i ∷ sym found.1.0 i ∷ []), tt))
  names_command (requests.Command file (commands.AppendComplete name)) is found =
      named (requests.Command file (commands.AppendComplete name))
      (λ ops e. absurd (true≢false (found.1.2.left_out (asks_no_end (of_word (codes "append") parameters.TableAndRows is refl) ops e))))
  names_command (requests.Command file (commands.AppendText name form)) is found =
      named (requests.Command file (commands.AppendText name form))
      (λ ops e. absurd (asks_stream (of_word (codes "append") parameters.TableAndRows is refl) ops e found.1.1))
  names_command (requests.Command file (commands.Query name query shape)) is found =
      named (requests.Command file (commands.Query name query shape))
      (λ ops e.
      let taken = of_word (codes "query") parameters.TableAndQuery is refl in
      let none = asks_all taken ops e in
      let has = found.1.1 in (
        names_conditions taken ops e ∙ (λ i. sym found.0 i ∷ sym found.1.0 i ∷ sym has.conditions i),
        (no_text query.columns (has.columns ∙ none.columns), has.limit.1 ∙ ap (option_map (digits_value 10)) none.limit, numbers_left (found_of m) query.dates has.dates none.dates, found.1.2.arrays none.objects),
      ))
  names_command (requests.Command file (commands.SaveAs from to query)) is found =
      named (requests.Command file (commands.SaveAs from to query))
      (λ ops e.
      let none = asks_all (of_word (codes "query") parameters.TableAndQuery is refl) ops e in
      absurd (none-some to.now (sym none.save ∙ sym found.1.1)))

-- ---- the arguments of the program

pub names_arguments : (args : List Text) (word : Text) (words : List Text) (m : ArgMatches) (a : App) (request : StoreRequest) → is_of_store args ≡ true
    → word ≡ first_word args
    → words ≡ drop 1 args → IsOwnApp word a → Parsed a words m → request_word request ≡ word → HasFound (found_of m) request → Names args request
unfolding is_of_store first_word
names_arguments [] word words m a request of_store first after own parsed asks found = absurd (true≢false (sym of_store))
names_arguments (name ∷ []) word words m a request of_store first after own parsed asks found = absurd (true≢false (sym of_store))
names_arguments (name ∷ w ∷ rest) word words m a request of_store first after own parsed asks found =
    let same : words ≡ word ∷ rest = after ∙ ap (λ (x : Text). x ∷ rest) (sym first) in
    names_command word rest m a own (subst (λ (ws : List Text). Parsed a ws m) same parsed) request asks found

pub named_result : {E : Type 0} (args : List Text) (word : Text) (words : List Text) (m : ArgMatches) (a : App) (r : Result StoreRequest E)
    → is_of_store args ≡ true → word ≡ first_word args
    → words ≡ drop 1 args → IsOwnApp word a → (is_simple_and_free a ≡ true → fault_of a words ≡ []) → HasMatchesOf a words m
    → (is_store_word word ≡ true → IfOk r (λ request. request_word request ≡ word)) → IfOk r (HasFound (found_of m)) → IfOk r (Names args)
named_result args word words m a (Ok request) of_store first after own faultless matches asks found =
    let is = subst (λ (w : Text). is_store_word w ≡ true) (sym first) (first_of_store args of_store) in
    names_arguments args word words m a request of_store first after own (record { faultless = faultless; matches = matches }) (asks is) found
named_result args word words m a (Err e) of_store first after own faultless matches asks found = tt
