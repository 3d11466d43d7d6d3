-- What `clap` makes of the arguments that ask for `recode`, and of those that it refuses.
use Rattle.std.proofs.Common.{◌≡◌, ◌⊎◌, ◌∙◌, List, [], ◌∷◌, Option, Some, None, option_map, codes, true, false, refl, ap, sym, subst, inl, inr, true≢false, arith}
use Rattle.std.specs.Prelude.{Box}
use Rattle.std.specs.Box.{box_value}
use Rattle.clap.specs.Words.{App, Text, HasMatchesOf, subcommand_of, subcommand_name_of, takes, is_simple, fault_of, is_simple_and_free, IsAmong}
use Rattle.clap.specs.Simple.{subcommand_rows}
use Rattle.clap.specs.declared.error.kind.ErrorKind.{ErrorKind}
use Rattle.clap.specs.declared.error.kind.ErrorKind.TheVariants.{OutOfMemory}
use Rattle.clap.specs.declared.parser.matches.ArgMatches.{ArgMatches}
use Rattle.clap.specs.declared.parser.matches.ArgMatches.TheViews.{out-ArgMatches, out-SubCommand}
use Rattle.clap.specs.declared.parser.matches.SubCommand.{SubCommand}
use Rattle.clap.proofs.OnLiterals.{clap_on_literals}
use Rattle.arrowstore.specs.Arguments.{program_command, have_extra_words, AreRecode, AskForHelp}
use Rattle.cli_reports.specs.declared.status.Status.{Status}
use Rattle.cli_reports.specs.declared.status.Status.TheVariants.{Done}
use Rattle.cli_reports.specs.Reported.{IsRequest, IsWrong, status_code}
use Rattle.arrowstore.proofs.ArgumentLemmas.{judged, is_help, is_version}

recode_taken : (name : Text) → takes program_command (name ∷ codes "recode" ∷ []) ≡ true
unfolding clap_on_literals
recode_taken name = refl

ended_taken : (name : Text) → takes program_command (name ∷ codes "recode" ∷ codes "--" ∷ []) ≡ true
unfolding clap_on_literals
ended_taken name = refl

right_taken : (arguments : List Text) → AreRecode arguments → takes program_command arguments ≡ true
unfolding AreRecode
right_taken arguments are = elim are.1 [ inl e ↦ ap (takes program_command) e ∙ recode_taken are.0 | inr e ↦ ap (takes program_command) e ∙ ended_taken are.0 ]

abbrev command_in : List Text → Option Text
command_in arguments = option_map (λ p. p.0) (subcommand_of program_command arguments)

recode_entered : (name : Text) → command_in (name ∷ codes "recode" ∷ []) ≡ Some (codes "recode")
unfolding clap_on_literals
recode_entered name = refl

ended_entered : (name : Text) → command_in (name ∷ codes "recode" ∷ codes "--" ∷ []) ≡ Some (codes "recode")
unfolding clap_on_literals
ended_entered name = refl

right_entered : (arguments : List Text) → AreRecode arguments → command_in arguments ≡ Some (codes "recode")
unfolding AreRecode
right_entered arguments are = elim are.1 [ inl e ↦ ap command_in e ∙ recode_entered are.0 | inr e ↦ ap command_in e ∙ ended_entered are.0 ]

program_simple : is_simple program_command ≡ true
unfolding clap_on_literals
program_simple = refl

program_free : is_simple_and_free program_command ≡ true
unfolding clap_on_literals
program_free = refl

-- an error on right arguments is want of memory
pub memory_alone : (app : App) (arguments : List Text) (kind : ErrorKind) → app ≡ program_command → AreRecode arguments → (takes app arguments ≡ true → kind ≡ OutOfMemory) → kind ≡ OutOfMemory
memory_alone app arguments kind same are passes = passes (ap (λ a. takes a arguments) same ∙ right_taken arguments are)

module _ {Z : Type 0} where
  entered_name : (entered : Option (Box SubCommand Z)) → option_map (λ p. p.0) (subcommand_rows entered) ≡ option_map (λ b. (out-SubCommand (box_value b)).name.now) entered
  entered_name None = refl
  entered_name (Some b) = refl

-- matches of right arguments name `recode`
pub recode_named : (app : App) (arguments : List Text) (m : ArgMatches) → app ≡ program_command → AreRecode arguments → HasMatchesOf app arguments m → subcommand_name_of m ≡ Some (codes "recode")
recode_named app arguments m same are matches =
    let rows = (matches (ap is_simple same ∙ program_simple)).1 ∙ ap (λ a. subcommand_of a arguments) same in
    sym (entered_name (out-ArgMatches m).subcommand) ∙ ap (option_map (λ p. p.0)) rows ∙ right_entered arguments are

-- arguments without a fault are right
pub no_fault_right : (app : App) (arguments : List Text) → app ≡ program_command → (is_simple_and_free app ≡ true → fault_of app arguments ≡ []) → AreRecode arguments
no_fault_right app arguments same none = (judged arguments).right (ap (λ a. fault_of a arguments) (sym same) ∙ none (ap is_simple_and_free same ∙ program_free))

-- a request for a text of the program is one for help
request_asks : (arguments : List Text) (kind : ErrorKind) → have_extra_words arguments ≡ false → (kind ≡ OutOfMemory) ⊎ IsAmong kind (fault_of program_command arguments) → IsRequest kind → AskForHelp arguments
request_asks arguments kind few (inl memory) (inl help) = absurd (true≢false (sym (ap is_help help) ∙ ap is_help memory))
request_asks arguments kind few (inl memory) (inr version) = absurd (true≢false (sym (ap is_version version) ∙ ap is_version memory))
request_asks arguments kind few (inr among) (inl help) = (judged arguments).help few (subst (λ k. IsAmong k (fault_of program_command arguments)) help among)
request_asks arguments kind few (inr among) (inr version) = absurd ((judged arguments).version (subst (λ k. IsAmong k (fault_of program_command arguments)) version among))

pub fault_asks : (app : App) (arguments : List Text) (kind : ErrorKind) → app ≡ program_command → have_extra_words arguments ≡ false
    → (is_simple_and_free app ≡ true → (kind ≡ OutOfMemory) ⊎ IsAmong kind (fault_of app arguments)) → IsRequest kind → AskForHelp arguments
fault_asks app arguments kind same few fails =
    request_asks arguments kind few (subst (λ a. (kind ≡ OutOfMemory) ⊎ IsAmong kind (fault_of a arguments)) same (fails (ap is_simple_and_free same ∙ program_free)))

-- arguments that are reported as wrong are not done
pub not_done : (status : Status) → IsWrong status → status ≡ Done → ⊥
not_done status (inl wrong) done =
    let two : status_code status ≡ 2 = ap status_code wrong in
    let none : status_code status ≡ 0 = ap status_code done in
    absurd (omega (arith, two, none))
not_done status (inr refused) done =
    let one : status_code status ≡ 1 = ap status_code refused in
    let none : status_code status ≡ 0 = ap status_code done in
    absurd (omega (arith, one, none))
