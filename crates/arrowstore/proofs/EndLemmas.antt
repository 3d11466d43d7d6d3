-- How a run ends, once its text is written or its arguments are reported.
use Rattle.std.proofs.Common.{◌≡◌, ℕ, List, Option, refl, sym, subst, inl, inr}
use Rattle.std.specs.Prelude.{◌≢◌, Some, None, Result, Ok, Err, IsOk, IsTrue, IfErr, OnOk}
use Rattle.std.specs.Io.KnownBytes.{Appends}
use Rattle.std.proofs.lemmas.Result.{IfErr-weaker}
use Rattle.cli_reports.specs.declared.hint.Hint.{Hint}
use Rattle.cli_reports.specs.declared.refusal.Refusal.{Refusal}
use Rattle.cli_reports.specs.declared.refusal.Refusal.TheVariants.{Io, OutOfMemory}
use Rattle.cli_reports.specs.declared.refusal.Side.TheVariants.{Output}
use Rattle.cli_reports.specs.declared.known.Known.{Known}
use Rattle.cli_reports.specs.Known.{unchanging}
use Rattle.cli_reports.specs.declared.status.Ended.{Ended}
use Rattle.cli_reports.specs.declared.status.Status.{Status}
use Rattle.cli_reports.specs.declared.status.Status.TheVariants.{Done, PartlyDone, Refused, WrongArguments}
use Rattle.clap.specs.Words.{Text}
use Rattle.cli_reports.specs.Ending.{IsOutput, IsOfOutput, GivesText, TellsRefusal, HasReported, HasReportedHint, HintsText}
use Rattle.cli_reports.specs.Reported.{IfRefused}
use Rattle.cli_reports.specs.Told.{told}
use Rattle.cli_reports.specs.declared.warnings.Notes.{Notes}
use Rattle.cli_reports.specs.declared.telling.Audience.{Audience}
use Rattle.cli_commands.specs.Recode.{IsTrueFault}
use Rattle.arrowstore.specs.OnFiles.{WritesPart}
use Rattle.arrowstore.specs.Running.{Recodes, MayHint}

-- a text of the program's own is given
pub own_given : (done : Result (Unit {0}) Refusal) (status : Status) (given quiet reported : Type 0) → (IsOk done → (status ≡ Done) × quiet × reported) → IfErr done (λ r. status ≡ Refused r) → OnOk done given → IfErr done IsOfOutput
    → GivesText given status
own_given (Ok x) status given quiet reported ok err written refused = subst (GivesText given) (sym (ok refl).0) written
own_given (Err e) status given quiet reported ok err written refused = subst (GivesText given) (sym err) refused

-- a text is given where it is reported as done
pub text_given : (written : Result (Unit {0}) Refusal) (status : Status) (P : Type 0) → OnOk written P → IfErr written (λ r. status ≡ Refused r) → status ≡ Done → P
text_given (Ok x) status P given refused done = given
text_given (Err e) status P given refused done = absurd (cc (refused, done))

-- what is done is reported so, and what is refused, with one of these hints
pub own_reported : {W E : Type 0} (may_hint : Option Hint → Refusal → Type 0) (contents : E → Option (List ℕ)) (audience : Audience) (hint : Option Hint) (output output' : W) (errors errors' : E) (done : Result (Unit {0}) Refusal) (ended : Ended)
    → (IsOk done → (ended.status ≡ Done) × (errors' ≡ errors) × IsTrue ended.is_reported) → IfErr done (λ r. ended.status ≡ Refused r) → IfErr done (λ r. r ≢ Io Output → output' ≡ output)
    → IfErr done (may_hint hint) → TellsRefusal (told audience (unchanging hint)) ended (contents errors) (contents errors') → HasReportedHint may_hint contents audience output output' errors errors' ended
own_reported may_hint contents audience hint output output' errors errors' (Ok x) ended ok err quiet hints line = let is = ok refl in (
  hint,
  subst (λ s. IfRefused s (may_hint hint)) (sym is.0) tt,
  record {
    silent = λ _. (refl, is.1, is.2);
    listed = λ partly. absurd (cc (is.0, partly));
    nothing_written = λ wrong. absurd (cc (is.0, wrong));
    quiet = subst (λ s. IfRefused s (λ r. r ≢ Io Output → output' ≡ output)) (sym is.0) tt;
    line = line;
  },
)
own_reported may_hint contents audience hint output output' errors errors' (Err e) ended ok err quiet hints line = (
  hint,
  subst (λ s. IfRefused s (may_hint hint)) (sym err) hints,
  record {
    silent = λ done. absurd (cc (err, done));
    listed = λ partly. absurd (cc (err, partly));
    nothing_written = λ wrong. absurd (cc (err, wrong));
    quiet = subst (λ s. IfRefused s (λ r. r ≢ Io Output → output' ≡ output)) (sym err) quiet;
    line = line;
  },
)

pub text_hints : (arguments : List Text) (hint : Option Hint) (done : Result (Unit {0}) Refusal) → IfErr done (HintsText hint) → IfErr done (MayHint arguments hint)
text_hints arguments hint done = IfErr-weaker done (HintsText hint) (MayHint arguments hint) (λ r hints. inr hints)

-- where memory is refused nothing is recoded
pub memory_recodes : {W : Type 0} (contents : W → Option (List ℕ)) (input : Option (List ℕ)) (output output' : W) (status : Status) → status ≡ Refused OutOfMemory → output' ≡ output → Recodes contents input output output' status
memory_recodes contents None output output' status is same = record {
  recoded = λ _. tt;
  meaningless = tt;
  too_long = tt;
  fault = subst (λ s. IfRefused s (λ r. IsTrueFault r None)) (sym is) tt;
  too_many = λ _. tt;
  whole = λ partly. absurd (cc (is, partly));
  right_arguments = λ wrong. absurd (cc (is, wrong));
}
memory_recodes contents (Some bytes) output output' status is same = record {
  recoded = λ done. absurd (cc (is, done));
  meaningless = λ _. ((OutOfMemory, is), same);
  too_long = λ _. ((OutOfMemory, is), same);
  fault = subst (λ s. IfRefused s (λ r. IsTrueFault r (Some bytes))) (sym is) tt;
  too_many = λ many. absurd (cc (is, many));
  whole = λ partly. absurd (cc (is, partly));
  right_arguments = λ wrong. absurd (cc (is, wrong));
}

-- what is wrong is no refusal
pub wrong_told : {W E : Type 0} (contents : E → Option (List ℕ)) (audience : Audience) (output : W) (errors errors' : E) (ended : Ended) → ended.status ≡ WrongArguments
    → HasReportedHint HintsText contents audience output output errors errors' ended
wrong_told contents audience output errors errors' ended wrong = (
  None,
  subst (λ s. IfRefused s (HintsText None)) (sym wrong) tt,
  record {
    silent = λ done. absurd (cc (wrong, done));
    listed = λ partly. absurd (cc (wrong, partly));
    nothing_written = λ _. refl;
    quiet = subst (λ s. IfRefused s (λ r. r ≢ Io Output → output ≡ output)) (sym wrong) tt;
    line = subst (λ s. IfRefused s (λ r. IsTrue ended.is_reported → Appends (contents errors) (contents errors') (told audience (unchanging None) r))) (sym wrong) tt;
  },
)

-- what holds of a refusal for one reason holds for another
if_refused : (status : Status) (P Q : Refusal → Type 0) → ((r : Refusal) → P r → Q r) → IfRefused status P → IfRefused status Q
if_refused Done P Q implied holds = tt
if_refused PartlyDone P Q implied holds = tt
if_refused (Refused refusal) P Q implied holds = implied refusal holds
if_refused WrongArguments P Q implied holds = tt

-- arguments that are reported, or their help, have the hint of a text
pub text_may_hint : {W E : Type 0} (arguments : List Text) (contents : E → Option (List ℕ)) (audience : Audience) (output output' : W) (errors errors' : E) (ended : Ended)
    → HasReportedHint HintsText contents audience output output' errors errors' ended → HasReportedHint (MayHint arguments) contents audience output output' errors errors' ended
text_may_hint arguments contents audience output output' errors errors' ended has =
    (has.0, if_refused ended.status (HintsText has.0) (MayHint arguments has.0) (λ r hints. inr hints) has.1, has.2)

-- a run that writes a part of its output for no other reason
pub reported_of_word : {W E : Type 0} (contents : E → Option (List ℕ)) (audience : Audience) (known : Known) (left : List (ℕ × ℕ)) (notes : Notes) (word : List ℕ) (output output' : W) (errors errors' : E) (ended : Ended)
    → HasReported contents audience known left notes IsOutput output output' errors errors' ended → HasReported contents audience known left notes (WritesPart word) output output' errors errors' ended
reported_of_word contents audience known left notes word output output' errors errors' ended has = record {
  silent = has.silent;
  listed = has.listed;
  nothing_written = has.nothing_written;
  quiet = if_refused ended.status (λ r. ¬ IsOutput r → output' ≡ output) (λ r. ¬ WritesPart word r → output' ≡ output) (λ r quiet none. quiet (λ io. none (inl io))) has.quiet;
  line = has.line;
}

-- or whose command has another word, which is the same
pub told_of_word : {W E : Type 0} (contents : E → Option (List ℕ)) (audience : Audience) (known : Known) (left : List (ℕ × ℕ)) (notes : Notes) (word other : List ℕ) (output output' : W) (errors errors' : E) (ended : Ended)
    → word ≡ other → HasReported contents audience known left notes (WritesPart word) output output' errors errors' ended → HasReported contents audience known left notes (WritesPart other) output output' errors errors' ended
told_of_word contents audience known left notes word other output output' errors errors' ended same has =
    subst (λ (w : List ℕ). HasReported contents audience known left notes (WritesPart w) output output' errors errors' ended) same has
