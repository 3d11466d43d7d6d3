-- What is reported or written of a run.
use Rattle.std.proofs.Common.{◌≡◌, ℕ, List, [], true, None, append-nil, inl, inr, refl, subst, sym, true≢false}
use Rattle.std.specs.Prelude.{◌≢◌, Option, Result, Ok, Err, OnOk, OnErr, IfErr, IsOk, IsTrue, is_ok}
use Rattle.std.specs.Io.KnownBytes.{Appends}
use Rattle.std.proofs.KnownBytes.{Appends-nil}
use Rattle.clap.specs.Words.{Text}
use Rattle.cli_reports.specs.declared.hint.Hint.{Hint}
use Rattle.cli_reports.specs.declared.refusal.Refusal.{Refusal}
use Rattle.cli_reports.specs.declared.refusal.Refusal.TheVariants.{Io}
use Rattle.cli_reports.specs.declared.refusal.Side.TheVariants.{Output}
use Rattle.cli_reports.specs.Known.{unchanging}
use Rattle.cli_reports.specs.Output.{AppendsFront}
use Rattle.cli_reports.specs.declared.own_texts.TheConstants.{VERSION}
use Rattle.cli_reports.specs.declared.status.Ended.{Ended}
use Rattle.cli_reports.specs.declared.status.Status.{Status}
use Rattle.cli_reports.specs.declared.status.Status.TheVariants.{Done, Refused}
use Rattle.cli_reports.specs.Ending.{HasReported, HasReportedHint, HintsText, IsOutput, TellsRefusal}
use Rattle.cli_reports.specs.OwnTexts.{asks_version, own_text}
use Rattle.cli_reports.specs.declared.telling.Audience.{Audience}
use Rattle.cli_reports.specs.Reported.{IfRefused, IsWrong}
use Rattle.cli_reports.specs.Told.{told}

-- what holds of a call that succeeded
pub where_ok : {A E : Type 0} (r : Result A E) (P : Type 0) → OnOk r P → is_ok r ≡ true → P
where_ok (Ok x) P holds is = holds
where_ok (Err e) P holds is = absurd (true≢false (sym is))

pub own_version : (arguments : List Text) → asks_version arguments ≡ true → VERSION.now ≡ own_text arguments
unfolding own_text
own_version arguments asks = rw asks refl

-- arguments that are reported to be wrong leave the output
pub wrong_reported : {W E : Type 0} (contents : E → Option (List ℕ)) (audience : Audience) (output : W) (errors errors' : E) (ended : Ended) → IsWrong ended.status
    → TellsRefusal (told audience (unchanging None)) ended (contents errors) (contents errors') → HasReportedHint HintsText contents audience output output errors errors' ended
wrong_reported contents audience output errors errors' ended (inl wrong) line = (
  None,
  subst (λ s. IfRefused s (HintsText None)) (sym wrong) tt,
  record {
    silent = λ done. absurd (cc (wrong, done));
    listed = λ partly. absurd (cc (wrong, partly));
    nothing_written = λ _. refl;
    quiet = subst (λ s. IfRefused s (λ refusal. refusal ≢ Io Output → output ≡ output)) (sym wrong) tt;
    line = line;
  },
)
wrong_reported contents audience output errors errors' ended (inr memory) line = (
  None,
  subst (λ s. IfRefused s (HintsText None)) (sym memory) tt,
  record {
    silent = λ done. absurd (cc (memory, done));
    listed = λ partly. absurd (cc (memory, partly));
    nothing_written = λ _. refl;
    quiet = subst (λ s. IfRefused s (λ refusal. refusal ≢ Io Output → output ≡ output)) (sym memory) (λ _. refl);
    line = line;
  },
)

pub wrong_undone : {P : Type 0} (status : Status) → IsWrong status → status ≡ Done → P
wrong_undone status (inl wrong) done = absurd (cc (wrong, done))
wrong_undone status (inr memory) done = absurd (cc (memory, done))

-- help was given, where it is reported so
pub help_given : (written : Result (Unit {0}) Refusal) (status : Status) (P : Type 0) → OnOk written P → IfErr written (λ refusal. status ≡ Refused refusal) → status ≡ Done → P
help_given (Ok unit) status P given refused done = given
help_given (Err e) status P given refused done = absurd (cc (refused, done))

pub help_reported : {W E : Type 0} (contents : E → Option (List ℕ)) (audience : Audience) (hint : Option Hint) (output output' : W) (errors errors' : E) (written : Result (Unit {0}) Refusal) (ended : Ended)
    → (IsOk written → (ended.status ≡ Done) × (errors' ≡ errors) × IsTrue ended.is_reported) → IfErr written (λ refusal. ended.status ≡ Refused refusal)
    → IfErr written (λ refusal. refusal ≢ Io Output → output' ≡ output) → IfErr written (HintsText hint) → TellsRefusal (told audience (unchanging hint)) ended (contents errors) (contents errors')
    → HasReportedHint HintsText contents audience output output' errors errors' ended
help_reported contents audience hint output output' errors errors' (Ok unit) ended ok err quiet hints line = let is = ok refl in (
  hint,
  subst (λ s. IfRefused s (HintsText hint)) (sym is.0) tt,
  record {
    silent = λ _. (refl, is.1, is.2);
    listed = λ partly. absurd (cc (is.0, partly));
    nothing_written = λ wrong. absurd (cc (is.0, wrong));
    quiet = subst (λ s. IfRefused s (λ refusal. refusal ≢ Io Output → output' ≡ output)) (sym is.0) tt;
    line = line;
  },
)
help_reported contents audience hint output output' errors errors' (Err e) ended ok err quiet hints line = (
  hint,
  subst (λ s. IfRefused s (HintsText hint)) (sym err) hints,
  record {
    silent = λ done. absurd (cc (err, done));
    listed = λ partly. absurd (cc (err, partly));
    nothing_written = λ wrong. absurd (cc (err, wrong));
    quiet = subst (λ s. IfRefused s (λ refusal. refusal ≢ Io Output → output' ≡ output)) (sym err) quiet;
    line = line;
  },
)

-- a text that was written, or some first bytes of it
pub front_of_written : (written : Result (Unit {0}) Refusal) (old new : Option (List ℕ)) (text : List ℕ) → OnOk written (Appends old new text)
    → OnErr written (AppendsFront old new text) → AppendsFront old new text
front_of_written (Ok unit) old new text whole front = (text, [], sym (append-nil text), whole)
front_of_written (Err e) old new text whole front = front

pub no_front : (old : Option (List ℕ)) (text : List ℕ) → AppendsFront old old text
no_front old text = ([], text, refl, Appends-nil old)
