-- What requests of a store come to.
use Rattle.std.proofs.Common.{◌≡◌, ◌≢◌, ◌↔◌, ◌≤◌, ℕ, Bool, true, false, List, [], ◌∷◌, inl, inr, refl, sym, subst, ap, ◌∙◌, true≢false}
use Rattle.std.specs.Prelude.{codes, Option, Result, Ok, Err, IfOk, IfErr, IsTrue, IsErrOf}
use Rattle.std.specs.Io.KnownBytes.{Appends}
use Rattle.std.proofs.lemmas.Bool.{and_from, le-leb}
use Rattle.sector_dev.specs.declared.device.SectorDevice.{Ghosts}
use Rattle.std.specs.declared.io.traits.Read.{Ghosts as ReadGhosts}
use Rattle.std.specs.declared.io.traits.Write.{Ghosts as WriteGhosts}
use Rattle.std.specs.declared.io.traits.Seek.{Ghosts as SeekGhosts}
use Rattle.sector_dev.specs.View.{failures_of, IsEmpty, IsOver}
use Rattle.sector_dev.specs.declared.file.FileDevice.{FileDevice}
use Rattle.sector_dev.specs.declared.sector_file.SectorFile.{Ghosts as FileGhosts}
use Rattle.sector_dev.specs.declared.confirmed_file.ConfirmedFile.{ConfirmedFile}
use Rattle.sector_dev.specs.declared.system_file.PlainFile.{PlainFile}
use Rattle.sector_dev.specs.declared.file.FileError.{FileError}
use Rattle.sector_dev.specs.declared.file.TheConstants.{LEAST_SECTORS, MOST_SECTORS}
use Rattle.sector_dev.specs.declared.file.FileError.TheVariants as files
use Rattle.commit.specs.Standing.{is_size}
use Rattle.commit.specs.declared.sector.FormatVersion.{FormatVersion}
use Rattle.cli_reports.specs.declared.refusal.Refusal.{Refusal}
use Rattle.cli_reports.specs.declared.refusal.Refusal.TheVariants.{Io, Opening, Store}
use Rattle.tables.specs.declared.refusal.Refusal as tables
use Rattle.cli_reports.specs.declared.refusal.Side.TheVariants.{Output}
use Rattle.cli_reports.specs.Refusals.{file_refusal}
use Rattle.cli_reports.specs.declared.status.Status.TheVariants.{Done, PartlyDone}
use Rattle.cli_reports.specs.declared.status.Ended.{Ended}
use Rattle.cli_reports.specs.Ending.{HasReported, TellsRefusal}
use Rattle.cli_reports.specs.LeftOut.{left_out_text}
use Rattle.cli_reports.specs.Warnings.{TellsNotes}
use Rattle.cli_reports.specs.declared.warnings.Notes.{Notes}
use Rattle.cli_reports.specs.Reported.{IfRefused}
use Rattle.cli_reports.specs.Told.{told}
use Rattle.cli_reports.specs.declared.telling.Audience.{Audience}
use Rattle.cli_reports.specs.declared.known.Known.{Known}
use Rattle.cli_commands.specs.Archives.{IsOfSending}
use Rattle.cli_commands.specs.Reading.{OfStore}
use Rattle.cli_commands.specs.Salvaging.{IsBrokenOff}
use Rattle.clap.specs.Words.{Text, kind_of}
use Rattle.clap.specs.declared.error.Error.{Error}
use Rattle.clap.specs.declared.error.kind.ErrorKind.TheVariants.{OutOfMemory}
use Rattle.cli_requests.specs.Apps.{IsOfMemory}
use Rattle.cli_requests.specs.declared.store_command_line.Mistake.{Mistake}
use Rattle.cli_requests.specs.declared.store_command_line.Mistake.TheVariants as mistakes
use Rattle.cli_requests.specs.StoreWords.{takes_input, takes_input_word, changes_by_input_word, first_word}
use Rattle.arrowstore.specs.OnFiles.{IsOpenedFile, IsOfFile, FailsToFormat, RefusesFormat, WritesPart, status_of}

-- a file was not opened
pub of_file : (e : FileError) → IsOfFile (file_refusal e)
unfolding IsOfFile
of_file files.Io = tt
of_file files.BadSize = tt

-- a device that was opened over a file, by what its opening says
pub opened_file : {F : Type 0} {r : ReadGhosts F} {w : WriteGhosts F} {s : SeekGhosts F} {g : FileGhosts (PlainFile F r w s)}
    {f : FileGhosts (ConfirmedFile (PlainFile F r w s) g)} (result : Result (FileDevice (ConfirmedFile (PlainFile F r w s) g) f) FileError)
    → IfOk result (λ d. (file : F) × IsOver file d) → IfOk result (λ d. failures_of d ≡ 0) → IfOk result (λ d. IsEmpty d) → IfOk result (λ d. IsOpenedFile d)
opened_file (Ok device) over none_failed none_buffered = record { over = over; none_failed = none_failed; none_buffered = none_buffered }
opened_file (Err e) over none_failed none_buffered = tt

-- no file was made since the places of the streams were not taken
pub of_places : {D : Type 0} (g : Ghosts D) (sectors : ℕ) (version : FormatVersion) (e : FileError) → e ≡ files.Io → RefusesFormat g sectors version (file_refusal e)
unfolding RefusesFormat
of_places g sectors version files.Io is = tt
of_places g sectors version files.BadSize is = absurd (cc is)

pub of_making : {D T : Type 0} (g : Ghosts D) (sectors : ℕ) (version : FormatVersion) (e : FileError) → (IsErrOf {T = T} (Err e) files.BadSize ↔ ¬ ((LEAST_SECTORS ≤ sectors) × (sectors ≤ MOST_SECTORS))) → RefusesFormat g sectors version (file_refusal e)
unfolding RefusesFormat
of_making g sectors version files.Io bad = tt
of_making g sectors version files.BadSize bad = bad.0 refl

-- a file that was made has a size of a store
pub of_size : {T : Type 0} (sectors : ℕ) (made : T) → (IsErrOf {T = T} (Ok made) files.BadSize ↔ ¬ ((LEAST_SECTORS ≤ sectors) × (sectors ≤ MOST_SECTORS))) → is_size sectors ≡ true
of_size sectors made bad = by_test (is_size sectors) refl
  where
    by_test : (b : Bool) → is_size sectors ≡ b → is_size sectors ≡ true
    by_test true is = is
    by_test false is =
        let no = bad.1 (λ both. let yes : is_size sectors ≡ true = and_from _ _ (le-leb LEAST_SECTORS sectors both.0) (le-leb sectors MOST_SECTORS both.1) in cc (is, yes)) in
        absurd (cc no)

-- a formatting that was refused on a device of this size
pub of_formatting : {D : Type 0} (g : Ghosts D) (size sectors : ℕ) (version : FormatVersion) (refusal : Refusal) → size ≡ sectors → is_size sectors ≡ true → FailsToFormat g size version refusal → RefusesFormat g sectors version refusal
unfolding FailsToFormat RefusesFormat
of_formatting g size sectors version (Opening r) same limits why = (limits, subst (λ (n : ℕ). FailsToFormat g n version (Opening r)) same why)
of_formatting g size sectors version _ same limits why = absurd why

-- a formatting that was refused or not
pub of_formatted : {D T : Type 0} (g : Ghosts D) (size sectors : ℕ) (version : FormatVersion) (result : Result T Refusal) → size ≡ sectors → is_size sectors ≡ true → IfErr result (FailsToFormat g size version) → IfErr result (RefusesFormat g sectors version)
of_formatted g size sectors version (Ok made) same limits why = tt
of_formatted g size sectors version (Err refusal) same limits why = of_formatting g size sectors version refusal same limits why

-- a refusal of a store of one size is one of a store of the same size
pub of_same_size : {D T : Type 0} (g : Ghosts D) (size sectors : ℕ) (version : FormatVersion) (result : Result T Refusal) → size ≡ sectors → IfErr result (RefusesFormat g size version) → IfErr result (RefusesFormat g sectors version)
of_same_size g size sectors version result same why = subst (λ (n : ℕ). IfErr result (RefusesFormat g n version)) same why

-- a refusal of a store of one version is one of a store of the same version
pub in_version : {D : Type 0} (g : Ghosts D) (sectors : ℕ) (v w : FormatVersion) (refusal : Refusal) → v ≡ w → RefusesFormat g sectors v refusal → RefusesFormat g sectors w refusal
in_version g sectors v w refusal same why = subst (λ (version : FormatVersion). RefusesFormat g sectors version refusal) same why

-- where nothing is written but after a failed write
pub silent_but_io : {W : Type 0} (word : List ℕ) (output output' : W) (done : Result (Unit {0}) Refusal) → IfErr done (λ refusal. refusal ≢ Io Output → output' ≡ output)
    → IfErr done (λ refusal. ¬ WritesPart word refusal → output' ≡ output)
silent_but_io word output output' (Ok unit) silent = tt
silent_but_io word output output' (Err e) silent = λ whole. silent (λ io. whole (inl io))

-- nor where a salvage was broken off
pub silent_but_broken_off : {W : Type 0} (word : List ℕ) (output output' : W) (done : Result (Unit {0}) Refusal) → word ≡ codes "salvage"
    → IfErr done (λ refusal. ¬ IsBrokenOff refusal → output' ≡ output) → IfErr done (λ refusal. ¬ WritesPart word refusal → output' ≡ output)
silent_but_broken_off word output output' (Ok unit) is silent = tt
silent_but_broken_off word output output' (Err e) is silent = λ whole. silent (λ broken. whole (inr (inl (is, broken))))

-- nor where an archive was sent in part
pub silent_but_unsent : {W : Type 0} (word : List ℕ) (output output' : W) (done : Result (Unit {0}) Refusal) → word ≡ codes "send"
    → IfErr done (λ refusal. ¬ IsOfSending refusal → output' ≡ output) → IfErr done (λ refusal. ¬ WritesPart word refusal → output' ≡ output)
silent_but_unsent word output output' (Ok unit) is silent = tt
silent_but_unsent word output output' (Err e) is silent = λ whole. silent (λ unsent. whole (inr (inr (is, unsent))))

-- a store that does not send all of an archive may have written a part of it
pub sent_in_part : {W : Type 0} (P : tables.Refusal → Type 0) (there : Type 0) (output output' : W) (done : Result (Unit {0}) Refusal)
    → IfErr done (OfStore P there) → IfErr done (λ refusal. ¬ IsOfSending refusal → output' ≡ output)
sent_in_part P there output output' (Ok unit) told = tt
sent_in_part P there output output' (Err (Store r)) told = λ whole. absurd (whole tt)
sent_in_part P there output output' (Err (Io Output)) told = λ whole. absurd (whole tt)
sent_in_part P there output output' (Err _) told = absurd told

-- what is reported of a request that was done, in part or whole, or refused
pub has_reported : {W E : Type 0} (contents : E → Option (List ℕ)) (audience : Audience) (known : Known) (left : List (ℕ × ℕ)) (notes : Notes) (word : List ℕ) (output output' : W) (errors noted errors' : E)
    (done : Result (Unit {0}) Refusal) (ended : Ended) → ended.status ≡ status_of done left → IfErr done (λ refusal. ¬ WritesPart word refusal → output' ≡ output)
    → (status_of done left ≡ Done → TellsNotes contents audience notes errors noted) → (status_of done left ≢ Done → noted ≡ errors)
    → (ended.status ≡ Done → (errors' ≡ noted) × IsTrue ended.is_reported)
    → (ended.status ≡ PartlyDone → IsTrue ended.is_reported → Appends (contents noted) (contents errors') (left_out_text audience left))
    → TellsRefusal (told audience known) ended (contents noted) (contents errors') → HasReported contents audience known left notes (WritesPart word) output output' errors errors' ended
has_reported contents audience known [] notes word output output' errors noted errors' (Ok unit) ended ends quiet tells still silent lines line = record {
  silent = λ done. (refl, subst (λ e. TellsNotes contents audience notes errors e) (sym (silent done).0) (tells refl), (silent done).1);
  listed = λ partly. absurd (cc (ends, partly));
  nothing_written = λ wrong. absurd (cc (ends, wrong));
  quiet = subst (λ s. IfRefused s (λ refusal. ¬ WritesPart word refusal → output' ≡ output)) (sym ends) tt;
  line = subst (λ s. IfRefused s (λ refusal. IsTrue ended.is_reported → Appends (contents errors) (contents errors') (told audience known refusal))) (sym ends) tt;
}
has_reported contents audience known (s ∷ ss) notes word output output' errors noted errors' (Ok unit) ended ends quiet tells still silent lines line = record {
  silent = λ done. absurd (cc (ends, done));
  listed = λ partly. (λ none. absurd (cc none), subst (λ e. IsTrue ended.is_reported → Appends (contents e) (contents errors') (left_out_text audience (s ∷ ss))) (still (λ done. absurd (cc done))) (lines partly));
  nothing_written = λ wrong. absurd (cc (ends, wrong));
  quiet = subst (λ s. IfRefused s (λ refusal. ¬ WritesPart word refusal → output' ≡ output)) (sym ends) tt;
  line = subst (λ s. IfRefused s (λ refusal. IsTrue ended.is_reported → Appends (contents errors) (contents errors') (told audience known refusal))) (sym ends) tt;
}
has_reported contents audience known left notes word output output' errors noted errors' (Err e) ended ends quiet tells still silent lines line = record {
  silent = λ done. absurd (cc (ends, done));
  listed = λ partly. absurd (cc (ends, partly));
  nothing_written = λ wrong. absurd (cc (ends, wrong));
  quiet = subst (λ s. IfRefused s (λ refusal. ¬ WritesPart word refusal → output' ≡ output)) (sym ends) quiet;
  line = subst (λ from. TellsRefusal (told audience known) ended (contents from) (contents errors')) (still (λ done. absurd (cc done))) line;
}

-- a mistake for want of memory
pub refused_memory : (mistake : Mistake) (error : Error) → mistake ≡ mistakes.Words error → IsOfMemory mistake → kind_of error ≡ OutOfMemory
refused_memory mistake error is memory = subst IsOfMemory is memory

pub sign_takes_none : (mistake : Mistake) → mistake ≡ mistakes.SignedNumber → IsOfMemory mistake → ⊥
sign_takes_none mistake is memory = subst IsOfMemory is memory

-- a command whose word says that it reads the input
pub takes_input_by : (arguments : List Text) (word : Text) → word ≡ first_word arguments → takes_input_word word ≡ true → takes_input arguments ≡ true
unfolding takes_input first_word takes_input_word changes_by_input_word
takes_input_by [] word same takes = absurd (true≢false (sym takes ∙ ap takes_input_word same))
takes_input_by (name ∷ []) word same takes = absurd (true≢false (sym takes ∙ ap takes_input_word same))
takes_input_by (name ∷ other ∷ rest) word same takes = sym (ap takes_input_word same) ∙ takes
