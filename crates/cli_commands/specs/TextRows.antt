-- Rows of an input that is a text, for a table of a store.
use Rattle.std.specs.Prelude.{◌≡◌, ◌⊎◌, ℕ, Bool, false, List, Option, None, Some, Result, Ok, Err, IsErrAnd, string_bytes}
use Rattle.std.specs.Io.KnownBytes.{IsAtEnd}
use Rattle.cells.specs.Cell.{Cell}
use Rattle.catalogue.specs.Entries.{PlainEntry}
use Rattle.text_import.specs.declared.refusal.Refused.{Refused}
use Rattle.text_import.specs.Form.{rows_of_text}
use Rattle.text_import.specs.Part.{PlainPart, part_of, refused_part}
use Rattle.text_import.specs.Place.{IsAtItsPlace}
use Rattle.arrow_schema.specs.Column.{PlainSchema}
use Rattle.tables.specs.declared.refusal.Refusal as tables
use Rattle.cli_reports.specs.AboutPart.{about_part}
use Rattle.cli_reports.specs.declared.hint.Hinted.{Hinted}
use Rattle.cli_reports.specs.declared.hint.Hinted.TheVariants.{Part}
use Rattle.cli_reports.specs.declared.refusal.Refusal.{Refusal}
use Rattle.cli_reports.specs.declared.refusal.Refusal.TheVariants.{Text}
use Rattle.text_import.specs.declared.form.TextForm.{TextForm}
use Rattle.cli_commands.specs.Given.{IsWholeInput}
use Rattle.cli_commands.specs.Changing.{Answered, RefusesAppend}

-- the whole input, as a text for the schema of the table that was found, gives this
pub record InputGives (form : TextForm) (found : Option PlainEntry) (input : Option (List ℕ)) (given : Result (List (List Cell)) Refused) : Type 0 where
  pub entry : PlainEntry
  pub is_there : found ≡ Some entry
  pub bytes : List ℕ
  pub whole : IsWholeInput input bytes
  pub gives : rows_of_text form entry.schema bytes ≡ given

-- the rows of the whole input were given to the store, and the program's answer follows its answer; or they were refused before, and `before` holds
-- of the refusal
abbrev pub HandsRows : TextForm → Option PlainEntry → Option (List ℕ) → (List (List Cell) → Result (Unit {0}) tables.Refusal → Type 0)
    → (before : Refusal → Type 0) → Result (Unit {0}) Refusal → Type 0
HandsRows form found input P before result =
    IsErrAnd result before ⊎ ((rows : List (List Cell)) × InputGives form found input (Ok rows) × Answered (P rows) result)

-- why no rows are given to the store: the whole input was read and is refused as a text; or it is refused as any append is
abbrev pub RefusesText : {R : Type 0} → (remaining : R → Option (List ℕ)) → TextForm → (halted : Bool) → (found : Option PlainEntry) → (old new : R)
    → Refusal → Type 0
RefusesText remaining form halted found old new (Text refused) =
    (halted ≡ false) × InputGives form found (remaining old) (Err refused) × IsAtEnd (remaining new)
RefusesText remaining form halted found old new refusal = RefusesAppend remaining halted found old new refusal

-- a refusal of the text is the one for the whole input
abbrev pub IfOfText : TextForm → Option PlainEntry → Option (List ℕ) → Refusal → Type 0
IfOfText form found input (Text refused) = InputGives form found input (Err refused)
IfOfText form found input _ = Unit {0}

-- the hint at a refused text: the part of it that is refused, with what is said of the field at its place; or none
abbrev pub HintsAt : Option Hinted → TextForm → PlainSchema → List ℕ → Option Refused → Type 0
HintsAt None form schema bytes refused = Unit {0}
HintsAt (Some (Part hinted)) form schema bytes (Some refused) = (refused_part form schema bytes refused.number ≡ Some (part_of hinted.part))
    × (string_bytes hinted.about ≡ about_part schema.columns (part_of hinted.part) refused.refusal)
HintsAt (Some hinted) form schema bytes _ = ⊥

-- the whole input, as a text for the schema of the table that was found, is refused; this is the refused part, and the place that it names is the place
-- where it is; and this is said of the field at that place
pub record HintsPart (part : PlainPart) (about : List ℕ) (form : TextForm) (found : Option PlainEntry) (input : Option (List ℕ)) (refused : Refused) : Type 0 where
  pub entry : PlainEntry
  pub is_there : found ≡ Some entry
  pub bytes : List ℕ
  pub whole : IsWholeInput input bytes
  pub refuses : rows_of_text form entry.schema bytes ≡ Err refused
  pub names : refused_part form entry.schema bytes refused.number ≡ Some part
  pub there : IsAtItsPlace form entry.schema.columns part refused.refusal
  pub says : about ≡ about_part entry.schema.columns part refused.refusal

-- only a refused text has a hint
abbrev pub IfHinted : Option Hinted → TextForm → Option PlainEntry → Option (List ℕ) → Result (Unit {0}) Refusal → Type 0
IfHinted None form found input result = Unit {0}
IfHinted (Some (Part hinted)) form found input (Err (Text refused)) = HintsPart (part_of hinted.part) (string_bytes hinted.about) form found input refused
IfHinted (Some hinted) form found input _ = ⊥
