-- What to do about a text of which a part is refused: more of the cause is known than from its refusal.
use Rattle.std.specs.Prelude.{ℕ, ◌==◌, ◌&&◌, Bool, List, length, nat_eq, nat_lt, not, if◌then◌else◌}
use Rattle.std.specs.List.{list_any}
use Rattle.text_import.specs.Part.{PlainPart, field, line}
use Rattle.text_import.specs.declared.refusal.Refusal.{Refusal}
use Rattle.text_import.specs.declared.refusal.Refusal.TheVariants.{NotANumber, Width, TooHeavy, Json}
use Rattle.cli_reports.specs.Remedies.{text_remedy}
use Rattle.cli_reports.specs.declared.remedies.TheConstants as remedies

-- a line with a control character other than a carriage return: a string of JSON has none (RFC 8259, 7, "Strings")
abbrev pub has_control : List ℕ → Bool
has_control bytes = list_any (λ byte. nat_lt byte 32 && not (nat_eq byte 13)) bytes

-- the text of a field in CSV: an empty one is no number
abbrev pub field_remedy : (text : List ℕ) → Refusal → List ℕ
field_remedy text NotANumber = if length text == 0 then remedies.GIVE_A_NUMBER.now else remedies.WRITE_DIGITS.now
field_remedy text refusal = text_remedy refusal

-- a line of JSON Lines
abbrev pub line_remedy : (text : List ℕ) → Refusal → List ℕ
line_remedy text Width = remedies.ITEMS_OF_A_LINE.now
line_remedy text TooHeavy = remedies.SHORTER_VALUES.now
line_remedy text Json = if has_control text then remedies.ESCAPE_CONTROLS.now else remedies.ROW_ON_A_LINE.now
line_remedy text refusal = text_remedy refusal

abbrev pub part_remedy : PlainPart → Refusal → List ℕ
part_remedy (field name place text) refusal = field_remedy text refusal
part_remedy (line part text) refusal = line_remedy text refusal
part_remedy part refusal = text_remedy refusal
