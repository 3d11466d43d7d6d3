-- What is reported of the segments that a salvage leaves out.
use Rattle.std.specs.Prelude.{ℕ, List, [], ◌∷◌, ◌++◌, codes}
use Rattle.std.specs.Fmt.{decimal}
use Rattle.cli_reports.specs.declared.left_out.TheConstants.{STREAM_LACKS_THEM}
use Rattle.cli_reports.specs.declared.telling.Audience.{Audience}
use Rattle.cli_reports.specs.declared.telling.Audience.TheVariants.{Program, Terminal, Script, Departed}

-- a line for each segment: its place in its table, counted from 0, and the number of rows that it is said to have
abbrev pub left_out_line : (place rows : ℕ) → List ℕ
left_out_line place rows = codes "left out segment " ++ decimal place ++ codes " with " ++ decimal rows ++ codes " rows\n"

abbrev pub left_out_lines : List (ℕ × ℕ) → List ℕ
left_out_lines [] = []
left_out_lines (s ∷ ss) = left_out_line s.0 s.1 ++ left_out_lines ss

-- on a terminal or for a script a line after them says what the stream lacks
abbrev pub lacking_line : Audience → List ℕ
lacking_line Program = []
lacking_line Departed = []
lacking_line Terminal = STREAM_LACKS_THEM.now ++ codes "\n"
lacking_line Script = STREAM_LACKS_THEM.now ++ codes "\n"

-- the whole report of segments that are left out, of which there is at least one
abbrev pub left_out_text : Audience → List (ℕ × ℕ) → List ℕ
left_out_text audience left = left_out_lines left ++ lacking_line audience
