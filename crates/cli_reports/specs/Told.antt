-- What is reported of a refusal, and to whom: its line, and to a terminal or a script what to do.
use Rattle.std.specs.Prelude.{ℕ, Bool, true, false, not, if◌then◌else◌, List, [], ◌∷◌, ◌++◌, codes, Option, None, Some}
use Rattle.cli_reports.specs.declared.refusal.Refusal.{Refusal}
use Rattle.cli_reports.specs.declared.refusal.Refusal.TheVariants.{Io}
use Rattle.cli_reports.specs.declared.refusal.Side.TheVariants.{Output}
use Rattle.cli_reports.specs.declared.telling.Audience.{Audience}
use Rattle.cli_reports.specs.declared.telling.Audience.TheVariants.{Program, Terminal, Script, Departed}
use Rattle.cli_reports.specs.declared.hint.Hint.{Hint}
use Rattle.cli_reports.specs.declared.known.Known.{Known}
use Rattle.cli_reports.specs.Hint.{hint_text}
use Rattle.cli_reports.specs.Known.{known_remedy}
use Rattle.cli_reports.specs.Words.{word}
use Rattle.cli_reports.specs.Reported.{refusal_line}

-- what is refused, if it is known
abbrev pub front_of_hint : Option Hint → List ℕ
front_of_hint None = []
front_of_hint (Some hint) = hint_text hint

-- what to do; before it what is refused
unfoldable pub remedy_line : Known → Refusal → List ℕ
remedy_line known refusal = front_of_hint known.hint ++ known_remedy known refusal ++ 10 ∷ []

-- the word of the refusal, at the front of that line
abbrev pub word_front : Known → Refusal → List ℕ
word_front known refusal = word refusal known ++ codes ": "

-- only the output failed, of a command that changes nothing
abbrev pub is_unheard : Refusal → (changes : Bool) → Bool
is_unheard (Io Output) changes = not changes
is_unheard _ changes = false

-- who gets a second line
abbrev pub is_advised : Audience → Bool
is_advised Terminal = true
is_advised Script = true
is_advised _ = false

-- a program gets the line of the refusal and nothing else, and nobody is told that an output failed which nobody reads, unless the command was done; a
-- script gets its second line always, and that line begins with the word of the refusal
unfoldable pub told : Audience → Known → Refusal → List ℕ
told Program known refusal = refusal_line refusal
told Terminal known refusal = refusal_line refusal ++ remedy_line known refusal
told Script known refusal = refusal_line refusal ++ (word_front known refusal ++ remedy_line known refusal)
told Departed known refusal = if is_unheard refusal known.changes then [] else refusal_line refusal

-- who reads the report of a run: nobody who has asked for no words, if the reader of its output is gone
abbrev pub audience_after_output : Audience → (is_unread : Bool) → Audience
audience_after_output Program true = Departed
audience_after_output Terminal true = Departed
audience_after_output audience _ = audience
