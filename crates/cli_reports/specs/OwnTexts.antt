-- The program's own texts: its version, the meaning of each refusal, and the help that lists all commands.
use Rattle.std.specs.Prelude.{ℕ, Bool, false, ◌||◌, ◌&&◌, if◌then◌else◌, List, [], ◌∷◌, codes, flat_map}
use Rattle.std.specs.Str.{bytes_eq}
use Rattle.clap.specs.Words.{Text}
use Rattle.cli_reports.specs.Page.{refusals_page}
use Rattle.cli_reports.specs.declared.help.TheConstants.{HELP}
use Rattle.cli_reports.specs.declared.own_texts.TheConstants.{VERSION}

unfoldable pub is_version_word : Text → Bool
is_version_word word = bytes_eq (codes "--version") word || bytes_eq (codes "-V") word

unfoldable pub is_refusals_topic : (word topic : Text) → Bool
is_refusals_topic word topic = bytes_eq (codes "help") word && bytes_eq (codes "refusals") topic

-- after the program's name only such a word
unfoldable pub asks_version : List Text → Bool
asks_version [] = false
asks_version (name ∷ []) = false
asks_version (name ∷ word ∷ []) = is_version_word word
asks_version (name ∷ word ∷ more ∷ rest) = false

-- after the program's name exactly these two words
unfoldable pub asks_refusals : List Text → Bool
asks_refusals [] = false
asks_refusals (name ∷ []) = false
asks_refusals (name ∷ word ∷ []) = false
asks_refusals (name ∷ word ∷ topic ∷ []) = is_refusals_topic word topic
asks_refusals (name ∷ word ∷ topic ∷ more ∷ rest) = false

-- the help of the program
unfoldable pub help_page : List ℕ
help_page = flat_map (λ piece. piece.now) HELP

unfoldable pub is_help_alone : Text → Bool
is_help_alone word = bytes_eq (codes "help") word || (bytes_eq (codes "--help") word || bytes_eq (codes "-h") word)

-- after the program's name only such a word, or only `help` and such a word
unfoldable pub asks_commands : List Text → Bool
asks_commands [] = false
asks_commands (name ∷ []) = false
asks_commands (name ∷ word ∷ []) = is_help_alone word
asks_commands (name ∷ word ∷ topic ∷ []) = bytes_eq (codes "help") word && is_help_alone topic
asks_commands (name ∷ word ∷ topic ∷ more ∷ rest) = false

unfoldable pub is_own : List Text → Bool
is_own arguments = asks_version arguments || (asks_refusals arguments || asks_commands arguments)

-- the text that the arguments ask for
unfoldable pub own_text : List Text → Text
own_text arguments = if asks_version arguments then VERSION.now else (if asks_refusals arguments then refusals_page else help_page)
