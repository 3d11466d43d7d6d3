-- The words of the commands of a store.
use Rattle.std.specs.Prelude.{Bool, false, nat_eq, ◌||◌, ◌&&◌, List, [], ◌∷◌, codes}
use Rattle.std.specs.List.{list_any, starts_with}
use Rattle.std.specs.Str.{bytes_eq}
use Rattle.clap.specs.Words.{Text}

-- commands that change the tables by standard input; `apply` reads it if `-` stands for its script
unfoldable pub changes_by_input_word : Text → Bool
changes_by_input_word word =
    bytes_eq (codes "import") word || (bytes_eq (codes "append") word || (bytes_eq (codes "apply") word || bytes_eq (codes "receive") word))

-- commands that read standard input; `send` does so if `-` stands for its list of digests
unfoldable pub takes_input_word : Text → Bool
takes_input_word word = changes_by_input_word word || bytes_eq (codes "send") word

-- commands that change the tables, or where their rows lie
unfoldable pub changes_word : Text → Bool
changes_word word =
    changes_by_input_word word
    || (bytes_eq (codes "create") word || (bytes_eq (codes "rename") word || (bytes_eq (codes "drop") word
    || (bytes_eq (codes "compact") word || bytes_eq (codes "upgrade") word))))

-- commands that read one table; a query may be saved as another one
unfoldable pub reads_table_word : Text → Bool
reads_table_word word =
    bytes_eq (codes "schema") word || (bytes_eq (codes "export") word || (bytes_eq (codes "salvage") word || bytes_eq (codes "query") word))

-- commands that read all tables, or what is listed of them
unfoldable pub reads_tables_word : Text → Bool
reads_tables_word word = bytes_eq (codes "tables") word || (bytes_eq (codes "check") word || (bytes_eq (codes "info") word || (bytes_eq (codes "have") word
    || bytes_eq (codes "send") word)))

-- commands that read tables
unfoldable pub reads_word : Text → Bool
reads_word word = reads_table_word word || reads_tables_word word

-- commands that make a store in a new file
unfoldable pub makes_word : Text → Bool
makes_word word = bytes_eq (codes "format") word || bytes_eq (codes "copy") word

-- commands that ask for something else than a command of an open store
unfoldable pub has_own_request : Text → Bool
has_own_request word = makes_word word || (bytes_eq (codes "salvage") word || (bytes_eq (codes "replay") word || (bytes_eq (codes "apply") word
    || (bytes_eq (codes "send") word || bytes_eq (codes "receive") word))))

unfoldable pub is_store_word : Text → Bool
is_store_word word = changes_word word || (makes_word word || (bytes_eq (codes "replay") word || reads_word word))

-- the program's name and a command of a store
unfoldable pub is_of_store : List Text → Bool
is_of_store [] = false
is_of_store (name ∷ []) = false
is_of_store (name ∷ word ∷ rest) = is_store_word word

-- the program's name and a command that reads standard input
unfoldable pub takes_input : List Text → Bool
takes_input [] = false
takes_input (name ∷ []) = false
takes_input (name ∷ word ∷ rest) = takes_input_word word

-- a word that asks for help: `--help`, or `-h` and whatever follows it in the word
unfoldable pub is_help_word : Text → Bool
is_help_word word = bytes_eq (codes "--help") word || starts_with nat_eq word (codes "-h")

-- some word asks for help
unfoldable pub ask_for_help : List Text → Bool
ask_for_help arguments = list_any is_help_word arguments

-- the first word after the program's name; empty if there is none
unfoldable pub first_word : List Text → Text
first_word [] = []
first_word (name ∷ []) = []
first_word (name ∷ word ∷ rest) = word

-- the program's name, the word `help` and a command of a store, or a word that asks for the help of `help` itself
unfoldable pub ask_help_of_command : List Text → Bool
ask_help_of_command [] = false
ask_help_of_command (name ∷ []) = false
ask_help_of_command (name ∷ word ∷ []) = false
ask_help_of_command (name ∷ word ∷ command ∷ rest) = bytes_eq (codes "help") word && (is_store_word command || is_help_word command)
