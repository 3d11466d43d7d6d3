-- Command lines with options, and what is found in them: an option comes before, among or after the operands, with its value in the same word or
-- the next one.
use Rattle.std.specs.Prelude.{◌≡◌, ◌⊎◌, ◌≤◌, ◌++◌, true, List, [], ◌∷◌, drop, length, codes, unwrap_or}
use Rattle.clap.specs.Lexer.{usize_max}
use Rattle.clap.specs.Words.{App, Row, Text, all_of, matches_of}
use Rattle.cli_requests.specs.Apps.{IsOwnApp}
use Rattle.cli_requests.specs.Numbers.{is_number}
use Rattle.cli_requests.specs.Right.{AreTaken, NamesChoice}
use Rattle.cli_requests.specs.StoreWords.{first_word}

-- an argument with its values
abbrev pub Valued : Type 0
Valued = Text × List Text

abbrev pub AreFound : List Row → List Valued → Type 0
AreFound rows [] = Unit {0}
AreFound rows (argument ∷ rest) = (unwrap_or (all_of argument.0 rows) [] ≡ argument.1) × AreFound rows rest

-- `clap` accepts the words, and finds these values for these arguments
pub record AreReadAs (arguments : List Text) (values : List Valued) : Type 0 where
  pub taken : AreTaken arguments
  pub found : (command : App) → IsOwnApp (first_word arguments) command → AreFound (matches_of command (drop 1 arguments)) values

-- `arrowstore` and these words
abbrev pub called : List Text → List Text
called words = codes "arrowstore" ∷ words

pub record AreExamples : Type 0 where
  pub format : AreReadAs (called (codes "format" ∷ codes "store" ∷ codes "4096" ∷ codes "--format-version" ∷ codes "1" ∷ []))
      ((codes "STORE", codes "store" ∷ []) ∷ (codes "SECTORS", codes "4096" ∷ []) ∷ (codes "format-version", codes "1" ∷ []) ∷ [])
  pub device : AreReadAs (called (codes "format" ∷ codes "device" ∷ codes "--over" ∷ []))
      ((codes "STORE", codes "device" ∷ []) ∷ (codes "SECTORS", []) ∷ (codes "over", codes "true" ∷ []) ∷ [])
  pub info : AreReadAs (called (codes "info" ∷ codes "--json" ∷ codes "store" ∷ []))
      ((codes "STORE", codes "store" ∷ []) ∷ (codes "json", codes "true" ∷ []) ∷ [])
  pub compacted : AreReadAs (called (codes "compact" ∷ codes "store" ∷ codes "--steps" ∷ codes "100" ∷ []))
      ((codes "STORE", codes "store" ∷ []) ∷ (codes "steps", codes "100" ∷ []) ∷ [])
  pub sent : AreReadAs (called (codes "send" ∷ codes "store" ∷ codes "--have" ∷ codes "digests" ∷ []))
      ((codes "STORE", codes "store" ∷ []) ∷ (codes "have", codes "digests" ∷ []) ∷ [])
  pub received : AreReadAs (called (codes "receive" ∷ codes "--delete" ∷ codes "store" ∷ []))
      ((codes "STORE", codes "store" ∷ []) ∷ (codes "delete", codes "true" ∷ []) ∷ [])
  pub like : AreReadAs (called (codes "create" ∷ codes "store" ∷ codes "copy" ∷ codes "--like" ∷ codes "readings" ∷ []))
      ((codes "STORE", codes "store" ∷ []) ∷ (codes "NAME", codes "copy" ∷ []) ∷ (codes "like", codes "readings" ∷ []) ∷ [])
  pub described : AreReadAs (called (codes "schema" ∷ codes "--fields" ∷ codes "store" ∷ codes "readings" ∷ []))
      ((codes "STORE", codes "store" ∷ []) ∷ (codes "NAME", codes "readings" ∷ []) ∷ (codes "fields", codes "true" ∷ []) ∷ [])
  pub imported : AreReadAs (called (codes "import" ∷ codes "store" ∷ codes "--new" ∷ codes "readings" ∷ []))
      ((codes "STORE", codes "store" ∷ []) ∷ (codes "NAME", codes "readings" ∷ []) ∷ (codes "new", codes "true" ∷ []) ∷ (codes "complete", codes "false" ∷ [])
      ∷ [])
  pub append : AreReadAs (called (codes "append" ∷ codes "store" ∷ codes "readings" ∷ codes "--as" ∷ codes "csv" ∷ codes "--null=NA" ∷ []))
      ((codes "STORE", codes "store" ∷ []) ∷ (codes "NAME", codes "readings" ∷ []) ∷ (codes "as", codes "csv" ∷ []) ∷ (codes "null", codes "NA" ∷ []) ∷ [])
  pub printed : AreReadAs
      (called (codes "query" ∷ codes "store" ∷ codes "readings" ∷ codes "value >= 7" ∷ codes "--columns" ∷ codes "id,value" ∷ codes "--limit" ∷ codes "10"
      ∷ []))
      ((codes "STORE", codes "store" ∷ []) ∷ (codes "NAME", codes "readings" ∷ []) ∷ (codes "CONDITION", codes "value >= 7" ∷ [])
      ∷ (codes "columns", codes "id,value" ∷ []) ∷ (codes "limit", codes "10" ∷ []) ∷ (codes "objects", codes "false" ∷ []) ∷ [])
  pub objects : AreReadAs
      (called (codes "query" ∷ codes "--objects" ∷ codes "store" ∷ codes "readings" ∷ codes "a = 1" ∷ codes "--limit=10" ∷ codes "b = 2" ∷ []))
      ((codes "STORE", codes "store" ∷ []) ∷ (codes "NAME", codes "readings" ∷ []) ∷ (codes "CONDITION", codes "a = 1" ∷ codes "b = 2" ∷ [])
      ∷ (codes "limit", codes "10" ∷ []) ∷ (codes "objects", codes "true" ∷ []) ∷ [])
  pub saved : AreReadAs (called (codes "query" ∷ codes "--save=chosen" ∷ codes "store" ∷ codes "readings" ∷ []))
      ((codes "STORE", codes "store" ∷ []) ∷ (codes "NAME", codes "readings" ∷ []) ∷ (codes "save", codes "chosen" ∷ []) ∷ [])
  pub applied : AreReadAs (called (codes "apply" ∷ codes "store" ∷ codes "-" ∷ codes "--wait" ∷ []))
      ((codes "STORE", codes "store" ∷ []) ∷ (codes "SCRIPT", codes "-" ∷ []) ∷ (codes "wait", codes "true" ∷ []) ∷ [])
  pub replay : AreReadAs
      (called (codes "replay" ∷ codes "script" ∷ codes "--sectors" ∷ codes "16" ∷ codes "--stop" ∷ codes "8" ∷ codes "--choice" ∷ codes "new" ∷ []))
      ((codes "SCRIPT", codes "script" ∷ []) ∷ (codes "sectors", codes "16" ∷ []) ∷ (codes "stop", codes "8" ∷ []) ∷ (codes "choice", codes "new" ∷ []) ∷ [])

-- the version of a store, as a word
abbrev pub IsVersion : Text → Type 0
IsVersion word = (word ≡ codes "1") ⊎ (word ≡ codes "2")

-- how dates stand, as a word
abbrev pub IsHow : Text → Type 0
IsHow word = (word ≡ codes "number") ⊎ (word ≡ codes "iso")

-- each command with all options that go together, whatever the values are, and without `--dates` too; `--wait` only where it is the only option
pub record AreValuesRead : Type 0 where
  pub format : (version file number : Text) → IsVersion version → is_number number ≡ true
      → AreReadAs (called (codes "format" ∷ (codes "--format-version=" ++ version) ∷ codes "--" ∷ file ∷ number ∷ []))
      ((codes "STORE", file ∷ []) ∷ (codes "SECTORS", number ∷ []) ∷ (codes "format-version", version ∷ []) ∷ (codes "over", codes "false" ∷ []) ∷ [])
  pub over : (version file number : Text) → IsVersion version → is_number number ≡ true
      → AreReadAs (called (codes "format" ∷ codes "--over" ∷ (codes "--format-version=" ++ version) ∷ codes "--" ∷ file ∷ number ∷ []))
      ((codes "STORE", file ∷ []) ∷ (codes "SECTORS", number ∷ []) ∷ (codes "format-version", version ∷ []) ∷ (codes "over", codes "true" ∷ []) ∷ [])
  pub whole : (version file : Text) → IsVersion version
      → AreReadAs (called (codes "format" ∷ codes "--over" ∷ (codes "--format-version=" ++ version) ∷ codes "--" ∷ file ∷ []))
      ((codes "STORE", file ∷ []) ∷ (codes "SECTORS", []) ∷ (codes "format-version", version ∷ []) ∷ (codes "over", codes "true" ∷ []) ∷ [])
  pub info : (file : Text) → AreReadAs (called (codes "info" ∷ codes "--json" ∷ codes "--" ∷ file ∷ []))
      ((codes "STORE", file ∷ []) ∷ (codes "json", codes "true" ∷ []) ∷ [])
  pub compacted : (steps file : Text) → is_number steps ≡ true → AreReadAs (called (codes "compact" ∷ (codes "--steps=" ++ steps) ∷ codes "--" ∷ file ∷ []))
      ((codes "STORE", file ∷ []) ∷ (codes "steps", steps ∷ []) ∷ [])
  pub sent : (digests file : Text) → AreReadAs (called (codes "send" ∷ (codes "--have=" ++ digests) ∷ codes "--" ∷ file ∷ []))
      ((codes "STORE", file ∷ []) ∷ (codes "have", digests ∷ []) ∷ [])
  pub received : (file : Text) → AreReadAs (called (codes "receive" ∷ codes "--delete" ∷ codes "--" ∷ file ∷ []))
      ((codes "STORE", file ∷ []) ∷ (codes "delete", codes "true" ∷ []) ∷ [])
  pub had : (file : Text) → AreReadAs (called (codes "have" ∷ codes "--wait" ∷ codes "--" ∷ file ∷ []))
      ((codes "STORE", file ∷ []) ∷ (codes "wait", codes "true" ∷ []) ∷ [])
  pub like : (table file name : Text) → AreReadAs (called (codes "create" ∷ (codes "--like=" ++ table) ∷ codes "--" ∷ file ∷ name ∷ []))
      ((codes "STORE", file ∷ []) ∷ (codes "NAME", name ∷ []) ∷ (codes "like", table ∷ []) ∷ [])
  pub described : (file name : Text) → AreReadAs (called (codes "schema" ∷ codes "--fields" ∷ codes "--" ∷ file ∷ name ∷ []))
      ((codes "STORE", file ∷ []) ∷ (codes "NAME", name ∷ []) ∷ (codes "fields", codes "true" ∷ []) ∷ [])
  pub imported : (file name : Text) → AreReadAs (called (codes "import" ∷ codes "--new" ∷ codes "--complete" ∷ codes "--" ∷ file ∷ name ∷ []))
      ((codes "STORE", file ∷ []) ∷ (codes "NAME", name ∷ []) ∷ (codes "new", codes "true" ∷ []) ∷ (codes "complete", codes "true" ∷ []) ∷ [])
  pub append : (form null file name : Text) → (form ≡ codes "csv") ⊎ (form ≡ codes "jsonl")
      → AreReadAs (called (codes "append" ∷ (codes "--as=" ++ form) ∷ (codes "--null=" ++ null) ∷ codes "--" ∷ file ∷ name ∷ []))
      ((codes "STORE", file ∷ []) ∷ (codes "NAME", name ∷ []) ∷ (codes "as", form ∷ []) ∷ (codes "null", null ∷ []) ∷ [])
  pub appended : (file name : Text) → AreReadAs (called (codes "append" ∷ codes "--complete" ∷ codes "--" ∷ file ∷ name ∷ []))
      ((codes "STORE", file ∷ []) ∷ (codes "NAME", name ∷ []) ∷ (codes "as", codes "stream" ∷ []) ∷ (codes "complete", codes "true" ∷ []) ∷ [])
  pub dated : (form null how file name : Text) → (form ≡ codes "csv") ⊎ (form ≡ codes "jsonl") → IsHow how
      → AreReadAs (called (codes "append" ∷ (codes "--as=" ++ form) ∷ (codes "--null=" ++ null) ∷ (codes "--dates=" ++ how) ∷ codes "--" ∷ file ∷ name ∷ []))
      ((codes "STORE", file ∷ []) ∷ (codes "NAME", name ∷ []) ∷ (codes "as", form ∷ []) ∷ (codes "null", null ∷ []) ∷ (codes "dates", how ∷ []) ∷ [])
  pub objects : (columns limit file name : Text) (conditions : List Text) → is_number limit ≡ true → length conditions ≤ usize_max
      → AreReadAs
      (called (codes "query" ∷ (codes "--columns=" ++ columns) ∷ (codes "--limit=" ++ limit) ∷ codes "--objects" ∷ codes "--" ∷ file ∷ name ∷ conditions))
      ((codes "STORE", file ∷ []) ∷ (codes "NAME", name ∷ []) ∷ (codes "CONDITION", conditions) ∷ (codes "columns", columns ∷ [])
      ∷ (codes "limit", limit ∷ []) ∷ (codes "objects", codes "true" ∷ []) ∷ [])
  pub saved : (columns limit new file name : Text) (conditions : List Text) → is_number limit ≡ true → length conditions ≤ usize_max
      → AreReadAs
      (called (codes "query" ∷ (codes "--columns=" ++ columns) ∷ (codes "--limit=" ++ limit) ∷ (codes "--save=" ++ new) ∷ codes "--" ∷ file ∷ name
      ∷ conditions))
      ((codes "STORE", file ∷ []) ∷ (codes "NAME", name ∷ []) ∷ (codes "CONDITION", conditions) ∷ (codes "columns", columns ∷ [])
      ∷ (codes "limit", limit ∷ []) ∷ (codes "save", new ∷ []) ∷ [])
  pub dated_objects : (columns limit how file name : Text) (conditions : List Text) → is_number limit ≡ true → IsHow how → length conditions ≤ usize_max
      → AreReadAs
      (called (codes "query" ∷ (codes "--columns=" ++ columns) ∷ (codes "--limit=" ++ limit) ∷ codes "--objects" ∷ (codes "--dates=" ++ how) ∷ codes "--"
      ∷ file ∷ name ∷ conditions))
      ((codes "STORE", file ∷ []) ∷ (codes "NAME", name ∷ []) ∷ (codes "CONDITION", conditions) ∷ (codes "columns", columns ∷ [])
      ∷ (codes "limit", limit ∷ []) ∷ (codes "objects", codes "true" ∷ []) ∷ (codes "dates", how ∷ []) ∷ [])
  pub dated_saved : (columns limit new how file name : Text) (conditions : List Text) → is_number limit ≡ true → IsHow how → length conditions ≤ usize_max
      → AreReadAs
      (called (codes "query" ∷ (codes "--columns=" ++ columns) ∷ (codes "--limit=" ++ limit) ∷ (codes "--save=" ++ new) ∷ (codes "--dates=" ++ how)
      ∷ codes "--" ∷ file ∷ name ∷ conditions))
      ((codes "STORE", file ∷ []) ∷ (codes "NAME", name ∷ []) ∷ (codes "CONDITION", conditions) ∷ (codes "columns", columns ∷ [])
      ∷ (codes "limit", limit ∷ []) ∷ (codes "save", new ∷ []) ∷ (codes "dates", how ∷ []) ∷ [])
  pub applied : (file script : Text) → AreReadAs (called (codes "apply" ∷ codes "--wait" ∷ codes "--" ∷ file ∷ script ∷ []))
      ((codes "STORE", file ∷ []) ∷ (codes "SCRIPT", script ∷ []) ∷ (codes "wait", codes "true" ∷ []) ∷ [])
  pub replay : (sectors fail stop choice version file : Text) → is_number sectors ≡ true → is_number fail ≡ true → is_number stop ≡ true → NamesChoice choice
      → IsVersion version
      → AreReadAs
      (called (codes "replay" ∷ (codes "--sectors=" ++ sectors) ∷ (codes "--fail=" ++ fail) ∷ (codes "--stop=" ++ stop) ∷ (codes "--choice=" ++ choice)
      ∷ (codes "--format-version=" ++ version) ∷ codes "--" ∷ file ∷ []))
      ((codes "SCRIPT", file ∷ []) ∷ (codes "sectors", sectors ∷ []) ∷ (codes "fail", fail ∷ []) ∷ (codes "stop", stop ∷ []) ∷ (codes "choice", choice ∷ [])
      ∷ (codes "format-version", version ∷ []) ∷ [])
