-- A reader of the records of a CSV text: its position in the text, and the remaining records.
use Rattle.std.specs.Prelude.{◌≡◌, ◌<◌, ℕ, Bool, true, false, bytes_eq, List, [], ◌∷◌, length, Option, Some, None}
use Rattle.std.specs.Borrow.{Bor}
use Rattle.csv.specs.Machine.{Read}
use Rattle.csv.specs.Reading.{default_config, reader_config, reader_trim, reader_state, source_of, Ready, records_from}
use Rattle.csv.specs.declared.parser.State.{State}
use Rattle.csv.specs.declared.reader.Reader.{Reader}
use Rattle.csv.specs.declared.reader.Trim.TheVariants as trims

abbrev pub bytes_known : Bor (List ℕ) → Option (List ℕ)
bytes_known text = Some text.now

-- the reader is in this state, and these bytes remain
pub record Stands (r : Reader (Bor (List ℕ))) (s : State) (xs : List ℕ) : Type 0 where
  pub config : reader_config r ≡ default_config
  pub trim : reader_trim r ≡ trims.None
  pub ready : Ready r
  pub source : source_of bytes_known r ≡ Some xs
  pub state : reader_state r ≡ s

-- the result of reading the next record
abbrev pub Reads : Option Read → Bool → List (List ℕ) → Reader (Bor (List ℕ)) → Type 0
Reads None found fields r = found ≡ false
Reads (Some p) found fields r = (found ≡ true) × (fields ≡ p.0) × Stands r p.1 p.2

-- the remaining records of a text in this state with these bytes: more steps than bytes return them
abbrev pub Left : List (List (List ℕ)) → State → List ℕ → Type 0
Left records s xs = (n : ℕ) → length xs < n → records ≡ records_from default_config n s xs

-- a reader with these remaining records
pub record HasLeft (r : Reader (Bor (List ℕ))) (records : List (List (List ℕ))) : Type 0 where
  pub state : State
  pub bytes : List ℕ
  pub stands : Stands r state bytes
  pub left : Left records state bytes

-- the result of reading the next of these records
abbrev pub TakesNext : List (List (List ℕ)) → Bool → List (List ℕ) → Reader (Bor (List ℕ)) → Type 0
TakesNext [] found fields r = found ≡ false
TakesNext (fs ∷ others) found fields r = (found ≡ true) × (fields ≡ fs) × HasLeft r others

-- whether there is a field and it has this text
abbrev pub is_text : Option (List ℕ) → List ℕ → Bool
is_text None name = false
is_text (Some t) name = bytes_eq t name
