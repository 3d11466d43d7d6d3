-- A script that is played. One commit in it is a line by itself, or all lines between `begin` and `commit`.
use Rattle.std.specs.Prelude.{◌≡◌, ◌⊎◌, ◌<◌, ◌+◌, ℕ, Bool, true, false, List, [], ◌∷◌, ◌++◌, length, take, get_or, Option, Some, None, Result, Ok, Err}
use Rattle.std.specs.List.{list_all}
use Rattle.cli_scripts.specs.declared.script.ScriptError.{ScriptError}
use Rattle.cli_scripts.specs.declared.script.ScriptError.TheVariants.{BadLine, OutOfMemory}
use Rattle.cli_scripts.specs.Script.{PlainLine, append_text, begin_list, commit_list, changes_tables, HasLine, HasNone, HaveLines}
use Rattle.cli_scripts.specs.Words.{lines_of, HaveWords}

-- the lines between `begin` and `commit`; the number is that of `begin`, counted from 1
pub record PlainList : Type 0 where
  pub number : ℕ
  pub lines : List PlainLine

-- a line by itself, with its number, or a list
pub data PlainItem : Type 0 where
  one : (number : ℕ) → (line : PlainLine) → PlainItem
  listed : (list : PlainList) → PlainItem

-- the number of the first line
abbrev pub number_of : PlainItem → ℕ
number_of (one number line) = number
number_of (listed list) = list.number

-- a line that neither begins nor ends a list, and whose call is known before the tables are: a text is read for the schema of its table
abbrev pub is_alone : PlainLine → Bool
is_alone begin_list = false
is_alone commit_list = false
is_alone (append_text name file form) = false
is_alone _ = true

-- a line of a list: it changes tables, and its command is known before the tables are
abbrev pub is_known_change : PlainLine → Bool
is_known_change (append_text name file form) = false
is_known_change line = changes_tables line

-- ---- the items of lines

-- the lines of an item, as they stand in the script
abbrev pub lines_in : PlainItem → List PlainLine
lines_in (one number line) = line ∷ []
lines_in (listed list) = begin_list ∷ list.lines ++ commit_list ∷ []

-- a list has lines that change tables and whose commands are known, and no others
abbrev pub IsItem : PlainItem → Type 0
IsItem (one number line) = is_alone line ≡ true
IsItem (listed list) = list_all is_known_change list.lines ≡ true

-- lines, of which the first has this number, are these items one after another
abbrev pub AreItems : ℕ → List PlainLine → List PlainItem → Type 0
AreItems number lines [] = lines ≡ []
AreItems number lines (item ∷ items) =
    (rest : List PlainLine) × (lines ≡ lines_in item ++ rest) × IsItem item × (number_of item ≡ number) × AreItems (number + length (lines_in item)) rest items

-- ---- the first invalid line

-- the items of the first lines, and the list that is open after them
pub record PlainGrouping : Type 0 where
  pub items : List PlainItem
  pub list : Option PlainList

-- `begin` and the lines after it
abbrev pub GoesOn : (front : List PlainLine) → Option PlainList → List PlainLine → Type 0
GoesOn front None lines = lines ≡ front
GoesOn front (Some list) lines = (lines ≡ front ++ begin_list ∷ list.lines) × (list.number ≡ length front + 1) × (list_all is_known_change list.lines ≡ true)

-- these first lines of a script are items, behind which a list may be open
pub record AreGrouped (lines : List PlainLine) (grouping : PlainGrouping) : Type 0 where
  pub front : List PlainLine
  pub items : AreItems 1 front grouping.items
  pub rest : GoesOn front grouping.list lines

-- a line may follow: where a list is open, `commit` or a line of a list; where none is, `begin` or a line by itself
abbrev pub may_follow : Option PlainList → PlainLine → Bool
may_follow None begin_list = true
may_follow None line = is_alone line
may_follow (Some list) commit_list = true
may_follow (Some list) line = is_known_change line

-- these words have no line that may follow
abbrev pub HasNoneThere : Option PlainList → Option (List (List ℕ)) → Type 0
HasNoneThere list words = HasNone words ⊎ ((line : PlainLine) × HasLine words line × (may_follow list line ≡ false))

-- the first line that is none, or may not follow those before it; its number counts from 1
pub record IsBadLine (texts : List (Option (List (List ℕ)))) (number : ℕ) : Type 0 where
  pub index : ℕ
  pub counted : number ≡ index + 1
  pub among : index < length texts
  pub front : List PlainLine
  pub before : HaveLines (take index texts) front
  pub grouping : PlainGrouping
  pub grouped : AreGrouped front grouping
  pub bad : HasNoneThere grouping.list (get_or texts index None)

-- there is no such line, but no `commit` behind the `begin` with this number
pub record HasNoEnd (texts : List (Option (List (List ℕ)))) (number : ℕ) : Type 0 where
  pub lines : List PlainLine
  pub all : HaveLines texts lines
  pub items : List PlainItem
  pub list : PlainList
  pub grouped : AreGrouped lines (record { items = items; list = Some list })
  pub begun : list.number ≡ number

-- ---- a script

-- the items that words have, or the first invalid line
abbrev pub AreParsed : List (Option (List (List ℕ))) → Result (List PlainItem) ScriptError → Type 0
AreParsed texts (Ok items) = (lines : List PlainLine) × HaveLines texts lines × AreItems 1 lines items
AreParsed texts (Err (BadLine number)) = IsBadLine texts number ⊎ HasNoEnd texts number
AreParsed texts (Err OutOfMemory) = Unit {0}

-- the items of a script, or its first invalid line
abbrev pub IsScript : List ℕ → Result (List PlainItem) ScriptError → Type 0
IsScript script parsed = (texts : List (Option (List (List ℕ)))) × HaveWords (lines_of script) texts × AreParsed texts parsed
