-- How one more line is grouped.
use Rattle.std.specs.Prelude.{◌≡◌, ◌+◌, ℕ, false, List, [], ◌∷◌, ◌++◌, length, Option, Some, None}
use Rattle.cli_scripts.specs.Items.{PlainGrouping, AreGrouped, HasNoneThere, may_follow}
use Rattle.cli_scripts.specs.Script.{PlainLine, HasLine}

-- a line with this number is added to the lines that are grouped, or it may not follow them
abbrev pub AddsLine : PlainGrouping → (number : ℕ) → PlainLine → Option PlainGrouping → Type 0
AddsLine old number line None = may_follow old.list line ≡ false
AddsLine old number line (Some new) = (lines : List PlainLine) → AreGrouped lines old → number ≡ length lines + 1 → AreGrouped (lines ++ line ∷ []) new

-- the line of these words is added, or they have none that may follow
abbrev pub AddsWords : PlainGrouping → (number : ℕ) → Option (List (List ℕ)) → Option PlainGrouping → Type 0
AddsWords old number words None = HasNoneThere old.list words
AddsWords old number words (Some new) = (line : PlainLine) × HasLine words line × AddsLine old number line (Some new)
