-- What is left of a text whose lines are read one by one.
use Rattle.std.specs.Borrow.{Bor}
use Rattle.std.specs.List.{slice_split}
use Rattle.std.specs.Prelude.{◌==◌, ◌+◌, ℕ, List, [], length, Option, Some, None}

-- the lines of what is left of a text, if something is
abbrev pub lines_left : Option (Bor (List ℕ)) → List (List ℕ)
lines_left None = []
lines_left (Some text) = slice_split (λ b. b == 10) text.now

-- the size of what is left, which may be an empty line after the last line feed
abbrev pub size_left : Option (Bor (List ℕ)) → ℕ
size_left None = 0
size_left (Some text) = 1 + length text.now
