-- The place of an entry in a sorted list.
use Rattle.std.specs.Prelude.{ℕ, suc, if◌then◌else◌, List, [], ◌∷◌, Option, Some, None, Result, Ok, Err}
use Rattle.std.specs.Str.{bytes_eq}
use Rattle.std.specs.Cmp.Lexicographic.{slice_cmp}
use Rattle.std.specs.Ordering.{nat_cmp, match_ordering}
use Rattle.catalogue.specs.Entries.{PlainCatalogue}

-- the place of the first entry with this name, counted from `at`
abbrev pub place_of : List ℕ → ℕ → PlainCatalogue → Option ℕ
place_of name at [] = None
place_of name at (x ∷ xs) = if bytes_eq x.name name then Some at else place_of name (suc at) xs

-- `Ok` with the place of the entry with this name, or `Err` with that of the first one after it
abbrev pub seat_of : List ℕ → ℕ → PlainCatalogue → Result ℕ ℕ
seat_of name at [] = Err at
seat_of name at (x ∷ xs) = match_ordering (slice_cmp nat_cmp x.name name) (seat_of name (suc at) xs) (Ok at) (Err at)
