-- A file that another program may have left in doubt: what reads of its first sectors have shown is written again before the first sync.
use Rattle.std.specs.Prelude.{◌≡◌, ℕ, zero, suc, Bool, true, List, Option, Some, None, is_some}
use Rattle.sector_dev.specs.Disk.{now}
use Rattle.sector_dev.specs.declared.confirmed_file.ConfirmedFile.{ConfirmedFile}
use Rattle.sector_dev.specs.declared.confirmed_file.ruling.RulingSectors.{RulingSectors}
use Rattle.sector_dev.specs.declared.sector_file.SectorFile.{Ghosts as FileGhosts}

-- what reads have shown of a sector, if it is one of the first two
abbrev pub seen_in : RulingSectors → ℕ → Option (List ℕ)
seen_in r zero = r.first
seen_in r (suc zero) = r.second
seen_in r (suc (suc n)) = None

abbrev pub noted_in : Option RulingSectors → ℕ → Option (List ℕ)
noted_in None n = None
noted_in (Some r) n = seen_in r n

-- this content was written to the sector since the last sync
abbrev pub HasWritten : {F : Type 0} → FileGhosts F → F → ℕ → Option (List ℕ) → Type 0
HasWritten f file n c = (f.changed file n ≡ true) × (((now (f.story file)).at n).shown ≡ c)

-- the file below
abbrev pub inner_of : {F : Type 0} {f : FileGhosts F} → ConfirmedFile F f → F
inner_of c = c.file

-- no sync has succeeded yet of a file that was there before it was opened, and that can be written
abbrev pub is_in_doubt : {F : Type 0} {f : FileGhosts F} → ConfirmedFile F f → Bool
is_in_doubt c = is_some c.ruling

-- what reads have shown of a sector in doubt, unless it was written since: the first two sectors only
abbrev pub noted : {F : Type 0} {f : FileGhosts F} → ConfirmedFile F f → ℕ → Option (List ℕ)
noted c n = noted_in c.ruling n
