-- Bytes in the sectors of a run.
use Rattle.std.specs.Prelude.{◌≡◌, ◌<◌, ◌+◌, ◌-◌, ◌*◌, ◌/◌, ℕ, suc, zero, List, [], ◌++◌, length, take, drop, replicate, Option, Some, None, option_map}
use Rattle.sector_dev.specs.Disk.{Image}

-- the number of sectors that this many bytes need
abbrev pub sector_count : ℕ → ℕ
sector_count bytes = (bytes + 511) / 512

-- a sector that starts with these bytes and is otherwise zero
abbrev pub filled : List ℕ → List ℕ
filled bytes = bytes ++ replicate (512 - length bytes) 0

-- the j-th sector of a run that holds these bytes
unfoldable pub sector_of : List ℕ → ℕ → List ℕ
sector_of bytes j = filled (take 512 (drop (512 * j) bytes))

-- the run that starts here holds these bytes, zero-filled to the end of the last sector
unfoldable pub Holds : Image → ℕ → List ℕ → Type 0
Holds image start bytes = (j : ℕ) → j < sector_count (length bytes) → image (start + j) ≡ Some (sector_of bytes j)

abbrev pub appended : Option (List ℕ) → Option (List ℕ) → Option (List ℕ)
appended (Some front) (Some back) = Some (front ++ back)
appended (Some front) None = None
appended None back = None

-- the contents of `count` sectors in a row, or none if one can't be read
abbrev pub joined : Image → ℕ → ℕ → Option (List ℕ)
joined image start zero = Some []
joined image start (suc count) = appended (joined image start count) (image (start + count))

-- the first bytes from a sector on
unfoldable pub bytes_at : Image → ℕ → ℕ → Option (List ℕ)
bytes_at image start bytes = option_map (take bytes) (joined image start (sector_count bytes))
