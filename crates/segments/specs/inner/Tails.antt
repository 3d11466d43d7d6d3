-- The whole sectors of bytes, and the bytes after them.
use Rattle.std.specs.Prelude.{ℕ, List, length, take, drop, ◌*◌, ◌/◌}
use Rattle.segments.specs.declared.tail.Tail.{Tail}

-- the bytes of whole sectors
unfoldable pub whole_bytes : List ℕ → List ℕ
whole_bytes bytes = take (512 * (length bytes / 512)) bytes

-- those after them
unfoldable pub rest_bytes : List ℕ → List ℕ
rest_bytes bytes = drop (512 * (length bytes / 512)) bytes

-- the bytes that do not fill a sector yet
abbrev pub tail_bytes : Tail → List ℕ
tail_bytes t = take t.count t.sector
