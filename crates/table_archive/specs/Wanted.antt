-- The digests that a receiver has.
use Rattle.std.specs.Prelude.{◌≡◌, ℕ, List}
use Rattle.std.specs.List.{list_any}
use Rattle.std.specs.Str.{bytes_eq}
use Rattle.table_archive.specs.Archive.{is_among}
use Rattle.table_archive.specs.declared.wanted.WantedDigests.{WantedDigests}

-- the code has these digests, whatever their order and number
abbrev pub Knows : WantedDigests → List (List ℕ) → Type 0
Knows wanted had = (digest : List ℕ) → list_any (bytes_eq digest) wanted.known.keys ≡ is_among digest had
