-- The text of a commit sector (docs/formats/store.md).
use Rattle.std.specs.Prelude.{◌≤◌, ◌<◌, ◌%◌, ◌^◌, ◌==◌, ◌&&◌, ℕ, Bool, nat_eq, nat_lt, if◌then◌else◌, List, [], ◌∷◌, ◌++◌, drop, Option, Some, None}
use Rattle.std.specs.Cmp.Lexicographic.{pointwise}
use Rattle.byteorder.specs.Endian.{little_bytes, little_number}
use Rattle.segments.specs.Sectors.{filled}
use Rattle.commit.specs.declared.sector.CatalogueKind.{CatalogueKind}
use Rattle.commit.specs.declared.sector.CatalogueKind.TheVariants.{Whole, Pages}
use Rattle.commit.specs.declared.sector.FormatVersion.{FormatVersion}
use Rattle.commit.specs.declared.sector.FormatVersion.TheVariants.{One, Two}
use Rattle.commit.specs.declared.sector.Commit.{Commit}

-- "ARWSTOR1"
abbrev pub letters : List ℕ
letters = 65 ∷ 82 ∷ 87 ∷ 83 ∷ 84 ∷ 79 ∷ 82 ∷ 49 ∷ []

abbrev pub version_number : FormatVersion → ℕ
version_number One = 1
version_number Two = 2

abbrev pub kind_number : CatalogueKind → ℕ
kind_number Whole = 0
kind_number Pages = 1

-- the fields of the sector in order
abbrev pub fields_text : Commit → List ℕ
fields_text c =
    letters ++ (little_bytes 8 c.epoch ++ (little_bytes 8 c.catalogue.run.start ++ (little_bytes 8 c.catalogue.run.count ++ (little_bytes 8 c.catalogue.bytes
    ++ (little_bytes 8 c.device_sectors ++ (little_bytes 4 (version_number c.version) ++ little_bytes 4 (kind_number c.kind)))))))

-- the text of a commit: its fields, and then zeros
unfoldable pub commit_text : Commit → List ℕ
commit_text c = filled (fields_text c)

-- a number of 64 bits at the offset `at`
abbrev pub u64_at : ℕ → List ℕ → ℕ
u64_at at bytes = little_number 8 (drop at bytes)

-- a number of 32 bits at the offset `at`
abbrev pub u32_at : ℕ → List ℕ → ℕ
u32_at at bytes = little_number 4 (drop at bytes)

-- the version with the number at its offset. With any other number, the bytes are not the text of the commit
abbrev pub version_in : List ℕ → FormatVersion
version_in bytes = if u32_at 48 bytes == 2 then Two else One

-- the kind with the number at its offset. With any other number, the bytes are not the text of the commit
abbrev pub kind_in : List ℕ → CatalogueKind
kind_in bytes = if u32_at 52 bytes == 1 then Pages else Whole

-- the commit of a sector's fields, if the sector is the text of one
abbrev pub fields_of : List ℕ → Commit
fields_of bytes = record {
  epoch = u64_at 8 bytes;
  catalogue = record { run = record { start = u64_at 16 bytes; count = u64_at 24 bytes }; bytes = u64_at 32 bytes };
  device_sectors = u64_at 40 bytes;
  version = version_in bytes;
  kind = kind_in bytes;
}

-- the sector of a commit: 0 for even epochs and 1 for odd ones; epochs count from 1
abbrev pub is_placed : ℕ → Commit → Bool
is_placed n c = nat_lt 0 c.epoch && (c.epoch % 2 == n)

-- the commit in the sector with this number: its fields, written again, are these very bytes. A sector that can't be read has none
unfoldable pub commit_at : ℕ → Option (List ℕ) → Option Commit
commit_at n None = None
commit_at n (Some bytes) = if is_placed n (fields_of bytes) && pointwise nat_eq bytes (commit_text (fields_of bytes)) then Some (fields_of bytes) else None

-- a commit that can be written: its epoch counts from 1, and each number fits in 64 bits
pub record IsCommit (c : Commit) : Type 0 where
  pub epoch : 1 ≤ c.epoch
  pub epoch_fits : c.epoch < 2 ^ 64
  pub start_fits : c.catalogue.run.start < 2 ^ 64
  pub count_fits : c.catalogue.run.count < 2 ^ 64
  pub bytes_fit : c.catalogue.bytes < 2 ^ 64
  pub sectors_fit : c.device_sectors < 2 ^ 64
