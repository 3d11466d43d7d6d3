-- Whether the two commit sectors hold only what commits leave there, whenever they were interrupted.
use Rattle.std.specs.Prelude.{◌+◌, ◌==◌, ◌||◌, ℕ, Bool, true, false, nat_eq, List, Option, Some, None}
use Rattle.std.specs.Cmp.Lexicographic.{pointwise}
use Rattle.sector_dev.specs.Disk.{Image}
use Rattle.sector_dev.specs.History.{zeros}
use Rattle.commit.specs.declared.agreeing.CommitSector.{CommitSector}
use Rattle.commit.specs.declared.agreeing.CommitSector.TheVariants.{Empty, Holds, Changed}
use Rattle.commit.specs.declared.sector.Commit.{Commit}
use Rattle.commit.specs.Sector.{commit_at}

-- the content of a readable sector, by the commit in it, if there is one
abbrev pub content_by : Option Commit → (are_zeros : Bool) → CommitSector
content_by (Some c) are_zeros = Holds c
content_by None true = Empty
content_by None false = Changed

-- the content of the commit sector with this number: a commit; empty, if it has zeros, as before its first commit, or can't be read, as a crash may
-- leave it; or something that no commit leaves there
unfoldable pub content_at : ℕ → Option (List ℕ) → CommitSector
content_at n None = Empty
content_at n (Some bytes) = content_by (commit_at n (Some bytes)) (pointwise nat_eq bytes zeros)

-- the epoch of b follows that of a
abbrev pub is_next : Commit → Commit → Bool
is_next a b = a.epoch + 1 == b.epoch

-- neither commit sector was changed, and of two commits one has the epoch after that of the other
abbrev pub agree : CommitSector → CommitSector → Bool
agree Empty Empty = true
agree Empty (Holds b) = true
agree (Holds a) Empty = true
agree (Holds a) (Holds b) = is_next a b || is_next b a
agree _ _ = false

-- the commit sectors of an image agree
unfoldable pub commits_agree : Image → Bool
commits_agree image = agree (content_at 0 (image 0)) (content_at 1 (image 1))
