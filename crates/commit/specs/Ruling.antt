-- The commit that rules an image.
use Rattle.std.specs.Prelude.{◌≡◌, ℕ, if◌then◌else◌, nat_lt, [], Option, Some, None}
use Rattle.sector_dev.specs.Disk.{Disk, Image, synced_image}
use Rattle.commit.specs.declared.sector.Commit.{Commit}
use Rattle.commit.specs.Sector.{commit_at}

-- the commit of the greater epoch
unfoldable pub newer : Option Commit → Option Commit → Option Commit
newer None b = b
newer (Some a) None = Some a
newer (Some a) (Some b) = if nat_lt a.epoch b.epoch then Some b else Some a

-- the commit that rules: the newer one of those in the two commit sectors
unfoldable pub ruling : Image → Option Commit
ruling image = newer (commit_at 0 (image 0)) (commit_at 1 (image 1))

-- nothing is pending, and reads return what is synced
pub record IsQuiet (d : Disk) : Type 0 where
  pub pending : (n : ℕ) → (d.at n).pending ≡ []
  pub shown : (n : ℕ) → (d.at n).shown ≡ (d.at n).synced

-- everything is synced, and this commit rules
pub record Rests (d : Disk) (c : Commit) : Type 0 where
  pub quiet : IsQuiet d
  pub rules : ruling (synced_image d) ≡ Some c
