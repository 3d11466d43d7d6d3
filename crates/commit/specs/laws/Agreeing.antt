-- Laws of commit sectors that agree.
use Rattle.std.specs.Prelude.{◌≡◌, ℕ, Bool, nat_eq, List, Option, Some, None}
use Rattle.std.proofs.Common.{ap}
use Rattle.std.specs.Cmp.Lexicographic.{pointwise}
use Rattle.sector_dev.specs.Disk.{Image}
use Rattle.sector_dev.specs.History.{zeros}
use Rattle.commit.specs.declared.agreeing.CommitSector.{CommitSector}
use Rattle.commit.specs.declared.agreeing.CommitSector.TheVariants.{Empty, Holds}
use Rattle.commit.specs.declared.sector.Commit.{Commit}
use Rattle.commit.specs.Sector.{commit_at}
use Rattle.commit.specs.Agreeing.{content_by, content_at, agree, commits_agree}

-- a sector with a commit holds this commit
pub holds_commit : (n : ℕ) (x : Option (List ℕ)) (c : Commit) → commit_at n x ≡ Some c → content_at n x ≡ Holds c
unfolding content_at commit_at
holds_commit n None c is = absurd (cc is)
holds_commit n (Some bytes) c is = ap (λ (o : Option Commit). content_by o (pointwise nat_eq bytes zeros)) is

-- a sector without a commit is empty if it has zeros, and was changed otherwise
pub holds_other : (n : ℕ) (bytes : List ℕ) (are_zeros : Bool) → commit_at n (Some bytes) ≡ None → pointwise nat_eq bytes zeros ≡ are_zeros → content_at n (Some bytes) ≡ content_by None are_zeros
unfolding content_at
holds_other n bytes are_zeros none is = λ i. content_by (none i) (is i)

-- a sector that can't be read is empty
pub holds_lost : (n : ℕ) (x : Option (List ℕ)) → x ≡ None → content_at n x ≡ Empty
unfolding content_at
holds_lost n x is = ap (content_at n) is

-- agreement depends only on the commit sectors
pub same_agreement : (i j : Image) → j 0 ≡ i 0 → j 1 ≡ i 1 → commits_agree j ≡ commits_agree i
unfolding commits_agree
same_agreement i j zeroth first = λ k. agree (content_at 0 (zeroth k)) (content_at 1 (first k))

-- agreement by the contents of the two sectors
pub agreement_of : (image : Image) (zeroth first : CommitSector) → content_at 0 (image 0) ≡ zeroth → content_at 1 (image 1) ≡ first → commits_agree image ≡ agree zeroth first
unfolding commits_agree
agreement_of image zeroth first a b = λ k. agree (a k) (b k)
