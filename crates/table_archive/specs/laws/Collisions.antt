-- Byte strings with one SHA-256.
use Rattle.std.specs.Prelude.{◌≡◌, ◌≢◌, ◌⊎◌, ℕ, Bool, true, false, List, refl}
use Rattle.std.proofs.Common.{inl, inr}
use Rattle.std.specs.Str.{bytes_eq}
use Rattle.std.proofs.lemmas.Bool.Decides.{not_from_Decides}
use Rattle.std.proofs.lemmas.Slice.Eq.{bytes_eq-Decides}
use Rattle.sha2.specs.Sha256.{sha256}
use Rattle.table_archive.specs.Archive.{Collision}

-- they are the same, or a collision
pub same_or_collision : (one other : List ℕ) → sha256 one ≡ sha256 other → (one ≡ other) ⊎ Collision
same_or_collision one other alike = by_test (bytes_eq one other) refl
  where
    by_test : (b : Bool) → bytes_eq one other ≡ b → (one ≡ other) ⊎ Collision
    by_test true is = inl ((bytes_eq-Decides one other).0 is)
    by_test false is =
        inr (record { one = one; other = other; differ = not_from_Decides (bytes_eq one other) (bytes_eq-Decides one other) is; alike = alike })
