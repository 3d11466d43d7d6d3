-- An image on which nothing is pending.
use Rattle.std.proofs.Common.{◌≡◌, ℕ, inl, refl}
use Rattle.sector_dev.specs.Disk.{Disk, shown_image, synced_image, MayLeave}

-- where nothing is pending reads show what is synced
pub shown_is_synced : (d : Disk) → ((n : ℕ) → (d.at n).shown ≡ (d.at n).synced) → shown_image d ≡ synced_image d
shown_is_synced d quiet = λ i n. quiet n i

-- what is synced is what a stop may leave
pub own_image : (d : Disk) → MayLeave d (synced_image d)
unfolding MayLeave
own_image d n = inl refl
