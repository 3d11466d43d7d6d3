-- Devices after a stop, and how a run begins with one.
use Rattle.std.specs.Prelude.{◌≡◌, ◌⊎◌, ◌∷◌, ℕ, false, []}
use Rattle.sector_dev.specs.Disk.{Story, now, shown_image, MayLeave}
use Rattle.sector_dev.specs.History.{all_synced}
use Rattle.tables.specs.Tables.{Tables, no_tables}
use Rattle.tables.specs.Verdict.{after}
use Rattle.store_runs.specs.Machine.{Machine, with_doubt}
use Rattle.store.specs.Fits.{DeviceFits, fresh, resumed}

-- a device after a stop: it holds one of the images that the stop may leave, everything synced, and has the same size
pub record IsLeftOf {D : Type 0} (size : D → ℕ) (story : D → Story) (before device : D) : Type 0 where
  pub same : size device ≡ size before
  pub synced : story device ≡ all_synced (shown_image (now (story device))) ∷ []
  pub allowed : MayLeave (now (story before)) (shown_image (now (story device)))

-- a new run may begin with the device: with the tables of the settled commands, with the command in doubt as well, or without a store if there was none
-- before
abbrev pub BeginsAnew : {D : Type 0} → (size : D → ℕ) → (story : D → Story) → Tables → Machine → D → Type 0
BeginsAnew size story base m device =
    DeviceFits size story (after base m.settled) resumed device
    ⊎ DeviceFits size story (after base (with_doubt m.settled m.doubt)) resumed device
    ⊎ ((m.started ≡ false) × DeviceFits size story no_tables fresh device)
