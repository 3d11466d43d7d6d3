-- What reading a run counts and reports.
use Rattle.std.specs.Prelude.{◌≡◌, ◌≢◌, ◌≤◌, ◌<◌, ◌+◌, ◌-◌, ◌*◌, ◌^◌, ℕ, min, None, Result, Ok, Err}
use Rattle.sector_dev.specs.Disk.{Image, Story, moment, now, shown_image}
use Rattle.sector_dev.specs.declared.device.DevError.{DevError}
use Rattle.sector_dev.specs.declared.device.DevError.TheVariants.{Failed as DeviceFailed, Unreadable as SectorUnreadable}
use Rattle.segments.specs.declared.reading.ReadError.{ReadError}
use Rattle.segments.specs.declared.reading.ReadError.TheVariants.{Failed, Unreadable, OutOfMemory}
use Rattle.segments.specs.Sectors.{sector_count}

-- the error of a device for a sector, as an error for the run
abbrev pub read_error : DevError → ReadError
read_error DeviceFailed = Failed
read_error SectorUnreadable = Unreadable

-- a failed read is counted, up to the greatest number; no other result is
abbrev pub CountsRead : {T : Type 0} → ℕ → ℕ → Result T ReadError → Type 0
CountsRead before after (Ok x) = after ≡ before
CountsRead before after (Err Failed) = after ≡ min (before + 1) (2 ^ 64 - 1)
CountsRead before after (Err Unreadable) = after ≡ before
CountsRead before after (Err OutOfMemory) = after ≡ before

-- reading `count` sectors ended with this error at one of them: those before it can be read, and no call began after it
pub record EndsAtSector (error : ReadError) (image : Image) (start count : ℕ) (old new : Story) : Type 0 where
  pub at : ℕ
  pub within : at < count
  pub before : (j : ℕ) → j < at → image (start + j) ≢ None
  pub unreadable : error ≡ Unreadable → image (start + at) ≡ None
  pub begun : moment new ≤ moment old + 2 * (at + 1)

-- the same for the sectors of `bytes` bytes, as reads returned them before
abbrev pub EndsInRun : ReadError → ℕ → ℕ → Story → Story → Type 0
EndsInRun error start bytes old new = EndsAtSector error (shown_image (now old)) start (sector_count bytes) old new
