-- The store after a call that only reads.
use Rattle.std.specs.Prelude.{◌≡◌, ◌||◌, ℕ, Bool}
use Rattle.sector_dev.specs.Disk.{Story}
use Rattle.sector_dev.specs.declared.device.SectorDevice.{Ghosts}
use Rattle.store.specs.declared.store.Store.{Store}
use Rattle.store_runs.specs.Calls.{PlainReply, is_device_reply}
use Rattle.export_book.specs.View.{book_of}
use Rattle.store_runs.specs.Reading.{OnlyReadsDevice}

-- a call of a store that only reads: the store stays as it is, unless its device failed
pub record OnlyReadsStore {D : Type 0} {g : Ghosts D} (size : D → ℕ) (story : D → Story) (failed : D → ℕ) (tells : Bool) (reply : PlainReply) (old new : Store D g) : Type 0 where
  pub device : OnlyReadsDevice size story failed tells reply old.device new.device
  pub kept : new.opened ≡ old.opened
  pub book : book_of new.book ≡ book_of old.book
  pub halts : new.halted ≡ (old.halted || is_device_reply reply)
