-- The numbers of a store.
use Rattle.std.specs.Prelude.{◌≡◌, ◌≤◌, ◌+◌, ◌&&◌, ◌++◌, ℕ, true, not, List, length, sum_by}
use Rattle.sector_dev.specs.declared.device.SectorDevice.{Ghosts}
use Rattle.segments.specs.declared.run.Run.{Run}
use Rattle.segments.specs.Runs.{IsFree}
use Rattle.segments.specs.Usages.{is_among}
use Rattle.catalogue.specs.Entries.{segment_count}
use Rattle.commit.specs.Sector.{version_number}
use Rattle.commit.specs.Standing.{used_runs, are_apart}
use Rattle.export_book.specs.Book.{runs_kept}
use Rattle.pages.specs.Stored.{stored_reading}
use Rattle.store_runs.specs.Carrying.{IsInUse}
use Rattle.store.specs.declared.store.Store.{Store}
use Rattle.store.specs.declared.summary.Summary.{Summary}
use Rattle.store.specs.Fits.{book_of, commit_of, listed_in}

-- the largest free run has n sectors; 0 if no sector is free
pub record IsLargest (size : ℕ) (used : Run → Type 0) (count : ℕ) : Type 0 where
  pub none_larger : (run : Run) → IsFree size used run → run.count ≤ count
  pub some : 1 ≤ count → (run : Run) × (run.count ≡ count) × IsFree size used run

-- the runs that are kept but not in use have n sectors, each run counted once; and none of these and of those in use shares a sector with another
pub record CountsKept (used kept : List Run) (count : ℕ) : Type 0 where
  pub runs : List Run
  pub each : (run : Run) → is_among runs run ≡ (is_among kept run && not (is_among used run))
  pub apart : are_apart (used ++ runs) ≡ true
  pub counts : count ≡ sum_by (λ r. r.count) runs

-- the sectors of the two commits and of the runs in use: the run of the catalogue's text, and those that the catalogue names
abbrev pub used_sectors : {D : Type 0} {g : Ghosts D} → Store D g → ℕ
used_sectors store = 2 + sum_by (λ r. r.count) (used_runs stored_reading (commit_of store) (listed_in store))

-- the numbers of a store on a device of this size; no free run meets one that is in use, or that an open export keeps
pub record IsSummary {D : Type 0} {g : Ghosts D} (size : ℕ) (store : Store D g) (s : Summary) : Type 0 where
  pub format_version : s.format_version ≡ version_number (commit_of store).version
  pub epoch : s.epoch ≡ (commit_of store).epoch
  pub sectors : s.sectors ≡ size
  pub used : s.used ≡ used_sectors store
  pub kept : CountsKept (used_runs stored_reading (commit_of store) (listed_in store)) (runs_kept (book_of store).exports) s.kept
  pub free : s.used + s.free + s.kept ≡ size
  pub largest : IsLargest size (IsInUse (commit_of store) (listed_in store) (runs_kept (book_of store).exports)) s.largest_free_run
  pub tables : s.tables ≡ length (listed_in store)
  pub segments : s.segments ≡ segment_count (listed_in store)
