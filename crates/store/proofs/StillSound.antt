-- What a store knows of itself: its runs are on its device, and all of it is still so where the device keeps its size and the book is the same.
use Rattle.std.specs.Prelude.{◌≡◌, ◌∷◌, ℕ, true, None, List, Some}
use Rattle.sector_dev.specs.declared.device.SectorDevice.{Ghosts}
use Rattle.catalogue.specs.Entries.{runs_of, PlainEntry, runs_in_segments, has_form}
use Rattle.catalogue.specs.Edits.{entry_of}
use Rattle.commit.specs.laws.Frame.{fault_none}
use Rattle.commit.specs.Placing.{Uses}
use Rattle.commit.specs.Standing.{is_size, is_on_device, runs_fault, all_on_device}
use Rattle.export_book.specs.Book.{PlainBook, runs_kept}
use Rattle.pages.specs.Stored.{form_of}
use Rattle.store_changes.specs.laws.ReadTables.{runs_on_device}
use Rattle.store.specs.declared.store.Store.{Store}
use Rattle.store.specs.Exported.{AreExportable}
use Rattle.store.specs.Fits.{book_of, device_of, listed_in}

-- the ghost fields of a store, with this size and this book
pub record StillSound {D : Type 0} {g : Ghosts D} (s : Store D g) (size : ℕ) (book : PlainBook) : Type 0 where
  pub in_limits : is_size size ≡ true
  pub same : s.opened.map.size ≡ size
  pub own : s.opened.commit.device_sectors ≡ size
  pub fit : runs_fault size s.opened.commit.catalogue.run (runs_of (listed_in s)) ≡ None
  pub placed : is_on_device size s.opened.commit.catalogue.run ≡ true
  pub form : has_form (form_of s.opened.commit.version) (listed_in s) ≡ true
  pub uses : Uses s.opened.map.entries (s.opened.commit.catalogue.run ∷ runs_of (listed_in s)) (runs_kept book.exports)
  pub exported : AreExportable size book.exports

module _ {D : Type 0} {g : Ghosts D} (s : Store D g) where
  pub still_sound : (size : ℕ) (book : PlainBook) → size ≡ g.size (device_of s) → book ≡ book_of s → StillSound s size book
  still_sound size book sized kept =
      rw (sized, kept) (record { in_limits = s.in_limits; same = s.same; own = s.own; fit = s.fit; placed = s.placed; form = s.form; uses = s.uses; exported = s.exported })

  pub all_placed : all_on_device (g.size (device_of s)) (runs_of (listed_in s)) ≡ true
  all_placed = (fault_none (g.size (device_of s)) s.opened.commit.catalogue.run (runs_of (listed_in s)) s.fit).0

  pub entry_placed : (name : List ℕ) (e : PlainEntry) → entry_of (listed_in s) name ≡ Some e → all_on_device (g.size (device_of s)) (runs_in_segments e.segments) ≡ true
  entry_placed name e found = runs_on_device (g.size (device_of s)) (listed_in s) name e all_placed found
