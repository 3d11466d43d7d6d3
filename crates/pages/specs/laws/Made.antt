-- What is written is read back: a settled catalogue by its list, or by its root and its old and new pages.
use Rattle.std.specs.Prelude.{◌≡◌, ◌≤◌, ℕ, Bool, true, false, List, length, map, Some, Ok, if◌then◌else◌, refl}
use Rattle.std.specs.List.{AllByRecursion}
use Rattle.std.proofs.Common.{sym, ap, ◌∙◌, arith}
use Rattle.sector_dev.specs.Disk.{Image}
use Rattle.segments.specs.declared.run.Run.{Run}
use Rattle.segments.specs.Pieces.{PlainPiece}
use Rattle.segments.specs.Runs.{OutOf}
use Rattle.segments.specs.Writing.{runs_of as piece_runs, HoldsEach}
use Rattle.catalogue.specs.declared.entry.SegmentForm.{SegmentForm}
use Rattle.catalogue.specs.declared.limits.TheConstants.{MAX_SEGMENTS}
use Rattle.commit.specs.declared.sector.CatalogueKind.TheVariants.{Whole, Pages}
use Rattle.catalogue.specs.Entries.{PlainEntry, PlainCatalogue, segment_count, bare}
use Rattle.catalogue.specs.Text.{list_text, root_text}
use Rattle.catalogue.specs.Reading.{catalogue_at, root_at}
use Rattle.pages.specs.Paging.{is_whole, kind_of, pageless, with_pages, settled, root_of, settled_text}
use Rattle.pages.specs.Stored.{or_no_text, pages_at, by_kind, HoldsPages}
use Rattle.pages.specs.laws.Read.{then_ok, pages_again}
use Rattle.pages.specs.laws.Written.{ArePages, IsRead, IsFree, all_have}
use Rattle.pages.specs.laws.Sizes.{pages_sum}

-- the laws of texts that are used, for this catalogue
pub record TextsAreRead (form : SegmentForm) (c : PlainCatalogue) (runs : List Run) : Type 0 where
  pub list : catalogue_at form (list_text c) ≡ Some (map bare c)
  pub root : is_whole c ≡ false → root_at (root_text (root_of (with_pages c runs))) ≡ Some (root_of (with_pages c runs))
  pub each : AllByRecursion (IsRead form) c
  pub few : segment_count c ≤ MAX_SEGMENTS

-- and of where they go
pub record GoesTo (size : ℕ) (pieces : List PlainPiece) (c : PlainCatalogue) (runs : List Run) : Type 0 where
  pub pages : is_whole c ≡ false → ArePages size pieces (pageless c) runs

pub settled_is_read : (form : SegmentForm) (size : ℕ) (before image : Image) (pieces : List PlainPiece) (holds : HoldsEach image pieces) (same : (n : ℕ) → 2 ≤ n → OutOf (piece_runs pieces) n → image n ≡ before n) (c : PlainCatalogue) (runs : List Run)
    → TextsAreRead form c runs → GoesTo size pieces c runs → HoldsPages form size before c → AllByRecursion (IsFree pieces) c
    → by_kind (kind_of c) form size image (settled_text c runs) ≡ Ok (settled c runs)
settled_is_read form size before image pieces holds same c runs texts goes held free = by_whole (is_whole c) refl
  where
    by_whole : (t : Bool) → is_whole c ≡ t → by_kind (kind_of c) form size image (settled_text c runs) ≡ Ok (settled c runs)
    by_whole true is =
        (λ i. by_kind (if is i then Whole else Pages) form size image (if is i then list_text c else root_text (root_of (with_pages c runs))))
        ∙ ap or_no_text texts.list ∙ ap (λ (t : Bool). Ok (if t then map bare c else with_pages c runs)) (sym is)
    by_whole false is =
        let have = all_have form size before image pieces holds same c runs held free texts.each (goes.pages is) in
        let count : segment_count (with_pages c runs) ≡ segment_count c = pages_sum (λ (e : PlainEntry). length e.segments) (λ e o. refl) c runs in
        let few = texts.few in
        (λ i. by_kind (if is i then Whole else Pages) form size image (if is i then list_text c else root_text (root_of (with_pages c runs))))
        ∙ then_ok (or_no_text (root_at (root_text (root_of (with_pages c runs))))) (pages_at form size image MAX_SEGMENTS) (root_of (with_pages c runs)) (Ok (with_pages c runs)) (ap or_no_text (texts.root is))
        (pages_again form size image MAX_SEGMENTS (with_pages c runs) have (omega (arith, count, few)))
        ∙ ap (λ (t : Bool). Ok (if t then map bare c else with_pages c runs)) (sym is)
