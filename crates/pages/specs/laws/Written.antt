-- Pages that are written, and pages that stay where they are, are read as the settled catalogue.
use Rattle.std.specs.Prelude.{◌≡◌, ◌≤◌, ◌<◌, ◌+◌, ◌&&◌, ℕ, true, nat_le, List, [], ◌∷◌, ◌++◌, length, Option, Some, None, Ok, refl}
use Rattle.std.specs.List.{AllByRecursion}
use Rattle.std.proofs.Common.{sym, ap, ◌∙◌, subst, arith}
use Rattle.std.proofs.lemmas.Bool.{and_parts, leb-true}
use Rattle.sector_dev.specs.Disk.{Image}
use Rattle.segments.specs.declared.run.Run.{Run}
use Rattle.segments.specs.declared.extent.Extent.{Extent}
use Rattle.segments.specs.Pieces.{PlainPiece}
use Rattle.segments.specs.Runs.{OutOf}
use Rattle.segments.specs.Sectors.{bytes_at}
use Rattle.segments.specs.laws.ReadBack.{read_back}
use Rattle.segments.specs.Writing.{runs_of as piece_runs, HoldsEach}
use Rattle.commit.specs.Replacing.{IsPieceOf}
use Rattle.commit.specs.Standing.{extent_at, is_extent}
use Rattle.commit.specs.laws.Frame.{piece_holds}
use Rattle.catalogue.specs.declared.entry.SegmentForm.{SegmentForm}
use Rattle.catalogue.specs.Entries.{PlainEntry, PlainCatalogue}
use Rattle.catalogue.specs.Text.{table_text, table_size}
use Rattle.catalogue.specs.Reading.{page_at}
use Rattle.pages.specs.Paging.{pageless, in_page, in_first, tail_of, with_pages}
use Rattle.pages.specs.Stored.{or_no_text, HoldsPage, HoldsPages}
use Rattle.pages.specs.laws.Read.{bound_ok, then_ok, bytes_are, has_bytes, extent_is, same_page, HasPage}

-- these are the runs of the pages that are written for these entries: the text of each page is one of the pieces
abbrev pub ArePages : ℕ → List PlainPiece → List PlainEntry → List Run → Type 0
ArePages size pieces [] [] = Unit {0}
ArePages size pieces [] (run ∷ runs) = ⊥
ArePages size pieces (e ∷ es) [] = ⊥
ArePages size pieces (e ∷ es) (run ∷ runs) = (is_extent size 8 (record { run = run; bytes = table_size e }) ≡ true) × IsPieceOf pieces run (table_text e) × ArePages size pieces es runs

-- a page text is read back, and has its size
pub record IsRead (form : SegmentForm) (e : PlainEntry) : Type 0 where
  pub again : page_at form (length e.segments) (table_text e) ≡ Some (e.schema, e.segments)
  pub size : length (table_text e) ≡ table_size e

-- no piece lies over the page of an entry that has one
abbrev pub IsFree : List PlainPiece → PlainEntry → Type 0
IsFree pieces e = (p : Extent) → e.page ≡ Some p → (n : ℕ) → p.run.start ≤ n → n < p.run.start + p.run.count → OutOf (piece_runs pieces) n

module _ (form : SegmentForm) (size : ℕ) (before image : Image) (pieces : List PlainPiece) (holds : HoldsEach image pieces) (same : (n : ℕ) → 2 ≤ n → OutOf (piece_runs pieces) n → image n ≡ before n) where
  kept : (e : PlainEntry) (p : Extent) → e.page ≡ Some p → HoldsPage form size before e → IsFree pieces e → HasPage form size image e
  kept e p here h free =
      let is = h p here in
      let x = bound_ok (extent_at size before 8 p) (λ bytes. or_no_text (page_at form (length e.segments) bytes)) (e.schema, e.segments) is in
      let on = (extent_is size 8 p (bytes_are size before 8 p x.0 x.1).extent).on in
      let above : 2 ≤ p.run.start = leb-true _ _ (and_parts (nat_le 2 p.run.start) (nat_le 1 p.run.count && nat_le (p.run.start + p.run.count) size) on).0 in
      (p, here, same_page form size before image (length e.segments) p (e.schema, e.segments) is (λ n low high. same n (omega (arith, above, low)) (free p here n low high)))

  written : (e : PlainEntry) (run : Run) → IsRead form e → is_extent size 8 (record { run = run; bytes = table_size e }) ≡ true → IsPieceOf pieces run (table_text e) → HasPage form size image (in_page e run)
  written e run r extent piece =
      let p : Extent = record { run = run; bytes = table_size e } in
      let there = piece_holds image pieces run (table_text e) holds piece in
      let read : bytes_at image run.start (table_size e) ≡ Some (table_text e) = ap (bytes_at image run.start) (sym r.size) ∙ read_back image run.start (table_text e) there in
      (p, refl, then_ok (extent_at size image 8 p) (λ bytes. or_no_text (page_at form (length e.segments) bytes)) (table_text e) (Ok (e.schema, e.segments)) (has_bytes size image 8 p (table_text e) (record { extent = extent; read = read })) (ap or_no_text r.again))

  abbrev Later : PlainCatalogue → Type 0
  Later c = (rs : List Run) → ArePages size pieces (pageless c) rs → AllByRecursion (HasPage form size image) (with_pages c rs)

  pub all_have : (c : PlainCatalogue) (runs : List Run) → HoldsPages form size before c → AllByRecursion (IsFree pieces) c → AllByRecursion (IsRead form) c → ArePages size pieces (pageless c) runs → AllByRecursion (HasPage form size image) (with_pages c runs)
  all_have [] runs h free read are = tt
  all_have (e ∷ es) runs h free read are = by_page (λ rs there. all_have es rs h.1 free.1 read.1 there) e.page refl
    where
      by_runs : Later es → (rs : List Run) → e.page ≡ None → ArePages size pieces (e ∷ pageless es) rs → AllByRecursion (HasPage form size image) (in_first e rs ∷ with_pages es (tail_of rs))
      by_runs each [] none are = absurd are
      by_runs each (run ∷ rs) none are = (written e run read.0 are.0 are.1, each rs are.2)

      by_page : Later es → (o : Option Extent) → e.page ≡ o → AllByRecursion (HasPage form size image) (with_pages (e ∷ es) runs)
      by_page each (Some p) here =
          let front : pageless (e ∷ es) ≡ pageless es = ap (λ (x : Option Extent). elim x [ None ↦ e ∷ [] | Some q ↦ [] ] ++ pageless es) here in
          subst (λ (x : Option Extent). AllByRecursion (HasPage form size image) (elim x [ Some q ↦ e ∷ with_pages es runs | None ↦ in_first e runs ∷ with_pages es (tail_of runs) ])) (sym here)
          (kept e p here h.0 free.0, each runs (subst (λ (d : List PlainEntry). ArePages size pieces d runs) front are))
      by_page each None here =
          let front : pageless (e ∷ es) ≡ e ∷ pageless es = ap (λ (x : Option Extent). elim x [ None ↦ e ∷ [] | Some q ↦ [] ] ++ pageless es) here in
          subst (λ (x : Option Extent). AllByRecursion (HasPage form size image) (elim x [ Some q ↦ e ∷ with_pages es runs | None ↦ in_first e runs ∷ with_pages es (tail_of runs) ])) (sym here)
          (by_runs each runs here (subst (λ (d : List PlainEntry). ArePages size pieces d runs) front are))
