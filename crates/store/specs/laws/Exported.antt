-- What open exports keep stays the same while the sectors of their runs do.
use Rattle.std.specs.Prelude.{◌≡◌, ◌⊎◌, ◌≤◌, ◌+◌, ◌&&◌, ◌++◌, ℕ, true, nat_le, List, [], ◌∷◌, option_map, refl}
use Rattle.std.specs.List.{flat_map}
use Rattle.std.proofs.Common.{inl, inr, ⊎_elim, sym, ap, ◌∙◌, arith}
use Rattle.std.proofs.lemmas.Bool.{and_parts, leb-true}
use Rattle.sector_dev.specs.Disk.{Image}
use Rattle.segments.specs.declared.run.Run.{Run}
use Rattle.ipc_canonical.specs.Canonical.{stream_parts}
use Rattle.commit.specs.Standing.{is_on_device, all_on_device, InSome}
use Rattle.export_book.specs.Book.{PlainExport, runs_kept}
use Rattle.catalogue.specs.Entries.{runs_in_segments}
use Rattle.store_runs.specs.Machine.{Export}
use Rattle.store.specs.Exported.{IsExportable, AreExportable}
use Rattle.store.specs.Fits.{ExportFits, ExportsFit}
use Rattle.pages.specs.laws.Local.{in_left, in_right}
use Rattle.store_changes.specs.laws.Spared.{same_each}

-- the runs that a book keeps are those of the machine's exports
pub kept_pinned : (image : Image) (bs : List PlainExport) (es : List Export) → ExportsFit image bs es → runs_kept bs ≡ flat_map (λ (e : Export). e.runs) es
kept_pinned image [] [] fit = refl
kept_pinned image [] (e ∷ es) fit = absurd fit
kept_pinned image (b ∷ bs) [] fit = absurd fit
kept_pinned image (b ∷ bs) (e ∷ es) fit = λ i. sym fit.0.runs i ++ kept_pinned image bs es fit.1 i

-- images that agree on these runs hold the same pieces
module _ (a b : Image) (size : ℕ) where
  same_export : (p : PlainExport) (e : Export) → IsExportable size p → ((n : ℕ) → InSome (runs_in_segments p.segments) n → b n ≡ a n) → ExportFits a p e → ExportFits b p e
  same_export p e is same fits = record {
    id = fits.id;
    runs = fits.runs;
    pieces = ap (λ o. option_map (stream_parts p.schema) o) (same_each a b p.schema p.segments is.sound same) ∙ fits.pieces;
    given = fits.given;
  }

  pub same_exports : (ps : List PlainExport) (es : List Export) → AreExportable size ps → ((n : ℕ) → InSome (runs_kept ps) n → b n ≡ a n) → ExportsFit a ps es → ExportsFit b ps es
  same_exports [] [] are same fit = tt
  same_exports [] (e ∷ es) are same fit = absurd fit
  same_exports (p ∷ ps) [] are same fit = absurd fit
  same_exports (p ∷ ps) (e ∷ es) are same fit = (
    same_export p e are.0 (λ n some. same n (in_left (runs_in_segments p.segments) (runs_kept ps) n some)) fit.0,
    same_exports ps es are.1 (λ n some. same n (in_right (runs_in_segments p.segments) (runs_kept ps) n some)) fit.1,
  )

-- ---- the places of the runs

on_device_behind : (size : ℕ) (r : Run) → is_on_device size r ≡ true → 2 ≤ r.start
on_device_behind size r is = leb-true 2 r.start (and_parts (nat_le 2 r.start) (nat_le 1 r.count && nat_le (r.start + r.count) size) is).0

placed_behind : (size : ℕ) (rs : List Run) (n : ℕ) → all_on_device size rs ≡ true → InSome rs n → 2 ≤ n
placed_behind size [] n on within = absurd within
placed_behind size (r ∷ rs) n on (inl here) =
    let behind = on_device_behind size r (and_parts (is_on_device size r) (all_on_device size rs) on).0 in
    let from = here.0 in
    omega arith
placed_behind size (r ∷ rs) n on (inr later) = placed_behind size rs n (and_parts (is_on_device size r) (all_on_device size rs) on).1 later

-- a sector is in some run of the first list or of the second
pub in_either : (rs ss : List Run) (n : ℕ) → InSome (rs ++ ss) n → InSome rs n ⊎ InSome ss n
in_either [] ss n some = inr some
in_either (r ∷ rs) ss n (inl here) = inl (inl here)
in_either (r ∷ rs) ss n (inr later) = ⊎_elim (λ (one : InSome rs n). inl (inr one)) (λ (other : InSome ss n). inr other) (in_either rs ss n later)

-- none of these sectors is a commit sector
pub kept_behind : (size : ℕ) (ps : List PlainExport) (n : ℕ) → AreExportable size ps → InSome (runs_kept ps) n → 2 ≤ n
kept_behind size [] n are within = absurd within
kept_behind size (p ∷ ps) n are within =
    ⊎_elim (λ (one : InSome (runs_in_segments p.segments) n). placed_behind size (runs_in_segments p.segments) n are.0.placed one)
    (λ (other : InSome (runs_kept ps) n). kept_behind size ps n are.1 other) (in_either (runs_in_segments p.segments) (runs_kept ps) n within)
