-- A move leaves the rows as they are.
use Rattle.std.specs.Prelude.{◌≡◌, ◌++◌, ℕ, true, List, [], ◌∷◌, Some}
use Rattle.std.proofs.Common.{sym, ap, ◌∙◌}
use Rattle.sector_dev.specs.Disk.{Image}
use Rattle.arrow_schema.specs.Column.{PlainSchema}
use Rattle.catalogue.specs.declared.entry.Segment.{Segment}
use Rattle.store_runs.specs.Held.{is_undamaged, bytes_of, rows_in_bytes, rows_in_segment, segment_rows, joined_rows, rows_held, rows_or_unknown, rows_known}
use Rattle.store_runs.specs.Changes.{HoldsStreams}
use Rattle.store_changes.specs.laws.Digests.{rows_undamaged}

-- the new segment holds the bytes of the old one, which are undamaged: the same rows, or as many that are unknown
pub moved_same : (image : Image) (schema : PlainSchema) (others : List Segment) (g : Segment) (bytes : List ℕ) → bytes_of g image ≡ Some bytes → is_undamaged g.digest (Some bytes) ≡ true
    → HoldsStreams image others (bytes ∷ []) (g.rows ∷ []) → (rows_known schema others image ≡ rows_known schema (g ∷ []) image) × (rows_held schema others image ≡ rows_held schema (g ∷ []) image)
unfolding rows_known rows_held segment_rows
moved_same image schema [] g bytes held undamaged holds = absurd (cc holds)
moved_same image schema (x ∷ []) g bytes held undamaged holds =
    let old : rows_in_segment schema g (bytes_of g image) ≡ rows_in_bytes schema g.rows (Some bytes) = ap (rows_in_segment schema g) held ∙ rows_undamaged schema g (Some bytes) undamaged in
    let new : rows_in_segment schema x (bytes_of x image) ≡ rows_in_bytes schema g.rows (Some bytes) =
    ap (rows_in_segment schema x) holds.0 ∙ rows_undamaged schema x (Some bytes) holds.2 ∙ ap (λ (n : ℕ). rows_in_bytes schema n (Some bytes)) holds.1 in
    let count = holds.1 in
    let same = new ∙ sym old in
    (λ i. rows_or_unknown (count i) (same i) ++ [], λ i. joined_rows (same i) (Some []))
moved_same image schema (x ∷ y ∷ ys) g bytes held undamaged holds = absurd holds.3
