-- Segments that are exchanged for others with the same rows leave the tables as they are.
use Rattle.std.specs.Prelude.{◌≡◌, ◌++◌, ◌+◌, ℕ, List, [], ◌∷◌, take, drop, sum_by, Option, Some, None, refl}
use Rattle.std.proofs.Common.{sym, ap, ◌∙◌, arith, take-append-drop, append_assoc}
use Rattle.std.proofs.lemmas.List.Sums.{sum_by-append}
use Rattle.sector_dev.specs.Disk.{Image}
use Rattle.arrow_schema.specs.Column.{PlainSchema}
use Rattle.cells.specs.Cell.{Cell}
use Rattle.catalogue.specs.declared.entry.Segment.{Segment}
use Rattle.catalogue.specs.Entries.{PlainEntry, PlainCatalogue}
use Rattle.catalogue.specs.Edits.{entry_of, with_segments, from_place, with_others, with_exchanged}
use Rattle.catalogue.specs.laws.Changed.{parted}
use Rattle.store_runs.specs.Held.{segment_rows, joined_rows, rows_held, tables_held, rows_or_unknown, rows_known, held_entry, each_held, listed_entry, each_listed}
use Rattle.store_changes.specs.Exchanging.{HoldsSame}
use Rattle.store_changes.specs.laws.Changed.{rows_behind, same_with}
use Rattle.store_changes.specs.laws.Frame.{held_as}
use Rattle.store_changes.specs.laws.Mapped.{exchanged_mapped}

-- how many rows are in segments
abbrev pub row_sum : List Segment → ℕ
row_sum gs = sum_by (λ (g : Segment). g.rows) gs

row_sum_both : (a b : List Segment) → row_sum (a ++ b) ≡ row_sum a + row_sum b
row_sum_both a b = sum_by-append (λ (g : Segment). g.rows) a b

module _ (image : Image) where
  -- the rows of all
  same_rows : (schema : PlainSchema) (segments others : List Segment) (place count : ℕ) → rows_held schema others image ≡ rows_held schema (from_place segments place count) image
      → rows_held schema (with_others segments place count others) image ≡ rows_held schema segments image
  same_rows schema segments others place count same =
      let front = take place segments in
      let rest = drop count (drop place segments) in
      let parted : from_place segments place count ++ rest ≡ drop place segments = take-append-drop count (drop place segments) in
      rows_behind schema front (others ++ rest) image
      ∙ ap (joined_rows (rows_held schema front image))
      (rows_behind schema others rest image ∙ ap (λ (o : Option (List (List Cell))). joined_rows o (rows_held schema rest image)) same
      ∙ sym (rows_behind schema (from_place segments place count) rest image) ∙ ap (λ (ss : List Segment). rows_held schema ss image) parted)
      ∙ sym (rows_behind schema front (drop place segments) image)
      ∙ ap (λ (ss : List Segment). rows_held schema ss image) (take-append-drop place segments)

  pub exchanged_held : (c : PlainCatalogue) (name : List ℕ) (place count : ℕ) (others : List Segment) → HoldsSame image c name place count others
      → tables_held image (with_exchanged c name place count others) ≡ tables_held image c
  exchanged_held c name place count others has =
      let e = has.entry in
      ap (λ (o : Option PlainEntry). tables_held image (elim o [ None ↦ c | Some x ↦ with_segments c name (with_others x.segments place count others) ])) has.found
      ∙ same_with image c name e (with_others e.segments place count others) has.found (same_rows e.schema e.segments others place count has.same)

  -- the rows one by one
  known_both : (schema : PlainSchema) (a b : List Segment) → rows_known schema (a ++ b) image ≡ rows_known schema a image ++ rows_known schema b image
  unfolding rows_known
  known_both schema [] b = refl
  known_both schema (g ∷ gs) b =
      let own = rows_or_unknown g.rows (segment_rows schema g image) in
      ap (λ (xs : List (Option (List Cell))). own ++ xs) (known_both schema gs b) ∙ sym (append_assoc own (rows_known schema gs image) (rows_known schema b image))

  same_known : (schema : PlainSchema) (segments others : List Segment) (place count : ℕ) → rows_known schema others image ≡ rows_known schema (from_place segments place count) image
      → rows_known schema (with_others segments place count others) image ≡ rows_known schema segments image
  same_known schema segments others place count same =
      let front = take place segments in
      let gone = from_place segments place count in
      let rest = drop count (drop place segments) in
      known_both schema front (others ++ rest)
      ∙ ap (λ (xs : List (Option (List Cell))). rows_known schema front image ++ xs)
      (known_both schema others rest ∙ ap (λ (xs : List (Option (List Cell))). xs ++ rows_known schema rest image) same ∙ sym (known_both schema gone rest))
      ∙ sym (known_both schema front (gone ++ rest))
      ∙ ap (λ (ss : List Segment). rows_known schema ss image) (sym (parted segments place count))

  -- each table by itself
  pub exchanged_each : (c : PlainCatalogue) (name : List ℕ) (e : PlainEntry) → entry_of c name ≡ Some e → (place count : ℕ) (others : List Segment)
      → rows_known e.schema others image ≡ rows_known e.schema (from_place e.segments place count) image → each_held image (with_exchanged c name place count others) ≡ each_held image c
  exchanged_each c name e found place count others same =
      exchanged_mapped (held_entry image) c name e found place count others (ap (held_as e) (same_known e.schema e.segments others place count same))

-- ---- the list of the tables

-- the number of all rows
same_count : (segments others : List Segment) (place count : ℕ) → row_sum others ≡ row_sum (from_place segments place count) → row_sum (with_others segments place count others) ≡ row_sum segments
same_count segments others place count same =
    let front = take place segments in
    let gone = from_place segments place count in
    let rest = drop count (drop place segments) in
    let whole : row_sum (front ++ (gone ++ rest)) ≡ row_sum segments = ap row_sum (sym (parted segments place count)) in
    omega (arith, same, whole, row_sum_both front (gone ++ rest), row_sum_both gone rest, row_sum_both front (others ++ rest), row_sum_both others rest)

-- each table is listed as it was, if there are as many rows
pub exchanged_listed : (c : PlainCatalogue) (name : List ℕ) (e : PlainEntry) → entry_of c name ≡ Some e → (place count : ℕ) (others : List Segment)
    → row_sum others ≡ row_sum (from_place e.segments place count) → each_listed (with_exchanged c name place count others) ≡ each_listed c
exchanged_listed c name e found place count others many =
    exchanged_mapped listed_entry c name e found place count others (ap (λ (n : ℕ). (e.name, e.schema, n)) (same_count e.segments others place count many))
