-- What the change of a step is and does: it can be made, it keeps the tables, and it shrinks the catalogue.
use Rattle.std.specs.Prelude.{◌≡◌, ◌≤◌, ◌<◌, ◌+◌, ◌^◌, ◌++◌, ◌&&◌, ◌==◌, ℕ, zero, suc, Bool, true, false, nat_le, nat_lt, List, [], ◌∷◌, length, map, flat_map, take, drop, sum_by, slice_get, Some, Ok, refl, if◌then◌else◌}
use Rattle.std.specs.List.{list_all, AllByRecursion}
use Rattle.std.proofs.Common.{inl, inr, sym, ap, ◌∙◌, subst, arith, take-append-drop, length-append}
use Rattle.std.proofs.lemmas.Bool.{and_parts, leb-true}
use Rattle.std.proofs.lemmas.List.{length-map, map-append}
use Rattle.std.proofs.lemmas.List.Concat.{flat_map-cons}
use Rattle.std.proofs.lemmas.List.Sums.{sum_by-cons, sum_by-append}
use Rattle.sector_dev.specs.Disk.{Image}
use Rattle.segments.specs.Runs.{IsLowest}
use Rattle.segments.specs.Sectors.{bytes_at, sector_count}
use Rattle.segments.specs.laws.ReadBack.{same_bytes}
use Rattle.segments.specs.laws.Usages.{one_lowest}
use Rattle.segments.specs.declared.run.Run.{Run}
use Rattle.arrow_schema.specs.Column.{PlainSchema}
use Rattle.cells.specs.Cell.{Cell, PlainTable}
use Rattle.values.specs.Table.{IsTable}
use Rattle.ipc_canonical.specs.PieceStreams.{piece_stream, piece_streams, piece_counts}
use Rattle.ipc_encode.specs.Pieces.{IsPiece}
use Rattle.table_cut.specs.Cut.{pieces, pieces_from}
use Rattle.table_cut.specs.CutRows.{joined}
use Rattle.table_cut.specs.Piece.{pieces_of, within_piece}
use Rattle.catalogue.specs.declared.entry.Segment.{Segment}
use Rattle.catalogue.specs.declared.limits.TheConstants.{MAX_SEGMENTS, MAX_SEGMENT_ROWS}
use Rattle.catalogue.specs.Entries.{PlainEntry, PlainCatalogue, is_filled, is_digest, is_segment, is_entry, is_between, runs_in_segments, runs_of, segment_count, IsCatalogue}
use Rattle.catalogue.specs.Edits.{entry_of, with_segments, from_place, with_others, with_exchanged}
use Rattle.catalogue.specs.laws.Kept.{entry_is}
use Rattle.catalogue.specs.laws.Sums.{refilled_sum, segments_in}
use Rattle.catalogue.specs.laws.Changed.{found_passes, exchanged_is}
use Rattle.commit.specs.Placing.{Takes, sectors_of as sectors_in}
use Rattle.commit.specs.Standing.{InSome}
use Rattle.commit.specs.laws.Placed.{took_length}
use Rattle.store_runs.specs.declared.compacting.Compaction.{Compaction}
use Rattle.store_runs.specs.declared.compacting.Compaction.TheVariants as compactions
use Rattle.pages.specs.Paging.{page_sizes, text_size, settled}
use Rattle.pages.specs.laws.Sizes.{settled_sum}
use Rattle.store_runs.specs.Held.{rows_held, rows_known, listed_entry, each_listed}
use Rattle.store_runs.specs.laws.Known.{rows_each_known}
use Rattle.store_runs.specs.Changes.{PlainChange, CanChange, digest_for, edited, exchange, placed_segments, stream_rows, HoldsStreams}
use Rattle.commit.specs.declared.sector.Commit.{Commit}
use Rattle.commit.specs.declared.sector.FormatVersion.{FormatVersion}
use Rattle.store_runs.specs.Carrying.{IsCarried, unplaced, asked_sizes, outline}
use Rattle.store_runs.specs.Deciding.{pieces_put}
use Rattle.store_changes.specs.Exchanging.{starts_sum, Shrinks}
use Rattle.store_runs.specs.Compacting.{pair_of, is_one_piece, IsMerge, IsMove, IsStep}
use Rattle.store_changes.specs.LawsBelow.{LawsBelow}
use Rattle.store_changes.specs.laws.Changed.{streams_held}
use Rattle.store_changes.specs.laws.Exchanged.{row_sum, exchanged_held, exchanged_each, exchanged_listed}
use Rattle.store_changes.specs.laws.Mapped.{placed_mapped}
use Rattle.store_changes.specs.laws.ExchangedRuns.{merged_shrinks, exchanged_count}
use Rattle.store_changes.specs.laws.Edited.{length_from}
use Rattle.store_changes.specs.laws.Frame.{HoldsAlike, same_rows, sectors_of}
use Rattle.store_changes.specs.laws.Named.{held_has}
use Rattle.store_changes.specs.laws.Pieces.{pieces_each, pieces_some, pieces_few}
use Rattle.store_changes.specs.laws.Same.{moved_same}
use Rattle.store_changes.specs.laws.Segments.{placed_few, placed_none, unplaced_number}
use Rattle.store_changes.specs.laws.Spared.{takes_took}
use Rattle.store_changes.specs.laws.StepParts.{at_name, entry_sectors, segment_sectors, front_sectors, back_sectors, neighbours_pass, one_from, passes_at}

-- ---- it can be made

pub parts_of_segment : (g : Segment) → is_segment g ≡ true → (1 ≤ g.place.bytes) × (g.place.bytes < 2 ^ 64) × (is_between 1 MAX_SEGMENT_ROWS g.rows ≡ true)
parts_of_segment g sound =
    let e = g.place in
    let filled = and_parts (is_filled 1 e) (is_between 1 MAX_SEGMENT_ROWS g.rows && is_digest g.digest) sound in
    let own = and_parts (nat_lt e.run.start (2 ^ 64) && nat_lt e.bytes (2 ^ 64)) (nat_le 1 e.bytes && (e.run.count == sector_count e.bytes)) filled.0 in
    let some = and_parts (nat_le 1 e.bytes) (e.run.count == sector_count e.bytes) own.1 in
    let short = and_parts (nat_lt e.run.start (2 ^ 64)) (nat_lt e.bytes (2 ^ 64)) own.0 in
    let less : e.bytes < 2 ^ 64 = grind (arith, short) in
    (leb-true 1 e.bytes some.0, less, (and_parts (is_between 1 MAX_SEGMENT_ROWS g.rows) (is_digest g.digest) filled.1).0)

within_at : (segments : List Segment) (i : ℕ) (g : Segment) → slice_get segments i ≡ Some g → i + 1 ≤ length segments
within_at [] i g at = absurd (cc at)
within_at (x ∷ xs) zero g at = omega arith
within_at (x ∷ xs) (suc i) g at = let more = within_at xs i g at in omega (arith, more)

module _ (c : PlainCatalogue) (k : IsCatalogue c) (tells : Bool) (image : Image) where
  merge_can : ((t : PlainTable) → IsTable t → AllByRecursion (IsPiece t.schema) (pieces_of t)) → (change : PlainChange) → IsMerge tells image c change → CanChange c change
  merge_can each change m =
      let t = m.merge.table in
      subst (CanChange c) (sym m.merge.is) (λ short. record {
        edit = (m.entry, at_name c m.number m.entry k.order m.at, m.merge.within);
        each = pieces_each t;
        some = pieces_some t (each t m.merge.read.kept);
        short = short;
        rows = pieces_few t (each t m.merge.read.kept);
      })

  move_can : (size : ℕ) (used : Run → Type 0) (change : PlainChange) → IsMove tells image size used c change → CanChange c change
  move_can size used change m =
      let g = m.segment in
      let found = at_name c m.number m.entry k.order m.last.found in
      let sound = passes_at is_segment m.entry.segments m.place g (entry_is m.entry (found_passes is_entry c m.entry.name m.entry k.entries found)).segments m.last.at in
      let parts = parts_of_segment g sound in
      let count = m.copy.count in
      subst (CanChange c) (sym m.is) (λ short. record {
        edit = (m.entry, found, within_at m.entry.segments m.place g m.last.at);
        each = refl;
        some = (omega (arith, count, parts.0), tt);
        short = short;
        rows = ap (λ (b : Bool). b && true) parts.2;
      })

  pub can_step : ((t : PlainTable) → IsTable t → AllByRecursion (IsPiece t.schema) (pieces_of t)) → (size : ℕ) (used : Run → Type 0) (done : Compaction) (change : PlainChange)
      → IsStep tells image size used c done (Some change) → CanChange c change
  can_step each size used compactions.Merged change step = merge_can each change step
  can_step each size used compactions.Moved change step = move_can size used change step.1
  can_step each size used compactions.Nothing change step = absurd step

-- ---- it keeps each table

module _ (laws : LawsBelow) (c : PlainCatalogue) (k : IsCatalogue c) (tells : Bool) (told : tells ≡ true) (shown image : Image) (same : (n : ℕ) → InSome (runs_of c) n → image n ≡ shown n) where
  entry_sound : (e : PlainEntry) → entry_of c e.name ≡ Some e → list_all is_segment e.segments ≡ true
  entry_sound e found = (entry_is e (found_passes is_entry c e.name e k.entries found)).segments

  abbrev Keeps : PlainChange → List Segment → Type 0
  Keeps change others = HoldsStreams image others change.streams change.counts → HoldsAlike image c (edited c change.edit others)

  -- the rows of neighbours are those that were shown
  pair_kept : (i : ℕ) (e : PlainEntry) (place : ℕ) → slice_get c i ≡ Some e → rows_held e.schema (from_place e.segments place 2) image ≡ rows_held e.schema (from_place e.segments place 2) shown
  pair_kept i e place at =
      same_rows shown image e.schema (from_place e.segments place 2) (neighbours_pass e.segments place 2 (entry_sound e (at_name c i e k.order at)))
      (λ n within. same n (entry_sectors c i e n at (back_sectors e.segments place n (front_sectors (drop place e.segments) 2 n within))))

  merge_keeps : (change : PlainChange) → IsMerge tells shown c change → (others : List Segment) → Keeps change others
  merge_keeps change m others = subst (λ (x : PlainChange). Keeps x others) (sym m.merge.is) keeps
    where
      e : PlainEntry
      e = m.entry

      t : PlainTable
      t = m.merge.table

      held : rows_held e.schema (from_place e.segments m.merge.place 2) shown ≡ Some t.rows
      held =
          let has = held_has shown (pair_of e m.merge.place) t (m.merge.read.held told) in
          has.1 ∙ ap (λ (x : PlainTable). Some x.rows) (sym has.2)

      means : stream_rows e.schema (piece_streams t) (piece_counts t) ≡ Some t.rows
      means = subst (λ (s : PlainSchema). stream_rows s (piece_streams t) (piece_counts t) ≡ Some t.rows) m.merge.read.schema (laws.held t m.merge.read.kept)

      keeps : HoldsStreams image others (piece_streams t) (piece_counts t) → HoldsAlike image c (with_exchanged c e.name m.merge.place 2 others)
      keeps holds =
          let gone = from_place e.segments m.merge.place 2 in
          let new : rows_held e.schema others image ≡ Some t.rows = streams_held image e.schema others (piece_streams t) (piece_counts t) holds ∙ means in
          let old : rows_held e.schema gone image ≡ Some t.rows = pair_kept m.number e m.merge.place m.at ∙ held in
          let found = at_name c m.number e k.order m.at in (
            exchanged_each image c e.name e found m.merge.place 2 others (rows_each_known e.schema others image t.rows new ∙ sym (rows_each_known e.schema gone image t.rows old)),
            exchanged_held image c e.name m.merge.place 2 others (record { entry = e; found = found; same = new ∙ sym old }),
          )

  move_keeps : (size : ℕ) (used : Run → Type 0) (change : PlainChange) → IsMove tells shown size used c change → (others : List Segment) → Keeps change others
  move_keeps size used change m others = subst (λ (x : PlainChange). Keeps x others) (sym m.is) keeps
    where
      e : PlainEntry
      e = m.entry

      g : Segment
      g = m.segment

      found : entry_of c e.name ≡ Some e
      found = at_name c m.number e k.order m.last.found

      sound : is_segment g ≡ true
      sound = passes_at is_segment e.segments m.place g (entry_sound e found) m.last.at

      own : (j : ℕ) → j < sector_count g.place.bytes → image (g.place.run.start + j) ≡ shown (g.place.run.start + j)
      own j lt =
          let count = sectors_of g sound in
          same (g.place.run.start + j)
          (entry_sectors c m.number e (g.place.run.start + j) m.last.found (segment_sectors e.segments m.place g (g.place.run.start + j) m.last.at (omega arith) (omega (arith, count, lt))))

      held : bytes_at image g.place.run.start g.place.bytes ≡ Some m.bytes
      held = same_bytes image shown g.place.run.start g.place.bytes own ∙ m.copy.held told

      gone : from_place e.segments m.place 1 ≡ g ∷ []
      gone = one_from e.segments m.place g m.last.at

      keeps : HoldsStreams image others (m.bytes ∷ []) (g.rows ∷ []) → HoldsAlike image c (with_exchanged c e.name m.place 1 others)
      keeps holds =
          let same = moved_same image e.schema others g m.bytes held m.copy.undamaged holds in (
            exchanged_each image c e.name e found m.place 1 others (same.0 ∙ ap (λ (ss : List Segment). rows_known e.schema ss image) (sym gone)),
            exchanged_held image c e.name m.place 1 others (record { entry = e; found = found; same = same.1 ∙ ap (λ (ss : List Segment). rows_held e.schema ss image) (sym gone) }),
          )

  pub step_keeps : (size : ℕ) (used : Run → Type 0) (done : Compaction) (change : PlainChange) → IsStep tells shown size used c done (Some change) → (others : List Segment) → Keeps change others
  step_keeps size used compactions.Merged change step = merge_keeps change step
  step_keeps size used compactions.Moved change step = move_keeps size used change step.1
  step_keeps size used compactions.Nothing change step = absurd step

-- ---- it keeps the list of the tables

-- the new segments have as many rows as are said of their streams
placed_sum : (v : FormatVersion) (runs : List Run) (streams : List (List ℕ)) (counts : List ℕ) → length streams ≤ length runs → length streams ≡ length counts
    → row_sum (placed_segments v runs streams counts) ≡ sum_by (λ (n : ℕ). n) counts
placed_sum v [] [] [] few same = refl
placed_sum v runs [] (n ∷ ns) few same = absurd (omega (arith, same))
placed_sum v [] (s ∷ ss) counts few same = absurd (omega (arith, few))
placed_sum v (r ∷ rs) [] [] few same = refl
placed_sum v (r ∷ rs) (s ∷ ss) [] few same = absurd (omega (arith, same))
placed_sum v (r ∷ rs) (s ∷ ss) (n ∷ ns) few same =
    let g : Segment = record { place = record { run = r; bytes = length s }; rows = n; digest = digest_for v s } in
    let more = placed_sum v rs ss ns (omega (arith, few)) (omega (arith, same)) in
    omega (arith, more, sum_by-cons (λ (x : Segment). x.rows) g (placed_segments v rs ss ns), sum_by-cons (λ (k : ℕ). k) n ns)

-- the pieces of a table have its rows
piece_sum : (ps : List (List (List Cell))) → sum_by (λ (n : ℕ). n) (map length ps) ≡ length (joined ps)
piece_sum [] = refl
piece_sum (p ∷ ps) =
    let whole = ap length (flat_map-cons (λ (piece : List (List Cell)). piece) p ps) in
    omega (arith, piece_sum ps, whole, length-append p (joined ps), sum_by-cons (λ (n : ℕ). n) (length p) (map length ps))

counts_sum : (t : PlainTable) → joined (pieces_of t) ≡ t.rows → sum_by (λ (n : ℕ). n) (piece_counts t) ≡ length t.rows
unfolding piece_counts
counts_sum t whole = piece_sum (pieces_of t) ∙ ap length whole

-- ---- it shrinks the catalogue

-- the starts of its runs
abbrev starts : List Run → ℕ
starts rs = sum_by (λ (r : Run). r.start) rs

starts_in : PlainEntry → ℕ
starts_in e = starts (runs_in_segments e.segments)

-- the runs of all segments
abbrev segment_runs : PlainCatalogue → List Run
segment_runs c = flat_map (λ (e : PlainEntry). runs_in_segments e.segments) c

starts_both : (a b : List Run) → starts (a ++ b) ≡ starts a + starts b
starts_both a b = sum_by-append (λ (r : Run). r.start) a b

starts_of : (c : PlainCatalogue) → starts_sum c ≡ sum_by starts_in c
unfolding starts_in
starts_of [] = refl
starts_of (x ∷ xs) = omega (arith, starts_of xs, starts_both (runs_in_segments x.segments) (segment_runs xs), sum_by-cons starts_in x xs)

abbrev starts_at : List Segment → ℕ
starts_at ss = starts (map (λ (s : Segment). s.place.run) ss)

segments_both : (a b : List Segment) → starts_at (a ++ b) ≡ starts_at a + starts_at b
segments_both a b = ap starts (map-append (λ (s : Segment). s.place.run) a b) ∙ starts_both (map (λ (s : Segment). s.place.run) a) (map (λ (s : Segment). s.place.run) b)

exchanged_starts : (c : PlainCatalogue) (name : List ℕ) (e : PlainEntry) (place count : ℕ) (others : List Segment) → entry_of c name ≡ Some e
    → starts_sum (with_exchanged c name place count others) + starts_at (from_place e.segments place count) ≡ starts_sum c + starts_at others
unfolding starts_in
exchanged_starts c name e place count others found =
    let front = take place e.segments in
    let taken = from_place e.segments place count in
    let rest = drop count (drop place e.segments) in
    let d = with_segments c name (with_others e.segments place count others) in
    let whole : starts_at e.segments ≡ starts_at front + (starts_at taken + starts_at rest) =
    ap starts_at (sym (ap (λ (ss : List Segment). front ++ ss) (take-append-drop count (drop place e.segments)) ∙ take-append-drop place e.segments)) ∙ segments_both front (taken ++ rest)
    ∙ ap (λ (n : ℕ). starts_at front + n) (segments_both taken rest) in
    let other : starts_at (front ++ (others ++ rest)) ≡ starts_at front + (starts_at others + starts_at rest) =
    segments_both front (others ++ rest) ∙ ap (λ (n : ℕ). starts_at front + n) (segments_both others rest) in
    let is : starts_sum (with_exchanged c name place count others) ≡ starts_sum d = ap starts_sum (exchanged_is c name e found place count others) in
    omega (arith, is, whole, other, starts_of c, starts_of d, refilled_sum starts_in c name e (with_others e.segments place count others) found)

-- a table that has rows is some pieces
pieces_more : (within : List (List Cell) → Bool) (taken rows : List (List Cell)) → 1 ≤ length (pieces_from within taken rows)
pieces_more within taken [] = omega arith
pieces_more within taken (row ∷ rows) = by_test (within (taken ++ row ∷ [])) (pieces_more within (taken ++ row ∷ []) rows)
  where
    by_test : (b : Bool) → 1 ≤ length (pieces_from within (taken ++ row ∷ []) rows) → 1 ≤ length (if b then pieces_from within (taken ++ row ∷ []) rows else taken ∷ pieces_from within (row ∷ []) rows)
    by_test true more = more
    by_test false more = omega arith

pub pieces_some_rows : (within : List (List Cell) → Bool) (rows : List (List Cell)) → 1 ≤ length rows → 1 ≤ length (pieces within rows)
pieces_some_rows within [] some = absurd (omega (arith, some))
pieces_some_rows within (row ∷ rows) some = pieces_more within (row ∷ []) rows

-- its rows are those of segments, each of which has some
pub rows_some : (segments : List Segment) → list_all is_segment segments ≡ true → 1 ≤ length segments → 1 ≤ sum_by (λ (g : Segment). g.rows) segments
rows_some [] all some = absurd (omega (arith, some))
rows_some (g ∷ gs) all some =
    let parts = parts_of_segment g (and_parts (is_segment g) (list_all is_segment gs) all).0 in
    let least = leb-true 1 g.rows (and_parts (nat_le 1 g.rows) (nat_le g.rows MAX_SEGMENT_ROWS) parts.2).0 in
    omega (arith, least, sum_by-cons (λ (x : Segment). x.rows) g gs)

one_stream : (t : PlainTable) → 1 ≤ length t.rows → is_one_piece t ≡ true → length (piece_streams t) ≡ 1
unfolding piece_streams
one_stream t some one =
    let most = leb-true (length (pieces_of t)) 1 one in
    omega (arith, most, pieces_some_rows (within_piece t.schema) t.rows some, length-map (pieces_of t) (piece_stream t.schema))

module _ (v : FormatVersion) (c : PlainCatalogue) (k : IsCatalogue c) (tells : Bool) (image : Image) (size : ℕ) (used : Run → Type 0) where
  -- as many runs are taken as there are streams, those for pages, and one for the text
  as_many : (change : PlainChange) (places : List Run) (text : Run) → Takes size used (asked_sizes v c change) (Ok (places ++ text ∷ [])) → length change.streams ≤ length places
  as_many change places text takes =
      let took = took_length size used (asked_sizes v c change) (places ++ text ∷ []) (takes_took size used (asked_sizes v c change) (places ++ text ∷ []) takes) in
      omega (
        arith,
        took,
        length-append places (text ∷ []),
        length-append (map sectors_in change.streams ++ map sector_count (page_sizes (outline v c change))) (sector_count (text_size (outline v c change)) ∷ []),
        length-append (map sectors_in change.streams) (map sector_count (page_sizes (outline v c change))),
        length-map change.streams sectors_in,
      )

  merge_found : (change : PlainChange) → (m : IsMerge tells image c change) → entry_of c m.entry.name ≡ Some m.entry
  merge_found change m = at_name c m.number m.entry k.order m.at

  merge_one : (change : PlainChange) → (m : IsMerge tells image c change) → length (piece_streams m.merge.table) ≡ 1
  merge_one change m =
      let e = m.entry in
      let two = length_from e.segments m.merge.place 2 m.merge.within in
      let sound = (entry_is e (found_passes is_entry c e.name e k.entries (merge_found change m))).segments in
      let some = rows_some (from_place e.segments m.merge.place 2) (neighbours_pass e.segments m.merge.place 2 sound) (omega (arith, two)) in
      let count = m.merge.read.count in
      one_stream m.merge.table (omega (arith, some, count)) m.merge.one

  merge_shrinks : (change : PlainChange) → IsMerge tells image c change → (places : List Run) (text : Run) → Takes size used (asked_sizes v c change) (Ok (places ++ text ∷ []))
      → Shrinks c (edited c change.edit (placed_segments v places change.streams change.counts))
  merge_shrinks change m places text =
      subst (λ (x : PlainChange). Takes size used (asked_sizes v c x) (Ok (places ++ text ∷ [])) → Shrinks c (edited c x.edit (placed_segments v places x.streams x.counts))) (sym m.merge.is)
      (λ takes. merged_shrinks c m.entry.name m.entry (merge_found change m) m.merge.place 2 (placed_segments v places (piece_streams m.merge.table) (piece_counts m.merge.table))
      (length_from m.entry.segments m.merge.place 2 m.merge.within)
      (placed_few v places (piece_streams m.merge.table) (piece_counts m.merge.table) (as_many (pieces_put (exchange m.entry.name m.merge.place 2) m.merge.table) places text takes) (pieces_each m.merge.table)
      ∙ merge_one change m))

  move_shrinks : (change : PlainChange) → IsMove tells image size used c change → (places : List Run) (text : Run) → Takes size used (asked_sizes v c change) (Ok (places ++ text ∷ []))
      → Shrinks c (edited c change.edit (placed_segments v places change.streams change.counts))
  move_shrinks change m places text =
      subst (λ (x : PlainChange). Takes size used (asked_sizes v c x) (Ok (places ++ text ∷ [])) → Shrinks c (edited c x.edit (placed_segments v places x.streams x.counts))) (sym m.is) (by_places places)
    where
      e : PlainEntry
      e = m.entry

      g : Segment
      g = m.segment

      found : entry_of c e.name ≡ Some e
      found = at_name c m.number e k.order m.last.found

      copied : PlainChange
      copied = record { edit = exchange e.name m.place 1; streams = m.bytes ∷ []; counts = g.rows ∷ [] }

      fits : g.place.run.count ≡ sector_count (length m.bytes)
      fits = sectors_of g (passes_at is_segment e.segments m.place g (entry_is e (found_passes is_entry c e.name e k.entries found)).segments m.last.at) ∙ ap sector_count (sym m.copy.count)

      by_places : (rs : List Run) → Takes size used (asked_sizes v c copied) (Ok (rs ++ text ∷ [])) → Shrinks c (edited c copied.edit (placed_segments v rs copied.streams copied.counts))
      by_places [] takes = absurd (let none = as_many copied [] text takes in omega (arith, none))
      by_places (p ∷ rs) takes =
          let took = takes_took size used (asked_sizes v c copied) ((p ∷ rs) ++ text ∷ []) takes in
          let other : Segment = record { place = record { run = p; bytes = length m.bytes }; rows = g.rows; digest = digest_for v m.bytes } in
          let alike : Some p ≡ Some m.run = one_lowest size used (sector_count (length m.bytes)) (Some p) (Some m.run) took.0 (subst (λ (n : ℕ). IsLowest size used n (Some m.run)) fits m.lowest) in
          let same : p ≡ m.run = cc alike in
          let start : p.start ≡ m.run.start = ap (λ (r : Run). r.start) same in
          let gone : from_place e.segments m.place 1 ≡ g ∷ [] = one_from e.segments m.place g m.last.at in
          let one : length (from_place e.segments m.place 1) ≡ 1 = ap (λ (ss : List Segment). length ss) gone in
          let was : starts_at (from_place e.segments m.place 1) ≡ starts_at (g ∷ []) = ap starts_at gone in
          let below = m.below in
          subst (λ (gs : List Segment). Shrinks c (edited c copied.edit (other ∷ gs))) (sym (placed_none v rs []))
          (inr (
            omega (arith, one, exchanged_count c e.name e found m.place 1 (other ∷ [])),
            omega (
              arith,
              was,
              start,
              below,
              exchanged_starts c e.name e m.place 1 (other ∷ []) found,
              sum_by-cons (λ (r : Run). r.start) p [],
              sum_by-cons (λ (r : Run). r.start) g.place.run [],
            ),
          ))

  pub step_shrinks : (done : Compaction) (change : PlainChange) → IsStep tells image size used c done (Some change) → (places : List Run) (text : Run)
      → Takes size used (asked_sizes v c change) (Ok (places ++ text ∷ [])) → Shrinks c (edited c change.edit (placed_segments v places change.streams change.counts))
  step_shrinks compactions.Merged change step = merge_shrinks change step
  step_shrinks compactions.Moved change step = move_shrinks change step.1
  step_shrinks compactions.Nothing change step = absurd step

  -- each table is listed as it was
  merge_listed : ((t : PlainTable) → joined (pieces_of t) ≡ t.rows) → (change : PlainChange) → IsMerge tells image c change → (places : List Run) (text : Run)
      → Takes size used (asked_sizes v c change) (Ok (places ++ text ∷ [])) → each_listed (edited c change.edit (placed_segments v places change.streams change.counts)) ≡ each_listed c
  merge_listed whole change m places text =
      let t = m.merge.table in
      subst (λ (x : PlainChange). Takes size used (asked_sizes v c x) (Ok (places ++ text ∷ [])) → each_listed (edited c x.edit (placed_segments v places x.streams x.counts)) ≡ each_listed c) (sym m.merge.is)
      (λ takes. exchanged_listed c m.entry.name m.entry (merge_found change m) m.merge.place 2 (placed_segments v places (piece_streams t) (piece_counts t))
      (placed_sum v places (piece_streams t) (piece_counts t) (as_many (pieces_put (exchange m.entry.name m.merge.place 2) t) places text takes) (pieces_each t) ∙ counts_sum t (whole t) ∙ m.merge.read.count))

  move_listed : (change : PlainChange) → IsMove tells image size used c change → (places : List Run) (text : Run) → Takes size used (asked_sizes v c change) (Ok (places ++ text ∷ []))
      → each_listed (edited c change.edit (placed_segments v places change.streams change.counts)) ≡ each_listed c
  move_listed change m places text =
      let e = m.entry in
      let g = m.segment in
      let copied : PlainChange = record { edit = exchange e.name m.place 1; streams = m.bytes ∷ []; counts = g.rows ∷ [] } in
      let gone : from_place e.segments m.place 1 ≡ g ∷ [] = one_from e.segments m.place g m.last.at in
      let old : row_sum (from_place e.segments m.place 1) ≡ row_sum (g ∷ []) = ap row_sum gone in
      subst (λ (x : PlainChange). Takes size used (asked_sizes v c x) (Ok (places ++ text ∷ [])) → each_listed (edited c x.edit (placed_segments v places x.streams x.counts)) ≡ each_listed c) (sym m.is)
      (λ takes. exchanged_listed c e.name e (at_name c m.number e k.order m.last.found) m.place 1 (placed_segments v places (m.bytes ∷ []) (g.rows ∷ []))
      (let new = placed_sum v places (m.bytes ∷ []) (g.rows ∷ []) (as_many copied places text takes) refl in
      omega (arith, old, new, sum_by-cons (λ (x : Segment). x.rows) g [], sum_by-cons (λ (n : ℕ). n) g.rows [])))

  pub step_listed : ((t : PlainTable) → joined (pieces_of t) ≡ t.rows) → (done : Compaction) (change : PlainChange) → IsStep tells image size used c done (Some change) → (places : List Run) (text : Run)
      → Takes size used (asked_sizes v c change) (Ok (places ++ text ∷ [])) → each_listed (edited c change.edit (placed_segments v places change.streams change.counts)) ≡ each_listed c
  step_listed whole compactions.Merged change step = merge_listed whole change step
  step_listed whole compactions.Moved change step = move_listed change step.1
  step_listed whole compactions.Nothing change step = absurd step

  -- so there are never too many segments
  few_of : (e : PlainEntry) (place count : ℕ) (others : List Segment) → entry_of c e.name ≡ Some e → length others ≤ length (from_place e.segments place count)
      → segment_count (with_exchanged c e.name place count others) ≤ MAX_SEGMENTS
  few_of e place count others found fewer =
      let most = k.segments in
      let count = exchanged_count c e.name e found place count others in
      omega (arith, most, count, fewer)

  move_few : (change : PlainChange) → IsMove tells image size used c change → segment_count (outline v c change) ≤ MAX_SEGMENTS
  move_few change m =
      let one = ap (λ (ss : List Segment). length ss) (one_from m.entry.segments m.place m.segment m.last.at) in
      subst (λ (x : PlainChange). segment_count (outline v c x) ≤ MAX_SEGMENTS) (sym m.is)
      (few_of m.entry m.place 1 (unplaced v (m.bytes ∷ []) (m.segment.rows ∷ [])) (at_name c m.number m.entry k.order m.last.found) (omega (arith, one)))

  pub step_few : (done : Compaction) (change : PlainChange) → IsStep tells image size used c done (Some change) → segment_count (outline v c change) ≤ MAX_SEGMENTS
  step_few compactions.Merged change m =
      subst (λ (x : PlainChange). segment_count (outline v c x) ≤ MAX_SEGMENTS) (sym m.merge.is)
      (let two = length_from m.entry.segments m.merge.place 2 m.merge.within in
      let one = unplaced_number v (piece_streams m.merge.table) (piece_counts m.merge.table) (pieces_each m.merge.table) ∙ merge_one change m in
      few_of m.entry m.merge.place 2 (unplaced v (piece_streams m.merge.table) (piece_counts m.merge.table)) (merge_found change m) (omega (arith, two, one)))
  step_few compactions.Moved change step = move_few change step.1
  step_few compactions.Nothing change step = absurd step

-- pages make no difference to it
settled_starts : (c : PlainCatalogue) (runs : List Run) → starts_sum (settled c runs) ≡ starts_sum c
unfolding starts_in
settled_starts c runs = starts_of (settled c runs) ∙ settled_sum starts_in (λ e o. refl) c runs ∙ sym (starts_of c)

settled_shrinks : (c d : PlainCatalogue) (runs : List Run) → Shrinks c d → Shrinks c (settled d runs)
settled_shrinks c d runs (inl fewer) = let count = settled_sum segments_in (λ e o. refl) d runs in inl (omega (arith, fewer, count))
settled_shrinks c d runs (inr (same, lower)) =
    let count = settled_sum segments_in (λ e o. refl) d runs in
    inr (omega (arith, same, count), omega (arith, lower, settled_starts d runs))

-- what was carried out shrinks the catalogue
pub carried_shrinks : (c : PlainCatalogue) → IsCatalogue c → (tells : Bool) (image : Image) (size : ℕ) (used : Run → Type 0) (done : Compaction) (change : PlainChange) → IsStep tells image size used c done (Some change)
    → (k k' : Commit) (c' : PlainCatalogue) → IsCarried size used k c change (Ok tt) k' c' → Shrinks c c'
carried_shrinks c kept tells image size used done change step k k' c' (next, few, (places, text, takes, is, commit)) =
    subst (Shrinks c) (sym is)
    (settled_shrinks c (edited c change.edit (placed_segments k.version places change.streams change.counts)) (drop (length change.streams) places) (step_shrinks k.version c kept tells image size used done change step places text takes))

-- and lists each table as before
pub carried_listed : ((t : PlainTable) → joined (pieces_of t) ≡ t.rows) → (c : PlainCatalogue) → IsCatalogue c → (tells : Bool) (image : Image) (size : ℕ) (used : Run → Type 0) (done : Compaction) (change : PlainChange)
    → IsStep tells image size used c done (Some change) → (k k' : Commit) (c' : PlainCatalogue) → IsCarried size used k c change (Ok tt) k' c' → each_listed c' ≡ each_listed c
carried_listed whole c kept tells image size used done change step k k' c' (next, few, (places, text, takes, is, commit)) =
    ap each_listed is ∙ placed_mapped listed_entry (λ e o. refl) k.version c change places ∙ step_listed k.version c kept tells image size used whole done change step places text takes
