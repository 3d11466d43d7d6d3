-- What images hold of catalogues that commands of a list leave one after another.
use Rattle.std.specs.Prelude.{◌≡◌, ◌≤◌, ◌<◌, ◌+◌, ◌++◌, ℕ, zero, suc, Bool, true, false, not, nat_lt, if◌then◌else◌, List, [], ◌∷◌, length, map, take, drop, Option, Some, None, refl}
use Rattle.std.specs.List.{list_all, AllByRecursion}
use Rattle.std.proofs.Common.{inl, inr, sym, ap, ◌∙◌, subst, arith}
use Rattle.std.proofs.lemmas.Bool.{lt-ltb, ltb-true, ltb-false, and_parts}
use Rattle.sector_dev.specs.Disk.{Image}
use Rattle.segments.specs.declared.run.Run.{Run}
use Rattle.segments.specs.laws.ReadBack.{same_bytes}
use Rattle.segments.specs.Sectors.{sector_count}
use Rattle.arrow_schema.specs.Column.{PlainSchema}
use Rattle.cells.specs.Cell.{Cell, PlainTable}
use Rattle.catalogue.specs.declared.entry.Segment.{Segment}
use Rattle.catalogue.specs.Entries.{PlainEntry, PlainCatalogue, is_segment, is_entry, runs_in_segments, page_runs, runs_of, IsCatalogue}
use Rattle.catalogue.specs.Edits.{page_behind}
use Rattle.catalogue.specs.laws.Kept.{entry_is}
use Rattle.commit.specs.Standing.{InSome}
use Rattle.commit.specs.declared.sector.FormatVersion.TheVariants.{One}
use Rattle.tables.specs.Tables.{Tables}
use Rattle.store_runs.specs.Held.{joined_rows, rows_held, table_of_rows, table_held, with_held, tables_held}
use Rattle.store_runs.specs.Changes.{PlainEdit, put, extend, move, remove, exchange, digest, rebuild, PlainChange, edited, placed_segments, HoldsStreams, stream_rows, MakesOf, IsOfCatalogue, IsEdit}
use Rattle.store_runs.specs.Filling.{has_place, placed_in, new_in, new_segments, runs_placed_in, runs_placed, entry_filled, filled}
use Rattle.store_runs.specs.Deciding.{AreBefore, Leaves}
use Rattle.store_changes.specs.laws.Frame.{same_rows, same_tables}
use Rattle.store_changes.specs.laws.Changed.{streams_held, rows_behind, edited_held}
use Rattle.store_changes.specs.laws.Filled.{all_kept}

-- ---- images over others

-- the sectors before this one as in one image, and the others as in another one
abbrev pub over : (from : ℕ) → (base image : Image) → Image
over from base image = λ n. if nat_lt n from then base n else image n

pub over_below : (from : ℕ) (base image : Image) (n : ℕ) → n < from → over from base image n ≡ base n
over_below from base image n low = ap (λ (b : Bool). if b then base n else image n) (lt-ltb n from low)

pub over_above : (from : ℕ) (base image : Image) (n : ℕ) → from ≤ n → over from base image n ≡ image n
over_above from base image n high = by_test (nat_lt n from) refl
  where
    by_test : (b : Bool) → nat_lt n from ≡ b → (if b then base n else image n) ≡ image n
    by_test false is = refl
    by_test true is = let low = ltb-true n from is in absurd (omega (arith, high, low))

-- images that are the same from some sector on stay so
over_alike : (from next : ℕ) (base a b : Image) → ((n : ℕ) → n < next → b n ≡ a n) → (n : ℕ) → n < next → over from base b n ≡ over from base a n
over_alike from next base a b same n low = by_test (nat_lt n from)
  where
    by_test : (t : Bool) → (if t then base n else b n) ≡ (if t then base n else a n)
    by_test true = refl
    by_test false = same n low

pub sector_before : (from : ℕ) (runs : List Run) (n : ℕ) → AreBefore from runs → InSome runs n → n < from
sector_before from [] n before within = absurd within
sector_before from (r ∷ rs) n before (inl here) = let end = before.0 in let high = here.1 in omega (arith, end, high)
sector_before from (r ∷ rs) n before (inr later) = sector_before from rs n before.1 later

-- ---- streams

-- streams behind a sector are held by an image that is the same from there on
pub holds_behind : (a b : Image) (low high : ℕ) (places : List Run) (streams : List (List ℕ)) (counts : List ℕ) → AllByRecursion (λ (run : Run). (low ≤ run.start) × (run.start + run.count ≤ high)) places
    → ((n : ℕ) → low ≤ n → b n ≡ a n) → HoldsStreams a (placed_segments One places streams counts) streams counts → HoldsStreams b (placed_segments One places streams counts) streams counts
holds_behind a b low high [] streams counts within same holds = holds
holds_behind a b low high (r ∷ rs) [] counts within same holds = holds
holds_behind a b low high (r ∷ rs) (s ∷ ss) [] within same holds = holds
holds_behind a b low high (r ∷ rs) (s ∷ ss) (n ∷ ns) within same holds =
    let start = within.0.0 in
    (same_bytes b a r.start (length s) (λ j lt. same (r.start + j) (omega (arith, start))) ∙ holds.0, holds.1, holds.2, holds_behind a b low high rs ss ns within.1 same holds.3)

-- those of the first segments, and those of the others
pub holds_parts : (image : Image) (a b : List Segment) (streams : List (List ℕ)) (counts : List ℕ) → HoldsStreams image (a ++ b) streams counts
    → HoldsStreams image a (take (length a) streams) (take (length a) counts) × HoldsStreams image b (drop (length a) streams) (drop (length a) counts)
holds_parts image [] b streams counts holds = (refl, holds)
holds_parts image (g ∷ gs) b [] counts holds = absurd holds
holds_parts image (g ∷ gs) b (s ∷ ss) [] holds = absurd holds
holds_parts image (g ∷ gs) b (s ∷ ss) (n ∷ ns) holds =
    let rest = holds_parts image gs b ss ns holds.3 in ((holds.0, holds.1, holds.2, rest.0), rest.1)

pub holds_first : (image : Image) (k : ℕ) (gs : List Segment) (streams : List (List ℕ)) (counts : List ℕ) → HoldsStreams image gs streams counts
    → HoldsStreams image (take k gs) (take k streams) (take k counts) × HoldsStreams image (drop k gs) (drop k streams) (drop k counts)
holds_first image zero gs streams counts holds = (refl, holds)
holds_first image (suc k) [] [] counts holds = (refl, refl)
holds_first image (suc k) [] (s ∷ ss) counts holds = absurd (cc holds)
holds_first image (suc k) (g ∷ gs) [] counts holds = absurd holds
holds_first image (suc k) (g ∷ gs) (s ∷ ss) [] holds = absurd holds
holds_first image (suc k) (g ∷ gs) (s ∷ ss) (n ∷ ns) holds =
    let rest = holds_first image k gs ss ns holds.3 in ((holds.0, holds.1, holds.2, rest.0), rest.1)

-- new segments lie from the sector on, so an image over another holds their streams
new_over : (from : ℕ) (base image : Image) (ss : List Segment) (streams : List (List ℕ)) (counts : List ℕ) → AllByRecursion (λ (s : Segment). from ≤ s.place.run.start) ss
    → HoldsStreams image ss streams counts → HoldsStreams (over from base image) ss streams counts
new_over from base image [] streams counts behind holds = holds
new_over from base image (g ∷ gs) [] counts behind holds = absurd holds
new_over from base image (g ∷ gs) (s ∷ ss) [] behind holds = absurd holds
new_over from base image (g ∷ gs) (s ∷ ss) (n ∷ ns) behind holds =
    let start = behind.0 in (
      same_bytes (over from base image) image g.place.run.start g.place.bytes (λ j lt. over_above from base image (g.place.run.start + j) (omega (arith, start))) ∙ holds.0,
      holds.1,
      holds.2,
      new_over from base image gs ss ns behind.1 holds.3,
    )

new_behind_is : (from : ℕ) (ss : List Segment) → AllByRecursion (λ (s : Segment). from ≤ s.place.run.start) (new_in from ss)
new_behind_is from [] = tt
new_behind_is from (s ∷ ss) = by_test (has_place from s) refl (new_behind_is from ss)
  where
    by_test : (b : Bool) → nat_lt s.place.run.start from ≡ b → AllByRecursion (λ (g : Segment). from ≤ g.place.run.start) (new_in from ss)
        → AllByRecursion (λ (g : Segment). from ≤ g.place.run.start) (if not b then s ∷ new_in from ss else new_in from ss)
    by_test true is later = later
    by_test false is later = let high = ltb-false s.place.run.start from is in (omega (arith, high), later)

-- ---- a rebuilt catalogue

module _ (from : ℕ) (base image : Image) where
  abbrev both : Image
  both = over from base image

  entry_held : (e : PlainEntry) (segments : List Segment) (streams : List (List ℕ)) (counts : List ℕ) → list_all is_segment e.segments ≡ true → e.segments ≡ placed_in from e.segments ++ new_in from e.segments
      → AreBefore from (runs_in_segments (placed_in from e.segments)) → HoldsStreams base (take (length (new_in from e.segments)) segments) streams counts → HoldsStreams image (new_in from e.segments) streams counts
      → table_held base (entry_filled from e segments) ≡ table_held both e
  entry_held e segments streams counts sound order before made held =
      let own = placed_in from e.segments in
      let new = new_in from e.segments in
      let first : rows_held e.schema own base ≡ rows_held e.schema own both =
      same_rows both base e.schema own (all_kept is_segment (has_place from) e.segments sound) (λ n within. sym (over_below from base image n (sector_before from (runs_in_segments own) n before within))) in
      let one : rows_held e.schema (take (length new) segments) base ≡ stream_rows e.schema streams counts = streams_held base e.schema (take (length new) segments) streams counts made in
      let other : rows_held e.schema new both ≡ stream_rows e.schema streams counts = streams_held both e.schema new streams counts (new_over from base image new streams counts (new_behind_is from e.segments) held) in
      let left = rows_behind e.schema own (take (length new) segments) base in
      let right = ap (λ (ss : List Segment). rows_held e.schema ss both) order ∙ rows_behind e.schema own new both in
      ap (table_of_rows e.schema) (left ∙ (λ i. joined_rows (first i) ((one ∙ sym other) i)) ∙ sym right)

  before_parts : (xs ys : List Run) → AreBefore from (xs ++ ys) → AreBefore from xs × AreBefore from ys
  before_parts [] ys before = (tt, before)
  before_parts (x ∷ xs) ys before = let rest = before_parts xs ys before.1 in ((before.0, rest.0), rest.1)

  pub filled_held : (c : PlainCatalogue) (segments : List Segment) (streams : List (List ℕ)) (counts : List ℕ) → list_all is_entry c ≡ true
      → AllByRecursion (λ (e : PlainEntry). e.segments ≡ placed_in from e.segments ++ new_in from e.segments) c → AreBefore from (runs_placed from c)
      → HoldsStreams base segments streams counts → HoldsStreams image (new_segments from c) streams counts → tables_held base (filled from c segments) ≡ tables_held both c
  unfolding filled tables_held
  filled_held [] segments streams counts sound order before made held = refl
  filled_held (e ∷ es) segments streams counts sound order before made held =
      let parts = and_parts (is_entry e) (list_all is_entry es) sound in
      let k = length (new_in from e.segments) in
      let lie = before_parts (runs_placed_in from e) (runs_placed from es) before in
      let own = before_parts (page_runs (page_behind (new_in from e.segments) e.page)) (runs_in_segments (placed_in from e.segments)) lie.0 in
      let mine = holds_first base k segments streams counts made in
      let theirs = holds_parts image (new_in from e.segments) (new_segments from es) streams counts held in
      let first = entry_held e segments (take k streams) (take k counts) (entry_is e parts.0).segments order.0 own.1 mine.0 theirs.0 in
      let others = filled_held es (drop k segments) (drop k streams) (drop k counts) parts.1 order.1 lie.1 mine.1 theirs.1 in
      λ i. with_held e.name (first i) (others i)

-- ---- one command more

pub of_edit : (c : PlainCatalogue) (edit : PlainEdit) (streams : List (List ℕ)) → IsEdit c edit streams → IsOfCatalogue c edit
of_edit c (rebuild old from made gone) streams can = can.own
of_edit c _ streams can = tt

-- the tables after the commands so far, in whatever image holds the old ones
abbrev pub Rebased : (from : ℕ) → (old : PlainCatalogue) → (before : Tables) → Image → PlainCatalogue → Tables → Type 0
Rebased from old before image c t = (base : Image) → tables_held base old ≡ Some before → tables_held (over from base image) c ≡ Some t

module _ (from : ℕ) (old : PlainCatalogue) (t0 : Tables) (next : ℕ) (image : Image) (c : PlainCatalogue) (t : Tables) (change : PlainChange) (u : Tables) (next' : ℕ) (image' : Image) (c' : PlainCatalogue)
    (low : from ≤ next) (k : IsCatalogue c) (makes : MakesOf t change u) (l : Leaves next image c change next' image' c') where
  abbrev segments : List Segment
  segments = placed_segments One l.places change.streams change.counts

  own : IsOfCatalogue c change.edit
  own = of_edit c change.edit change.streams l.sound.edit

  pub stepped : tables_held image c ≡ Some t → tables_held image' c' ≡ Some u
  stepped held =
      let still : tables_held image' c ≡ Some t = same_tables image image' c k.entries (λ n within. l.same n (sector_before next (runs_of c) n l.before within)) ∙ held in
      ap (tables_held image') l.is ∙ edited_held image' c change t u segments k own still makes l.holds

  pub rebased : Rebased from old t0 image c t → Rebased from old t0 image' c' u
  rebased so_far = λ base is.
      let a = over from base image in
      let b = over from base image' in
      let still : tables_held b c ≡ Some t =
      same_tables a b c k.entries (λ n within. over_alike from next base image image' l.same n (sector_before next (runs_of c) n l.before within)) ∙ so_far base is in
      let holds = holds_behind image' b next next' l.places change.streams change.counts l.within (λ n high. over_above from base image' n (omega (arith, low, high))) l.holds in
      ap (tables_held b) l.is ∙ edited_held b c change t u segments k own still makes holds
