-- Exports of a book and of the machine, and what becomes of both.
use Rattle.std.specs.Prelude.{◌==◌, ◌&&◌, ◌||◌, slice_get, nat_le, nat_lt}
use Rattle.std.specs.List.{filter, find, list_all, AllByRecursion}
use Rattle.std.proofs.Common.{◌≡◌, ◌≢◌, ◌⊎◌, ◌≤◌, ◌<◌, ◌+◌, ◌-◌, ◌++◌, ℕ, suc, zero, Bool, true, false, cond, not, if◌then◌else◌, ⊎_elim, List, [], ◌∷◌, Option, Some, None, length, map, refl, sym, ap, ◌∙◌, subst, arith, append-nil, append_assoc, length-append}
use Rattle.std.specs.Prelude.{option_map, IsSome}
use Rattle.std.proofs.lemmas.Bool.{eqb-true, eq-eqb, leb-true, and_parts, or_right, false_from_ne_true, cases_eq}
use Rattle.std.proofs.lemmas.Option.{slice_get_past}
use Rattle.std.proofs.lemmas.List.{length-map}
use Rattle.std.proofs.lemmas.List.Sums.{sum_by-append}
use Rattle.sector_dev.specs.Disk.{Image}
use Rattle.segments.specs.declared.run.Run.{Run}
use Rattle.segments.specs.declared.entries.UsageEntry.{UsageEntry}
use Rattle.segments.specs.Usages.{Space, is_used, IsUsedIn, same_run, is_among, times_among, pinned_times, unpinned_times, PinsAll, UnpinsAll}
use Rattle.segments.specs.laws.Usages.{times_both}
use Rattle.arrow_schema.specs.Column.{PlainSchema}
use Rattle.cells.specs.Cell.{Cell}
use Rattle.ipc_write.specs.Written.{end_of_stream}
use Rattle.ipc_canonical.specs.Canonical.{rows_messages, stream_parts}
use Rattle.catalogue.specs.declared.entry.Segment.{Segment}
use Rattle.catalogue.specs.Entries.{PlainEntry, PlainCatalogue, is_segment, is_entry, page_runs, runs_in_segments, runs_in, runs_of, segment_count}
use Rattle.catalogue.specs.Edits.{entry_of}
use Rattle.catalogue.specs.laws.Order.{by_found}
use Rattle.catalogue.specs.laws.Changed.{found_passes}
use Rattle.commit.specs.Standing.{all_on_device, is_apart, are_apart, runs_fault}
use Rattle.commit.specs.laws.Fit.{times_some, some_times, once, all_on}
use Rattle.commit.specs.laws.Frame.{fault_none}
use Rattle.export_book.specs.Book as books
use Rattle.export_book.specs.declared.export.OpenExport.{OpenExport}
use Rattle.export_book.specs.Book.{PlainExport, PlainBook, AreRising, IsBook, runs_kept, open_at, with_open}
use Rattle.export_book.specs.Plain.{plain_export}
use Rattle.export_book.specs.laws.Ids.{opened_at}
use Rattle.store_runs.specs.Machine.{Export, is_of, export_at, gave}
use Rattle.store.specs.Exported.{IsExportable, AreExportable}
use Rattle.store_runs.specs.Held.{segment_rows, with_rows, rows_each, pieces_held}
use Rattle.store.specs.Fits.{ExportFits, ExportsFit}
use Rattle.store.specs.Exporting.{OfSegment, PieceIs}
use Rattle.store_changes.specs.laws.Digests.{read_rows}
use Rattle.commit.specs.Placing.{Uses}
use Rattle.catalogue.specs.Schemas.{is_within_limits}
use Rattle.catalogue.specs.laws.Kept.{passes_limits, entry_is}
use Rattle.store_changes.specs.laws.Edited.{none_listed}
use Rattle.store_changes.specs.laws.ReadTables.{runs_on_device}

-- ---- one by one

-- both have an export of an id, and these stand for one another, or none has
abbrev pub FitsAt : Image → Option PlainExport → Option Export → Type 0
FitsAt image None None = Unit {0}
FitsAt image (Some b) (Some e) = ExportFits image b e
FitsAt image None (Some e) = ⊥
FitsAt image (Some b) None = ⊥

module _ (image : Image) where
  same_id : (b : PlainExport) (e : Export) (id : ℕ) → ExportFits image b e → is_of id e ≡ books.is_of id b
  same_id b e id fit = ap (λ (n : ℕ). n == id) fit.id

  pub found_fits : (bs : List PlainExport) (es : List Export) (id : ℕ) → ExportsFit image bs es → FitsAt image (find (books.is_of id) bs) (export_at es id)
  found_fits [] [] id fit = tt
  found_fits [] (e ∷ es) id fit = absurd fit
  found_fits (b ∷ bs) [] id fit = absurd fit
  found_fits (b ∷ bs) (e ∷ es) id fit = by_first (books.is_of id b) (is_of id e) (same_id b e id fit.0) (found_fits bs es id fit.1)
    where
      by_first : (x y : Bool) → y ≡ x → FitsAt image (find (books.is_of id) bs) (export_at es id) → FitsAt image (cond x (Some b) (find (books.is_of id) bs)) (cond y (Some e) (export_at es id))
      by_first true true same later = fit.0
      by_first false false same later = later
      by_first true false same later = absurd (cc same)
      by_first false true same later = absurd (cc same)

  pub count_fits : (bs : List PlainExport) (es : List Export) → ExportsFit image bs es → length es ≡ length bs
  count_fits [] [] fit = refl
  count_fits [] (e ∷ es) fit = absurd fit
  count_fits (b ∷ bs) [] fit = absurd fit
  count_fits (b ∷ bs) (e ∷ es) fit = let more = count_fits bs es fit.1 in omega (arith, more)

  pub more_fits : (bs : List PlainExport) (es : List Export) (b : PlainExport) (e : Export) → ExportsFit image bs es → ExportFits image b e → ExportsFit image (bs ++ b ∷ []) (es ++ e ∷ [])
  more_fits [] [] b e fit one = (one, tt)
  more_fits [] (x ∷ xs) b e fit one = absurd fit
  more_fits (x ∷ xs) [] b e fit one = absurd fit
  more_fits (x ∷ xs) (y ∷ ys) b e fit one = (fit.0, more_fits xs ys b e fit.1 one)

  one_given : (b : PlainExport) (e : Export) (id : ℕ) → ExportFits image b e → ExportFits image (books.gave id b) (gave id e)
  one_given b e id fit = by_test (books.is_of id b) (is_of id e) (same_id b e id fit)
    where
      by_test : (x y : Bool) → y ≡ x → ExportFits image (if x then record b { given = b.given + 1 } else b) (if y then record e { given = e.given + 1 } else e)
      by_test true true same = record { id = fit.id; runs = fit.runs; pieces = fit.pieces; given = ap (λ (n : ℕ). n + 1) fit.given }
      by_test false false same = fit
      by_test true false same = absurd (cc same)
      by_test false true same = absurd (cc same)

  pub given_fits : (bs : List PlainExport) (es : List Export) (id : ℕ) → ExportsFit image bs es → ExportsFit image (map (books.gave id) bs) (map (gave id) es)
  given_fits [] [] id fit = tt
  given_fits [] (e ∷ es) id fit = absurd fit
  given_fits (b ∷ bs) [] id fit = absurd fit
  given_fits (b ∷ bs) (e ∷ es) id fit = (one_given b e id fit.0, given_fits bs es id fit.1)

  pub left_fits : (bs : List PlainExport) (es : List Export) (id : ℕ) → ExportsFit image bs es → ExportsFit image (filter (λ (b : PlainExport). not (books.is_of id b)) bs) (filter (λ (e : Export). not (is_of id e)) es)
  left_fits [] [] id fit = tt
  left_fits [] (e ∷ es) id fit = absurd fit
  left_fits (b ∷ bs) [] id fit = absurd fit
  left_fits (b ∷ bs) (e ∷ es) id fit = by_first (not (books.is_of id b)) (not (is_of id e)) (ap not (same_id b e id fit.0)) (left_fits bs es id fit.1)
    where
      by_first : (x y : Bool) → y ≡ x → ExportsFit image (filter (λ (p : PlainExport). not (books.is_of id p)) bs) (filter (λ (p : Export). not (is_of id p)) es)
          → ExportsFit image (cond x (b ∷ filter (λ (p : PlainExport). not (books.is_of id p)) bs) (filter (λ (p : PlainExport). not (books.is_of id p)) bs))
          (cond y (e ∷ filter (λ (p : Export). not (is_of id p)) es) (filter (λ (p : Export). not (is_of id p)) es))
      by_first true true same later = (fit.0, later)
      by_first false false same later = later
      by_first true false same later = absurd (cc same)
      by_first false true same later = absurd (cc same)

-- ---- they can be read

module _ (size : ℕ) where
  pub more_exportable : (bs : List PlainExport) (b : PlainExport) → AreExportable size bs → IsExportable size b → AreExportable size (bs ++ b ∷ [])
  more_exportable [] b are is = (is, tt)
  more_exportable (x ∷ xs) b are is = (are.0, more_exportable xs b are.1 is)

  pub given_exportable : (bs : List PlainExport) (id : ℕ) → AreExportable size bs → AreExportable size (map (books.gave id) bs)
  given_exportable [] id are = tt
  given_exportable (b ∷ bs) id are = (by_test (books.is_of id b), given_exportable bs id are.1)
    where
      by_test : (x : Bool) → IsExportable size (if x then record b { given = b.given + 1 } else b)
      by_test true = record { within = are.0.within; sound = are.0.sound; placed = are.0.placed }
      by_test false = are.0

  pub left_exportable : (bs : List PlainExport) (id : ℕ) → AreExportable size bs → AreExportable size (filter (λ (b : PlainExport). not (books.is_of id b)) bs)
  left_exportable [] id are = tt
  left_exportable (b ∷ bs) id are = by_test (not (books.is_of id b)) (left_exportable bs id are.1)
    where
      by_test : (x : Bool) → AreExportable size (filter (λ (p : PlainExport). not (books.is_of id p)) bs)
          → AreExportable size (cond x (b ∷ filter (λ (p : PlainExport). not (books.is_of id p)) bs) (filter (λ (p : PlainExport). not (books.is_of id p)) bs))
      by_test true later = (are.0, later)
      by_test false later = later

  pub found_exportable : (bs : List PlainExport) (id : ℕ) (b : PlainExport) → AreExportable size bs → find (books.is_of id) bs ≡ Some b → IsExportable size b
  found_exportable [] id b are found = absurd (cc found)
  found_exportable (x ∷ xs) id b are found = by_first (books.is_of id x) found (λ later. found_exportable xs id b are.1 later)
    where
      by_first : (t : Bool) → cond t (Some x) (find (books.is_of id) xs) ≡ Some b → (find (books.is_of id) xs ≡ Some b → IsExportable size b) → IsExportable size b
      by_first true found later = let same : x ≡ b = cc found in subst (IsExportable size) same are.0
      by_first false found later = later found

-- ---- the runs that they keep

pub kept_more : (bs : List PlainExport) (b : PlainExport) → runs_kept (bs ++ b ∷ []) ≡ runs_kept bs ++ runs_in_segments b.segments
kept_more [] b = append-nil (runs_in_segments b.segments)
kept_more (x ∷ xs) b = ap (λ (rs : List Run). runs_in_segments x.segments ++ rs) (kept_more xs b) ∙ sym (append_assoc (runs_in_segments x.segments) (runs_kept xs) (runs_in_segments b.segments))

pub kept_given : (bs : List PlainExport) (id : ℕ) → runs_kept (map (books.gave id) bs) ≡ runs_kept bs
kept_given [] id = refl
kept_given (b ∷ bs) id = λ i. by_test (books.is_of id b) i ++ kept_given bs id i
  where
    by_test : (x : Bool) → runs_in_segments (if x then record b { given = b.given + 1 } else b).segments ≡ runs_in_segments b.segments
    by_test true = refl
    by_test false = refl

-- those after one with a lower id have other ids
all_left : (low id : ℕ) (bs : List PlainExport) → id ≡ low → AllByRecursion (λ (o : PlainExport). low < o.id) bs → filter (λ (b : PlainExport). not (books.is_of id b)) bs ≡ bs
all_left low id [] is above = refl
all_left low id (b ∷ bs) is above =
    let higher = above.0 in
    let other : books.is_of id b ≡ false = false_from_ne_true (b.id == id) (λ same. let e = eqb-true b.id id same in omega (arith, e, is, higher)) in
    ap (λ (x : Bool). cond (not x) (b ∷ filter (λ (p : PlainExport). not (books.is_of id p)) bs) (filter (λ (p : PlainExport). not (books.is_of id p)) bs)) other ∙ ap (λ (xs : List PlainExport). b ∷ xs) (all_left low id bs is above.1)

-- without the export of an id its runs are kept once less
pub times_left : (bs : List PlainExport) (id : ℕ) (b : PlainExport) (run : Run) → AreRising bs → find (books.is_of id) bs ≡ Some b
    → times_among (runs_kept (filter (λ (p : PlainExport). not (books.is_of id p)) bs)) run + times_among (runs_in_segments b.segments) run ≡ times_among (runs_kept bs) run
times_left [] id b run rising found = absurd (cc found)
times_left (x ∷ xs) id b run rising found = by_first (books.is_of id x) refl found (λ later. times_left xs id b run rising.1 later)
  where
    rest : List PlainExport
    rest = filter (λ (p : PlainExport). not (books.is_of id p)) xs

    both : times_among (runs_kept (x ∷ xs)) run ≡ times_among (runs_in_segments x.segments) run + times_among (runs_kept xs) run
    both = times_both (runs_in_segments x.segments) (runs_kept xs) run

    by_first : (t : Bool) → books.is_of id x ≡ t → cond t (Some x) (find (books.is_of id) xs) ≡ Some b
        → (find (books.is_of id) xs ≡ Some b → times_among (runs_kept rest) run + times_among (runs_in_segments b.segments) run ≡ times_among (runs_kept xs) run)
        → times_among (runs_kept (cond (not t) (x ∷ rest) rest)) run + times_among (runs_in_segments b.segments) run ≡ times_among (runs_kept (x ∷ xs)) run
    by_first true is found later =
        let same : x ≡ b = cc found in
        let all : rest ≡ xs = all_left x.id id xs (sym (eqb-true x.id id is)) rising.0 in
        let one : times_among (runs_kept rest) run ≡ times_among (runs_kept xs) run = ap (λ (ps : List PlainExport). times_among (runs_kept ps) run) all in
        let own : times_among (runs_in_segments b.segments) run ≡ times_among (runs_in_segments x.segments) run = ap (λ (p : PlainExport). times_among (runs_in_segments p.segments) run) (sym same) in
        omega (arith, one, own, both)
    by_first false is found later =
        let more = later found in
        let first : times_among (runs_kept (x ∷ rest)) run ≡ times_among (runs_in_segments x.segments) run + times_among (runs_kept rest) run = times_both (runs_in_segments x.segments) (runs_kept rest) run in
        omega (arith, more, first, both)

-- ---- their pieces

pub each_count : (s : PlainSchema) (segments : List Segment) (image : Image) (lists : List (List (List Cell))) → rows_each s segments image ≡ Some lists → length lists ≡ length segments
unfolding rows_each
each_count s [] image lists is = let none : lists ≡ [] = cc is in ap length none
each_count s (g ∷ gs) image lists is = by_rows (segment_rows s g image) (rows_each s gs image) refl is (λ more h. each_count s gs image more h)
  where
    by_rows : (first : Option (List (List Cell))) (others : Option (List (List (List Cell)))) → rows_each s gs image ≡ others → with_rows first others ≡ Some lists
        → ((more : List (List (List Cell))) → rows_each s gs image ≡ Some more → length more ≡ length gs) → length lists ≡ length (g ∷ gs)
    by_rows None others o h later = absurd (cc h)
    by_rows (Some rows) None o h later = absurd (cc h)
    by_rows (Some rows) (Some more) o h later = let same : rows ∷ more ≡ lists = cc h in let all = ap (λ (ls : List (List (List Cell))). length ls) same in let count = later more o in omega (arith, all, count)

-- what is so of the segments after the first
abbrev LaterAt : PlainSchema → List Segment → Image → Segment → Type 0
LaterAt s xs image g = (more : List (List (List Cell))) (n : ℕ) → rows_each s xs image ≡ Some more → slice_get xs n ≡ Some g → segment_rows s g image ≡ slice_get more n

-- the rows of the segment at a place
pub each_at : (s : PlainSchema) (segments : List Segment) (image : Image) (lists : List (List (List Cell))) (place : ℕ) (g : Segment) → rows_each s segments image ≡ Some lists → slice_get segments place ≡ Some g
    → segment_rows s g image ≡ slice_get lists place
unfolding rows_each
each_at s [] image lists place g is at = absurd (cc at)
each_at s (x ∷ xs) image lists place g is at = by_rows (segment_rows s x image) (rows_each s xs image) refl refl is (λ more n o h. each_at s xs image more n g o h)
  where
    by_place : (n : ℕ) (rows : List (List Cell)) (more : List (List (List Cell))) → segment_rows s x image ≡ Some rows → rows_each s xs image ≡ Some more → slice_get (x ∷ xs) n ≡ Some g → LaterAt s xs image g → segment_rows s g image ≡ slice_get (rows ∷ more) n
    by_place zero rows more f o at later = let same : x ≡ g = cc at in ap (λ (y : Segment). segment_rows s y image) (sym same) ∙ f
    by_place (suc n) rows more f o at later = later more n o at

    by_rows : (first : Option (List (List Cell))) (others : Option (List (List (List Cell)))) → segment_rows s x image ≡ first → rows_each s xs image ≡ others → with_rows first others ≡ Some lists → LaterAt s xs image g → segment_rows s g image ≡ slice_get lists place
    by_rows None others f o h later = absurd (cc h)
    by_rows (Some rows) None f o h later = absurd (cc h)
    by_rows (Some rows) (Some more) f o h later = let same : rows ∷ more ≡ lists = cc h in by_place place rows more f o at later ∙ ap (λ (ls : List (List (List Cell))). slice_get ls place) same

-- after the messages of the lists comes one part more, and then none
part_within : (f : List (List Cell) → List ℕ) (lists : List (List (List Cell))) (last : List ℕ) (place : ℕ) (rows : List (List Cell)) → slice_get lists place ≡ Some rows → slice_get (map f lists ++ last ∷ []) place ≡ Some (f rows)
part_within f [] last place rows at = absurd (cc at)
part_within f (x ∷ xs) last zero rows at = let same : x ≡ rows = cc at in ap (λ (y : List (List Cell)). Some (f y)) same
part_within f (x ∷ xs) last (suc n) rows at = part_within f xs last n rows at

part_last : (f : List (List Cell) → List ℕ) (lists : List (List (List Cell))) (last : List ℕ) → slice_get (map f lists ++ last ∷ []) (length lists) ≡ Some last
part_last f [] last = refl
part_last f (x ∷ xs) last = part_last f xs last

part_past : (f : List (List Cell) → List ℕ) (lists : List (List (List Cell))) (last : List ℕ) (place : ℕ) → length lists < place → slice_get (map f lists ++ last ∷ []) place ≡ None
part_past f lists last place lt = slice_get_past (map f lists ++ last ∷ []) place (omega (arith, lt, length-append (map f lists) (last ∷ []), length-map lists f))

part_behind : (f : List (List Cell) → List ℕ) (lists : List (List (List Cell))) (last : List ℕ) (place : ℕ) → length lists ≤ place → slice_get (map f lists ++ last ∷ []) place ≡ (if place == length lists then Some last else None)
part_behind f lists last place le = by_test (place == length lists) refl
  where
    by_test : (t : Bool) → (place == length lists) ≡ t → slice_get (map f lists ++ last ∷ []) place ≡ (if t then Some last else None)
    by_test true is = ap (slice_get (map f lists ++ last ∷ [])) (eqb-true place (length lists) is) ∙ part_last f lists last
    by_test false is =
        ⊎_elim (λ (same : place ≡ length lists). let t = eq-eqb place (length lists) same in absurd (cc (t, is))) (λ (other : place ≢ length lists). part_past f lists last place (omega (arith, le, other)))
        (cases_eq place (length lists))

none_past : (gs : List Segment) (n : ℕ) → slice_get gs n ≡ None → length gs ≤ n
none_past [] n none = omega arith
none_past (g ∷ gs) zero none = absurd (cc none)
none_past (g ∷ gs) (suc n) none = let more = none_past gs n none in omega (arith, more)

-- the piece of a number, of an export whose segments can be read
pub piece_at : (image : Image) (b : PlainExport) (pieces : List (List ℕ)) (number : ℕ) (piece : Option (List ℕ)) → pieces_held b.schema b.segments image ≡ Some pieces → PieceIs true image b number piece → piece ≡ slice_get pieces number
piece_at image b pieces number piece held is = by_lists (rows_each b.schema b.segments image) refl held
  where
    by_place : (lists : List (List (List Cell))) (place : ℕ) (o : Option Segment) → rows_each b.schema b.segments image ≡ Some lists → slice_get b.segments place ≡ o → OfSegment true image b o place piece
        → piece ≡ slice_get (map (rows_messages b.schema) lists ++ end_of_stream ∷ []) place
    by_place lists place (Some g) each at of =
        let own : slice_get lists place ≡ Some of.0 = sym (each_at b.schema b.segments image lists place g each at) ∙ read_rows true image b.schema g of.0 of.1 refl in
        of.2 ∙ sym (part_within (rows_messages b.schema) lists end_of_stream place of.0 own)
    by_place lists place None each at of =
        let count = each_count b.schema b.segments image lists each in
        let past : length b.segments ≤ place = none_past b.segments place at in
        of ∙ ap (λ (n : ℕ). if place == n then Some end_of_stream else None) (sym count) ∙ sym (part_behind (rows_messages b.schema) lists end_of_stream place (omega (arith, count, past)))

    by_number : (lists : List (List (List Cell))) (n : ℕ) → rows_each b.schema b.segments image ≡ Some lists → PieceIs true image b n piece → piece ≡ slice_get (stream_parts b.schema lists) n
    by_number lists zero each is = is
    by_number lists (suc place) each is = by_place lists place (slice_get b.segments place) each refl is

    by_lists : (o : Option (List (List (List Cell)))) → rows_each b.schema b.segments image ≡ o → option_map (stream_parts b.schema) o ≡ Some pieces → piece ≡ slice_get pieces number
    by_lists None each h = absurd (cc h)
    by_lists (Some lists) each h = let same : stream_parts b.schema lists ≡ pieces = cc h in by_number lists number each is ∙ ap (λ (ps : List (List ℕ)). slice_get ps number) same

-- ---- the usages of a store's runs

-- once an export is opened its runs are pinned once more
pub opened_uses : (old new : Space) (ruling : List Run) (bs : List PlainExport) (b : PlainExport) → Uses old.entries ruling (runs_kept bs) → PinsAll old new (runs_in_segments b.segments) → Uses new.entries ruling (runs_kept (bs ++ b ∷ []))
opened_uses old new ruling bs b uses pins run =
    let more : times_among (runs_kept bs) run + times_among (runs_in_segments b.segments) run ≡ times_among (runs_kept (bs ++ b ∷ [])) run =
    sym (times_both (runs_kept bs) (runs_in_segments b.segments) run) ∙ ap (λ (rs : List Run). times_among rs run) (sym (kept_more bs b)) in
    pins.usages run ∙ ap (pinned_times (times_among (runs_in_segments b.segments) run)) (uses run) ∙ ap (λ (n : ℕ). record { taken = is_among ruling run; pins = n }) more

-- the export that is opened is found under its id, with the runs of the entry
module _ (old new : PlainBook) (e : PlainEntry) (id : ℕ) (sound : IsBook old) (opened : new ≡ with_open e.schema e.segments old) (next : id ≡ old.next) where
  found_opened : open_at new id ≡ Some (record { id = old.next; schema = e.schema; segments = e.segments; given = 0 })
  found_opened = (λ i. open_at (opened i) (next i)) ∙ opened_at old e.schema e.segments sound

  pub some_opened : {R : Type 0} (found : Option R) (plain : R → PlainExport) → option_map plain found ≡ open_at new id → IsSome found
  some_opened None plain none = absurd (let is = none ∙ found_opened in cc is)
  some_opened (Some x) plain is = refl

  pub opened_runs : {R : Type 0} (found : Option R) (x : R) (now : R → OpenExport) → option_map (λ r. plain_export (now r)) found ≡ open_at new id → found ≡ Some x → (now x).runs.items ≡ runs_in_segments e.segments
  opened_runs found x now is there =
      let both = ap (option_map (λ r. plain_export (now r))) (sym there) ∙ is ∙ found_opened in
      let same : plain_export (now x) ≡ record { id = old.next; schema = e.schema; segments = e.segments; given = 0 } = cc both in
      (now x).listed ∙ ap (λ (p : PlainExport). runs_in_segments p.segments) same

-- once one is closed they are pinned once less
pub closed_uses : (old new : Space) (ruling : List Run) (bs : List PlainExport) (id : ℕ) (b : PlainExport) → AreRising bs → find (books.is_of id) bs ≡ Some b → Uses old.entries ruling (runs_kept bs)
    → UnpinsAll old new (runs_in_segments b.segments) → Uses new.entries ruling (runs_kept (filter (λ (p : PlainExport). not (books.is_of id p)) bs))
closed_uses old new ruling bs id b rising found uses unpins run =
    let left = times_left bs id b run rising found in
    let fewer : times_among (runs_kept bs) run - times_among (runs_in_segments b.segments) run ≡ times_among (runs_kept (filter (λ (p : PlainExport). not (books.is_of id p)) bs)) run = omega (arith, left) in
    unpins.usages run ∙ ap (unpinned_times (times_among (runs_in_segments b.segments) run)) (uses run) ∙ ap (λ (n : ℕ). record { taken = is_among ruling run; pins = n }) fewer

-- where no export has an id none is left out
pub none_left_out : (bs : List PlainExport) (id : ℕ) → find (books.is_of id) bs ≡ None → filter (λ (p : PlainExport). not (books.is_of id p)) bs ≡ bs
none_left_out [] id none = refl
none_left_out (b ∷ bs) id none = by_first (books.is_of id b) none (λ later. none_left_out bs id later)
  where
    by_first : (t : Bool) → cond t (Some b) (find (books.is_of id) bs) ≡ None → (find (books.is_of id) bs ≡ None → filter (λ (p : PlainExport). not (books.is_of id p)) bs ≡ bs)
        → cond (not t) (b ∷ filter (λ (p : PlainExport). not (books.is_of id p)) bs) (filter (λ (p : PlainExport). not (books.is_of id p)) bs) ≡ b ∷ bs
    by_first true none later = absurd (cc none)
    by_first false none later = ap (λ (ps : List PlainExport). b ∷ ps) (later none)

-- ---- the runs of an entry

-- an entry's runs are among those of its catalogue, each no more often
times_entry : (c : PlainCatalogue) (name : List ℕ) (e : PlainEntry) (run : Run) → entry_of c name ≡ Some e → times_among (runs_in_segments e.segments) run ≤ times_among (runs_of c) run
times_entry [] name e run found = absurd (cc found)
times_entry (x ∷ xs) name e run found =
    let both = times_both (runs_in x) (runs_of xs) run in
    let own = times_both (page_runs x.page) (runs_in_segments x.segments) run in
    by_found x xs name e found
    (λ t stands. let same = ap (λ (y : PlainEntry). times_among (runs_in_segments y.segments) run) stands in omega (arith, both, own, same))
    (λ f there. let later = times_entry xs name e run there in omega (arith, both, later))

-- they are in use, and none is listed twice
module _ (size : ℕ) (text : Run) (c : PlainCatalogue) (name : List ℕ) (e : PlainEntry) (found : entry_of c name ≡ Some e) where
  entry_among : (run : Run) → is_among (runs_in_segments e.segments) run ≡ true → is_among (runs_of c) run ≡ true
  entry_among run is = let one = times_some (runs_in_segments e.segments) run is in let fewer = times_entry c name e run found in some_times (runs_of c) run (omega (arith, one, fewer))

  pub entry_used : (entries : List UsageEntry) (pinned : List Run) → Uses entries (text ∷ runs_of c) pinned → (run : Run) → is_among (runs_in_segments e.segments) run ≡ true → IsUsedIn entries run
  entry_used entries pinned uses run is =
      ap is_used (uses run) ∙ ap (λ (b : Bool). b || nat_lt 0 (times_among pinned run)) (or_right (same_run text run) (is_among (runs_of c) run) (entry_among run is))

  pub entry_once : runs_fault size text (runs_of c) ≡ None → (run : Run) → times_among (runs_in_segments e.segments) run ≤ 1
  entry_once fit run = by_listed (is_among (runs_in_segments e.segments) run) refl
    where
      by_listed : (b : Bool) → is_among (runs_in_segments e.segments) run ≡ b → times_among (runs_in_segments e.segments) run ≤ 1
      by_listed false is = let none = none_listed (runs_in_segments e.segments) run is in omega (arith, none)
      by_listed true is =
          let parts = fault_none size text (runs_of c) fit in
          let apart = and_parts (is_apart text (runs_of c)) (are_apart (runs_of c)) parts.1 in
          let on = all_on size (runs_of c) run parts.0 (entry_among run is) in
          let some = leb-true 1 run.count (and_parts (nat_le 1 run.count) (nat_le (run.start + run.count) size) (and_parts (nat_le 2 run.start) (nat_le 1 run.count && nat_le (run.start + run.count) size) on).1).0 in
          let most = once (runs_of c) run apart.1 some in
          let fewer = times_entry c name e run found in
          omega (arith, most, fewer)

-- what an entry has can be read
pub entry_exportable : (size : ℕ) (text : Run) (c : PlainCatalogue) (name : List ℕ) (e : PlainEntry) (b : PlainExport) → list_all is_entry c ≡ true → runs_fault size text (runs_of c) ≡ None → entry_of c name ≡ Some e
    → b.schema ≡ e.schema → b.segments ≡ e.segments → IsExportable size b
entry_exportable size text c name e b sound fit found schema segments =
    let is = entry_is e (found_passes is_entry c name e sound found) in
    record {
      within = ap is_within_limits schema ∙ passes_limits e.schema is.schema;
      sound = ap (list_all is_segment) segments ∙ is.segments;
      placed = ap (λ (gs : List Segment). all_on_device size (runs_in_segments gs)) segments ∙ runs_on_device size c name e (fault_none size text (runs_of c) fit).0 found;
    }

-- it has no more segments than all tables together
pub entry_short : (c : PlainCatalogue) (name : List ℕ) (e : PlainEntry) → entry_of c name ≡ Some e → length e.segments ≤ segment_count c
entry_short [] name e found = absurd (cc found)
entry_short (x ∷ xs) name e found =
    let both : segment_count (x ∷ xs) ≡ (0 + length x.segments) + segment_count xs = sum_by-append (λ (y : PlainEntry). length y.segments) (x ∷ []) xs in
    by_found x xs name e found (λ t stands. let same = ap (λ (y : PlainEntry). length y.segments) stands in omega (arith, both, same)) (λ f there. let later = entry_short xs name e there in omega (arith, both, later))
