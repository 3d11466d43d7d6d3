-- What is read of a table: its segments one after another, and the table that they make.
use Rattle.std.specs.Prelude.{slice_get, get_or, sum_by, min, if◌then◌else◌, Result, Ok, Err, IfErr}
use Rattle.std.proofs.Common.{◌≡◌, ◌≤◌, ◌<◌, ◌+◌, ◌-◌, ◌^◌, ◌++◌, ◌∷◌, [], ℕ, suc, Bool, true, false, List, Option, Some, None, length, map, take, drop, refl, sym, ap, ◌∙◌, subst, arith, append-nil, append_assoc}
use Rattle.std.specs.List.{list_all}
use Rattle.std.proofs.lemmas.List.{length-map, get_or-map, get_or_default, take-append-drop}
use Rattle.std.proofs.lemmas.List.Concat.{flat_map-cons}
use Rattle.std.proofs.lemmas.List.Sums.{sum_by-append, AllPass-from_list_all}
use Rattle.std.proofs.lemmas.Option.{slice_get_within, get_or_from_slice_get, slice_get-get_or}
use Rattle.std.proofs.Math.Seq.{drop-cons}
use Rattle.facts.specs.laws.Lists.{take-item}
use Rattle.sector_dev.specs.Disk.{Disk, Story, Image, now, shown_image}
use Rattle.sector_dev.specs.Time.{OnlyReads}
use Rattle.sector_dev.specs.laws.Time.{stays, read_on, now_read}
use Rattle.segments.specs.declared.run.Run.{Run}
use Rattle.arrow_schema.specs.Column.{PlainSchema}
use Rattle.arrow_schema.specs.Limits.{IsWithinLimits}
use Rattle.cells.specs.Cell.{Cell, PlainTable}
use Rattle.cells.specs.Weight.{table_weight}
use Rattle.cells.specs.declared.limits.TheConstants.{MAX_TABLE_WEIGHT}
use Rattle.values.specs.Table.{Refusal, IsTable, table_from}
use Rattle.catalogue.specs.declared.entry.Segment.{Segment}
use Rattle.catalogue.specs.Entries.{PlainEntry, PlainCatalogue, is_segment, page_runs, runs_in_segments, runs_in, runs_of}
use Rattle.catalogue.specs.Edits.{entry_of}
use Rattle.catalogue.specs.laws.Order.{by_found}
use Rattle.commit.specs.Standing.{is_on_device, all_on_device}
use Rattle.commit.specs.laws.Apart.{all_at}
use Rattle.store_runs.specs.Held.{is_undamaged, bytes_of, segment_rows, joined_rows, rows_held, table_where, table_of_rows, table_held}
use Rattle.tables.specs.declared.refusal.Refusal.{Refusal as Told}
use Rattle.tables.specs.declared.refusal.Refusal.TheVariants as refusals
use Rattle.store_runs.specs.Calls.{PlainReply, done, is_failure, is_device_reply, counted}
use Rattle.store_runs.specs.Reading.{HasRead, HaveRead, ArePast, IsUnread, IsDamaged, Unreads, OnlyReadsDevice, ended}
use Rattle.store_changes.specs.LawsBelow.{TableLaws}
use Rattle.store_changes.specs.ReadSegment.{UnreadsSegment}
use Rattle.store_changes.specs.laws.Changed.{rows_behind}
use Rattle.store_changes.specs.laws.Digests.{damaged_lacks, have_more, has_then}
use Rattle.store_changes.specs.laws.Named.{held_has}
use Rattle.store_changes.specs.laws.Shrinking.{on_parts}

-- ---- segments

one_held : (schema : PlainSchema) (segment : Segment) (image : Image) → rows_held schema (segment ∷ []) image ≡ segment_rows schema segment image
unfolding rows_held
one_held schema segment image = by_rows (segment_rows schema segment image)
  where
    by_rows : (o : Option (List (List Cell))) → joined_rows o (Some []) ≡ o
    by_rows None = refl
    by_rows (Some rows) = ap Some (append-nil rows)

-- one segment more
pub rows_of_more : (schema : PlainSchema) (segments more : List Segment) (segment : Segment) (image : Image) (rows : List (List Cell)) (found : Option (List (List Cell))) → more ≡ segments ++ segment ∷ []
    → rows_held schema segments image ≡ Some rows → found ≡ joined_rows (Some rows) (segment_rows schema segment image) → rows_held schema more image ≡ found
rows_of_more schema segments more segment image rows found is held joined =
    ap (λ (xs : List Segment). rows_held schema xs image) is ∙ rows_behind schema segments (segment ∷ []) image ∙ (λ i. joined_rows (held i) (one_held schema segment image i)) ∙ sym joined

pub rows_of_none : (schema : PlainSchema) (image : Image) → rows_held schema [] image ≡ Some []
unfolding rows_held
rows_of_none schema image = refl

-- ---- the table

pub read_is_held : TableLaws → (image : Image) (e : PlainEntry) (t : PlainTable) → IsTable t → t.schema ≡ e.schema → rows_held e.schema e.segments image ≡ Some t.rows → table_held image e ≡ Some t
read_is_held laws image e t is same rows =
    ap (table_of_rows e.schema) rows ∙ ap (λ (s : PlainSchema). table_where (table_from s t.rows)) (sym same) ∙ ap table_where (laws.accepted t is)

some_made : (s : PlainSchema) (rows : List (List Cell)) (table : PlainTable) (made : Result PlainTable Refusal) → table_from s rows ≡ made → table_where made ≡ Some table → table_from s rows ≡ Ok table
some_made s rows table (Ok t) made is = let same : t ≡ table = cc is in made ∙ ap Ok same
some_made s rows table (Err refusal) made is = absurd (cc is)

-- the rows that an entry's table has are one
pub held_is_table : TableLaws → (image : Image) (e : PlainEntry) (table : PlainTable) → IsWithinLimits e.schema → table_held image e ≡ Some table
    → (rows : List (List Cell)) × (rows_held e.schema e.segments image ≡ Some rows) × IsTable (record { schema = e.schema; rows = rows })
held_is_table laws image e table within is =
    let has = held_has image e table is in
    let made : table_where (table_from e.schema has.0) ≡ Some table = sym (ap (table_of_rows e.schema) has.1) ∙ is in
    let own = laws.accepts e.schema has.0 table within (some_made e.schema has.0 table (table_from e.schema has.0) refl made) in
    (has.0, has.1, subst IsTable own.0 own.1)

-- the rows of the first segments, and those of the others
pub parts_of : (o p : Option (List (List Cell))) (rows : List (List Cell)) → joined_rows o p ≡ Some rows → (a b : List (List Cell)) × (o ≡ Some a) × (p ≡ Some b) × (rows ≡ a ++ b)
parts_of None p rows is = absurd (cc is)
parts_of (Some a) None rows is = absurd (cc is)
parts_of (Some a) (Some b) rows is = let same : a ++ b ≡ rows = cc is in (a, b, refl, refl, sym same)

-- a segment that is not read, in a table that is held: impossible
no_past : TableLaws → (schema : PlainSchema) (rows whole rest more : List (List Cell)) → IsTable (record { schema = schema; rows = whole }) → whole ≡ (rows ++ more) ++ rest → ArePast schema rows (Some more) → ⊥
no_past laws schema rows whole rest more is same past =
    let front = (laws.cut schema (rows ++ more) rest (subst (λ (x : List (List Cell)). IsTable (record { schema = schema; rows = x })) same is)).0 in
    let light = front.weight in
    omega (arith, light, past)

split_at : (segments : List Segment) (place : ℕ) (segment : Segment) → slice_get segments place ≡ Some segment → segments ≡ (take place segments ++ segment ∷ []) ++ drop (place + 1) segments
split_at segments place segment at =
    let inside = slice_get_within segments place segment at in
    let own : get_or segments place segment ≡ segment = get_or_from_slice_get segments place segment segment at in
    let e : place + 1 ≡ suc place = omega arith in
    let first : drop place segments ≡ segment ∷ drop (place + 1) segments = rw e (drop-cons segments place segment inside ∙ ap (λ (x : Segment). x ∷ drop (suc place) segments) own) in
    sym (take-append-drop place segments) ∙ ap (λ (xs : List Segment). take place segments ++ xs) first ∙ sym (append_assoc (take place segments) (segment ∷ []) (drop (place + 1) segments))

-- a table of which the rows of a segment don't go after those before it is not held
past_not_held : TableLaws → (image : Image) (e : PlainEntry) (place : ℕ) (table : PlainTable) (segment : Segment) (rows : List (List Cell)) → IsWithinLimits e.schema → slice_get e.segments place ≡ Some segment
    → rows_held e.schema (take place e.segments) image ≡ Some rows → ArePast e.schema rows (segment_rows e.schema segment image) → table_held image e ≡ Some table → ⊥
past_not_held laws image e place table segment rows within at before is_past is = by_rows (segment_rows e.schema segment image) refl is_past
  where
    by_rows : (o : Option (List (List Cell))) → segment_rows e.schema segment image ≡ o → ArePast e.schema rows o → ⊥
    by_rows o found past =
        let own = held_is_table laws image e table within is in
        let first : List Segment = take place e.segments ++ segment ∷ [] in
        let rest : List Segment = drop (place + 1) e.segments in
        let split : joined_rows (rows_held e.schema first image) (rows_held e.schema rest image) ≡ Some own.0 =
        sym (rows_behind e.schema first rest image) ∙ ap (λ (xs : List Segment). rows_held e.schema xs image) (sym (split_at e.segments place segment at)) ∙ own.1 in
        let parts = parts_of (rows_held e.schema first image) (rows_held e.schema rest image) own.0 split in
        let front : joined_rows (Some rows) o ≡ Some parts.0 =
        sym (rows_of_more e.schema (take place e.segments) first segment image rows (joined_rows (Some rows) o) refl before (ap (joined_rows (Some rows)) (sym found))) ∙ parts.2 in
        let more = parts_of (Some rows) o parts.0 front in
        let same : rows ≡ more.0 = cc more.2 in
        no_past laws e.schema rows own.0 parts.1 more.1 own.2 (parts.4 ∙ ap (λ (xs : List (List Cell)). xs ++ parts.1) (more.4 ∙ ap (λ (xs : List (List Cell)). xs ++ more.1) (sym same)))
        (subst (ArePast e.schema rows) more.3 past)

-- one of which a segment can't be read
pub unread_not_held : TableLaws → (image : Image) (e : PlainEntry) (place : ℕ) (table : PlainTable) → IsWithinLimits e.schema → IsUnread image e place → table_held image e ≡ Some table → ⊥
unread_not_held laws image e place table within unread is = past_not_held laws image e place table unread.segment unread.rows within unread.at unread.before unread.past is

-- or has other bytes than those that were written
pub damaged_not_held : TableLaws → (image : Image) (e : PlainEntry) (place : ℕ) (table : PlainTable) → IsWithinLimits e.schema → IsDamaged image e place → table_held image e ≡ Some table → ⊥
damaged_not_held laws image e place table within d is =
    past_not_held laws image e place table d.segment d.rows within d.at d.before (subst (ArePast e.schema d.rows) (sym (damaged_lacks e.schema d.segment image d.damaged)) tt) is

-- ---- the runs of an entry

pub runs_on_device : (size : ℕ) (c : PlainCatalogue) (name : List ℕ) (e : PlainEntry) → all_on_device size (runs_of c) ≡ true → entry_of c name ≡ Some e → all_on_device size (runs_in_segments e.segments) ≡ true
runs_on_device size [] name e on found = absurd (cc found)
runs_on_device size (x ∷ xs) name e on found =
    let parts = on_parts size (runs_in x) (runs_of xs) (ap (all_on_device size) (sym (flat_map-cons runs_in x xs)) ∙ on) in
    by_found x xs name e found (λ t stands. subst (λ (y : PlainEntry). all_on_device size (runs_in_segments y.segments) ≡ true) stands (on_parts size (page_runs x.page) (runs_in_segments x.segments) parts.0).1) (λ f there. runs_on_device size xs name e parts.1 there)

-- the run of the segment at a place
pub run_at : (size : ℕ) (segments : List Segment) (place : ℕ) (segment : Segment) → all_on_device size (map (λ (s : Segment). s.place.run) segments) ≡ true → place < length segments → segment ≡ get_or segments place segment
    → is_on_device size segment.place.run ≡ true
run_at size segments place segment on inside is =
    let count : length (map (λ (s : Segment). s.place.run) segments) ≡ length segments = length-map segments (λ (s : Segment). s.place.run) in
    subst (λ (r : Run). is_on_device size r ≡ true) (get_or-map (λ (s : Segment). s.place.run) segments place segment segment.place.run inside ∙ ap (λ (s : Segment). s.place.run) (sym is))
    (all_at size (map (λ (s : Segment). s.place.run) segments) place segment.place.run on (omega (arith, count, inside)))

-- what an iteration would have for a segment past the last one
abbrev pub no_segment : Segment
no_segment = record { place = record { run = record { start = 0; count = 0 }; bytes = 0 }; rows = 0; digest = None }

-- the segment that it has at a place
module _ (segments : List Segment) (place : ℕ) (inside : place < length segments) where
  pub at_place : (segment : Segment) → segment ≡ get_or segments place no_segment → segment ≡ get_or segments place segment
  at_place segment is = is ∙ get_or_default segments place no_segment segment inside

  pub placed_at : (size later : ℕ) → later ≡ size → all_on_device size (map (λ (s : Segment). s.place.run) segments) ≡ true → is_on_device later (get_or segments place no_segment).place.run ≡ true
  placed_at size later same on =
      let segment = get_or segments place no_segment in
      subst (λ (n : ℕ). is_on_device n segment.place.run ≡ true) (sym same) (run_at size segments place segment on inside (at_place segment refl))

  pub sound_at : list_all is_segment segments ≡ true → is_segment (get_or segments place no_segment) ≡ true
  sound_at sound = AllPass-from_list_all is_segment segments sound place no_segment inside

-- ---- segments one after another

-- the rows of one segment more, whatever names its schema and its image have
pub rows_step : (schema other : PlainSchema) (segments : List Segment) (place : ℕ) (segment : Segment) (image other_image : Image) (rows : List (List Cell)) (found : Option (List (List Cell))) → other ≡ schema → other_image ≡ image → place < length segments
    → segment ≡ get_or segments place segment → rows_held schema (take place segments) image ≡ Some rows → found ≡ joined_rows (Some rows) (segment_rows other segment other_image) → rows_held schema (take (place + 1) segments) image ≡ found
rows_step schema other segments place segment image other_image rows found same at inside is held joined =
    rows_of_more schema (take place segments) (take (place + 1) segments) segment image rows found (take-item segments place segment inside is) held
    (joined ∙ (λ i. joined_rows (Some rows) (segment_rows (same i) segment (at i))))

-- and what was read of them
pub have_step : (tells : Bool) (schema other : PlainSchema) (segments : List Segment) (place : ℕ) (segment : Segment) (image other_image : Image) (rows own all : List (List Cell)) → other ≡ schema → (tells ≡ true → other_image ≡ image) → place < length segments
    → segment ≡ get_or segments place segment → HaveRead tells image schema (take place segments) rows → HasRead tells other_image other segment own → all ≡ rows ++ own → HaveRead tells image schema (take (place + 1) segments) all
have_step tells schema other segments place segment image other_image rows own all same at inside is so_far read more =
    subst (HaveRead tells image schema (take (place + 1) segments)) (sym more)
    (subst (λ (gs : List Segment). HaveRead tells image schema gs (rows ++ own)) (sym (take-item segments place segment inside is))
    (have_more tells image schema (take place segments) segment rows own so_far (has_then tells image other_image at schema segment own (subst (λ (s : PlainSchema). HasRead tells other_image s segment own) same read))))

-- and how many they are
abbrev pub rows_of : Segment → ℕ
rows_of s = s.rows

pub count_step : (segments : List Segment) (place : ℕ) (segment : Segment) (so_far all : ℕ) → place < length segments → segment ≡ get_or segments place segment → so_far ≡ sum_by rows_of (take place segments) → all ≡ so_far + segment.rows
    → all ≡ sum_by rows_of (take (place + 1) segments)
count_step segments place segment so_far all inside is own more =
    let next = ap (sum_by rows_of) (take-item segments place segment inside is) ∙ sum_by-append rows_of (take place segments) (segment ∷ []) in
    omega (arith, own, more, next)

-- why a segment's rows don't go after those before it, as reported of its table
pub unreads_step : (tells : Bool) (image other_image : Image) (e : PlainEntry) (other : PlainSchema) (rows : List (List Cell)) (segment : Segment) (place : ℕ) (r : Told) → other ≡ e.schema → (tells ≡ true → other_image ≡ image) → place < length e.segments
    → segment ≡ get_or e.segments place segment → table_weight other rows ≤ MAX_TABLE_WEIGHT → (tells ≡ true → rows_held e.schema (take place e.segments) image ≡ Some rows) → UnreadsSegment tells other_image other rows segment place r → Unreads tells image e r
unreads_step tells image other_image e other rows segment place refusals.Device same at inside is light held u = tt
unreads_step tells image other_image e other rows segment place refusals.OutOfMemory same at inside is light held u = tt
unreads_step tells image other_image e other rows segment place (refusals.SegmentUnread k) same at inside is light held u = (subst (λ (n : ℕ). n < length e.segments) (sym u.0) inside, λ told. subst (IsUnread image e) (sym u.0) (unread told))
  where
    unread : tells ≡ true → IsUnread image e place
    unread told = record {
      segment = segment;
      at = slice_get-get_or e.segments place segment inside ∙ ap Some (sym is);
      rows = rows;
      before = held told;
      light = subst (λ (s : PlainSchema). table_weight s rows ≤ MAX_TABLE_WEIGHT) same light;
      undamaged = ap (λ (i : Image). is_undamaged segment.digest (bytes_of segment i)) (sym (at told)) ∙ (u.1 told).0;
      past = subst (λ (i : Image). ArePast e.schema rows (segment_rows e.schema segment i)) (at told) (subst (λ (s : PlainSchema). ArePast s rows (segment_rows s segment other_image)) same (u.1 told).1);
    }
unreads_step tells image other_image e other rows segment place (refusals.SegmentDamaged k) same at inside is light held u = (subst (λ (n : ℕ). n < length e.segments) (sym u.0) inside, λ told. subst (IsDamaged image e) (sym u.0) (damaged told))
  where
    damaged : tells ≡ true → IsDamaged image e place
    damaged told = record {
      segment = segment;
      at = slice_get-get_or e.segments place segment inside ∙ ap Some (sym is);
      rows = rows;
      before = held told;
      light = subst (λ (s : PlainSchema). table_weight s rows ≤ MAX_TABLE_WEIGHT) same light;
      damaged = ap (λ (i : Image). is_undamaged segment.digest (bytes_of segment i)) (sym (at told)) ∙ u.1 told;
    }
unreads_step tells image other_image e other rows segment place _ same at inside is light held u = absurd u

-- ---- calls of the device one after another

pub reads_more : {D : Type 0} (size : D → ℕ) (story : D → Story) (failed : D → ℕ) (tells : Bool) (reply : PlainReply) (a b c : D) → OnlyReadsDevice size story failed tells done a b → OnlyReadsDevice size story failed tells reply b c
    → OnlyReadsDevice size story failed tells reply a c
reads_more size story failed tells reply a b c first second = record {
  same = second.same ∙ first.same;
  moments = λ told. read_on (story a) (story b) (story c) (first.moments told) (second.moments told);
  count = second.count ∙ ap (counted reply) first.count;
}

pub reads_none : {D : Type 0} (size : D → ℕ) (story : D → Story) (failed : D → ℕ) (tells : Bool) (a : D) → OnlyReadsDevice size story failed tells done a a
reads_none size story failed tells a = record { same = refl; moments = λ told. stays (λ (d : Disk). d ≡ now (story a)) (story a); count = refl }

-- no call at all, and an answer that no device failed
pub reads_quiet : {D : Type 0} (size : D → ℕ) (story : D → Story) (failed : D → ℕ) (tells : Bool) (reply : PlainReply) (a : D) → is_device_reply reply ≡ false → OnlyReadsDevice size story failed tells reply a a
reads_quiet size story failed tells reply a quiet = record {
  same = refl;
  moments = λ told. stays (λ (d : Disk). d ≡ now (story a)) (story a);
  count = sym (ap (λ (b : Bool). if b then min (failed a + 1) (2 ^ 64 - 1) else failed a) quiet);
}

-- reads, and an answer that no device failed
pub reads_ended : {D T : Type 0} (size : D → ℕ) (story : D → Story) (failed : D → ℕ) (tells : Bool) (r : Result T Told) (a b : D) → IfErr r (λ e. is_failure e ≡ false)
    → OnlyReadsDevice size story failed tells done a b → OnlyReadsDevice size story failed tells (ended r) a b
reads_ended size story failed tells (Ok x) a b quiet reads = reads
reads_ended size story failed tells (Err e) a b quiet reads = record {
  same = reads.same;
  moments = reads.moments;
  count = reads.count ∙ sym (ap (λ (f : Bool). if f then min (failed a + 1) (2 ^ 64 - 1) else failed a) quiet);
}

-- what reads show stays
pub image_then : (old new : Story) → OnlyReads old new → shown_image (now new) ≡ shown_image (now old)
image_then old new reads = ap shown_image (now_read old new reads)
