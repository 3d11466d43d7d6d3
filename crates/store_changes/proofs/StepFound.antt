-- What is found on the way of a step, in the words of the image that it began with.
use Rattle.std.specs.Prelude.{◌≡◌, ◌⊎◌, ◌≤◌, ◌<◌, ◌+◌, ◌&&◌, ℕ, suc, Bool, true, false, nat_lt, nat_le, nat_eq, List, [], ◌∷◌, length, map, drop, slice_get, get_or, Option, Some, None, option_map, refl, if◌then◌else◌}
use Rattle.std.proofs.Common.{inl, inr, ⊎_elim, sym, ap, ◌∙◌, subst, arith, length-drop}
use Rattle.std.proofs.lemmas.Bool.{ltb-true, ltb-false, leb-true, eqb-true, eqb-false, le-leb, lt-leb, and_parts, cases_lt}
use Rattle.std.proofs.lemmas.List.{length-map}
use Rattle.std.proofs.lemmas.Option.{slice_get_within, slice_get-map, slice_get_read, same_Some}
use Rattle.std.specs.List.{list_all}
use Rattle.std.proofs.lemmas.List.Sums.{AllPass-from_list_all}
use Rattle.sector_dev.specs.Disk.{Image}
use Rattle.segments.specs.declared.run.Run.{Run}
use Rattle.cells.specs.Cell.{Cell, PlainTable}
use Rattle.table_cut.specs.Cut.{pieces}
use Rattle.catalogue.specs.declared.entry.Segment.{Segment}
use Rattle.catalogue.specs.declared.entry.TableEntry.{TableEntry}
use Rattle.catalogue.specs.declared.limits.TheConstants.{MAX_SEGMENT_ROWS}
use Rattle.catalogue.specs.Entries.{PlainEntry, PlainCatalogue, plain_entry, is_segment, is_entry, runs_of, IsCatalogue, runs_in_segments}
use Rattle.catalogue.specs.laws.Kept.{entry_is}
use Rattle.catalogue.specs.laws.Changed.{found_passes}
use Rattle.commit.specs.Standing.{is_on_device, all_on_device}
use Rattle.tables.specs.declared.refusal.Refusal.{Refusal}
use Rattle.tables.specs.declared.refusal.Refusal.TheVariants as refusals
use Rattle.store_changes.specs.declared.moving.Last.{Last}
use Rattle.store_runs.specs.Held.{is_undamaged, bytes_of, table_held}
use Rattle.store_runs.specs.Changes.{PlainChange}
use Rattle.store_runs.specs.Reading.{LacksBytes, IsRead, IsUnread, IsDamaged}
use Rattle.store_runs.specs.Compacting.{pair_of, StaysTwo, FirstStay, AllStay, IsMergeIn, IsLast, IsMove, UnreadsPair, UnreadsInPairs, UnreadsMoving}
use Rattle.store_changes.specs.Finding.{UnreadsIn, later_of, IsLastIn, StandsIn, IsLastOf}
use Rattle.store_changes.specs.laws.Digests.{copy_then, have_then}
use Rattle.store_changes.specs.laws.ReadTables.{runs_on_device}
use Rattle.store_changes.specs.laws.StepParts.{at_name, passes_at, segment_placed}
use Rattle.store_changes.specs.laws.StepChanges.{parts_of_segment, pieces_some_rows}

-- ---- as it was shown at first

module _ (tells : Bool) (a b : Image) (same : tells ≡ true → b ≡ a) where
  pub read_then : (e : PlainEntry) (t : PlainTable) → IsRead tells b e t → IsRead tells a e t
  read_then e t r = record { kept = r.kept; schema = r.schema; count = r.count; read = have_then tells a b same e.schema e.segments t.rows r.read; held = λ told. subst (λ (i : Image). table_held i e ≡ Some t) (same told) (r.held told) }

  pub stays_then : (e : PlainEntry) (place : ℕ) → StaysTwo tells b e place → StaysTwo tells a e place
  stays_then e place (inl many) = inl many
  stays_then e place (inr (t, r, more)) = inr (t, read_then (pair_of e place) t r, more)

  pub first_then : (e : PlainEntry) (count : ℕ) → FirstStay tells b e count → FirstStay tells a e count
  first_then e count stay place lt within = stays_then e place (stay place lt within)

  pub merge_then : (e : PlainEntry) (change : PlainChange) → IsMergeIn tells b e change → IsMergeIn tells a e change
  merge_then e change m = record {
    place = m.place;
    within = m.within;
    before = first_then e m.place m.before;
    table = m.table;
    read = read_then (pair_of e m.place) m.table m.read;
    one = m.one;
    is = m.is;
  }

  pub pair_then : (e : PlainEntry) (place : ℕ) (r : Refusal) → UnreadsPair tells b e place r → UnreadsPair tells a e place r
  pair_then e place refusals.Device u = tt
  pair_then e place refusals.OutOfMemory u = tt
  pair_then e place (refusals.SegmentUnread number) (at, is, (inside, unread)) = (at, is, (inside, λ told. subst (λ (i : Image). IsUnread i (pair_of e place) at) (same told) (unread told)))
  pair_then e place (refusals.SegmentDamaged number) (at, is, (inside, damaged)) = (at, is, (inside, λ told. subst (λ (i : Image). IsDamaged i (pair_of e place) at) (same told) (damaged told)))
  pair_then e place _ u = absurd u

  pub in_then : (e : PlainEntry) (r : Refusal) → UnreadsIn tells b e r → UnreadsIn tells a e r
  in_then e r (place, within, before, (few, unread)) = (place, within, first_then e place before, (few, pair_then e place r unread))

  pub last_then : (segment : Segment) (place : ℕ) (r : Refusal) → LacksBytes tells b segment place r → LacksBytes tells a segment place r
  last_then segment place refusals.Device u = tt
  last_then segment place refusals.OutOfMemory u = tt
  last_then segment place (refusals.SegmentUnread number) u = (u.0, λ told. subst (λ (i : Image). bytes_of segment i ≡ None) (same told) (u.1 told))
  last_then segment place (refusals.SegmentDamaged number) u = (u.0, λ told. subst (λ (i : Image). is_undamaged segment.digest (bytes_of segment i) ≡ false) (same told) (u.1 told))
  last_then segment place _ u = absurd u

  pub moving_then : (c : PlainCatalogue) (r : Refusal) → UnreadsMoving tells b c r → UnreadsMoving tells a c r
  moving_then c r u = record { number = u.number; place = u.place; entry = u.entry; segment = u.segment; last = u.last; unread = last_then u.segment u.place r u.unread }

  pub move_then : (size : ℕ) (used : Run → Type 0) (c : PlainCatalogue) (change : PlainChange) → IsMove tells b size used c change → IsMove tells a size used c change
  move_then size used c change m = record {
    number = m.number;
    place = m.place;
    entry = m.entry;
    segment = m.segment;
    last = m.last;
    run = m.run;
    lowest = m.lowest;
    below = m.below;
    bytes = m.bytes;
    copy = copy_then tells a b same m.segment m.bytes m.copy;
    is = m.is;
  }

-- ---- the first n, and one more

pub below_or_at : (j i : ℕ) → j < i + 1 → (j < i) ⊎ (j ≡ i)
below_or_at j i lt = ⊎_elim (λ (less : j < i). inl less) (λ (over : i ≤ j). inr (omega (arith, over, lt))) (cases_lt j i)

pub stays_more : (tells : Bool) (image : Image) (e : PlainEntry) (count : ℕ) → FirstStay tells image e count → StaysTwo tells image e count → FirstStay tells image e (count + 1)
stays_more tells image e count stay next place lt within =
    ⊎_elim (λ (less : place < count). stay place less within) (λ (is : place ≡ count). subst (StaysTwo tells image e) (sym is) next) (below_or_at place count lt)

pub all_more : (tells : Bool) (image : Image) (c : PlainCatalogue) (count : ℕ) (x : PlainEntry) → slice_get c count ≡ Some x → AllStay tells image c count → FirstStay tells image x (length x.segments) → AllStay tells image c (count + 1)
all_more tells image c count x at stay next number e lt found =
    ⊎_elim (λ (less : number < count). stay number e less found)
    (λ (is : number ≡ count). subst (λ (y : PlainEntry). FirstStay tells image y (length y.segments)) (same_Some x e (sym at ∙ ap (slice_get c) (sym is) ∙ found)) next)
    (below_or_at number count lt)

-- ---- the last segment

later_both : (last : Option Last) (other : Last) (P : Last → Type 0) → ((one : Last) → last ≡ Some one → P one) → P other → P (later_of last other)
later_both None other P own its = its
later_both (Some one) other P own its = by_test (nat_lt one.segment.place.run.start other.segment.place.run.start)
  where
    by_test : (b : Bool) → P (if b then other else one)
    by_test true = its
    by_test false = own one refl

later_than : (last : Option Last) (other : Last) → other.segment.place.run.start ≤ (later_of last other).segment.place.run.start
later_than None other = omega arith
later_than (Some one) other = by_test (nat_lt one.segment.place.run.start other.segment.place.run.start) refl
  where
    by_test : (b : Bool) → nat_lt one.segment.place.run.start other.segment.place.run.start ≡ b → other.segment.place.run.start ≤ (if b then other else one).segment.place.run.start
    by_test true is = omega arith
    by_test false is = let more = ltb-false one.segment.place.run.start other.segment.place.run.start is in omega (arith, more)

later_own : (one other : Last) → one.segment.place.run.start ≤ (later_of (Some one) other).segment.place.run.start
later_own one other = by_test (nat_lt one.segment.place.run.start other.segment.place.run.start) refl
  where
    by_test : (b : Bool) → nat_lt one.segment.place.run.start other.segment.place.run.start ≡ b → one.segment.place.run.start ≤ (if b then other else one).segment.place.run.start
    by_test true is = let less = ltb-true one.segment.place.run.start other.segment.place.run.start is in omega (arith, less)
    by_test false is = omega arith

pub some_more : (c : PlainCatalogue) (number : ℕ) (e : PlainEntry) (last : Option Last) (other : Last) → slice_get c number ≡ Some e → IsLastIn number e.segments (length e.segments) (Some other) → IsLastOf c number last
    → IsLastOf c (number + 1) (Some (later_of last other))
some_more c number e last other at is so_far = (later_both last other (StandsIn c) (own last so_far) (e, ap (slice_get c) is.0 ∙ at, is.1), most last so_far)
  where
    own : (l : Option Last) → IsLastOf c number l → (one : Last) → l ≡ Some one → StandsIn c one
    own None all one same = absurd (cc same)
    own (Some x) all one same = let alike : x ≡ one = cc same in subst (StandsIn c) alike all.0

    most : (l : Option Last) → IsLastOf c number l → (n : ℕ) (x : PlainEntry) (p : ℕ) (g : Segment) → n < number + 1 → slice_get c n ≡ Some x → slice_get x.segments p ≡ Some g
        → g.place.run.start ≤ (later_of l other).segment.place.run.start
    most l all n x p g lt found there = ⊎_elim (λ (less : n < number). before l all less) here (below_or_at n number lt)
      where
        here : n ≡ number → g.place.run.start ≤ (later_of l other).segment.place.run.start
        here same =
            let both : Some e ≡ Some x = sym at ∙ ap (slice_get c) (sym same) ∙ found in
            let alike : e ≡ x = cc both in
            let in_e : slice_get e.segments p ≡ Some g = subst (λ (y : PlainEntry). slice_get y.segments p ≡ Some g) (sym alike) there in
            let low = is.2 p g (slice_get_within e.segments p g in_e) in_e in
            omega (arith, low, later_than l other)

        before : (l' : Option Last) → IsLastOf c number l' → n < number → g.place.run.start ≤ (later_of l' other).segment.place.run.start
        before None none less =
            let empty : x.segments ≡ [] = none n x less found in
            let lacks : slice_get {X = Segment} [] p ≡ Some g = subst (λ (ss : List Segment). slice_get ss p ≡ Some g) empty there in
            absurd (cc lacks)
        before (Some one) all' less = let low = all'.1 n x p g less found there in omega (arith, low, later_own one other)

-- the one that starts last of all tables
pub last_is : (c : PlainCatalogue) (last : Last) → IsLastOf c (length c) (Some last) → (e : PlainEntry) × IsLast c last.table last.place e last.segment
last_is c last ((e, at, there), most) = (e, record { found = at; at = there; most = λ other x p g found here. most other x p g (slice_get_within c other x found) found here })

-- where it lies
pub last_sound : (c : PlainCatalogue) → IsCatalogue c → (last : Last) → IsLastOf c (length c) (Some last) → is_segment last.segment ≡ true
last_sound c k last ((e, at, there), most) = passes_at is_segment e.segments last.place last.segment (entry_is e (found_passes is_entry c e.name e k.entries (at_name c last.table e k.order at))).segments there

pub last_placed : (size : ℕ) (c : PlainCatalogue) → IsCatalogue c → all_on_device size (runs_of c) ≡ true → (last : Last) → IsLastOf c (length c) (Some last) → is_on_device size last.segment.place.run ≡ true
last_placed size c k on last ((e, at, there), most) = segment_placed size e.segments last.place last.segment (runs_on_device size c e.name e on (at_name c last.table e k.order at)) there

pub last_within : (entries : List TableEntry) (last : Last) → IsLastOf (map plain_entry entries) (length (map plain_entry entries)) (Some last) → last.table < length entries
last_within entries last ((e, at, there), most) =
    let within = slice_get_within (map plain_entry entries) last.table e at in
    omega (arith, within, length-map entries plain_entry)

pub some_sectors : (size : ℕ) (run : Run) → is_on_device size run ≡ true → 1 ≤ run.count
some_sectors size run on =
    let more = and_parts (nat_le 2 run.start) (nat_le 1 run.count && nat_le (run.start + run.count) size) on in
    leb-true 1 run.count (and_parts (nat_le 1 run.count) (nat_le (run.start + run.count) size) more.1).0

-- an entry of the code
pub item_at : (entries : List TableEntry) (place : ℕ) (item : TableEntry) → place < length entries → item ≡ get_or entries place item → slice_get (map plain_entry entries) place ≡ Some (plain_entry item)
item_at entries place item lt is = slice_get-map plain_entry entries place ∙ ap (option_map plain_entry) (slice_get_read entries (length entries) place item refl lt is)

module _ (entries : List TableEntry) (place : ℕ) (item : TableEntry) (lt : place < length entries) (is : item ≡ get_or entries place item) (k : IsCatalogue (map plain_entry entries)) where
  pub item_sound : is_entry (plain_entry item) ≡ true
  item_sound = passes_at is_entry (map plain_entry entries) place (plain_entry item) k.entries (item_at entries place item lt is)

  pub item_placed : (size later : ℕ) → later ≡ size → all_on_device size (runs_of (map plain_entry entries)) ≡ true → all_on_device later (runs_in_segments (plain_entry item).segments) ≡ true
  item_placed size later same on =
      let listed = map plain_entry entries in
      subst (λ (n : ℕ). all_on_device n (runs_in_segments (plain_entry item).segments) ≡ true) (sym same)
      (runs_on_device size listed (plain_entry item).name (plain_entry item) on (at_name listed place (plain_entry item) k.order (item_at entries place item lt is)))

pub unread_in : (tells : Bool) (image : Image) (c : PlainCatalogue) (number : ℕ) (e : PlainEntry) (r : Refusal) → slice_get c number ≡ Some e → AllStay tells image c number → UnreadsIn tells image e r → UnreadsInPairs tells image c r
unread_in tells image c number e r at others (place, within, before, (few, unread)) =
    record { number = number; entry = e; at = at; others = others; place = place; within = within; before = before; few = few; unread = unread }

-- the rows of two segments are few
pub few_at : (segments : List Segment) (i : ℕ) (d : Segment) → list_all is_segment segments ≡ true → i < length segments → (get_or segments i d).rows ≤ MAX_SEGMENT_ROWS
few_at segments i d all lt =
    let g = get_or segments i d in
    let parts = parts_of_segment g (AllPass-from_list_all is_segment segments all i d lt) in
    leb-true g.rows MAX_SEGMENT_ROWS (and_parts (nat_le 1 g.rows) (nat_le g.rows MAX_SEGMENT_ROWS) parts.2).1

-- the first piece has all rows just where there is no other one
pub one_is : (within : List (List Cell) → Bool) (rows first : List (List Cell)) (n : ℕ) → pieces within rows ≡ first ∷ pieces within (drop n rows) → n ≤ length rows → nat_eq n (length rows) ≡ nat_le (length (pieces within rows)) 1
one_is within rows first n is le = by_test (nat_eq n (length rows)) refl
  where
    count : length (pieces within rows) ≡ suc (length (pieces within (drop n rows)))
    count = ap (λ (ps : List (List (List Cell))). length ps) is

    none_left : (xs : List (List Cell)) → length xs ≡ 0 → length (pieces within xs) ≡ 0
    none_left [] h = refl
    none_left (x ∷ xs) h = absurd (omega (arith, h))

    by_test : (b : Bool) → nat_eq n (length rows) ≡ b → b ≡ nat_le (length (pieces within rows)) 1
    by_test true h =
        let all = eqb-true n (length rows) h in
        let none = none_left (drop n rows) (omega (arith, all, length-drop n rows)) in
        sym (le-leb (length (pieces within rows)) 1 (omega (arith, count, none)))
    by_test false h =
        let other = eqb-false n (length rows) h in
        let some = pieces_some_rows within (drop n rows) (let left : n < length rows = grind (arith, le, other) in omega (arith, left, length-drop n rows)) in
        sym (lt-leb (length (pieces within rows)) 1 (omega (arith, count, some)))
