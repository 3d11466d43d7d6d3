-- Entries and segments by their numbers.
use Rattle.std.specs.Prelude.{◌≡◌, ◌≤◌, ◌<◌, ◌+◌, ℕ, zero, suc, true, false, List, [], ◌∷◌, map, take, drop, slice_get, Some, ◌++◌, Bool}
use Rattle.std.specs.List.{list_all}
use Rattle.std.specs.Str.{bytes_eq}
use Rattle.std.specs.Cmp.{tied_itself}
use Rattle.std.specs.Ordering.{is_eq}
use Rattle.std.specs.declared.cmp.Ordering.TheVariants.{Less}
use Rattle.std.proofs.Common.{inl, inr, sym, ap, ◌∙◌, subst}
use Rattle.std.proofs.lemmas.Bool.{cond-true, cond-false, and_parts}
use Rattle.std.proofs.lemmas.Cmp.{nat_list_cmp_total}
use Rattle.std.proofs.lemmas.Map.Text.{is_eq-slice_cmp}
use Rattle.std.proofs.lemmas.List.{map-append, take-append-drop}
use Rattle.std.proofs.lemmas.List.Elements.{All-take, All-drop}
use Rattle.std.proofs.lemmas.List.Sums.{AllPass-from_list_all, list_all-from_AllPass}
use Rattle.std.proofs.lemmas.Option.{slice_get_within, get_or_from_slice_get}
use Rattle.segments.specs.declared.run.Run.{Run}
use Rattle.catalogue.specs.declared.entry.Segment.{Segment}
use Rattle.catalogue.specs.Entries.{PlainEntry, PlainCatalogue, names_of, comes_before, ascends, is_segment, page_runs, runs_in_segments, runs_in, runs_of}
use Rattle.catalogue.specs.Edits.{entry_of, from_place}
use Rattle.catalogue.specs.laws.Order.{order, less_is}
use Rattle.commit.specs.Standing.{InSome, is_on_device, all_on_device}
use Rattle.pages.specs.laws.Local.{in_left, in_right}
use Rattle.store_changes.specs.laws.ReadTables.{run_at}
use Rattle.store_changes.specs.laws.Shrinking.{on_parts}

-- ---- an entry by its name

before_each : (name : List ℕ) (xs : PlainCatalogue) (i : ℕ) (e : PlainEntry) → comes_before name (names_of xs) ≡ true → ascends (names_of xs) ≡ true → slice_get xs i ≡ Some e → order name e.name ≡ Less
before_each name [] i e first rises at = absurd (cc at)
before_each name (x ∷ xs) zero e first rises at =
    let same : x ≡ e = cc at in
    less_is (order name e.name) (subst (λ (y : PlainEntry). comes_before name (y.name ∷ names_of xs) ≡ true) same first)
before_each name (x ∷ xs) (suc i) e first rises at =
    let parts = and_parts (comes_before x.name (names_of xs)) (ascends (names_of xs)) rises in
    nat_list_cmp_total.trans name x.name e.name (less_is (order name x.name) first) (before_each x.name xs i e parts.0 parts.1 at)

same_bytes_eq : (a : List ℕ) → bytes_eq a a ≡ true
same_bytes_eq a = sym (is_eq-slice_cmp a a) ∙ ap is_eq (tied_itself nat_list_cmp_total a)

-- the entry of a number is that of its name
pub at_name : (c : PlainCatalogue) (i : ℕ) (e : PlainEntry) → ascends (names_of c) ≡ true → slice_get c i ≡ Some e → entry_of c e.name ≡ Some e
at_name [] i e rises at = absurd (cc at)
at_name (x ∷ xs) zero e rises at =
    let same : x ≡ e = cc at in
    subst (λ (y : PlainEntry). entry_of (x ∷ xs) y.name ≡ Some y) same (cond-true (bytes_eq x.name x.name) (Some x) (entry_of xs x.name) (same_bytes_eq x.name))
at_name (x ∷ xs) (suc i) e rises at =
    let parts = and_parts (comes_before x.name (names_of xs)) (ascends (names_of xs)) rises in
    let other : bytes_eq x.name e.name ≡ false = sym (is_eq-slice_cmp x.name e.name) ∙ ap is_eq (before_each x.name xs i e parts.0 parts.1 at) in
    cond-false (bytes_eq x.name e.name) (Some x) (entry_of xs e.name) other ∙ at_name xs i e parts.1 at

-- ---- runs

-- the sectors of an entry are sectors of the catalogue
pub entry_sectors : (c : PlainCatalogue) (i : ℕ) (e : PlainEntry) (n : ℕ) → slice_get c i ≡ Some e → InSome (runs_in_segments e.segments) n → InSome (runs_of c) n
entry_sectors [] i e n at within = absurd (cc at)
entry_sectors (x ∷ xs) zero e n at within = let same : x ≡ e = cc at in
    in_left (runs_in x) (runs_of xs) n (in_right (page_runs x.page) (runs_in_segments x.segments) n (subst (λ (y : PlainEntry). InSome (runs_in_segments y.segments) n) (sym same) within))
entry_sectors (x ∷ xs) (suc i) e n at within = in_right (runs_in x) (runs_of xs) n (entry_sectors xs i e n at within)

-- those of a segment are sectors of its entry
pub segment_sectors : (segments : List Segment) (i : ℕ) (g : Segment) (n : ℕ) → slice_get segments i ≡ Some g → g.place.run.start ≤ n → n < g.place.run.start + g.place.run.count → InSome (map (λ (s : Segment). s.place.run) segments) n
segment_sectors [] i g n at low high = absurd (cc at)
segment_sectors (x ∷ xs) zero g n at low high =
    let same : x ≡ g = cc at in
    inl (subst (λ (s : Segment). (s.place.run.start ≤ n) × (n < s.place.run.start + s.place.run.count)) (sym same) (low, high))
segment_sectors (x ∷ xs) (suc i) g n at low high = inr (segment_sectors xs i g n at low high)

-- the runs of the first segments and of the others are those of all
joined_runs : (segments : List Segment) (n : ℕ) → runs_in_segments (take n segments) ++ runs_in_segments (drop n segments) ≡ runs_in_segments segments
joined_runs segments n = let run : Segment → Run = λ s. s.place.run in sym (map-append run (take n segments) (drop n segments)) ∙ ap (map run) (take-append-drop n segments)

pub front_sectors : (segments : List Segment) (count n : ℕ) → InSome (runs_in_segments (take count segments)) n → InSome (runs_in_segments segments) n
front_sectors segments count n within = subst (λ (rs : List Run). InSome rs n) (joined_runs segments count) (in_left _ _ n within)

pub back_sectors : (segments : List Segment) (place n : ℕ) → InSome (runs_in_segments (drop place segments)) n → InSome (runs_in_segments segments) n
back_sectors segments place n within = subst (λ (rs : List Run). InSome rs n) (joined_runs segments place) (in_right (runs_in_segments (take place segments)) _ n within)

pub parts_placed : (size : ℕ) (segments : List Segment) (n : ℕ) → all_on_device size (runs_in_segments segments) ≡ true
    → (all_on_device size (runs_in_segments (take n segments)) ≡ true) × (all_on_device size (runs_in_segments (drop n segments)) ≡ true)
parts_placed size segments n on = on_parts size (runs_in_segments (take n segments)) (runs_in_segments (drop n segments)) (ap (all_on_device size) (joined_runs segments n) ∙ on)

-- ---- segments

-- the segment at a place
pub one_from : (segments : List Segment) (i : ℕ) (g : Segment) → slice_get segments i ≡ Some g → take 1 (drop i segments) ≡ g ∷ []
one_from [] i g at = absurd (cc at)
one_from (x ∷ xs) zero g at = let same : x ≡ g = cc at in ap (λ (s : Segment). s ∷ []) same
one_from (x ∷ xs) (suc i) g at = one_from xs i g at

-- what all pass, the one at a place does, and some neighbours do
pub passes_at : {X : Type 0} (p : X → Bool) (xs : List X) (i : ℕ) (x : X) → list_all p xs ≡ true → slice_get xs i ≡ Some x → p x ≡ true
passes_at p xs i x all at = subst (λ y. p y ≡ true) (get_or_from_slice_get xs i x x at) (AllPass-from_list_all p xs all i x (slice_get_within xs i x at))

pub neighbours_pass : (segments : List Segment) (place count : ℕ) → list_all is_segment segments ≡ true → list_all is_segment (from_place segments place count) ≡ true
neighbours_pass segments place count all =
    let Passes : Segment → Type 0 = λ g. is_segment g ≡ true in
    list_all-from_AllPass is_segment _ (All-take Passes count _ (All-drop Passes place _ (AllPass-from_list_all is_segment segments all)))

pub segment_placed : (size : ℕ) (segments : List Segment) (i : ℕ) (g : Segment) → all_on_device size (runs_in_segments segments) ≡ true → slice_get segments i ≡ Some g → is_on_device size g.place.run ≡ true
segment_placed size segments i g on at = run_at size segments i g on (slice_get_within segments i g at) (sym (get_or_from_slice_get segments i g g at))
