-- Runs that are pinned are not taken, and what their segments hold stays.
use Rattle.std.specs.Prelude.{◌≡◌, ◌⊎◌, ◌||◌, ℕ, Bool, true, List, [], ◌∷◌, map, nat_lt, Option, Some, None, option_map, Result, Ok, Err, refl}
use Rattle.std.specs.List.{list_all}
use Rattle.std.proofs.Common.{inl, inr, sym, ap, ◌∙◌, subst, lt-ltb}
use Rattle.std.proofs.lemmas.Bool.{and_parts, or_right}
use Rattle.sector_dev.specs.Disk.{Image}
use Rattle.segments.specs.declared.run.Run.{Run}
use Rattle.segments.specs.declared.entries.UsageEntry.{UsageEntry}
use Rattle.segments.specs.Runs.{OutOf}
use Rattle.segments.specs.Usages.{is_used, same_run, IsUsedIn}
use Rattle.segments.specs.laws.Usages.{same_itself}
use Rattle.segments.specs.laws.Runs.{out_of_apart}
use Rattle.arrow_schema.specs.Column.{PlainSchema}
use Rattle.cells.specs.Cell.{Cell}
use Rattle.table_cut.specs.CutRows.{joined}
use Rattle.catalogue.specs.declared.entry.Segment.{Segment}
use Rattle.catalogue.specs.Entries.{is_segment}
use Rattle.commit.specs.Standing.{InSome}
use Rattle.commit.specs.Placing.{is_among, times_among, Uses, in_front, Takes}
use Rattle.commit.specs.laws.Taking.{Took}
use Rattle.commit.specs.laws.Placed.{used_apart}
use Rattle.commit.specs.laws.Fit.{times_some}
use Rattle.store_runs.specs.Held.{segment_rows, joined_rows, rows_held, with_rows, rows_each}
use Rattle.store_changes.specs.laws.Frame.{same_segment}

-- ---- taking

in_front_of : (run : Run) (rest : Result (List Run) ℕ) (rs : List Run) → Ok rs ≡ in_front run rest → (more : List Run) × (rest ≡ Ok more) × (rs ≡ run ∷ more)
in_front_of run (Ok more) rs is = (more, refl, cc is)
in_front_of run (Err n) rs is = absurd (cc is)

pub takes_took : (size : ℕ) (used : Run → Type 0) (ns : List ℕ) (rs : List Run) → Takes size used ns (Ok rs) → Took size used ns rs
takes_took size used [] [] takes = tt
takes_took size used [] (r ∷ rs) takes = absurd (cc takes)
takes_took size used (n ∷ ns) rs (inl none) = absurd (cc none.1)
takes_took size used (n ∷ ns) rs (inr (run, lowest, (rest, takes, is))) =
    let f = in_front_of run rest rs is in
    subst (Took size used (n ∷ ns)) (sym f.2)
    (lowest, takes_took size (λ other. used other ⊎ (other ≡ run)) ns f.0 (subst (λ (t : Result (List Run) ℕ). Takes size (λ other. used other ⊎ (other ≡ run)) ns t) f.1 takes))

used_spared : (size : ℕ) (used : Run → Type 0) (ns : List ℕ) (taken runs : List Run) → Took size used ns taken → ((run : Run) → is_among runs run ≡ true → used run) → (n : ℕ) → InSome runs n → OutOf taken n
used_spared size used ns taken [] took all n within = absurd within
used_spared size used ns taken (r ∷ rs) took all n (inl here) =
    out_of_apart r taken n (used_apart size used ns taken took r (all r (ap (λ (t : Bool). t || is_among rs r) (same_itself r)))) here.0 here.1
used_spared size used ns taken (r ∷ rs) took all n (inr later) = used_spared size used ns taken rs took (λ run is. all run (or_right (same_run r run) (is_among rs run) is)) n later

pinned_used : (entries : List UsageEntry) (ruling pinned : List Run) → Uses entries ruling pinned → (run : Run) → is_among pinned run ≡ true → IsUsedIn entries run
pinned_used entries ruling pinned uses run is = ap is_used (uses run) ∙ or_right (is_among ruling run) (nat_lt 0 (times_among pinned run)) (lt-ltb 0 (times_among pinned run) (times_some pinned run is))

-- the sectors of runs that are pinned lie outside those that are taken
pub pins_spared : (size : ℕ) (entries : List UsageEntry) (ruling pinned : List Run) (sizes : List ℕ) (taken : List Run) → Uses entries ruling pinned → Takes size (IsUsedIn entries) sizes (Ok taken)
    → (n : ℕ) → InSome pinned n → OutOf taken n
pins_spared size entries ruling pinned sizes taken uses takes = used_spared size (IsUsedIn entries) sizes taken pinned (takes_took size (IsUsedIn entries) sizes taken takes) (pinned_used entries ruling pinned uses)

-- ---- the rows of each segment

-- images that agree on the runs of segments hold the same rows in each
pub same_each : (a b : Image) (schema : PlainSchema) (segments : List Segment) → list_all is_segment segments ≡ true → ((n : ℕ) → InSome (map (λ (s : Segment). s.place.run) segments) n → b n ≡ a n)
    → rows_each schema segments b ≡ rows_each schema segments a
unfolding rows_each
same_each a b schema [] sound same = refl
same_each a b schema (segment ∷ segments) sound same =
    let parts = and_parts (is_segment segment) (list_all is_segment segments) sound in
    let first = same_segment a b schema segment parts.0 (λ n low high. same n (inl (low, high))) in
    let others = same_each a b schema segments parts.1 (λ n some. same n (inr some)) in
    λ i. with_rows (first i) (others i)

-- joined they are the rows of all
pub each_joined : (schema : PlainSchema) (segments : List Segment) (image : Image) → option_map (λ (lists : List (List (List Cell))). joined lists) (rows_each schema segments image) ≡ rows_held schema segments image
unfolding rows_each rows_held
each_joined schema [] image = refl
each_joined schema (segment ∷ segments) image =
    by_rows (segment_rows schema segment image) (rows_each schema segments image) ∙ ap (joined_rows (segment_rows schema segment image)) (each_joined schema segments image)
  where
    by_rows : (first : Option (List (List Cell))) (others : Option (List (List (List Cell))))
        → option_map (λ (lists : List (List (List Cell))). joined lists) (with_rows first others) ≡ joined_rows first (option_map (λ (lists : List (List (List Cell))). joined lists) others)
    by_rows None others = refl
    by_rows (Some rows) None = refl
    by_rows (Some rows) (Some lists) = refl
