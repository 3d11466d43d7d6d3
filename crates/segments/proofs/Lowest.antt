-- The lowest free run, going up over the entries.
use Rattle.std.proofs.Common.{◌≡◌, inl, inr, ⊎_elim, ◌≤◌, ◌<◌, ◌+◌, ◌-◌, ltb, ℕ, zero, suc, List, [], ◌∷◌, Some, None, drop, get_or, length, refl, sym, ap, ◌∙◌, subst, arith}
use Rattle.std.proofs.lemmas.Bool.{cond_both, ltb-true}
use Rattle.std.proofs.lemmas.List.{drop_more}
use Rattle.segments.specs.declared.run.Run.{Run}
use Rattle.segments.specs.declared.entries.UsageEntry.{UsageEntry}
use Rattle.segments.specs.declared.search_cursor.SearchCursor.{SearchCursor}
use Rattle.segments.specs.Runs.{IsFree, IsLowest}
use Rattle.segments.specs.Usages.{Space, TAKEN, is_used, Ordered, EndBy, IsUsedIn, IsSearched, Changes}
use Rattle.segments.specs.laws.Usages.{still_used}
use Rattle.segments.specs.inner.Places.{place_of, end_before, ApartEach}
use Rattle.segments.proofs.Placed.{apart_before}
use Rattle.segments.proofs.Used.{used_apart, apart_used}

-- a run from this sector on that meets none of the entries
pub record IsFreeFrom (from size : ℕ) (es : List UsageEntry) (run : Run) : Type 0 where
  pub above : from ≤ run.start
  pub within : run.start + run.count ≤ size
  pub apart : ApartEach run es

-- n entries were passed: no free run of more than the widest gap's sectors starts before this sector, and a run from there on meets none of them
pub record Passed (size : ℕ) (es : List UsageEntry) (start widest index : ℕ) : Type 0 where
  pub ordered : Ordered start (drop index es)
  pub within : EndBy size (drop index es)
  pub least : (run : Run) → widest < run.count → IsFreeFrom 2 size es run → start ≤ run.start
  pub onward : (run : Run) → IsFreeFrom start size (drop index es) run → IsFreeFrom 2 size es run

-- what meets no entry meets no used run, and the other way
is_free : (size : ℕ) (es : List UsageEntry) (run : Run) → IsFreeFrom 2 size es run → IsFree size (IsUsedIn es) run
is_free size es run free = record { above = free.above; within = free.within; apart = λ other used. used_apart run es other free.apart used }

free_from : (size : ℕ) (es : List UsageEntry) (run : Run) → Ordered 2 es → IsFree size (IsUsedIn es) run → IsFreeFrom 2 size es run
free_from size es run o free = record { above = free.above; within = free.within; apart = apart_used run 2 es o free.apart }

-- the entries from one on
ordered_drop : (from : ℕ) (es : List UsageEntry) (k : ℕ) → Ordered from es → Ordered (end_before from es k) (drop k es)
ordered_drop from [] zero o = tt
ordered_drop from [] (suc k) o = tt
ordered_drop from (e ∷ es) zero o = o
ordered_drop from (e ∷ es) (suc k) o = ordered_drop (e.run.start + e.run.count) es k o.3

ends_drop : (size : ℕ) (es : List UsageEntry) (k : ℕ) → EndBy size es → EndBy size (drop k es)
ends_drop size [] zero ends = tt
ends_drop size [] (suc k) ends = tt
ends_drop size (e ∷ es) zero ends = ends
ends_drop size (e ∷ es) (suc k) ends = ends_drop size es k ends.1

apart_drop : (run : Run) (es : List UsageEntry) (k : ℕ) → ApartEach run es → ApartEach run (drop k es)
apart_drop run [] zero apart = tt
apart_drop run [] (suc k) apart = tt
apart_drop run (e ∷ es) zero apart = apart
apart_drop run (e ∷ es) (suc k) apart = apart_drop run es k apart.1

-- the entry before a place tells where those before it end
pub end_at : (size from : ℕ) (es : List UsageEntry) (place : ℕ) (d : UsageEntry) → EndBy size es → 0 < place → place ≤ length es → ((get_or es (place - 1) d).run.start + (get_or es (place - 1) d).run.count ≡ end_before from es place) × ((get_or es (place - 1) d).run.start + (get_or es (place - 1) d).run.count ≤ size)
end_at size from es zero d ends some le = absurd (omega arith)
end_at size from es (suc k) d ends some le = let e : suc k - 1 ≡ k = omega arith in rw e (by_entries from es k ends (omega arith))
  where
    by_entries : (from : ℕ) (es : List UsageEntry) (k : ℕ) → EndBy size es → k < length es → ((get_or es k d).run.start + (get_or es k d).run.count ≡ end_before from es (suc k)) × ((get_or es k d).run.start + (get_or es k d).run.count ≤ size)
    by_entries from [] k ends lt = absurd (omega arith)
    by_entries from (e ∷ es) zero ends lt = (refl, ends.0)
    by_entries from (e ∷ es) (suc k) ends lt = by_entries (e.run.start + e.run.count) es k ends.1 (omega arith)

-- a run that starts from here on starts after the entries that start before here
behind_place : (from start : ℕ) (es : List UsageEntry) (run : Run) → from ≤ run.start → start ≤ run.start → ApartEach run es → end_before from es (place_of start es) ≤ run.start
behind_place from start [] run low far apart = low
behind_place from start (e ∷ es) run low far apart =
    cond_both (ltb e.run.start start) (suc (place_of start es)) 0 (λ p. end_before from (e ∷ es) p ≤ run.start)
    (λ t.
    let lt = ltb-true e.run.start start t in
    behind_place (e.run.start + e.run.count) start es run
    (⊎_elim (λ (before : run.start + run.count ≤ e.run.start). absurd (omega (arith, lt))) (λ (after : e.run.start + e.run.count ≤ run.start). after) apart.0) far apart.1)
    (λ _. low)

-- a run after the entries before a place meets none of them
behind_all : (from size : ℕ) (es : List UsageEntry) (k : ℕ) (run : Run) → Ordered from es → IsFreeFrom (end_before from es k) size (drop k es) run → IsFreeFrom from size es run
behind_all from size [] zero run o free = free
behind_all from size [] (suc k) run o free = free
behind_all from size (e ∷ es) zero run o free = free
behind_all from size (e ∷ es) (suc k) run o free =
    let later = behind_all (e.run.start + e.run.count) size es k run o.3 free in
    record { above = omega (arith, o.0, later.above); within = later.within; apart = (inr later.above, later.apart) }

-- a search goes on from where it has come
pub passed_first : (size : ℕ) (es : List UsageEntry) (searched : SearchCursor) (start place : ℕ) → Ordered 2 es → EndBy size es → IsSearched (record { size = size; entries = es }) searched → place ≡ place_of searched.start es → start ≡ end_before 2 es place → Passed size es start searched.widest place
passed_first size es searched start place o ends law at is =
    let here : start ≡ end_before 2 es (place_of searched.start es) = is ∙ ap (λ k. end_before 2 es k) at in
    record {
      ordered = subst (λ n. Ordered n (drop place es)) (sym is) (ordered_drop 2 es place o);
      within = ends_drop size es place ends;
      least = λ run wide free. subst (λ n. n ≤ run.start) (sym here) (behind_place 2 searched.start es run free.above (law run wide (is_free size es run free)) free.apart);
      onward = λ run free. behind_all 2 size es place run o (subst (λ n. IsFreeFrom n size (drop place es) run) is free);
    }

-- the next entry starts there or after it, and ends on the device
pub next_within : (size : ℕ) (es : List UsageEntry) (start widest index : ℕ) (d : UsageEntry) → Passed size es start widest index → index < length es → (start ≤ (get_or es index d).run.start) × ((get_or es index d).run.start + (get_or es index d).run.count ≤ size)
next_within size es start widest index d passed lt =
    let here = drop_more es index d lt in
    let o = subst (Ordered start) here passed.ordered in
    let ends = subst (EndBy size) here passed.within in
    (o.0, ends.0)

-- one entry more was passed, before which is no more room than this
pub passed_more : (size : ℕ) (es : List UsageEntry) (start widest index : ℕ) (d : UsageEntry) (wider : ℕ) → Passed size es start widest index → index < length es → widest ≤ wider → (get_or es index d).run.start ≤ start + wider → Passed size es ((get_or es index d).run.start + (get_or es index d).run.count) wider (index + 1)
passed_more size es start widest index d wider passed lt more gap =
    let e = get_or es index d in
    let rest = drop (index + 1) es in
    let here = drop_more es index d lt in
    let o = subst (Ordered start) here passed.ordered in
    let ends = subst (EndBy size) here passed.within in
    record {
      ordered = o.3;
      within = ends.1;
      least = λ run wide free.
          let low = passed.least run (omega (arith, more, wide)) free in
          let apart = subst (ApartEach run) here (apart_drop run es index free.apart) in
          ⊎_elim (λ (before : run.start + run.count ≤ e.run.start). absurd (omega (arith, low, gap, wide))) (λ (after : e.run.start + e.run.count ≤ run.start). after) apart.0;
      onward = λ run free.
          passed.onward run (subst (λ (es' : List UsageEntry). IsFreeFrom start size es' run) (sym here)
          (record { above = omega (arith, o.0, free.above); within = free.within; apart = (inr free.above, free.apart) }));
    }

-- what was passed was searched
pub passed_searched : (size : ℕ) (es : List UsageEntry) (searched : SearchCursor) (index : ℕ) → Ordered 2 es → Passed size es searched.start searched.widest index → IsSearched (record { size = size; entries = es }) searched
passed_searched size es searched index o passed = λ run wide free. passed.least run wide (free_from size es run o free)

-- the first room is the lowest
lowest_here : (size : ℕ) (es : List UsageEntry) (start widest index count : ℕ) → Ordered 2 es → Passed size es start widest index → widest < count → IsFreeFrom start size (drop index es) (record { start = start; count = count }) → IsLowest size (IsUsedIn es) count (Some (record { start = start; count = count }))
lowest_here size es start widest index count o passed wide free = (
  omega arith,
  is_free size es (record { start = start; count = count }) (passed.onward (record { start = start; count = count }) free),
  λ other same is. passed.least other (omega (arith, wide, same)) (free_from size es other o is),
)

-- before an entry
pub lowest_before : (size : ℕ) (es : List UsageEntry) (start widest index count : ℕ) (d : UsageEntry) → Ordered 2 es → Passed size es start widest index → widest < count → index < length es → start + count ≤ (get_or es index d).run.start → IsLowest size (IsUsedIn es) count (Some (record { start = start; count = count }))
lowest_before size es start widest index count d o passed wide lt room =
    let here = drop_more es index d lt in
    let e = get_or es index d in
    let from = subst (Ordered start) here passed.ordered in
    let ends = subst (EndBy size) here passed.within in
    let run : Run = record { start = start; count = count } in
    lowest_here size es start widest index count o passed wide (subst (λ (es' : List UsageEntry). IsFreeFrom start size es' run) (sym here)
    (record {
      above = omega arith;
      within = omega (arith, from.1, ends.0, room);
      apart = (inl room, apart_before run (e.run.start + e.run.count) (drop (index + 1) es) from.3 (omega (arith, room)));
    }))

-- after all entries
pub lowest_behind : (size : ℕ) (es : List UsageEntry) (start widest index count : ℕ) → Ordered 2 es → Passed size es start widest index → widest < count → drop index es ≡ [] → start + count ≤ size → IsLowest size (IsUsedIn es) count (Some (record { start = start; count = count }))
lowest_behind size es start widest index count o passed wide over room =
    let run : Run = record { start = start; count = count } in
    lowest_here size es start widest index count o passed wide
    (subst (λ (es' : List UsageEntry). IsFreeFrom start size es' run) (sym over) (record { above = omega arith; within = room; apart = tt }))

pub none_lowest : (size : ℕ) (es : List UsageEntry) (start widest index count : ℕ) → Ordered 2 es → Passed size es start widest index → widest < count → size < start + count → IsLowest size (IsUsedIn es) count None
none_lowest size es start widest index count o passed wide short = λ run same free.
    let low = passed.least run (omega (arith, wide, same)) (free_from size es run o free) in
    omega (arith, low, free.within, same, short)

-- after a lowest run that was taken nothing is searched yet
pub searched_on : (old new : Space) (run : Run) (searched : SearchCursor) (end : ℕ) → IsSearched old searched → searched.start ≡ run.start → 1 ≤ run.count → end ≡ run.start + run.count → Changes old new run TAKEN → IsSearched new (record { start = end; widest = searched.widest })
searched_on old new run searched end law at some is changes = λ other wide free.
    let still = law other wide (record { above = free.above; within = omega (arith, free.within, changes.size); apart = λ third used. free.apart third (still_used old new run third changes used) }) in
    ⊎_elim
    (λ (before : other.start + other.count ≤ run.start). absurd (omega (arith, still, at, wide)))
    (λ (after : run.start + run.count ≤ other.start). omega (arith, is, after))
    (free.apart run (ap is_used changes.this))
