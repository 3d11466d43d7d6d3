-- The runs that a settled catalogue names: those from before, and those of the new pages, but not those of pages that are given up.
use Rattle.std.specs.Prelude.{◌≡◌, ◌+◌, ◌++◌, ℕ, Bool, true, false, List, [], ◌∷◌, length, map, flat_map, Option, Some, None, if◌then◌else◌, refl}
use Rattle.std.proofs.Common.{sym, ap, ◌∙◌, subst, arith}
use Rattle.segments.specs.declared.run.Run.{Run}
use Rattle.segments.specs.declared.extent.Extent.{Extent}
use Rattle.commit.specs.Placing.{times_among}
use Rattle.commit.specs.laws.Fit.{times_both}
use Rattle.catalogue.specs.declared.entry.Segment.{Segment}
use Rattle.catalogue.specs.Entries.{PlainEntry, PlainCatalogue, page_runs, runs_in, runs_of, bare}
use Rattle.pages.specs.Paging.{is_whole, pageless, in_page, in_first, tail_of, with_pages, AreRunsOf, ArePageRuns, settled, dropped_pages}
use Rattle.pages.specs.laws.Paged.{filled_length}

module _ (run : Run) where
  times : List Run → ℕ
  times rs = times_among rs run

  -- the runs of an entry are those of its page and its segments
  split : (e : PlainEntry) → times_among (runs_in e) run ≡ times_among (page_runs e.page) run + times_among (map (λ (s : Segment). s.place.run) e.segments) run
  split e = times_both (page_runs e.page) (map (λ (s : Segment). s.place.run) e.segments) run

  cons : (e : PlainEntry) (es : PlainCatalogue) → times_among (runs_of (e ∷ es)) run ≡ times_among (runs_in e) run + times_among (runs_of es) run
  cons e es = times_both (runs_in e) (runs_of es) run

  abbrev pages_of : PlainCatalogue → List Run
  pages_of c = flat_map (λ (e : PlainEntry). page_runs e.page) c

  pages_cons : (e : PlainEntry) (es : PlainCatalogue) → times_among (pages_of (e ∷ es)) run ≡ times_among (page_runs e.page) run + times_among (pages_of es) run
  pages_cons e es = times_both (page_runs e.page) (pages_of es) run

  -- without pages
  bare_times : (c : PlainCatalogue) → times_among (runs_of (map bare c)) run + times_among (pages_of c) run ≡ times_among (runs_of c) run
  bare_times [] = refl
  bare_times (e ∷ es) =
      let later = bare_times es in
      let none : times_among (runs_in (bare e)) run ≡ times_among (map (λ (s : Segment). s.place.run) e.segments) run = refl in
      omega (arith, later, cons e es, cons (bare e) (map bare es), pages_cons e es, split e, none)

  abbrev Later : PlainCatalogue → Type 0
  Later c = (rs : List Run) → length rs ≡ length (pageless c) → times_among (runs_of (with_pages c rs)) run ≡ times_among (runs_of c) run + times_among rs run

  -- with a page for each table
  pages_times : (c : PlainCatalogue) (runs : List Run) → length runs ≡ length (pageless c) → times_among (runs_of (with_pages c runs)) run ≡ times_among (runs_of c) run + times_among runs run
  pages_times [] [] same = refl
  pages_times [] (r ∷ rs) same = absurd (omega (arith, same))
  pages_times (e ∷ es) runs same = by_page (λ rs many. pages_times es rs many) e.page refl
    where
      by_runs : Later es → (rs : List Run) → e.page ≡ None → length rs ≡ length (e ∷ pageless es) → times_among (runs_of (in_first e rs ∷ with_pages es (tail_of rs))) run ≡ times_among (runs_of (e ∷ es)) run + times_among rs run
      by_runs each [] none many = absurd (omega (arith, many))
      by_runs each (r ∷ rs) none many =
          let later = each rs (omega (arith, many)) in
          let had : times_among (page_runs e.page) run ≡ 0 = ap (λ (o : Option Extent). times_among (page_runs o) run) none in
          let has = times_both (r ∷ []) (map (λ (s : Segment). s.place.run) e.segments) run in
          let one = times_both (r ∷ []) rs run in
          omega (arith, later, had, has, one, split e, cons e es, cons (in_page e r) (with_pages es rs))

      by_page : Later es → (o : Option Extent) → e.page ≡ o → times_among (runs_of (with_pages (e ∷ es) runs)) run ≡ times_among (runs_of (e ∷ es)) run + times_among runs run
      by_page each (Some p) here =
          let front : pageless (e ∷ es) ≡ pageless es = ap (λ (x : Option Extent). elim x [ None ↦ e ∷ [] | Some q ↦ [] ] ++ pageless es) here in
          let later = each runs (same ∙ ap (λ (d : List PlainEntry). length d) front) in
          subst (λ (x : Option Extent). times_among (runs_of (elim x [ Some q ↦ e ∷ with_pages es runs | None ↦ in_first e runs ∷ with_pages es (tail_of runs) ])) run ≡ times_among (runs_of (e ∷ es)) run + times_among runs run) (sym here)
          (omega (arith, later, cons e es, cons e (with_pages es runs)))
      by_page each None here =
          let front : pageless (e ∷ es) ≡ e ∷ pageless es = ap (λ (x : Option Extent). elim x [ None ↦ e ∷ [] | Some q ↦ [] ] ++ pageless es) here in
          subst (λ (x : Option Extent). times_among (runs_of (elim x [ Some q ↦ e ∷ with_pages es runs | None ↦ in_first e runs ∷ with_pages es (tail_of runs) ])) run ≡ times_among (runs_of (e ∷ es)) run + times_among runs run) (sym here)
          (by_runs each runs here (same ∙ ap (λ (d : List PlainEntry). length d) front))

  pub settled_times : (c : PlainCatalogue) (runs : List Run) → ArePageRuns c runs → times_among (runs_of (settled c runs)) run + times_among (dropped_pages c) run ≡ times_among (runs_of c) run + times_among runs run
  settled_times c runs are = by_whole (is_whole c) are
    where
      by_whole : (t : Bool) → AreRunsOf t c runs
          → times_among (runs_of (if t then map bare c else with_pages c runs)) run + times_among (if t then pages_of c else []) run ≡ times_among (runs_of c) run + times_among runs run
      by_whole true is = let none : times_among runs run ≡ 0 = ap (λ (rs : List Run). times_among rs run) is in omega (arith, none, bare_times c)
      by_whole false filled = let both = pages_times c runs (filled_length (pageless c) runs filled) in omega (arith, both)
