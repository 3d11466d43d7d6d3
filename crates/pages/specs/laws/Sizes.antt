-- The sizes of texts, and so how a catalogue is stored, do not depend on pages.
use Rattle.std.specs.Prelude.{if◌then◌else◌, ◌≡◌, ℕ, Bool, true, false, List, [], ◌∷◌, map, sum_by, Option, Some, None, refl}
use Rattle.std.proofs.Common.{sym, ap, ◌∙◌, subst, arith}
use Rattle.std.proofs.lemmas.List.Sums.{sum_by-cons}
use Rattle.segments.specs.declared.run.Run.{Run}
use Rattle.segments.specs.declared.extent.Extent.{Extent}
use Rattle.catalogue.specs.Entries.{PlainEntry, PlainCatalogue, bare}
use Rattle.pages.specs.Paging.{is_whole, in_page, in_first, tail_of, with_pages, settled}

-- a function that ignores the page
abbrev pub IsPagefree : (PlainEntry → ℕ) → Type 0
IsPagefree f = (e : PlainEntry) (o : Option Extent) → f (record { name = e.name; schema = e.schema; segments = e.segments; page = o }) ≡ f e

module _ (f : PlainEntry → ℕ) (free : IsPagefree f) where
  pub bare_sum : (c : PlainCatalogue) → sum_by f (map bare c) ≡ sum_by f c
  bare_sum [] = refl
  bare_sum (e ∷ es) = omega (arith, bare_sum es, free e None, sum_by-cons f e es, sum_by-cons f (bare e) (map bare es))

  first_alike : (e : PlainEntry) (runs : List Run) → f (in_first e runs) ≡ f e
  first_alike e [] = refl
  first_alike e (run ∷ runs) = free e (in_page e run).page

  pub pages_sum : (c : PlainCatalogue) (runs : List Run) → sum_by f (with_pages c runs) ≡ sum_by f c
  pages_sum [] runs = refl
  pages_sum (e ∷ es) runs = by_page (pages_sum es runs) (pages_sum es (tail_of runs)) e.page refl
    where
      by_page : sum_by f (with_pages es runs) ≡ sum_by f es → sum_by f (with_pages es (tail_of runs)) ≡ sum_by f es → (o : Option Extent) → e.page ≡ o → sum_by f (with_pages (e ∷ es) runs) ≡ sum_by f (e ∷ es)
      by_page same rest (Some p) here =
          subst (λ (x : Option Extent). sum_by f (elim x [ Some q ↦ e ∷ with_pages es runs | None ↦ in_first e runs ∷ with_pages es (tail_of runs) ]) ≡ sum_by f (e ∷ es)) (sym here)
          (omega (arith, same, sum_by-cons f e es, sum_by-cons f e (with_pages es runs)))
      by_page same rest None here =
          subst (λ (x : Option Extent). sum_by f (elim x [ Some q ↦ e ∷ with_pages es runs | None ↦ in_first e runs ∷ with_pages es (tail_of runs) ]) ≡ sum_by f (e ∷ es)) (sym here)
          (omega (arith, rest, first_alike e runs, sum_by-cons f e es, sum_by-cons f (in_first e runs) (with_pages es (tail_of runs))))

  pub settled_sum : (c : PlainCatalogue) (runs : List Run) → sum_by f (settled c runs) ≡ sum_by f c
  settled_sum c runs = by_kind (is_whole c) refl
    where
      by_kind : (t : Bool) → is_whole c ≡ t → sum_by f (settled c runs) ≡ sum_by f c
      by_kind true is = ap (λ (t : Bool). sum_by f (if t then map bare c else with_pages c runs)) is ∙ bare_sum c
      by_kind false is = ap (λ (t : Bool). sum_by f (if t then map bare c else with_pages c runs)) is ∙ pages_sum c runs
