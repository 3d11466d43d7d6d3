-- Lists of tables with and without pages.
use Rattle.std.specs.Prelude.{◌≡◌, ℕ, zero, suc, List, [], ◌∷◌, ◌++◌, length, drop, Option, Some, None, refl}
use Rattle.std.proofs.Common.{sym, ap, ◌∙◌, subst, arith}
use Rattle.segments.specs.declared.run.Run.{Run}
use Rattle.segments.specs.declared.extent.Extent.{Extent}
use Rattle.catalogue.specs.Entries.{PlainEntry, PlainCatalogue}
use Rattle.pages.specs.Paging.{pageless, in_first, tail_of, with_pages, AreFilled}

-- a table has a page or none
pub by_page : {G : Type 0} (o : Option Extent) → ((p : Extent) → o ≡ Some p → G) → (o ≡ None → G) → G
by_page (Some p) paged none = paged p refl
by_page None paged none = none refl

module _ (e : PlainEntry) (es : PlainCatalogue) where
  pub kept_first : (runs : List Run) (p : Extent) → e.page ≡ Some p → with_pages (e ∷ es) runs ≡ e ∷ with_pages es runs
  kept_first runs p here = ap (λ (x : Option Extent). elim x [ Some q ↦ e ∷ with_pages es runs | None ↦ in_first e runs ∷ with_pages es (tail_of runs) ]) here

  pub made_first : (runs : List Run) → e.page ≡ None → with_pages (e ∷ es) runs ≡ in_first e runs ∷ with_pages es (tail_of runs)
  made_first runs none = ap (λ (x : Option Extent). elim x [ Some q ↦ e ∷ with_pages es runs | None ↦ in_first e runs ∷ with_pages es (tail_of runs) ]) none

  pub kept_passed : (p : Extent) → e.page ≡ Some p → pageless (e ∷ es) ≡ pageless es
  kept_passed p here = ap (λ (x : Option Extent). elim x [ None ↦ e ∷ [] | Some q ↦ [] ] ++ pageless es) here

  pub made_listed : e.page ≡ None → pageless (e ∷ es) ≡ e ∷ pageless es
  made_listed none = ap (λ (x : Option Extent). elim x [ None ↦ e ∷ [] | Some q ↦ [] ] ++ pageless es) none

-- induction over the tables with their pages, if each one without a page gets one of the runs
pub by_pages : (P : PlainCatalogue → PlainCatalogue → Type 0) → P [] []
    → ((e : PlainEntry) (es : PlainCatalogue) (made : PlainCatalogue) → P es made → (p : Extent) → e.page ≡ Some p → P (e ∷ es) (e ∷ made))
    → ((e : PlainEntry) (es : PlainCatalogue) (made : PlainCatalogue) (run : Run) (rest : List Run) → P es made → e.page ≡ None → AreFilled (e ∷ []) (run ∷ []) → P (e ∷ es) (in_first e (run ∷ rest) ∷ made))
    → (c : PlainCatalogue) (runs : List Run) → AreFilled (pageless c) runs → P c (with_pages c runs)
by_pages P none kept made [] runs filled = none
by_pages P none kept made (e ∷ es) runs filled =
    by_page e.page
    (λ p here. subst (P (e ∷ es)) (sym (kept_first e es runs p here)) (kept e es (with_pages es runs) (by_pages P none kept made es runs (subst (λ (d : List PlainEntry). AreFilled d runs) (kept_passed e es p here) filled)) p here))
    (λ is. subst (P (e ∷ es)) (sym (made_first e es runs is)) (by_runs (λ rs more. by_pages P none kept made es rs more) is runs (subst (λ (d : List PlainEntry). AreFilled d runs) (made_listed e es is) filled)))
  where
    by_runs : ((rs : List Run) → AreFilled (pageless es) rs → P es (with_pages es rs)) → e.page ≡ None → (rs : List Run) → AreFilled (e ∷ pageless es) rs → P (e ∷ es) (in_first e rs ∷ with_pages es (tail_of rs))
    by_runs later is [] more = absurd more
    by_runs later is (run ∷ rs) more = made e es (with_pages es rs) run rs (later rs more.1) is (more.0, tt)

pub filled_length : (es : List PlainEntry) (runs : List Run) → AreFilled es runs → length runs ≡ length es
filled_length [] [] filled = refl
filled_length [] (run ∷ runs) filled = absurd filled
filled_length (e ∷ es) [] filled = absurd filled
filled_length (e ∷ es) (run ∷ runs) filled = let more = filled_length es runs filled.1 in omega (arith, more)

-- ---- one more table

no_more : (n : ℕ) → drop n (tail_of []) ≡ []
no_more zero = refl
no_more (suc n) = refl

pub pageless_more : (c : PlainCatalogue) (e : PlainEntry) → pageless (c ++ e ∷ []) ≡ pageless c ++ pageless (e ∷ [])
pageless_more [] e = refl
pageless_more (x ∷ xs) e =
    let more = pageless_more xs e in
    by_page x.page
    (λ p here. kept_passed x (xs ++ e ∷ []) p here ∙ more ∙ ap (λ (d : List PlainEntry). d ++ pageless (e ∷ [])) (sym (kept_passed x xs p here)))
    (λ none. made_listed x (xs ++ e ∷ []) none ∙ ap (λ (d : List PlainEntry). x ∷ d) more ∙ ap (λ (d : List PlainEntry). d ++ pageless (e ∷ [])) (sym (made_listed x xs none)))

pub pages_more : (c : PlainCatalogue) (e : PlainEntry) (runs : List Run) → with_pages (c ++ e ∷ []) runs ≡ with_pages c runs ++ with_pages (e ∷ []) (drop (length (pageless c)) runs)
pages_more [] e runs = refl
pages_more (x ∷ xs) e runs =
    by_page x.page
    (λ p here. kept_first x (xs ++ e ∷ []) runs p here ∙ ap (λ (d : PlainCatalogue). x ∷ d) (pages_more xs e runs)
    ∙ (λ i. sym (kept_first x xs runs p here) i ++ with_pages (e ∷ []) (drop (length (sym (kept_passed x xs p here) i)) runs)))
    (λ none. made_first x (xs ++ e ∷ []) runs none ∙ ap (λ (d : PlainCatalogue). in_first x runs ∷ d) (pages_more xs e (tail_of runs))
    ∙ ap (λ (rs : List Run). in_first x runs ∷ (with_pages xs (tail_of runs) ++ with_pages (e ∷ []) rs)) (by_runs runs)
    ∙ (λ i. sym (made_first x xs runs none) i ++ with_pages (e ∷ []) (drop (length (sym (made_listed x xs none) i)) runs)))
  where
    by_runs : (rs : List Run) → drop (length (pageless xs)) (tail_of rs) ≡ drop (length (x ∷ pageless xs)) rs
    by_runs [] = no_more (length (pageless xs))
    by_runs (r ∷ rs) = refl
