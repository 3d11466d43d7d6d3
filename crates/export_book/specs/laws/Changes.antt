-- The runs that exports name after one was opened, a piece of one was given, or one was closed.
use Rattle.std.proofs.Common.{◌≡◌, ◌<◌, ◌+◌, ◌++◌, ℕ, not, map, List, [], ◌∷◌, Some, refl, sym, ap, subst, ◌∙◌, inl, inr, arith}
use Rattle.std.specs.List.{find, AllByRecursion}
use Rattle.std.proofs.lemmas.Bool.{cond_both, cond-true, cond-false, cases_Bool, eqb-true}
use Rattle.std.proofs.lemmas.Option.{same_Some}
use Rattle.segments.specs.declared.run.Run.{Run}
use Rattle.segments.specs.Usages.{times_among}
use Rattle.segments.specs.laws.Usages.{times_both}
use Rattle.arrow_schema.specs.Column.{PlainSchema}
use Rattle.catalogue.specs.declared.entry.Segment.{Segment}
use Rattle.catalogue.specs.Entries.{runs_in_segments}
use Rattle.export_book.specs.Book.{PlainExport, PlainBook, IsBook, AreRising, is_of, others_of, open_at, gave, runs_kept, with_open, with_given, without}
use Rattle.export_book.specs.laws.Ids.{other_id}

module _ (run : Run) where
  abbrev times_kept : List PlainExport → ℕ
  times_kept es = times_among (runs_kept es) run

  more_kept : (es : List PlainExport) (e : PlainExport) → times_kept (es ++ e ∷ []) ≡ times_kept es + times_among (runs_in_segments e.segments) run
  more_kept [] e = omega (arith, times_both (runs_in_segments e.segments) [] run)
  more_kept (x ∷ xs) e =
      omega (
        arith,
        more_kept xs e,
        times_both (runs_in_segments x.segments) (runs_kept (xs ++ e ∷ [])) run,
        times_both (runs_in_segments x.segments) (runs_kept xs) run,
      )

  -- one is opened
  pub open_kept : (b : PlainBook) (schema : PlainSchema) (segments : List Segment)
      → times_among (runs_kept (with_open schema segments b).exports) run ≡ times_among (runs_kept b.exports) run + times_among (runs_in_segments segments) run
  open_kept b schema segments = more_kept b.exports (record { id = b.next; schema = schema; segments = segments; given = 0 })

  -- none is removed
  others_kept : (id : ℕ) (es : List PlainExport) → AllByRecursion (λ (o : PlainExport). id < o.id) es → others_of id es ≡ es
  others_kept id [] behind = refl
  others_kept id (x ∷ xs) behind =
      let more = behind.0 in
      cond-true (not (is_of id x)) (x ∷ others_of id xs) (others_of id xs) (ap not (other_id id x (λ same. omega (arith, more, same))))
      ∙ ap (λ (es : List PlainExport). x ∷ es) (others_kept id xs behind.1)

  one_less : (id : ℕ) (es : List PlainExport) (e : PlainExport) → AreRising es → find (is_of id) es ≡ Some e
      → times_kept (others_of id es) + times_among (runs_in_segments e.segments) run ≡ times_kept es
  one_less id [] e rising found = absurd cc
  one_less id (x ∷ xs) e rising found =
      let rest = others_of id xs in
      elim (cases_Bool (is_of id x)) [
        | inl t ↦
            let same : x.id ≡ id = eqb-true x.id id t in
            let here : x ≡ e = same_Some x e (sym (cond-true (is_of id x) (Some x) (find (is_of id) xs) t) ∙ found) in
            let left : others_of id (x ∷ xs) ≡ xs =
            cond-false (not (is_of id x)) (x ∷ rest) rest (ap not t) ∙ others_kept id xs (subst (λ (n : ℕ). AllByRecursion (λ (o : PlainExport). n < o.id) xs) same rising.0) in
            omega (arith, ap times_kept left, ap (λ (y : PlainExport). times_among (runs_in_segments y.segments) run) here, times_both (runs_in_segments x.segments) (runs_kept xs) run)
        | inr f ↦
            let later = one_less id xs e rising.1 (sym (cond-false (is_of id x) (Some x) (find (is_of id) xs) f) ∙ found) in
            let left : others_of id (x ∷ xs) ≡ x ∷ rest = cond-true (not (is_of id x)) (x ∷ rest) rest (ap not f) in
            omega (
              arith,
              ap times_kept left,
              later,
              times_both (runs_in_segments x.segments) (runs_kept rest) run,
              times_both (runs_in_segments x.segments) (runs_kept xs) run,
            )
      ]

  -- one is closed
  pub closed_kept : (b : PlainBook) (id : ℕ) (e : PlainExport) → IsBook b → open_at b id ≡ Some e
      → times_among (runs_kept (without id b).exports) run + times_among (runs_in_segments e.segments) run ≡ times_among (runs_kept b.exports) run
  closed_kept b id e is found = one_less id b.exports e is.rising found

-- a piece was given
same_kept : (id : ℕ) (es : List PlainExport) → runs_kept (map (gave id) es) ≡ runs_kept es
same_kept id [] = refl
same_kept id (x ∷ xs) =
    let one : runs_in_segments (gave id x).segments ≡ runs_in_segments x.segments =
    cond_both (is_of id x) (record x { given = x.given + 1 }) x (λ (y : PlainExport). runs_in_segments y.segments ≡ runs_in_segments x.segments) (λ _. refl) (λ _. refl) in
    (λ i. one i ++ runs_kept (map (gave id) xs)) ∙ ap (λ (rs : List Run). runs_in_segments x.segments ++ rs) (same_kept id xs)

pub given_kept : (b : PlainBook) (id : ℕ) → runs_kept (with_given id b).exports ≡ runs_kept b.exports
given_kept b id = same_kept id b.exports
