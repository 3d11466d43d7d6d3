-- Values that do not depend on where segments lie.
use Rattle.std.proofs.Common.{◌≡◌, ℕ, Bool, true, false, cond, List, [], ◌∷◌, map, Option, None, refl, sym, ap, ◌∙◌, arith}
use Rattle.std.specs.List.{sum_by}
use Rattle.std.specs.Str.{bytes_eq}
use Rattle.std.specs.Ordering.{match_ordering}
use Rattle.std.proofs.lemmas.List.Sums.{sum_by-cons}
use Rattle.arrow_schema.specs.Column.{PlainSchema}
use Rattle.segments.specs.declared.extent.Extent.{Extent}
use Rattle.catalogue.specs.declared.entry.Segment.{Segment}
use Rattle.catalogue.specs.Entries.{PlainEntry, PlainCatalogue}
use Rattle.catalogue.specs.Text.{segment_size}
use Rattle.catalogue.specs.Edits.{with_entry, with_segments}
use Rattle.catalogue.specs.laws.Order.{order, by_order}
use Rattle.catalogue.specs.laws.Sums.{refilled}

-- what the sizes of an entry's texts depend on: its name and schema, the size of each segment's text, and its page
abbrev pub Shape : Type 0
Shape = (List ℕ × PlainSchema) × (List ℕ × Option Extent)

abbrev pub shape : PlainEntry → Shape
shape e = ((e.name, e.schema), (map segment_size e.segments, e.page))

abbrev pub shapes : PlainCatalogue → List Shape
shapes c = map shape c

-- a function that depends only on the shape
abbrev pub IsByShape : (PlainEntry → ℕ) → Type 0
IsByShape f = (a b : PlainEntry) → shape a ≡ shape b → f a ≡ f b

pub sum_alike : (f : PlainEntry → ℕ) → IsByShape f → (c d : PlainCatalogue) → shapes c ≡ shapes d → sum_by f c ≡ sum_by f d
sum_alike f by_shape [] [] same = refl
sum_alike f by_shape [] (y ∷ ys) same = absurd (cc same)
sum_alike f by_shape (x ∷ xs) [] same = absurd (cc same)
sum_alike f by_shape (x ∷ xs) (y ∷ ys) same =
    let first : shape x ≡ shape y = cc same in
    let others : shapes xs ≡ shapes ys = cc same in
    omega (arith, by_shape x y first, sum_alike f by_shape xs ys others, sum_by-cons f x xs, sum_by-cons f y ys)

-- inserting entries of the same shape
pub put_shapes : (c : PlainCatalogue) (e f : PlainEntry) → shape e ≡ shape f → shapes (with_entry c e) ≡ shapes (with_entry c f)
put_shapes [] e f same = ap (λ (s : Shape). s ∷ []) same
put_shapes (x ∷ xs) e f same =
    let later = put_shapes xs e f same in
    let other : order x.name f.name ≡ order x.name e.name = ap (λ (s : Shape). order x.name s.0.0) (sym same) in
    by_order (order x.name e.name)
    (λ is.
    ap (λ o. shapes (match_ordering o (x ∷ with_entry xs e) (e ∷ xs) (e ∷ (x ∷ xs)))) is ∙ ap (λ (ss : List Shape). shape x ∷ ss) later
    ∙ sym (ap (λ o. shapes (match_ordering o (x ∷ with_entry xs f) (f ∷ xs) (f ∷ (x ∷ xs)))) (other ∙ is)))
    (λ is.
    ap (λ o. shapes (match_ordering o (x ∷ with_entry xs e) (e ∷ xs) (e ∷ (x ∷ xs)))) is ∙ ap (λ (s : Shape). s ∷ shapes xs) same
    ∙ sym (ap (λ o. shapes (match_ordering o (x ∷ with_entry xs f) (f ∷ xs) (f ∷ (x ∷ xs)))) (other ∙ is)))
    (λ is.
    ap (λ o. shapes (match_ordering o (x ∷ with_entry xs e) (e ∷ xs) (e ∷ (x ∷ xs)))) is ∙ ap (λ (s : Shape). s ∷ shape x ∷ shapes xs) same
    ∙ sym (ap (λ o. shapes (match_ordering o (x ∷ with_entry xs f) (f ∷ xs) (f ∷ (x ∷ xs)))) (other ∙ is)))

-- replacing segments by ones with the same sizes
pub refilled_shapes : (c : PlainCatalogue) (name : List ℕ) (a b : List Segment) → map segment_size a ≡ map segment_size b → shapes (with_segments c name a) ≡ shapes (with_segments c name b)
refilled_shapes [] name a b same = refl
refilled_shapes (x ∷ xs) name a b same = by_test (refilled_shapes xs name a b same) (bytes_eq x.name name)
  where
    by_test : shapes (with_segments xs name a) ≡ shapes (with_segments xs name b) → (t : Bool) → shapes (cond t (refilled x a ∷ xs) (x ∷ with_segments xs name a)) ≡ shapes (cond t (refilled x b ∷ xs) (x ∷ with_segments xs name b))
    by_test later true = λ i. ((x.name, x.schema), (same i, None)) ∷ shapes xs
    by_test later false = ap (λ (ss : List Shape). shape x ∷ ss) later
