-- A table without segments has the same text in each form.
use Rattle.std.proofs.Common.{◌≡◌, ℕ, zero, suc, List, [], ◌∷◌, length, Option, Some, None, refl, sym, ap, ◌∙◌, arith}
use Rattle.std.proofs.lemmas.Option.{same_Some}
use Rattle.arrow_schema.specs.Column.{PlainSchema}
use Rattle.catalogue.specs.declared.entry.Segment.{Segment}
use Rattle.catalogue.specs.declared.entry.SegmentForm.{SegmentForm}
use Rattle.catalogue.specs.Reading.{◌>>=◌, front_number, sized_at, many_at, counted_at, segment_at, schema_in, body_at}

-- the value of a step that succeeded
pub bound : {A B : Type 0} (o : Option A) (f : A → Option B) (y : B) → (o >>= f) ≡ Some y → (x : A) × (o ≡ Some x) × (f x ≡ Some y)
bound (Some x) f y e = (x, refl, e)
bound None f y e = absurd cc

-- a step with a value, and the rest
pub bound_is : {A B : Type 0} (o : Option A) (x : A) (f : A → Option B) (y : Option B) → o ≡ Some x → f x ≡ y → (o >>= f) ≡ y
bound_is o x f y h k = ap (λ p. p >>= f) h ∙ k

-- if one form reads no parts, the other reads none either
many_none : {A : Type 0} (one other : List ℕ → Option (A × List ℕ)) (count : ℕ) (bytes : List ℕ) (none : List A × List ℕ) → none.0 ≡ [] → many_at one count bytes ≡ Some none → many_at other count bytes ≡ Some none
unfolding many_at
many_none one other zero bytes none empty is = is
many_none {A = A} one other (suc count) bytes none empty is =
    let a = bound (one bytes) (λ first. many_at one count first.1 >>= λ others. Some (first.0 ∷ others.0, others.1)) none is in
    let b = bound (many_at one count a.0.1) (λ others. Some (a.0.0 ∷ others.0, others.1)) none a.2 in
    let same = same_Some (a.0.0 ∷ b.0.0, b.0.1) none b.2 in
    let some : length none.0 ≡ suc (length b.0.0) = ap (λ (p : List A × List ℕ). length p.0) (sym same) in
    let zero : length none.0 ≡ 0 = ap (λ (xs : List A). length xs) empty in
    absurd (omega (arith, some, zero))

segments_none : (a b : SegmentForm) (bytes rest : List ℕ) → counted_at (segment_at a) bytes ≡ Some ([], rest) → counted_at (segment_at b) bytes ≡ Some ([], rest)
segments_none a b bytes rest is =
    let n = bound (front_number 4 bytes) (λ count. many_at (segment_at a) count.0 count.1) ([], rest) is in
    bound_is (front_number 4 bytes) n.0 (λ count. many_at (segment_at b) count.0 count.1) (Some ([], rest)) n.1 (many_none (segment_at a) (segment_at b) n.0.0 n.0.1 ([], rest) refl n.2)

pub body_none : (a b : SegmentForm) (bytes : List ℕ) (schema : PlainSchema) (rest : List ℕ) → body_at a bytes ≡ Some ((schema, []), rest) → body_at b bytes ≡ Some ((schema, []), rest)
unfolding body_at
body_none a b bytes schema rest is =
    let all : (PlainSchema × List Segment) × List ℕ = ((schema, []), rest) in
    let x = bound (sized_at bytes) (λ text. schema_in text.0 >>= λ found. counted_at (segment_at a) text.1 >>= λ segments. Some ((found, segments.0), segments.1)) all is in
    let y = bound (schema_in x.0.0) (λ found. counted_at (segment_at a) x.0.1 >>= λ segments. Some ((found, segments.0), segments.1)) all x.2 in
    let z = bound (counted_at (segment_at a) x.0.1) (λ segments. Some ((y.0, segments.0), segments.1)) all y.2 in
    let same : ((y.0, z.0.0), z.0.1) ≡ all = cc z.2 in
    let none : z.0 ≡ ([], rest) = λ i. ((same i).0.1, (same i).1) in
    let segments = segments_none a b x.0.1 rest (z.1 ∙ ap Some none) in
    bound_is (sized_at bytes) x.0 (λ text. schema_in text.0 >>= λ found. counted_at (segment_at b) text.1 >>= λ segments. Some ((found, segments.0), segments.1)) (Some all) x.1
    (bound_is (schema_in x.0.0) y.0 (λ found. counted_at (segment_at b) x.0.1 >>= λ segments. Some ((found, segments.0), segments.1)) (Some all) y.1
    (bound_is (counted_at (segment_at b) x.0.1) ([], rest) (λ segments. Some ((y.0, segments.0), segments.1)) (Some all) segments (λ i. Some (((same i).0.0, []), rest))))
