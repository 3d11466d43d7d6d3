-- What begins a text, and where a byte first stands in it.
use Rattle.std.proofs.Common.{◌≡◌, ◌≢◌, ◌<◌, ℕ, suc, ◌==◌, cond, Bool, true, false, List, [], ◌∷◌, ◌++◌, length, get_or, refl, sym, ap, ◌∙◌, Bor, arith}
use Rattle.std.specs.Prelude.{Option, None, Some, MatchOption}
use Rattle.std.proofs.lemmas.Bool.{ne_eqb, eq-eqb, eqb-true}
use Rattle.std.proofs.lemmas.Str.Pattern.{split_parts, IsSplitOnceResult}
use Rattle.std.specs.Str.Pattern.{FindsTextPrefix, StripsPrefix}
use Rattle.facts.specs.Outcomes.{Reads}
use Rattle.field_texts.specs.inner.Scan.{stripped, cut_at}

-- what a choice gave
pub chosen : {A : Type 0} (b : Bool) (o : Option A) (r : A) → cond b o None ≡ Some r → (b ≡ true) × (o ≡ Some r)
chosen true o r e = (refl, e)
chosen false o r e = cc

-- what stands before what follows
pub stripped-append : (xs ys : List ℕ) → stripped xs (xs ++ ys) ≡ Some ys
unfolding stripped
stripped-append [] ys = refl
stripped-append (x ∷ xs) ys = rw (eq-eqb x x refl) (stripped-append xs ys)

pub stripped_is : (xs text rest : List ℕ) → stripped xs text ≡ Some rest → text ≡ xs ++ rest
unfolding stripped
stripped_is [] text rest e = cc
stripped_is (x ∷ xs) [] rest e = cc
stripped_is (x ∷ xs) (y ∷ ys) rest e =
    let both : ((x == y) ≡ true) × (stripped xs ys ≡ Some rest) = chosen (x == y) (stripped xs ys) rest e in
    (λ k. sym (eqb-true x y both.0) k ∷ stripped_is xs ys rest both.1 k)

-- where the byte is nowhere
pub cut_none : (delimiter : ℕ) (xs : List ℕ) → ((i : ℕ) → i < length xs → get_or xs i 0 ≢ delimiter) → cut_at delimiter xs ≡ None
unfolding cut_at
cut_none delimiter [] free = refl
cut_none delimiter (x ∷ xs) free =
    let other : (x == delimiter) ≡ false = ne_eqb x delimiter (free 0 (omega arith)) in
    rw (other, cut_none delimiter xs (λ i h. free (suc i) (omega (arith, h)))) refl

pub cut_some : (delimiter : ℕ) (xs ys : List ℕ) → ((i : ℕ) → i < length xs → get_or xs i 0 ≢ delimiter) → cut_at delimiter (xs ++ delimiter ∷ ys) ≡ Some (xs, ys)
unfolding cut_at
cut_some delimiter [] ys free = rw (eq-eqb delimiter delimiter refl) refl
cut_some delimiter (x ∷ xs) ys free =
    let other : (x == delimiter) ≡ false = ne_eqb x delimiter (free 0 (omega arith)) in
    rw (other, cut_some delimiter xs ys (λ i h. free (suc i) (omega (arith, h)))) refl

-- what the code's searches answer
pub strip_reads : (xs text : List ℕ) (r : Option (Bor (List ℕ))) → MatchOption r ((rest : List ℕ) → text ≢ xs ++ rest) (λ x. text ≡ xs ++ x.now) → Reads (λ x. x.now) r (stripped xs text)
strip_reads xs text None h = strip_none (stripped xs text) refl
  where
    strip_none : (o : Option (List ℕ)) → o ≡ stripped xs text → stripped xs text ≡ None
    strip_none None e = sym e
    strip_none (Some rest) e = absurd (h rest (stripped_is xs text rest (sym e)))
strip_reads xs text (Some x) h = ap (stripped xs) h ∙ stripped-append xs x.now

pub cut_reads : (delimiter : ℕ) (text : List ℕ) (r : Option (Bor (List ℕ) × Bor (List ℕ))) → IsSplitOnceResult delimiter text r → delimiter < 128 → Reads (λ p. (p.0.now, p.1.now)) r (cut_at delimiter text)
cut_reads delimiter text None h low = cut_none delimiter text (split_parts delimiter text None h low)
cut_reads delimiter text (Some x) h low = let k = split_parts delimiter text (Some x) h low in ap (cut_at delimiter) k.0 ∙ cut_some delimiter x.0.now x.1.now k.1

-- the clause of `strip_prefix` at a text
pub found : (xs text : List ℕ) (r : Option (Bor (List ℕ))) → MatchOption r (FindsTextPrefix xs text None) (λ x. StripsPrefix (FindsTextPrefix xs) text x.now) → MatchOption r ((rest : List ℕ) → text ≢ xs ++ rest) (λ x. text ≡ xs ++ x.now)
found xs text None h = h
found xs text (Some x) h = h.1.1 ∙ ap (λ (ys : List ℕ). xs ++ ys) (sym h.2)
