-- Rows that are selected part by part: of one part after another, as many as the limit still allows.
use Rattle.std.specs.Prelude.{Option, Some, None, map, unwrap_or}
use Rattle.std.proofs.Common.{◌≡◌, ℕ, zero, suc, ◌+◌, ◌-◌, ◌^◌, ◌<◌, List, [], ◌∷◌, ◌++◌, length, take, refl, sym, ap, ◌∙◌, arith, length-append}
use Rattle.std.proofs.Math.Seq.{take-nil}
use Rattle.std.proofs.lemmas.List.{map-append, length-map, length-take, take_all}
use Rattle.std.proofs.lemmas.List.Elements.{filter-append}
use Rattle.std.proofs.lemmas.List.Sums.{length-filter, count_by-le-length}
use Rattle.cells.specs.Cell.{Cell}
use Rattle.query.specs.BoundQuery.{PlainBoundQuery, rows_held, rows_selected, limit_after, query_after}
use Rattle.query.specs.Selection.{pick, limited, holds_all}

-- the first of two lists, one after the other
pub take_both : {X : Type 0} (n : ℕ) (xs ys : List X) → take n (xs ++ ys) ≡ take n xs ++ take (n - length xs) ys
take_both {X = X} n [] ys =
    let e : n - 0 ≡ n = omega arith in
    ap (λ (k : ℕ). take k ys) (sym e) ∙ ap (λ (zs : List X). zs ++ take (n - 0) ys) (sym (take-nil n))
take_both zero (x ∷ xs) ys = let e : 0 - suc (length xs) ≡ 0 = omega arith in ap (λ (k : ℕ). take k ys) (sym e)
take_both {X = X} (suc n) (x ∷ xs) ys =
    let e : suc n - suc (length xs) ≡ n - length xs = omega arith in
    ap (λ (zs : List X). x ∷ zs) (take_both n xs ys) ∙ ap (λ (k : ℕ). x ∷ (take n xs ++ take k ys)) (sym e)

limited_both : {X : Type 0} (limit : Option ℕ) (xs ys : List X) → limited limit (xs ++ ys) ≡ limited limit xs ++ limited (limit_after limit (length xs)) ys
limited_both None xs ys = refl
limited_both (Some most) xs ys = take_both most xs ys

-- a limit of 64 bits
limited_most : {X : Type 0} (limit : Option ℕ) (most : ℕ) (xs : List X) → most ≡ unwrap_or limit (2 ^ 64 - 1) → length xs < 2 ^ 64 → take most xs ≡ limited limit xs
limited_most (Some n) most xs is few = ap (λ (k : ℕ). take k xs) is
limited_most None most xs is few = let n : most ≡ 2 ^ 64 - 1 = is in take_all most xs (omega (arith, n, few))

-- the first of the rows that are set, where these are those for which all conditions hold
pub rows_chosen : (q : PlainBoundQuery) (most : ℕ) (rows set : List (List Cell)) → set ≡ map (pick q.places) (rows_held q rows) → most ≡ unwrap_or q.limit (2 ^ 64 - 1) → length rows < 2 ^ 64
    → take most set ≡ rows_selected q rows
rows_chosen q most rows set are is few =
    let p = holds_all q.bounds in
    ap (take most) are
    ∙ limited_most q.limit most (map (pick q.places) (rows_held q rows)) is (omega (arith, length-map (rows_held q rows) (pick q.places), length-filter p rows, count_by-le-length p rows, few))

-- none, where no row may follow
pub none_left : (q : PlainBoundQuery) (most : ℕ) (rows : List (List Cell)) → most ≡ unwrap_or q.limit (2 ^ 64 - 1) → most ≡ 0 → rows_selected q rows ≡ []
none_left q most rows is none = by q.limit is
  where
    by : (limit : Option ℕ) → most ≡ unwrap_or limit (2 ^ 64 - 1) → limited limit (map (pick q.places) (rows_held q rows)) ≡ []
    by (Some n) is = let e : n ≡ 0 = sym is ∙ none in ap (λ (k : ℕ). take k (map (pick q.places) (rows_held q rows))) e
    by None is = let n : most ≡ 2 ^ 64 - 1 = is in absurd (omega (arith, n, none))

-- what the selected rows leave of a limit
pub limit_counted : (q : PlainBoundQuery) (rows : List (List Cell)) → limit_after q.limit (length (rows_selected q rows)) ≡ (query_after q rows).limit
limit_counted q rows = by q.limit
  where
    by : (limit : Option ℕ) → limit_after limit (length (limited limit (map (pick q.places) (rows_held q rows)))) ≡ limit_after limit (length (rows_held q rows))
    by None = refl
    by (Some most) =
        let xs = map (pick q.places) (rows_held q rows) in
        let e : most - length (take most xs) ≡ most - length (rows_held q rows) = omega (arith, length-take most xs, length-map (rows_held q rows) (pick q.places)) in
        ap Some e

after_both : (limit : Option ℕ) (m n : ℕ) → limit_after (limit_after limit m) n ≡ limit_after limit (m + n)
after_both None m n = refl
after_both (Some most) m n = let e : most - m - n ≡ most - (m + n) = omega arith in ap Some e

after_none : (limit : Option ℕ) → limit_after limit 0 ≡ limit
after_none None = refl
after_none (Some most) = let e : most - 0 ≡ most = omega arith in ap Some e

-- of the rows of two parts
pub rows_selected_both : (q : PlainBoundQuery) (xs ys : List (List Cell)) → rows_selected q (xs ++ ys) ≡ rows_selected q xs ++ rows_selected (query_after q xs) ys
rows_selected_both q xs ys =
    let these = map (pick q.places) (rows_held q xs) in
    let those = map (pick q.places) (rows_held q ys) in
    ap (λ (rows : List (List Cell)). limited q.limit (map (pick q.places) rows)) (filter-append (holds_all q.bounds) xs ys)
    ∙ ap (limited q.limit) (map-append (pick q.places) (rows_held q xs) (rows_held q ys))
    ∙ limited_both q.limit these those
    ∙ ap (λ (n : ℕ). limited q.limit these ++ limited (limit_after q.limit n) those) (length-map (rows_held q xs) (pick q.places))

pub query_after_both : (q : PlainBoundQuery) (xs ys : List (List Cell)) → query_after (query_after q xs) ys ≡ query_after q (xs ++ ys)
query_after_both q xs ys =
    let both : length (rows_held q (xs ++ ys)) ≡ length (rows_held q xs) + length (rows_held q ys) =
    ap length (filter-append (holds_all q.bounds) xs ys) ∙ length-append (rows_held q xs) (rows_held q ys) in
    let whole : Option ℕ → PlainBoundQuery = λ limit. record { places = q.places; bounds = q.bounds; limit = limit } in
    ap whole (after_both q.limit (length (rows_held q xs)) (length (rows_held q ys)) ∙ ap (limit_after q.limit) (sym both))

-- of no row
pub none_selected : (q : PlainBoundQuery) → rows_selected q [] ≡ []
none_selected q = by q.limit
  where
    by : (limit : Option ℕ) → limited {X = List Cell} limit [] ≡ []
    by None = refl
    by (Some most) = take-nil most

pub query_after_none : (q : PlainBoundQuery) → query_after q [] ≡ q
query_after_none q = let whole : Option ℕ → PlainBoundQuery = λ limit. record { places = q.places; bounds = q.bounds; limit = limit } in ap whole (after_none q.limit)
