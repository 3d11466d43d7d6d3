-- Tables that get their pages one after another.
use Rattle.std.proofs.Common.{◌≡◌, ◌<◌, ◌+◌, ◌++◌, ℕ, List, [], ◌∷◌, length, take, drop, map, get_or, Option, Some, None, refl, sym, ap, ◌∙◌, arith}
use Rattle.std.specs.Global.{Vec}
use Rattle.std.specs.List.{sum_by}
use Rattle.std.proofs.lemmas.List.{map-append, length-map, length-append}
use Rattle.std.proofs.lemmas.List.Sums.{sum_by-cons}
use Rattle.segments.specs.declared.run.Run.{Run}
use Rattle.segments.specs.declared.piece.PiecePart.{PiecePart}
use Rattle.segments.specs.declared.extent.Extent.{Extent}
use Rattle.segments.specs.Pieces.{bytes_of_parts}
use Rattle.commit.specs.Placing.{plain_contents}
use Rattle.catalogue.specs.declared.entry.TableEntry.{TableEntry}
use Rattle.catalogue.specs.Entries.{PlainEntry, PlainCatalogue, plain_entry}
use Rattle.catalogue.specs.Text.{table_text}
use Rattle.pages.specs.Paging.{if_pageless, pageless, with_pages, AreFilled}
use Rattle.pages.specs.laws.Paged.{filled_length, pageless_more, pages_more}
use Rattle.pages.proofs.Passing.{next_sum, part_sum}

-- as many texts as tables that had no page
pub texts_number : (texts : List (Vec PiecePart)) (c : PlainCatalogue) → plain_contents texts ≡ map table_text (pageless c) → length texts ≡ length (pageless c)
texts_number texts c is =
    let one = length-map texts (λ (parts : Vec PiecePart). bytes_of_parts parts.items) in
    let other = length-map (pageless c) table_text in
    omega (arith, one, other, ap (λ (vs : List (List ℕ)). length vs) is)

pub pages_turn : (ys made more : List TableEntry) (x m : TableEntry) (runs : List Run) (n : ℕ) → map plain_entry made ≡ with_pages (map plain_entry ys) runs → more ≡ made ++ m ∷ []
    → plain_entry m ∷ [] ≡ with_pages (plain_entry x ∷ []) (drop n runs) → n ≡ length (pageless (map plain_entry ys)) → map plain_entry more ≡ with_pages (map plain_entry (ys ++ x ∷ [])) runs
pages_turn ys made more x m runs n so_far is one count =
    ap (map plain_entry) is ∙ map-append plain_entry made (m ∷ []) ∙ (λ i. so_far i ++ one i)
    ∙ ap (λ (k : ℕ). with_pages (map plain_entry ys) runs ++ with_pages (plain_entry x ∷ []) (drop k runs)) count
    ∙ sym (pages_more (map plain_entry ys) (plain_entry x) runs)
    ∙ ap (λ (d : PlainCatalogue). with_pages d runs) (sym (map-append plain_entry ys (x ∷ [])))

pub texts_turn : (ys : List TableEntry) (x : TableEntry) (texts more : List (Vec PiecePart)) → plain_contents more ≡ plain_contents texts ++ map table_text (pageless (plain_entry x ∷ [])) → plain_contents texts ≡ map table_text (pageless (map plain_entry ys))
    → plain_contents more ≡ map table_text (pageless (map plain_entry (ys ++ x ∷ [])))
texts_turn ys x texts more is so_far =
    is ∙ ap (λ (vs : List (List ℕ)). vs ++ map table_text (pageless (plain_entry x ∷ []))) so_far
    ∙ sym (map-append table_text (pageless (map plain_entry ys)) (pageless (plain_entry x ∷ [])))
    ∙ ap (map table_text) (sym (pageless_more (map plain_entry ys) (plain_entry x)))
    ∙ ap (λ (d : PlainCatalogue). map table_text (pageless d)) (sym (map-append plain_entry ys (x ∷ [])))

pageless_sum : (c : PlainCatalogue) → length (pageless c) ≡ sum_by (λ (e : PlainEntry). length (if_pageless e)) c
pageless_sum [] = refl
pageless_sum (e ∷ es) = omega (arith, pageless_sum es, length-append (if_pageless e) (pageless es), sum_by-cons (λ (x : PlainEntry). length (if_pageless x)) e es)

-- for a table without a page there is a run
pub room_for : (items : List TableEntry) (i : ℕ) (x : TableEntry) (n : ℕ) (runs : List Run) (c : PlainCatalogue) → map plain_entry items ≡ c → AreFilled (pageless c) runs → i < length items → x ≡ get_or items i x
    → n ≡ length (pageless (map plain_entry (take i items))) → x.page ≡ None → n < length runs
room_for items i x n runs c same filled lt is count none =
    let size : PlainEntry → ℕ = λ e. length (if_pageless e) in
    let one : length (if_pageless (plain_entry x)) ≡ 1 = ap (λ (o : Option Extent). length {A = PlainEntry} (elim o [ None ↦ plain_entry x ∷ [] | Some p ↦ [] ])) none in
    let runs_are = filled_length (pageless c) runs filled in
    let all : length (pageless (map plain_entry items)) ≡ length (pageless c) = ap (λ (d : PlainCatalogue). length (pageless d)) same in
    omega (
      arith,
      one,
      runs_are,
      all,
      count,
      pageless_sum (map plain_entry items),
      pageless_sum (map plain_entry (take i items)),
      next_sum size items i x lt is,
      part_sum size items (i + 1),
    )
