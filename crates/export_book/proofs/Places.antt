-- Where the export of an id stands.
use Rattle.std.proofs.Common.{◌≡◌, ⊎_elim, ◌<◌, ◌+◌, ◌==◌, ℕ, suc, Bool, true, false, not, map, get_or, set, remove, length, List, [], ◌∷◌, Option, Some, None, refl, sym, ap, subst, ◌∙◌, arith}
use Rattle.std.specs.List.{find, position, position_from, AllByRecursion}
use Rattle.std.proofs.lemmas.Bool.{cond-true, cond-false, cases_Bool, eqb-true}
use Rattle.std.proofs.lemmas.Iterator.Adapters.{position_from-zero}
use Rattle.std.proofs.lemmas.Option.{same_Some}
use Rattle.export_book.specs.declared.export.OpenExport.{OpenExport}
use Rattle.export_book.specs.Book.{PlainExport, AreRising, is_of, others_of, gave, with_given}
use Rattle.export_book.specs.Plain.{plain_export, next_id, book_in}
use Rattle.export_book.specs.laws.Ids.{other_id}

abbrev pub has_id : ℕ → OpenExport → Bool
has_id id e = e.id == id

module _ (id : ℕ) where
  -- none of these has the id
  pub record Absent (es : List PlainExport) : Type 0 where
    pub stood : find (is_of id) es ≡ None
    pub given : map (gave id) es ≡ es
    pub closed : others_of id es ≡ es

  no_exports : Absent []
  no_exports = record { stood = refl; given = refl; closed = refl }

  one_absent : (e : PlainExport) (es : List PlainExport) → is_of id e ≡ false → Absent es → Absent (e ∷ es)
  one_absent e es other rest = record {
    stood = cond-false (is_of id e) (Some e) (find (is_of id) es) other ∙ rest.stood;
    given = (λ i. cond-false (is_of id e) (record e { given = e.given + 1 }) e other i ∷ map (gave id) es) ∙ ap (λ (es : List PlainExport). e ∷ es) rest.given;
    closed = cond-true (not (is_of id e)) (e ∷ others_of id es) (others_of id es) (ap not other) ∙ ap (λ (es : List PlainExport). e ∷ es) rest.closed;
  }

  absent_behind : (es : List PlainExport) → AllByRecursion (λ (o : PlainExport). id < o.id) es → Absent es
  absent_behind [] behind = no_exports
  absent_behind (e ∷ es) behind = let more = behind.0 in one_absent e es (other_id id e (λ same. omega (arith, more, same))) (absent_behind es behind.1)

  absent_from : (es : List OpenExport) (i : ℕ) → position_from (has_id id) i es ≡ None → Absent (map plain_export es)
  absent_from [] i none = no_exports
  absent_from (e ∷ es) i none =
      ⊎_elim
      (λ (t : has_id id e ≡ true). absurd (let here = sym (cond-true (has_id id e) (Some i) (position_from (has_id id) (i + 1) es) t) ∙ none in cc))
      (λ (f : has_id id e ≡ false).
      one_absent (plain_export e) (map plain_export es) f (absent_from es (i + 1) (sym (cond-false (has_id id e) (Some i) (position_from (has_id id) (i + 1) es) f) ∙ none)))
      (cases_Bool (has_id id e))

  pub absent : (es : List OpenExport) → position (has_id id) es ≡ None → Absent (map plain_export es)
  absent es none = absent_from es 0 (sym (position_from-zero (has_id id) es) ∙ none)

  -- the one at a place has it
  pub record Placed (es : List OpenExport) (place : ℕ) : Type 0 where
    pub within : place < length es
    pub stood : (d : OpenExport) → find (is_of id) (map plain_export es) ≡ Some (plain_export (get_or es place d))
    pub closed : AreRising (map plain_export es) → map plain_export (remove es place) ≡ others_of id (map plain_export es)
    pub given : AreRising (map plain_export es) → (d new : OpenExport) → plain_export new ≡ record (plain_export (get_or es place d)) { given = (get_or es place d).given + 1 }
        → map plain_export (set es place new) ≡ map (gave id) (map plain_export es)

  pub record PlacedFrom (es : List OpenExport) (i place : ℕ) : Type 0 where
    pub index : ℕ
    pub is : place ≡ i + index
    pub placed : Placed es index

  first_placed : (e : OpenExport) (es : List OpenExport) → has_id id e ≡ true → Placed (e ∷ es) 0
  first_placed e es hits =
      let p = plain_export e in
      let ps = map plain_export es in
      let same : e.id ≡ id = eqb-true e.id id hits in
      let rest = λ (rising : AreRising (p ∷ ps)). absent_behind ps (subst (λ (n : ℕ). AllByRecursion (λ (o : PlainExport). n < o.id) ps) same rising.0) in
      record {
        within = omega arith;
        stood = λ d. cond-true (is_of id p) (Some p) (find (is_of id) ps) hits;
        closed = λ rising. sym (cond-false (not (is_of id p)) (p ∷ others_of id ps) (others_of id ps) (ap not hits) ∙ (rest rising).closed);
        given = λ rising d new is.
            let one : gave id p ≡ plain_export new = cond-true (is_of id p) (record p { given = p.given + 1 }) p hits ∙ sym is in
            sym ((λ i. one i ∷ map (gave id) ps) ∙ ap (λ (es : List PlainExport). plain_export new ∷ es) (rest rising).given);
      }

  next_placed : (e : OpenExport) (es : List OpenExport) (k : ℕ) → has_id id e ≡ false → Placed es k → Placed (e ∷ es) (suc k)
  next_placed e es k misses later =
      let p = plain_export e in
      let ps = map plain_export es in
      let within = later.within in
      record {
        within = omega (arith, within);
        stood = λ d. cond-false (is_of id p) (Some p) (find (is_of id) ps) misses ∙ later.stood d;
        closed = λ rising.
            ap (λ (es : List PlainExport). p ∷ es) (later.closed rising.1)
            ∙ sym (cond-true (not (is_of id p)) (p ∷ others_of id ps) (others_of id ps) (ap not misses));
        given = λ rising d new is.
            ap (λ (es : List PlainExport). p ∷ es) (later.given rising.1 d new is)
            ∙ (λ i. sym (cond-false (is_of id p) (record p { given = p.given + 1 }) p misses) i ∷ map (gave id) ps);
      }

  placed_from : (es : List OpenExport) (i place : ℕ) → position_from (has_id id) i es ≡ Some place → PlacedFrom es i place
  placed_from [] i place found = absurd cc
  placed_from (e ∷ es) i place found =
      ⊎_elim
      (λ (t : has_id id e ≡ true).
      let here : i ≡ place = same_Some i place (sym (cond-true (has_id id e) (Some i) (position_from (has_id id) (i + 1) es) t) ∙ found) in
      record { index = 0; is = omega (arith, here); placed = first_placed e es t })
      (λ (f : has_id id e ≡ false).
      let later = placed_from es (i + 1) place (sym (cond-false (has_id id e) (Some i) (position_from (has_id id) (i + 1) es) f) ∙ found) in
      let is = later.is in
      record { index = suc later.index; is = omega (arith, is); placed = next_placed e es later.index f later.placed })
      (cases_Bool (has_id id e))

  pub placed : (es : List OpenExport) (place : ℕ) → position (has_id id) es ≡ Some place → Placed es place
  placed es place found =
      let from = placed_from es 0 place (sym (position_from-zero (has_id id) es) ∙ found) in
      let is = from.is in
      let at : from.index ≡ place = omega (arith, is) in
      subst (Placed es) at from.placed

  -- one more piece of the one at a place was given
  pub given_at : (es : List OpenExport) (next : Option ℕ) (place : ℕ) (x new : OpenExport) → Placed es place → AreRising (map plain_export es) → x ≡ get_or es place x
      → plain_export new ≡ record (plain_export x) { given = x.given + 1 } → book_in (set es place new) next ≡ with_given id (book_in es next)
  given_at es next place x new p rising at is =
      let exports = p.given rising x new (is ∙ ap (λ (e : OpenExport). record (plain_export e) { given = e.given + 1 }) at) in
      λ i. record { exports = exports i; next = next_id next }
