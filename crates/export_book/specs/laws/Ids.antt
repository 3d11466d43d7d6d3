-- The id of an export is used only once.
use Rattle.std.proofs.Common.{◌≡◌, ◌≢◌, ◌≤◌, ◌<◌, ◌+◌, ◌++◌, ◌==◌, inl, inr, ℕ, Bool, true, false, cond, not, map, List, [], ◌∷◌, Option, Some, None, refl, ap, ◌∙◌, arith, length, ◌^◌}
use Rattle.std.specs.List.{filter, find, AllByRecursion}
use Rattle.std.proofs.lemmas.Bool.{cond_both, cond-true, cond-false, eq-eqb, eqb-true, false_from_ne_true, leb-false, or_parts}
use Rattle.std.specs.Prelude.{nat_le}
use Rattle.export_book.specs.declared.book.TheConstants.{MAX_EXPORTS}
use Rattle.arrow_schema.specs.Column.{PlainSchema}
use Rattle.catalogue.specs.declared.entry.Segment.{Segment}
use Rattle.export_book.specs.Book.{PlainExport, PlainBook, IsBook, is_of, open_at, with_open, gave, is_full}
use Rattle.export_book.specs.Steps.{IsStep, AreSteps}

-- an export with another id
abbrev pub other_id : (id : ℕ) (e : PlainExport) → e.id ≢ id → is_of id e ≡ false
other_id id e differs = false_from_ne_true (e.id == id) (λ is. differs (eqb-true e.id id is))

none_of : (id : ℕ) (es : List PlainExport) → AllByRecursion (λ (e : PlainExport). e.id < id) es → find (is_of id) es ≡ None
none_of id [] below = refl
none_of id (e ∷ es) below =
    let lower = below.0 in
    cond-false (is_of id e) (Some e) (find (is_of id) es) (other_id id e (λ same. omega (arith, lower, same))) ∙ none_of id es below.1

-- the next id is that of no open export
pub new_id : (b : PlainBook) → IsBook b → open_at b b.next ≡ None
new_id b is = none_of b.next b.exports is.below

-- there is room for one more
pub has_room : (b : PlainBook) → is_full b ≡ false → (length b.exports < MAX_EXPORTS) × (b.next < 2 ^ 64)
has_room b room =
    let parts = or_parts (nat_le MAX_EXPORTS (length b.exports)) (nat_le (2 ^ 64) b.next) room in
    (leb-false MAX_EXPORTS (length b.exports) parts.0, leb-false (2 ^ 64) b.next parts.1)

-- ---- the next id

step_up : (b c : PlainBook) → IsStep b c → b.next ≤ c.next
step_up b c (inl (schema, (segments, is))) = let next = ap (λ (x : PlainBook). x.next) is in omega (arith, next)
step_up b c (inr (inl (id, is))) = let next = ap (λ (x : PlainBook). x.next) is in omega (arith, next)
step_up b c (inr (inr (id, is))) = let next = ap (λ (x : PlainBook). x.next) is in omega (arith, next)

from_low : (low : ℕ) (b : PlainBook) (later : List PlainBook) → low ≤ b.next → AreSteps b later → AllByRecursion (λ (c : PlainBook). low ≤ c.next) later
from_low low b [] le steps = tt
from_low low b (c ∷ cs) le steps = let up = step_up b c steps.0 in let here : low ≤ c.next = omega (arith, le, up) in (here, from_low low c cs here steps.1)

pub ids_go_up : (b : PlainBook) (later : List PlainBook) → AreSteps b later → AllByRecursion (λ (c : PlainBook). b.next ≤ c.next) later
ids_go_up b later steps = from_low b.next b later (omega arith) steps

-- ---- an export that is not open

first_none : (t : Bool) (e : PlainExport) (rest : Option PlainExport) → cond t (Some e) rest ≡ None → (t ≡ false) × (rest ≡ None)
first_none true e rest is = absurd cc
first_none false e rest is = (refl, is)

module _ (id : ℕ) where
  none_behind : (e : PlainExport) (es : List PlainExport) → is_of id e ≡ false → find (is_of id) es ≡ None → find (is_of id) (e ∷ es) ≡ None
  none_behind e es other none = cond-false (is_of id e) (Some e) (find (is_of id) es) other ∙ none

  none_more : (es : List PlainExport) (e : PlainExport) → find (is_of id) es ≡ None → is_of id e ≡ false → find (is_of id) (es ++ e ∷ []) ≡ None
  none_more [] e none other = none_behind e [] other refl
  none_more (x ∷ xs) e none other = let parts = first_none (is_of id x) x (find (is_of id) xs) none in none_behind x (xs ++ e ∷ []) parts.0 (none_more xs e parts.1 other)

  last_of : (es : List PlainExport) (e : PlainExport) → find (is_of id) es ≡ None → is_of id e ≡ true → find (is_of id) (es ++ e ∷ []) ≡ Some e
  last_of [] e none own = cond-true (is_of id e) (Some e) None own
  last_of (x ∷ xs) e none own =
      let parts = first_none (is_of id x) x (find (is_of id) xs) none in cond-false (is_of id x) (Some x) (find (is_of id) (xs ++ e ∷ [])) parts.0 ∙ last_of xs e parts.1 own

  none_given : (given : ℕ) (es : List PlainExport) → find (is_of id) es ≡ None → find (is_of id) (map (gave given) es) ≡ None
  none_given given [] none = refl
  none_given given (x ∷ xs) none =
      let parts = first_none (is_of id x) x (find (is_of id) xs) none in
      let same : is_of id (gave given x) ≡ is_of id x = cond_both (is_of given x) (record x { given = x.given + 1 }) x (λ (y : PlainExport). is_of id y ≡ is_of id x) (λ _. refl) (λ _. refl) in
      none_behind (gave given x) (map (gave given) xs) (same ∙ parts.0) (none_given given xs parts.1)

  none_left : (closed : ℕ) (es : List PlainExport) → find (is_of id) es ≡ None → find (is_of id) (filter (λ (e : PlainExport). not (is_of closed e)) es) ≡ None
  none_left closed [] none = refl
  none_left closed (x ∷ xs) none =
      let parts = first_none (is_of id x) x (find (is_of id) xs) none in
      let rest = filter (λ (e : PlainExport). not (is_of closed e)) xs in
      let later = none_left closed xs parts.1 in
      cond_both (not (is_of closed x)) (x ∷ rest) rest (λ (es : List PlainExport). find (is_of id) es ≡ None) (λ _. none_behind x rest parts.0 later) (λ _. later)

  none_then : (b c : PlainBook) → IsStep b c → id < b.next → open_at b id ≡ None → open_at c id ≡ None
  none_then b c (inl (schema, (segments, is))) lower none =
      ap (λ (x : PlainBook). open_at x id) is ∙ none_more b.exports _ none (other_id id (record { id = b.next; schema = schema; segments = segments; given = 0 }) (λ same. omega (arith, lower, same)))
  none_then b c (inr (inl (given, is))) lower none = ap (λ (x : PlainBook). open_at x id) is ∙ none_given given b.exports none
  none_then b c (inr (inr (closed, is))) lower none = ap (λ (x : PlainBook). open_at x id) is ∙ none_left closed b.exports none

  pub never_again : (b : PlainBook) (later : List PlainBook) → AreSteps b later → id < b.next → open_at b id ≡ None → AllByRecursion (λ (c : PlainBook). open_at c id ≡ None) later
  never_again b [] steps lower none = tt
  never_again b (c ∷ cs) steps lower none =
      let here = none_then b c steps.0 lower none in let up = step_up b c steps.0 in (here, never_again c cs steps.1 (omega (arith, lower, up)) here)

-- an export that is opened is open under the next id
pub opened_at : (b : PlainBook) (schema : PlainSchema) (segments : List Segment) → IsBook b
    → open_at (with_open schema segments b) b.next ≡ Some (record { id = b.next; schema = schema; segments = segments; given = 0 })
opened_at b schema segments is = last_of b.next b.exports (record { id = b.next; schema = schema; segments = segments; given = 0 }) (new_id b is) (eq-eqb b.next b.next refl)
