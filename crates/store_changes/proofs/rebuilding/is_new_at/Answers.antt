use Rattle.std.specs.Prelude.{not, get_or, if◌then◌else◌}
use Rattle.std.proofs.Common.{◌≡◌, ◌<◌, ℕ, zero, suc, Bool, true, false, List, [], ◌∷◌, length, refl, sym, ◌∙◌, arith}
use Rattle.catalogue.specs.declared.entry.Segment.{Segment}
use Rattle.store_runs.specs.Filling.{has_place, new_in}
use Rattle.store_changes.proofs.rebuilding.is_new_at.Goals as goal

-- there is no new one if there are none
first_new : (from : ℕ) (g : Segment) (gs : List Segment) (b : Bool) → has_place from g ≡ b → has_place from g ≡ false → (if not b then g ∷ new_in from gs else new_in from gs) ≡ [] → ⊥
first_new from g gs true is new none = cc (is, new)
first_new from g gs false is new none = cc none

later_new : (g : Segment) (gs ns : List Segment) (b : Bool) → (if not b then g ∷ ns else ns) ≡ [] → ns ≡ []
later_new g gs ns true none = none
later_new g gs ns false none = absurd (cc none)

new_at : (from : ℕ) (gs : List Segment) (place : ℕ) (d : Segment) → place < length gs → has_place from (get_or gs place d) ≡ false → new_in from gs ≡ [] → ⊥
new_at from [] place d inside new none = absurd (omega (arith, inside))
new_at from (x ∷ xs) zero d inside new none = first_new from x xs (has_place from x) refl new none
new_at from (x ∷ xs) (suc place) d inside new none = new_at from xs place d (omega (arith, inside)) new (later_new x xs (new_in from xs) (has_place from x) none)

unset : (b : Bool) → not b ≡ true → b ≡ false
unset false is = refl
unset true is = absurd (cc is)

pub returns : goal.returns
returns c = λ is none. new_at c.args.from c.args.segments.now c.args.place _ c.requires (sym c.has_place.ensures ∙ unset c.has_place.result is) none
