use Rattle.std.proofs.Common.{◌≡◌, ℕ, [], ◌∷◌, ◌++◌, map, sym, ap, ◌∙◌, arith, string_bytes}
use Rattle.std.specs.Prelude.{Some}
use Rattle.std.proofs.lemmas.List.{map-append}
use Rattle.std.proofs.lemmas.Bool.{eqb-false}
use Rattle.arrow_schema.specs.View.{column_of}
use Rattle.query.specs.Bound.{place_of}
use Rattle.query.specs.Selection.{is_distinct}
use Rattle.query.proofs.Choosing.{name_missing, name_twice, names_all, one_more_name, still_distinct}
use Rattle.query.proofs.selecting.places_of.Goals as goal

pub returns-in_default-clause-refused : goal.returns-in_default-clause-refused
returns-in_default-clause-refused c =
    let none = rw c.as_str.ensures.value at (sym c.place_of.ensures ∙ c.in_default.is) in
    name_missing _ (λ s. string_bytes s) _ c.loop-name.name-index c.name-item.result c.loop-name.places.items c.loop-name-test.true c.name-item.is c.loop-name.invariant.found none

pub returns-then-contains-clause-refused : goal.returns-then-contains-clause-refused
returns-then-contains-clause-refused c =
    let some = rw c.as_str.ensures.value at (sym c.place_of.ensures ∙ c.in-Some.is) in
    let again = rw c.deref.ensures.value at (sym c.contains.ensures.value ∙ c.if-contains.true) in
    name_twice _ (λ s. string_bytes s) _ c.loop-name.name-index c.name-item.result c.loop-name.places.items c.in-Some.place c.loop-name-test.true c.name-item.is c.loop-name.invariant.found some again

pub loop-name-preserved : goal.loop-name-preserved
loop-name-preserved c =
    let p = c.in-Some.place in
    let places = c.loop-name.places.items in
    let items : c.push_reserved.new.self.items ≡ places ++ p ∷ [] = c.push_reserved.ensures.items in
    let some = rw c.as_str.ensures.value at (sym c.place_of.ensures ∙ c.in-Some.is) in
    let other = rw c.deref.ensures.value at (sym c.contains.ensures.value ∙ c.if-contains.false) in
    record {
      found = one_more_name (place_of (map column_of c.args.fields.now)) (λ s. string_bytes s) c.args.names.now c.loop-name.name-index c.name-item.result c.loop-name-test.true c.name-item.is
          ∙ ((λ k. c.loop-name.invariant.found k ++ some k ∷ []) ∙ (sym (map-append (λ (x : ℕ). Some x) places (p ∷ [])) ∙ ap (map (λ (x : ℕ). Some x)) (sym items)));
      distinct = ap is_distinct items ∙ still_distinct places p c.loop-name.invariant.distinct other;
      len = omega (arith, c.push_reserved.ensures.len, c.loop-name.invariant.len);
      room = omega (arith, c.push_reserved.ensures.capacity, c.loop-name.invariant.room);
    }

pub returns-clause-ok : goal.returns-clause-ok
returns-clause-ok c = let any = eqb-false _ _ (sym c.is_empty.ensures ∙ c.if-is_empty.false) in names_all _ (λ s. string_bytes s) _ c.loop-name.name-index c.loop-name.places.items (omega (arith, any)) c.loop-name-test.false c.loop-name.invariant.found c.loop-name.invariant.distinct
