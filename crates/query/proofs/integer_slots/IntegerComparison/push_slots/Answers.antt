use Rattle.std.proofs.Common.{◌≡◌, ℕ, Bool, List, [], ◌∷◌, ◌++◌, map, refl, sym, ap, ◌∙◌, append_assoc, arith}
use Rattle.std.specs.List.{range_with_len}
use Rattle.std.proofs.lemmas.List.FromFn.{map-range_with_len_more}
use Rattle.facts.specs.laws.Numbers.{bool_byte-lt}
use Rattle.columns.specs.Array.{validity_in}
use Rattle.columns.specs.View.{view_array}
use Rattle.query.specs.inner.Slots.{integer_holds_in, integer_holds_at}
use Rattle.query.proofs.BlockFlags.{one_bit}
use Rattle.query.proofs.integer_slots.IntegerComparison.push_slots.Goals as goal

pub loop-i-init : goal.loop-i-init
loop-i-init c =
    let a = view_array c.args.view in
    let begun = range_with_len 0 c.in_ok-begun.begun in
    c.in_ok-begun.ensures.flags
    ∙ ap (λ (v : List ℕ). c.args.flags.now ++ map (integer_holds_in c.args.self v c.values-values.result.now) begun) c.validity-validity.ensures
    ∙ ap (λ (v : List ℕ). c.args.flags.now ++ map (integer_holds_in c.args.self (validity_in a) v) begun) c.values-values.ensures

pub push_word-requires-clause-word : goal.push_word-requires-clause-word
push_word-requires-clause-word c = omega (arith, c.from.ensures, bool_byte-lt c.holds.result)

pub loop-i-preserved : goal.loop-i-preserved
loop-i-preserved c =
    let i = c.loop-i.i in
    let start = c.args.flags.now in
    let a = view_array c.args.view in
    let f = integer_holds_at c.args.self a in
    let flag : c.holds.result ≡ f i =
    c.holds.ensures
    ∙ ap (λ (v : List ℕ). integer_holds_in c.args.self v c.values-values.result.now i) c.validity-validity.ensures
    ∙ ap (λ (v : List ℕ). integer_holds_in c.args.self (validity_in a) v i) c.values-values.ensures in
    c.in_ok-push_word.ensures.ok (c.holds.result ∷ []) refl (one_bit c.holds.result ∙ sym c.from.ensures)
    ∙ ap (λ (xs : List Bool). xs ++ c.holds.result ∷ []) c.loop-i.invariant
    ∙ append_assoc start (map f (range_with_len 0 i)) (c.holds.result ∷ [])
    ∙ ap (λ (b : Bool). start ++ (map f (range_with_len 0 i) ++ b ∷ [])) flag
    ∙ ap (λ (xs : List Bool). start ++ xs) (sym (map-range_with_len_more f 0 i i (omega arith)))
