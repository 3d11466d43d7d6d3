use mir.Val.{SFits}
use Rattle.std.specs.Int.{w128}
use Rattle.std.proofs.Common.{◌≡◌, ◌∙◌, ◌++◌, ℕ, List, ap, append_assoc, arith, rules}
use Rattle.std.proofs.lemmas.Int.{to_z-of_z}
use Rattle.query.specs.Line.{json_of, json_of_others}
use Rattle.query.proofs.Pushed.{between}
use Rattle.query.proofs.line.+line.Goals as goal

-- two texts more
two_more : (out rest a b one two : List ℕ) → one ≡ out ++ a → two ≡ one ++ b → two ++ rest ≡ out ++ ((a ++ b) ++ rest)
two_more out rest a b one two first second = rw (second, first) (ap (λ (xs : List ℕ). xs ++ rest) (append_assoc out a b) ∙ append_assoc out (a ++ b) rest)

pub push_values-loop-value-preserved : goal.push_values-loop-value-preserved
unfolding json_of_others
push_values-loop-value-preserved t c =
    let kept = rw c.in-Some-value.ensures.steps at c.loop-value.invariant.text in
    let below = rw c.in-Some-value.ensures.steps at c.loop-value.invariant.below in
    record {
      text = two_more _ _ _ _ _ _ c.in_ok-push_bytes.ensures c.in_ok-push_value-2.ensures ∙ kept;
      below = omega (arith, below);
    }

pub push_array-returns : goal.push_array-returns
push_array-returns t c = between c.push_bytes-2.result 91 93 _ _ _ _ _ c.in_ok-push_bytes.ensures c.in_ok-push_values.ensures c.push_bytes-2.ensures

pub push_value-returns-in-Null : goal.push_value-returns-in-Null
unfolding json_of
push_value-returns-in-Null t c = rw c.in-Null.is c.push_bytes.ensures

pub push_value-returns-in-Int : goal.push_value-returns-in-Int
unfolding json_of
push_value-returns-in-Int t c =
    let fits : SFits w128 c.in-Int.number = search rules in
    rw c.in-Int.is (rw (to_z-of_z w128 c.in-Int.number fits) at c.push_number.ensures)

pub push_value-returns-in-Bytes : goal.push_value-returns-in-Bytes
unfolding json_of
push_value-returns-in-Bytes t c = rw c.in-Bytes.is c.push_quoted_hex.ensures

pub push_value-returns-in-List : goal.push_value-returns-in-List
unfolding json_of
push_value-returns-in-List t c = rw c.in-List.is c.push_array.ensures

pub push_value-returns-in-Struct : goal.push_value-returns-in-Struct
unfolding json_of
push_value-returns-in-Struct t c = rw c.in-Struct.is c.push_array-in-Struct.ensures
