-- The condition that a text states: `NAME OP LITERAL`, `NAME is null` or `NAME is not null`, with single spaces between the parts.
use Rattle.std.specs.Prelude.{ℕ, Bool, ◌==◌, bytes_eq, List, [], ◌∷◌, codes, Option, Some, None, is_some, option_map, find, position, if◌then◌else◌}
use Rattle.std.specs.List.{before_first, after_first}
use Rattle.std.specs.Option.{option_and_then}
use Rattle.query.specs.declared.operator.Operator.{Operator}
use Rattle.query.specs.declared.operator.Operator.TheVariants.{Equal, NotEqual, Less, AtMost, Greater, AtLeast}
use Rattle.query.specs.Query.{PlainTest, null_test, value_test, comparison, PlainCondition}

abbrev pub is_space : ℕ → Bool
is_space b = b == 32

-- the text before the first space, and the text after it
unfoldable pub split_at_space : List ℕ → Option (List ℕ × List ℕ)
split_at_space text = if is_some (position is_space text) then Some (before_first is_space text, after_first is_space text) else None

abbrev pub operator_text : Operator → List ℕ
operator_text Equal = codes "="
operator_text NotEqual = codes "!="
operator_text Less = codes "<"
operator_text AtMost = codes "<="
operator_text Greater = codes ">"
operator_text AtLeast = codes ">="

abbrev pub every_operator : List Operator
every_operator = Equal ∷ NotEqual ∷ Less ∷ AtMost ∷ Greater ∷ AtLeast ∷ []

-- the operator that has this text
unfoldable pub operator_of : List ℕ → Option Operator
operator_of text = find (λ o. bytes_eq (operator_text o) text) every_operator

-- an operator and a literal, which is all that follows and may be empty
unfoldable pub comparison_of : List ℕ → Option PlainTest
comparison_of text = option_and_then (λ p. option_map (λ o. comparison o p.1) (operator_of p.0)) (split_at_space text)

unfoldable pub test_of : List ℕ → Option PlainTest
test_of text =
    if bytes_eq text (codes "is null") then Some null_test
    else if bytes_eq text (codes "is not null") then Some value_test
    else comparison_of text

-- a name, which has no space and may be empty, and a test
unfoldable pub condition_of : List ℕ → Option PlainCondition
condition_of text = option_and_then (λ p. option_map (λ t. record { column = p.0; test = t }) (test_of p.1)) (split_at_space text)
