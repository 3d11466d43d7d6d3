-- The front of a file.
use Rattle.std.proofs.Common.{◌≡◌, ◌≤◌, ◌+◌, ◌++◌, ◌∙◌, ℕ, List, [], length, take, Option, Some, None, option_map, ap, subst, arith}
use Rattle.std.specs.Prelude.{IfSome, min}
use Rattle.std.proofs.lemmas.List.{take_all, length-take}

-- what is read up to a limit
pub read_front : (n : ℕ) (remaining : Option (List ℕ)) (bytes : List ℕ) → IfSome (option_map (take n) remaining) (λ xs. bytes ≡ xs) → IfSome remaining (λ all. bytes ≡ take n all)
read_front n None bytes is = tt
read_front n (Some all) bytes is = is

front_whole : (n : ℕ) (bytes all : List ℕ) → length bytes ≤ n → bytes ≡ take (n + 1) all → length all ≤ n + 1
front_whole n bytes all few is =
    let count : length bytes ≡ min (n + 1) (length all) = ap length is ∙ length-take (n + 1) all in
    omega arith

-- a front that is shorter than it may be is all
pub whole_front : (n : ℕ) (remaining : Option (List ℕ)) (bytes : List ℕ) → length bytes ≤ n → IfSome remaining (λ all. bytes ≡ take (n + 1) all) → IfSome remaining (λ all. bytes ≡ all)
whole_front n None bytes few is = tt
whole_front n (Some all) bytes few is = is ∙ take_all (n + 1) all (front_whole n bytes all few is)

-- what is read of a file, into a list that was empty
pub front_read : {F : Type 0} (remaining : F → Option (List ℕ)) (n : ℕ) (file inner : F) (limit : ℕ) (old new : List ℕ) → limit ≡ n → inner ≡ file → old ≡ []
    → IfSome (option_map (take limit) (remaining inner)) (λ xs. new ≡ old ++ xs) → IfSome (remaining file) (λ all. new ≡ take n all)
front_read {F} remaining n file inner limit old new at_limit of_file none given =
    let limited = subst (λ (m : ℕ). IfSome (option_map (take m) (remaining inner)) (λ xs. new ≡ old ++ xs)) at_limit given in
    let of_it = subst (λ (f : F). IfSome (option_map (take n) (remaining f)) (λ xs. new ≡ old ++ xs)) of_file limited in
    let alone = subst (λ (os : List ℕ). IfSome (option_map (take n) (remaining file)) (λ xs. new ≡ os ++ xs)) none of_it in
    read_front n (remaining file) new alone
