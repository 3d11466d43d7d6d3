-- The offset at which all ends, after those at which each begins.
use Rattle.std.specs.List.{flat_map}
use Rattle.std.proofs.Common.{◌≡◌, ◌≤◌, ◌++◌, ◌∙◌, ℕ, List, [], ap, drop, length, sym}
use Rattle.std.proofs.lemmas.List.{append-nil, drop_all}
use Rattle.byteorder.specs.Endian.{little_bytes}
use Rattle.columns.specs.Built.{sums_from}

pub last_offset : {X : Type 0} (w : ℕ) (sizes : List X → List ℕ) (made new all : List ℕ) (end : ℕ) (xs : List X) (i : ℕ) → sizes [] ≡ [] → length xs ≤ i → new ≡ made ++ little_bytes w end
    → made ++ flat_map (little_bytes w) (sums_from end (sizes (drop i xs))) ≡ all → new ≡ all
last_offset w sizes made new all end xs i none past added kept =
    added ∙ ap (λ bytes. made ++ bytes) (sym (append-nil (little_bytes w end)))
    ∙ ap (λ ns. made ++ flat_map (little_bytes w) (sums_from end ns)) (sym (ap sizes (drop_all i xs past) ∙ none)) ∙ kept
