-- The conditions of the texts so far, and those of the texts that are left.
use Rattle.std.proofs.Common.{◌≡◌, ◌+◌, ◌<◌, ◌≤◌, ℕ, List, [], ◌∷◌, ◌++◌, length, map, get_or, drop, refl, ap, sym, ◌∙◌, append_assoc}
use Rattle.std.specs.Prelude.{Option, Some, None, option_map}
use Rattle.std.specs.Borrow.{Bor}
use Rattle.std.proofs.lemmas.List.{append-nil, drop_all, drop_more}
use Rattle.query.specs.ConditionText.{condition_of}
use Rattle.query.specs.Query.{PlainCondition}
use Rattle.query.specs.Selection.{joined}
use Rattle.cli_commands.specs.Selecting.{conditions_of}

joined_more : {X : Type 0} (so : List X) (x : X) (rest : Option (List X)) → option_map (λ xs. so ++ xs) (joined (Some x) rest) ≡ option_map (λ xs. (so ++ x ∷ []) ++ xs) rest
joined_more so x None = refl
joined_more so x (Some xs) = ap Some (sym (append_assoc so (x ∷ []) xs))

next_text : (texts : List (Bor (List ℕ))) (i : ℕ) (d : Bor (List ℕ)) (so : List PlainCondition) → i < length texts
    → option_map (λ cs. so ++ cs) (conditions_of (map (λ t. t.now) (drop i texts))) ≡ option_map (λ cs. so ++ cs) (joined (condition_of (get_or texts i d).now) (conditions_of (map (λ t. t.now) (drop (i + 1) texts))))
next_text texts i d so lt = ap (λ (ts : List (Bor (List ℕ))). option_map (λ cs. so ++ cs) (conditions_of (map (λ t. t.now) ts))) (drop_more texts i d lt)

-- one condition more
pub condition_more : (texts : List (Bor (List ℕ))) (i : ℕ) (d : Bor (List ℕ)) (so : List PlainCondition) (c : PlainCondition) → i < length texts → condition_of (get_or texts i d).now ≡ Some c
    → option_map (λ cs. so ++ cs) (conditions_of (map (λ t. t.now) (drop i texts))) ≡ option_map (λ cs. (so ++ c ∷ []) ++ cs) (conditions_of (map (λ t. t.now) (drop (i + 1) texts)))
condition_more texts i d so c lt is =
    next_text texts i d so lt
    ∙ ap (λ (o : Option PlainCondition). option_map (λ cs. so ++ cs) (joined o (conditions_of (map (λ t. t.now) (drop (i + 1) texts))))) is
    ∙ joined_more so c (conditions_of (map (λ t. t.now) (drop (i + 1) texts)))

-- the conditions of all texts
pub conditions_end : (texts : List (Bor (List ℕ))) (i : ℕ) (so : List PlainCondition) → length texts ≤ i → option_map (λ cs. so ++ cs) (conditions_of (map (λ t. t.now) (drop i texts))) ≡ Some so
conditions_end texts i so all = ap (λ (ts : List (Bor (List ℕ))). option_map (λ cs. so ++ cs) (conditions_of (map (λ t. t.now) ts))) (drop_all i texts all) ∙ ap Some (append-nil so)
