-- The lines of a text, one by one.
use Rattle.std.proofs.Common.{◌≡◌, ◌∙◌, ℕ, ◌+◌, ◌-◌, ◌<◌, true, false, List, [], ◌∷◌, ◌++◌, length, take, drop, refl, sym, ap, arith}
use Rattle.std.specs.Prelude.{◌==◌, not, get_or, filter}
use Rattle.std.specs.List.{All, slice_split}
use Rattle.std.proofs.lemmas.Bool.{eq-eqb, ne_eqb}
use Rattle.std.proofs.lemmas.List.{drop_more, get_or-take, get_or_default, length-drop, length-take-le, take-append-drop, take_all}
use Rattle.std.proofs.lemmas.List.Splits.{slice_split_at, slice_split_none}
use Rattle.text_import.specs.Objects.{is_blank}

-- the first line of a text ends at its first line feed
pub first_of_lines : (t : List ℕ) (end : ℕ) → end < length t → ((k : ℕ) → k < end → (get_or t k 0 == 10) ≡ true → ⊥) → get_or t end 0 ≡ 10
    → slice_split (λ b. b == 10) t ≡ take end t ∷ slice_split (λ b. b == 10) (drop (end + 1) t)
first_of_lines t end lt none is =
    let parts : t ≡ take end t ++ 10 ∷ drop (end + 1) t = sym (take-append-drop end t) ∙ ap (λ (ys : List ℕ). take end t ++ ys) (drop_more t end 0 lt ∙ ap (λ (x : ℕ). x ∷ drop (end + 1) t) is) in
    let front : All (λ b. (b == 10) ≡ false) (take end t) = λ k d within. (let before : k < end = omega (arith, length-take-le end t (omega arith)) in
    ne_eqb (get_or (take end t) k d) 10 (λ e. none k before (eq-eqb (get_or t k 0) 10 (sym (get_or-take end t k 0 before) ∙ get_or_default (take end t) k 0 d within ∙ e)))) in
    ap (slice_split (λ b. b == 10)) parts ∙ slice_split_at (λ b. b == 10) (take end t) 10 (drop (end + 1) t) front refl

-- a text without one is its only line
pub only_line : (t : List ℕ) → ((k : ℕ) → k < length t → (get_or t k 0 == 10) ≡ true → ⊥) → slice_split (λ b. b == 10) t ≡ t ∷ []
only_line t none = slice_split_none (λ b. b == 10) t (λ k d within. ne_eqb (get_or t k d) 10 (λ e. none k within (eq-eqb (get_or t k 0) 10 (get_or_default t k 0 d within ∙ e))))

-- what is behind a place goes to the end
pub to_the_end : (t : List ℕ) (k : ℕ) → take (length t - k) (drop k t) ≡ drop k t
to_the_end t k = take_all (length t - k) (drop k t) (omega (arith, length-drop k t))

-- the lines that are not blank
abbrev pub filled_lines : List (List ℕ) → List (List ℕ)
filled_lines lines = filter (λ line. not (is_blank line)) lines

pub blank_first : (left others : List (List ℕ)) (line : List ℕ) → left ≡ line ∷ others → is_blank line ≡ true → filled_lines left ≡ filled_lines others
blank_first left others line here e = rw (here, e) refl

pub filled_first : (left others : List (List ℕ)) (line : List ℕ) → left ≡ line ∷ others → is_blank line ≡ false → filled_lines left ≡ line ∷ filled_lines others
filled_first left others line here e = rw (here, e) refl
