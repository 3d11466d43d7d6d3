-- Bytes of a text between two places.
use Rattle.std.specs.Prelude.{get_or, slice_index}
use Rattle.std.specs.List.{list_all}
use Rattle.std.proofs.Common.{◌≡◌, ℕ, ◌+◌, ◌-◌, ◌≤◌, ◌<◌, Bool, true, false, List, [], ◌∷◌, ◌++◌, length, take, drop, refl, arith, ap, sym, ◌∙◌, length-drop}
use Rattle.std.proofs.lemmas.Bool.{and_from}
use Rattle.std.proofs.lemmas.List.{drop-drop, get_or-drop, take-append-drop, take_more}
use Rattle.csv.specs.Reading.{is_bom, strip_bom}
use Rattle.std.proofs.lemmas.List.Folds.{list_all-append}
use Rattle.text_columns.specs.inner.Plain.{AllBetween}

pub one_between : (p : ℕ → Bool) (text : List ℕ) (from i : ℕ) → from ≤ i → i < length text → p (slice_index text i) ≡ true → AllBetween p text from i → AllBetween p text from (i + 1)
one_between p text from i le lt is h =
    let size = length-drop from text in
    let room : i - from < length (drop from text) = omega (arith, size) in
    let next : i + 1 - from ≡ i - from + 1 = omega arith in
    let place : from + (i - from) ≡ i = omega arith in
    let byte : get_or (drop from text) (i - from) 0 ≡ get_or text i 0 = get_or-drop from text (i - from) 0 ∙ ap (λ (n : ℕ). get_or text n 0) place in
    ap (λ (n : ℕ). list_all p (take n (drop from text))) next
    ∙ ap (list_all p) (take_more (drop from text) (i - from) 0 room)
    ∙ list_all-append p (take (i - from) (drop from text)) (get_or (drop from text) (i - from) 0 ∷ [])
    ∙ and_from _ _ h (and_from _ _ (ap p byte ∙ is) refl)

-- what stands from a place on, up to another and after it
pub parted : (text : List ℕ) (from end : ℕ) → from ≤ end → drop from text ≡ take (end - from) (drop from text) ++ drop end text
parted text from end le =
    let e : from + (end - from) ≡ end = omega arith in
    sym (take-append-drop (end - from) (drop from text)) ∙ ap (λ (ys : List ℕ). take (end - from) (drop from text) ++ ys) (drop-drop (end - from) from text ∙ ap (λ (n : ℕ). drop n text) e)

-- ---- a byte order mark

pub short_text : (text : List ℕ) → length text < 3 → text ≡ strip_bom text
unfolding strip_bom
short_text [] lt = refl
short_text (a ∷ []) lt = refl
short_text (a ∷ b ∷ []) lt = refl
short_text (a ∷ b ∷ c ∷ rest) lt = absurd (omega arith)

pub marked_text : (text : List ℕ) → 3 ≤ length text → is_bom (slice_index text 0) (slice_index text 1) (slice_index text 2) ≡ true → drop 3 text ≡ strip_bom text
unfolding strip_bom
marked_text [] le h = absurd (omega arith)
marked_text (a ∷ []) le h = absurd (omega arith)
marked_text (a ∷ b ∷ []) le h = absurd (omega arith)
marked_text (a ∷ b ∷ c ∷ rest) le h = rw h refl

pub unmarked_text : (text : List ℕ) → 3 ≤ length text → is_bom (slice_index text 0) (slice_index text 1) (slice_index text 2) ≡ false → text ≡ strip_bom text
unfolding strip_bom
unmarked_text [] le h = absurd (omega arith)
unmarked_text (a ∷ []) le h = absurd (omega arith)
unmarked_text (a ∷ b ∷ []) le h = absurd (omega arith)
unmarked_text (a ∷ b ∷ c ∷ rest) le h = rw h refl
