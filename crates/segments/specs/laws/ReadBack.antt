-- What is written is read back.
use Rattle.std.specs.Prelude.{◌≡◌, ◌≤◌, ◌<◌, ◌+◌, ◌-◌, ◌*◌, ℕ, suc, zero, List, [], ◌∷◌, ◌++◌, length, take, drop, replicate, Option, Some, None, option_map, refl}
use Rattle.std.proofs.Common.{⊎_elim, sym, ap, ◌∙◌, arith, length-take, length-drop, take-add, take_all, append-nil, take_at, append_assoc}
use Rattle.std.proofs.lemmas.Bool.{cases_eq}
use Rattle.sector_dev.specs.Disk.{Image}
use Rattle.segments.specs.Runs.{StartFrom}
use Rattle.segments.specs.Writing.{runs_of, HoldsEach}
use Rattle.segments.specs.Pieces.{PlainPiece}
use Rattle.segments.specs.Sectors.{sector_count, sector_of, Holds, appended, joined, bytes_at}

-- images that agree on the sectors of a run hold the same contents there
pub same_joined : (a b : Image) (start count : ℕ) → ((j : ℕ) → j < count → a (start + j) ≡ b (start + j)) → joined a start count ≡ joined b start count
same_joined a b start zero same = refl
same_joined a b start (suc count) same = λ i. appended (same_joined a b start count (λ j lt. same j (omega arith)) i) (same count (omega arith) i)

pub same_bytes : (a b : Image) (start bytes : ℕ) → ((j : ℕ) → j < sector_count bytes → a (start + j) ≡ b (start + j)) → bytes_at a start bytes ≡ bytes_at b start bytes
unfolding bytes_at
same_bytes a b start bytes same = ap (option_map (take bytes)) (same_joined a b start (sector_count bytes) same)

-- and what one of them holds, the other one does
pub same_holds : (a b : Image) (start : ℕ) (bytes : List ℕ) → ((j : ℕ) → j < sector_count (length bytes) → b (start + j) ≡ a (start + j)) → Holds a start bytes → Holds b start bytes
unfolding Holds
same_holds a b start bytes same holds j lt = same j lt ∙ holds j lt

-- images that agree from a sector on hold the same pieces there
pub same_pieces : (low : ℕ) (a b : Image) (pieces : List PlainPiece) → StartFrom low (runs_of pieces) → ((n : ℕ) → low ≤ n → b n ≡ a n) → HoldsEach a pieces → HoldsEach b pieces
same_pieces low a b [] above same holds = tt
same_pieces low a b (p ∷ ps) above same holds = (same_holds a b p.run.start p.bytes (λ j lt. same (p.run.start + j) (omega (arith, above.0))) holds.0, same_pieces low a b ps above.1 same holds.1)

-- the first `count` sectors of bytes: the bytes, and zeros after the last of them
front : List ℕ → ℕ → List ℕ
front bytes count = take (512 * count) bytes ++ replicate (512 * count - length bytes) 0

front_more : (bytes : List ℕ) (count : ℕ) → 512 * count < length bytes → front bytes count ++ sector_of bytes count ≡ front bytes (suc count)
unfolding front sector_of
front_more bytes count lt =
    let rest = drop (512 * count) bytes in
    let none : 512 * count - length bytes ≡ 0 = omega arith in
    let zeros : 512 - length (take 512 rest) ≡ 512 * suc count - length bytes = omega (arith, length-take 512 rest, length-drop (512 * count) bytes) in
    let more : 512 * count + 512 ≡ 512 * suc count = omega arith in
    ap (λ z. (take (512 * count) bytes ++ replicate z 0) ++ (take 512 rest ++ replicate (512 - length (take 512 rest)) 0)) none
    ∙ ap (λ front. front ++ (take 512 rest ++ replicate (512 - length (take 512 rest)) 0)) (append-nil (take (512 * count) bytes))
    ∙ sym (append_assoc (take (512 * count) bytes) (take 512 rest) (replicate (512 - length (take 512 rest)) 0))
    ∙ ap (λ front. front ++ replicate (512 - length (take 512 rest)) 0) (sym (take-add (512 * count) 512 bytes))
    ∙ (λ i. take (more i) bytes ++ replicate (zeros i) 0)

joined_front : (image : Image) (start : ℕ) (bytes : List ℕ) (count : ℕ) → count ≤ sector_count (length bytes) → Holds image start bytes → joined image start count ≡ Some (front bytes count)
unfolding Holds front
joined_front image start bytes zero le holds = let none : 0 - length bytes ≡ 0 = omega arith in ap (λ z. Some (replicate z 0)) (sym none)
joined_front image start bytes (suc count) le holds =
    (λ i. appended (joined_front image start bytes count (omega arith) holds i) (holds count (omega arith) i))
    ∙ ap Some (front_more bytes count (omega arith))

-- a run that holds bytes is read as these bytes
pub read_back : (image : Image) (start : ℕ) (bytes : List ℕ) → Holds image start bytes → bytes_at image start (length bytes) ≡ Some bytes
unfolding bytes_at front
read_back image start bytes holds =
    let count = sector_count (length bytes) in
    let whole : length bytes ≤ 512 * count = omega arith in
    ap (option_map (take (length bytes))) (joined_front image start bytes count (omega arith) holds)
    ∙ ap (λ front. Some (take (length bytes) (front ++ replicate (512 * count - length bytes) 0))) (take_all (512 * count) bytes whole)
    ∙ ap Some (take_at bytes (replicate (512 * count - length bytes) 0) (length bytes) refl)

-- if a sector can't be read, neither can the bytes
pub none_joined : (image : Image) (start count j : ℕ) → j < count → image (start + j) ≡ None → joined image start count ≡ None
none_joined image start zero j lt none = absurd (omega arith)
none_joined image start (suc count) j lt none =
    ⊎_elim (λ (here : j ≡ count). behind (joined image start count) (ap (λ k. image (start + k)) (sym here) ∙ none))
    (λ (before : j ≡ count → ⊥). ap (λ front. appended front (image (start + count))) (none_joined image start count j (omega arith) none))
    (cases_eq j count)
  where
    behind : (front : Option (List ℕ)) → image (start + count) ≡ None → appended front (image (start + count)) ≡ None
    behind (Some xs) is = ap (appended (Some xs)) is
    behind None is = refl

pub none_at : (image : Image) (start bytes j : ℕ) → j < sector_count bytes → image (start + j) ≡ None → bytes_at image start bytes ≡ None
unfolding bytes_at
none_at image start bytes j lt none = ap (option_map (take bytes)) (none_joined image start (sector_count bytes) j lt none)
