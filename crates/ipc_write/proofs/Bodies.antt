-- The buffers of a batch stand in its body, where they were placed.
use Rattle.std.specs.Prelude.{sum_by}
use Rattle.std.proofs.Common.{◌≡◌, ℕ, ◌+◌, ◌*◌, ◌-◌, ◌%◌, ◌≤◌, List, [], ◌∷◌, ◌++◌, map, length, take, drop, replicate, refl, arith, sym, ap, ◌∙◌, length-append, append_assoc}
use Rattle.std.proofs.lemmas.List.{length-replicate}
use Rattle.std.proofs.lemmas.List.Sums.{sum_by-cons}
use Rattle.std.proofs.Math.Seq.{drop-append_seam, take-append_seam}
use Rattle.std.specs.List.{AllByRecursion}
use Rattle.ipc_message.specs.Raw.{RawBuffer}
use Rattle.ipc_write.specs.Written.{padded, body, placed}

abbrev pub zeros_after : List ℕ → List ℕ
zeros_after b = replicate ((8 - length b % 8) % 8) 0

slice_at : (front buffer rest bytes : List ℕ) (at : ℕ) → bytes ≡ front ++ (buffer ++ rest) → at ≡ length front → take (length buffer) (drop at bytes) ≡ buffer
slice_at front buffer rest bytes at is here =
    ap (λ (xs : List ℕ). take (length buffer) (drop at xs)) is
    ∙ ap (λ (n : ℕ). take (length buffer) (drop n (front ++ (buffer ++ rest)))) here
    ∙ ap (take (length buffer)) (drop-append_seam front (buffer ++ rest)) ∙ take-append_seam buffer rest

found_from : (bytes front : List ℕ) (at : ℕ) (buffers : List (List ℕ)) → bytes ≡ front ++ body buffers → at ≡ length front
    → map (λ (b : RawBuffer). take b.length (drop b.offset bytes)) (placed at buffers) ≡ buffers
found_from bytes front at [] is here = refl
found_from bytes front at (b ∷ bs) is here =
    let split : bytes ≡ front ++ (b ++ (zeros_after b ++ body bs)) = is ∙ ap (λ (xs : List ℕ). front ++ xs) (append_assoc b (zeros_after b) (body bs)) in
    let first : take (length b) (drop at bytes) ≡ b = slice_at front b (zeros_after b ++ body bs) bytes at split here in
    let after : at + length (padded b) ≡ length (front ++ padded b) = omega (arith, here, length-append front (padded b)) in
    let rest = found_from bytes (front ++ padded b) (at + length (padded b)) bs (is ∙ sym (append_assoc front (padded b) (body bs))) after in
    λ i. first i ∷ rest i

pub buffers_found : (buffers : List (List ℕ)) → map (λ (b : RawBuffer). take b.length (drop b.offset (body buffers))) (placed 0 buffers) ≡ buffers
buffers_found buffers = found_from (body buffers) [] 0 buffers refl refl

inside_from : (end at : ℕ) (buffers : List (List ℕ)) → at + length (body buffers) ≤ end → AllByRecursion (λ (b : RawBuffer). b.offset + b.length ≤ end) (placed at buffers)
inside_from end at [] fits = tt
inside_from end at (b ∷ bs) fits =
    let whole = length-append (padded b) (body bs) in
    let filled = length-append b (zeros_after b) in
    (omega (arith, fits, whole, filled), inside_from end (at + length (padded b)) bs (omega (arith, fits, whole)))

pub buffers_inside : (buffers : List (List ℕ)) → AllByRecursion (λ (b : RawBuffer). b.offset + b.length ≤ length (body buffers)) (placed 0 buffers)
buffers_inside buffers = inside_from (length (body buffers)) 0 buffers (omega arith)

padded_small : (b : List ℕ) → length (padded b) ≤ length b + 8
padded_small b = omega (arith, length-append b (zeros_after b), length-replicate {A = ℕ} ((8 - length b % 8) % 8) 0)

pub body_small : (buffers : List (List ℕ)) → length (body buffers) ≤ sum_by length buffers + 8 * length buffers
body_small [] = omega arith
body_small (b ∷ bs) = omega (arith, body_small bs, padded_small b, length-append (padded b) (body bs), sum_by-cons (λ (xs : List ℕ). length xs) b bs)
