-- Buffers of the same lengths: where they stand, and how long their body is.
use Rattle.std.specs.Prelude.{false}
use Rattle.std.proofs.Common.{◌≡◌, ℕ, ◌+◌, ◌-◌, ◌%◌, List, [], ◌∷◌, map, length, replicate, refl, arith, sym, ap, ◌∙◌, length-append}
use Rattle.std.proofs.lemmas.List.{length-map, length-replicate}
use Rattle.ipc_message.specs.Raw.{RawNode, RawBuffer}
use Rattle.ipc_write.specs.Trees.{batch_tree, buffer_pair}
use Rattle.ipc_write.specs.Written.{padded, body, placed, batch_of, HasRoom}
use Rattle.ipc_write.specs.inner.Zeros.{zeros}

pub length-padded : (b : List ℕ) → length (padded b) ≡ length b + (8 - length b % 8) % 8
length-padded b = length-append b (replicate ((8 - length b % 8) % 8) 0) ∙ ap (λ (n : ℕ). length b + n) (length-replicate {A = ℕ} ((8 - length b % 8) % 8) 0)

same_padded : (b c : List ℕ) → length b ≡ length c → length (padded b) ≡ length (padded c)
same_padded b c same = length-padded b ∙ ap (λ (n : ℕ). n + (8 - n % 8) % 8) same ∙ sym (length-padded c)

first_length : (b c : List ℕ) (bs cs : List (List ℕ)) → map length (b ∷ bs) ≡ map length (c ∷ cs) → length b ≡ length c
first_length b c bs cs same = cc

other_lengths : (b c : List ℕ) (bs cs : List (List ℕ)) → map length (b ∷ bs) ≡ map length (c ∷ cs) → map length bs ≡ map length cs
other_lengths b c bs cs same = cc

same_body : (buffers others : List (List ℕ)) → map length buffers ≡ map length others → length (body buffers) ≡ length (body others)
same_body [] [] same = refl
same_body [] (c ∷ cs) same = cc
same_body (b ∷ bs) [] same = cc
same_body (b ∷ bs) (c ∷ cs) same =
    let first = same_padded b c (first_length b c bs cs same) in
    let rest = same_body bs cs (other_lengths b c bs cs same) in
    omega (arith, first, rest, length-append (padded b) (body bs), length-append (padded c) (body cs))

same_placed : (at : ℕ) (buffers others : List (List ℕ)) → map length buffers ≡ map length others → placed at buffers ≡ placed at others
same_placed at [] [] same = refl
same_placed at [] (c ∷ cs) same = cc
same_placed at (b ∷ bs) [] same = cc
same_placed at (b ∷ bs) (c ∷ cs) same =
    let first : length b ≡ length c = first_length b c bs cs same in
    let rest : placed (at + length (padded b)) bs ≡ placed (at + length (padded c)) cs =
    same_placed (at + length (padded b)) bs cs (other_lengths b c bs cs same) ∙ ap (λ (n : ℕ). placed (at + n) cs) (same_padded b c first) in
    let placed_at : ℕ → RawBuffer = λ n. record { offset = at; length = n } in
    λ i. placed_at (first i) ∷ rest i

-- ---- buffers of given lengths

pub zeros_long : (lengths : List ℕ) → map length (zeros lengths) ≡ lengths
zeros_long [] = refl
zeros_long (n ∷ ns) =
    let first : length (replicate n 0) ≡ n = length-replicate n 0 in
    let rest : map length (zeros ns) ≡ ns = zeros_long ns in
    λ i. first i ∷ rest i

padded_long : (n : ℕ) → length (padded (replicate n 0)) ≡ n + (8 - n % 8) % 8
padded_long n = length-padded (replicate n 0) ∙ ap (λ (k : ℕ). k + (8 - k % 8) % 8) (length-replicate n 0)

-- the place of one buffer, and those of the others behind it
pub next_placed : (at n : ℕ) (ns : List ℕ)
    → map buffer_pair (placed at (zeros (n ∷ ns))) ≡ (at, n) ∷ map buffer_pair (placed (at + (n + (8 - n % 8) % 8)) (zeros ns))
next_placed at n ns =
    let long : length (replicate n 0) ≡ n = length-replicate n 0 in
    let end : length (padded (replicate n 0)) ≡ n + (8 - n % 8) % 8 = padded_long n in
    λ i. (at, long i) ∷ map buffer_pair (placed (at + end i) (zeros ns))

pub next_body : (n : ℕ) (ns : List ℕ) → length (body (zeros (n ∷ ns))) ≡ (n + (8 - n % 8) % 8) + length (body (zeros ns))
next_body n ns = length-append (padded (replicate n 0)) (body (zeros ns)) ∙ ap (λ (k : ℕ). k + length (body (zeros ns))) (padded_long n)

-- a message has room for buffers of the same lengths
pub room_for_zeros : (nodes : ℕ) (lengths : List ℕ) (buffers : List (List ℕ)) → map length buffers ≡ lengths → HasRoom nodes buffers → HasRoom nodes (zeros lengths)
room_for_zeros nodes lengths buffers same room =
    let long : map length (zeros lengths) ≡ map length buffers = zeros_long lengths ∙ sym same in
    let count : length (zeros lengths) ≡ length buffers =
    sym (length-map (zeros lengths) length) ∙ ap (λ (ns : List ℕ). length ns) long ∙ length-map buffers length in
    record {
      few_nodes = room.few_nodes;
      few_buffers = rw count room.few_buffers;
      short_body = rw (same_body (zeros lengths) buffers long) room.short_body;
    }

-- the batch of buffers of given lengths
pub same_batch : (rows : ℕ) (nodes : List RawNode) (lengths : List ℕ) (buffers : List (List ℕ)) → map length buffers ≡ lengths
    → batch_tree (batch_of rows nodes (zeros lengths)) ≡ batch_tree (batch_of rows nodes buffers)
same_batch rows nodes lengths buffers same =
    ap (λ (places : List RawBuffer). batch_tree (record { length = rows; nodes = nodes; buffers = places; compressed = false }))
    (same_placed 0 (zeros lengths) buffers (zeros_long lengths ∙ sym same))

pub same_end : (lengths : List ℕ) (buffers : List (List ℕ)) → map length buffers ≡ lengths → length (body (zeros lengths)) ≡ length (body buffers)
same_end lengths buffers same = same_body (zeros lengths) buffers (zeros_long lengths ∙ sym same)
