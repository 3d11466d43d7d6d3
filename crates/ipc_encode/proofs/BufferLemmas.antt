-- The bytes of buffers, as a loop goes over them.
use Rattle.std.proofs.Common.{◌≡◌, ℕ, ◌+◌, ◌<◌, List, [], ◌∷◌, ◌++◌, Bor, map, length, get_or, take, drop, ap, sym, ◌∙◌, append_assoc, length-append}
use Rattle.std.proofs.lemmas.List.{drop_more, map_push}
use Rattle.facts.specs.laws.Lists.{drop-item, flat_map-item, flat_map-push, take-item}
use Rattle.batch_build.specs.Batch.{buffer_bytes, buffers_in, built_bytes, joined_slices}
use Rattle.batch_build.specs.declared.batch.Buffer.{Buffer}
use Rattle.batch_build.specs.declared.batch.BuiltBuffer.{BuiltBuffer}
use Rattle.ipc_encode.specs.View.{joined_parts}

-- one more length is seen
pub lengths_more : (bs : List BuiltBuffer) (i : ℕ) (b : BuiltBuffer) (n : ℕ) → i < length bs → b ≡ get_or bs i b → n ≡ length (built_bytes b)
    → map length (buffers_in (take (i + 1) bs)) ≡ map length (buffers_in (take i bs)) ++ n ∷ []
lengths_more bs i b n lt is same =
    let before : List ℕ = map length (buffers_in (take i bs)) in
    let one : buffers_in (take (i + 1) bs) ≡ buffers_in (take i bs) ++ built_bytes b ∷ [] = ap buffers_in (take-item bs i b lt is) ∙ map_push built_bytes (take i bs) b in
    ap (λ (xs : List (List ℕ)). map length xs) one ∙ map_push (λ (xs : List ℕ). length xs) (buffers_in (take i bs)) (built_bytes b)
    ∙ ap (λ (k : ℕ). before ++ k ∷ []) (sym same)

-- the bytes of the part at a place stand before those after it
joined_next : (bs : List Buffer) (i : ℕ) (b : Buffer) (bytes : List ℕ) → i < length bs → b ≡ get_or bs i b → bytes ≡ buffer_bytes b → joined_parts (drop i bs) ≡ bytes ++ joined_parts (drop (i + 1) bs)
joined_next bs i b bytes lt is same = ap joined_parts (drop-item bs i b lt is) ∙ ap (λ (xs : List ℕ). xs ++ joined_parts (drop (i + 1) bs)) (sym same)

pub joined_len : (bs : List Buffer) (i : ℕ) (b : Buffer) (bytes : List ℕ) → i < length bs → b ≡ get_or bs i b → bytes ≡ buffer_bytes b
    → length (joined_parts (drop i bs)) ≡ length bytes + length (joined_parts (drop (i + 1) bs))
joined_len bs i b bytes lt is same = ap (λ (xs : List ℕ). length xs) (joined_next bs i b bytes lt is same) ∙ length-append bytes (joined_parts (drop (i + 1) bs))

pub joined_more : (bs : List Buffer) (i : ℕ) (b : Buffer) (bytes old new all : List ℕ) → i < length bs → b ≡ get_or bs i b → bytes ≡ buffer_bytes b → new ≡ old ++ bytes → old ++ joined_parts (drop i bs) ≡ all
    → new ++ joined_parts (drop (i + 1) bs) ≡ all
joined_more bs i b bytes old new all lt is same added was =
    ap (λ (xs : List ℕ). xs ++ joined_parts (drop (i + 1) bs)) added
    ∙ append_assoc old bytes (joined_parts (drop (i + 1) bs))
    ∙ ap (λ (xs : List ℕ). old ++ xs) (sym (joined_next bs i b bytes lt is same))
    ∙ was

-- one slice more is joined
pub slice_joined : (ss : List (Bor (List ℕ))) (i : ℕ) (d : Bor (List ℕ)) (old new all : List ℕ) → i < length ss → new ≡ old ++ (get_or ss i d).now → old ++ joined_slices (drop i ss) ≡ all
    → new ++ joined_slices (drop (i + 1) ss) ≡ all
slice_joined ss i d old new all lt added was =
    ap (λ (xs : List ℕ). xs ++ joined_slices (drop (i + 1) ss)) added
    ∙ append_assoc old (get_or ss i d).now (joined_slices (drop (i + 1) ss))
    ∙ sym (ap (λ (left : List (Bor (List ℕ))). old ++ joined_slices left) (drop_more ss i d lt))
    ∙ was

-- a part more
pub part_joined : (old new : List Buffer) (part : Buffer) → new ≡ old ++ part ∷ [] → joined_parts new ≡ joined_parts old ++ buffer_bytes part
part_joined old new part added = ap joined_parts added ∙ flat_map-push buffer_bytes old part

-- the parts so far, with one more
pub parts_taken : (parts : List Buffer) (i : ℕ) (part : Buffer) (bytes : List ℕ) → i < length parts → part ≡ get_or parts i part → bytes ≡ buffer_bytes part
    → joined_parts (take (i + 1) parts) ≡ joined_parts (take i parts) ++ bytes
parts_taken parts i part bytes within is same = flat_map-item buffer_bytes parts i part within is ∙ ap (λ (xs : List ℕ). joined_parts (take i parts) ++ xs) (sym same)
