-- The sectors of some bytes.
use Rattle.std.proofs.Common.{◌≡◌, ◌≤◌, ◌<◌, ◌+◌, ◌-◌, ◌*◌, ℕ, zero, suc, List, [], ◌++◌, length, take, drop, replicate, get_or, refl, ap, ◌∙◌, arith, length-take, length-drop, take_all, append-nil, drop-drop}
use Rattle.std.specs.Simd.{first_chunks}
use Rattle.segments.specs.Sectors.{filled, sector_of}

-- a whole chunk of some bytes
pub chunk_at : (count : ℕ) (bytes : List ℕ) (j : ℕ) → j < count → get_or (first_chunks 512 count bytes) j [] ≡ take 512 (drop (512 * j) bytes)
chunk_at zero bytes j lt = absurd (omega arith)
chunk_at (suc count) bytes zero lt = refl
chunk_at (suc count) bytes (suc j) lt =
    let further : 512 + 512 * j ≡ 512 * suc j = omega arith in
    chunk_at count (drop 512 bytes) j (omega arith) ∙ ap (take 512) (drop-drop (512 * j) 512 bytes ∙ ap (λ n. drop n bytes) further)

filled_whole : (bytes : List ℕ) → length bytes ≡ 512 → filled bytes ≡ bytes
filled_whole bytes full = let none : 512 - length bytes ≡ 0 = omega arith in ap (λ n. bytes ++ replicate n 0) none ∙ append-nil bytes

-- a sector that the bytes fill, and the one that they don't
pub sector_whole : (bytes : List ℕ) (j : ℕ) → 512 * j + 512 ≤ length bytes → sector_of bytes j ≡ take 512 (drop (512 * j) bytes)
unfolding sector_of
sector_whole bytes j le = filled_whole (take 512 (drop (512 * j) bytes)) (omega (arith, length-take 512 (drop (512 * j) bytes), length-drop (512 * j) bytes))

pub sector_last : (bytes : List ℕ) (j : ℕ) → length bytes ≤ 512 * j + 512 → sector_of bytes j ≡ filled (drop (512 * j) bytes)
unfolding sector_of
sector_last bytes j le = ap filled (take_all 512 (drop (512 * j) bytes) (omega (arith, length-drop (512 * j) bytes)))
