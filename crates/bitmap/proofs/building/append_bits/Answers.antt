use Rattle.std.proofs.Common.{◌≡◌, ℕ, ◌≤◌, List, ◌++◌, length, take, sym, ap, ◌∙◌, arith}
use Rattle.std.specs.Int.{bytes_low_first}
use Rattle.bitmap.specs.Bits.{bytes_of, packed_in}
use Rattle.bitmap.proofs.Builds.{front_bytes}
use Rattle.bitmap.proofs.building.append_bits.Goals as goal

pub returns-clause-ok : goal.returns-clause-ok
returns-clause-ok c = λ bits size is.
    let old = c.args.bytes.now.items in
    let n = c.bytes_for.result in
    let few : n ≤ 8 = omega (arith, c.bytes_for.ensures, c.requires) in
    let count : n ≡ bytes_of (length bits) = c.bytes_for.ensures ∙ ap bytes_of (sym size) in
    c.in_ok-extend_from_slice.ensures.items
    ∙ ap (λ (bytes : List ℕ). old ++ take n bytes) c.to_le_bytes.ensures
    ∙ ap (λ word. old ++ take n (bytes_low_first 0 8 word)) (sym is)
    ∙ ap (λ (bytes : List ℕ). old ++ bytes) (front_bytes bits n few)
    ∙ ap (λ k. old ++ packed_in k bits) count
