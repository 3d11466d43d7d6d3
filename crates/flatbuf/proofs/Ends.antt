-- Where the parts of a tree end.
use Rattle.std.proofs.Common.{◌≡◌, ℕ, ◌+◌, ◌*◌, ◌%◌, ◌≤◌, List, [], ◌∷◌, ◌++◌, length, ap, ◌∙◌, arith, length-append}
use Rattle.std.specs.Prelude.{replicate}
use Rattle.std.proofs.lemmas.List.{length-replicate}
use Rattle.byteorder.specs.Endian.{little_bytes}
use Rattle.byteorder.specs.Numbers.{length-bytes_low_first}
use Rattle.flatbuf.specs.Tree.{Tree, Nodes, Slots, table, text, references, structs, no_node, and_node, no_slot, absent, scalar, refers}
use Rattle.flatbuf.specs.Laid.{gap, count_of, vtable_len, struct_bytes, inline, inline_end, links, vtable, laid, laid_all, laid_slots, starts, slot_starts, table_start, start, metadata}
use Rattle.flatbuf.specs.Ends.{end_at, ends_at, below_ends_at}
use Rattle.flatbuf.specs.laws.Laid.{length-struct_bytes}
use Rattle.flatbuf.proofs.ReadBack.{length-links, length-starts, length-vtable, length-inline}

mutual
  unfolding laid laid_all laid_slots

  pub end_is : (cursor : ℕ) (n : Tree) → cursor + length (laid cursor n) ≡ end_at cursor n
  end_is cursor (text t) =
      let g = gap 4 cursor in
      omega (arith, length-append (replicate g 0) (little_bytes 4 (length t) ++ (t ++ 0 ∷ [])), length-replicate {A = ℕ} g 0, length-append (little_bytes 4 (length t)) (t ++ 0 ∷ []), length-bytes_low_first 0 4 (length t), length-append t (0 ∷ []))
  end_is cursor (structs ps) =
      let g = gap 8 (cursor + 4) in
      omega (arith, length-append (replicate g 0) (little_bytes 4 (length ps) ++ struct_bytes ps), length-replicate {A = ℕ} g 0, length-append (little_bytes 4 (length ps)) (struct_bytes ps), length-bytes_low_first 0 4 (length ps), length-struct_bytes ps)
  end_is cursor (references ns) =
      let g = gap 4 cursor in
      let first = cursor + g + 4 in
      let below = first + 4 * count_of ns in
      let ls = links first (starts below ns) in
      omega (
        arith,
        length-append (replicate g 0) (little_bytes 4 (count_of ns) ++ (ls ++ laid_all below ns)),
        length-replicate {A = ℕ} g 0,
        length-append (little_bytes 4 (count_of ns)) (ls ++ laid_all below ns),
        length-bytes_low_first 0 4 (count_of ns),
        length-append ls (laid_all below ns),
        length-links first (starts below ns),
        length-starts below ns,
        ends_is below ns,
      )
  end_is cursor (table slots) =
      let at = table_start cursor slots in
      let below = at + inline_end 4 slots in
      let ins = inline at 4 (slot_starts below slots) slots in
      omega (
        arith,
        length-append (vtable cursor slots) (little_bytes 4 (vtable_len slots) ++ (ins ++ laid_slots below slots)),
        length-vtable cursor slots,
        length-append (little_bytes 4 (vtable_len slots)) (ins ++ laid_slots below slots),
        length-bytes_low_first 0 4 (vtable_len slots),
        length-append ins (laid_slots below slots),
        length-inline at 4 below slots,
        below_is below slots,
      )

  pub ends_is : (cursor : ℕ) (ns : Nodes) → cursor + length (laid_all cursor ns) ≡ ends_at cursor ns
  ends_is cursor no_node = omega arith
  ends_is cursor (and_node n ns) =
      let next = cursor + length (laid cursor n) in
      let tail : cursor + length (laid cursor n ++ laid_all next ns) ≡ next + length (laid_all next ns) = omega (arith, length-append (laid cursor n) (laid_all next ns)) in
      tail ∙ ends_is next ns ∙ ap (λ k. ends_at k ns) (end_is cursor n)

  pub below_is : (cursor : ℕ) (slots : Slots) → cursor + length (laid_slots cursor slots) ≡ below_ends_at cursor slots
  below_is cursor no_slot = omega arith
  below_is cursor (absent rest) = below_is cursor rest
  below_is cursor (scalar w n rest) = below_is cursor rest
  below_is cursor (refers n rest) =
      let next = cursor + length (laid cursor n) in
      let tail : cursor + length (laid cursor n ++ laid_slots next rest) ≡ next + length (laid_slots next rest) = omega (arith, length-append (laid cursor n) (laid_slots next rest)) in
      tail ∙ below_is next rest ∙ ap (λ k. below_ends_at k rest) (end_is cursor n)

mutual
  pub end_le : (cursor : ℕ) (n : Tree) → cursor ≤ end_at cursor n
  end_le cursor (text t) = omega arith
  end_le cursor (structs ps) = omega arith
  end_le cursor (references ns) = omega (arith, ends_le (cursor + gap 4 cursor + 4 + 4 * count_of ns) ns)
  end_le cursor (table slots) = omega (arith, below_le (table_start cursor slots + inline_end 4 slots) slots)

  pub ends_le : (cursor : ℕ) (ns : Nodes) → cursor ≤ ends_at cursor ns
  ends_le cursor no_node = omega arith
  ends_le cursor (and_node n ns) = omega (arith, end_le cursor n, ends_le (end_at cursor n) ns)

  pub below_le : (cursor : ℕ) (slots : Slots) → cursor ≤ below_ends_at cursor slots
  below_le cursor no_slot = omega arith
  below_le cursor (absent rest) = below_le cursor rest
  below_le cursor (scalar w n rest) = below_le cursor rest
  below_le cursor (refers n rest) = omega (arith, end_le cursor n, below_le (end_at cursor n) rest)

pub start_le : (cursor : ℕ) (n : Tree) → start cursor n ≤ end_at cursor n
start_le cursor (text t) = omega arith
start_le cursor (structs ps) = omega arith
start_le cursor (references ns) = omega (arith, ends_le (cursor + gap 4 cursor + 4 + 4 * count_of ns) ns)
start_le cursor (table slots) = omega (arith, below_le (table_start cursor slots + inline_end 4 slots) slots)

pub metadata_len : (n : Tree) → length (metadata n) ≡ end_at 4 n + gap 8 (end_at 4 n)
unfolding metadata
metadata_len n =
    let fill : List ℕ = replicate (gap 8 (4 + length (laid 4 n))) 0 in
    let ends = end_is 4 n in
    let len : length (metadata n) ≡ 4 + length (laid 4 n) + gap 8 (4 + length (laid 4 n)) = omega (
      arith,
      length-append (little_bytes 4 (start 4 n)) (laid 4 n ++ fill),
      length-bytes_low_first 0 4 (start 4 n),
      length-append (laid 4 n) fill,
      length-replicate {A = ℕ} (gap 8 (4 + length (laid 4 n))) 0,
    ) in
    len ∙ ap (λ k. k + gap 8 k) ends

pub metadata_whole : (n : Tree) → length (metadata n) % 8 ≡ 0
metadata_whole n = omega (arith, metadata_len n)
