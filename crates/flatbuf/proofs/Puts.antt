-- What an emitted part leaves to be emitted.
use Rattle.std.proofs.Common.{◌≡◌, ◌<◌, ℕ, ◌+◌, ◌-◌, ◌*◌, List, ◌∷◌, ◌++◌, map, length, drop, get_or, add-one, drop-cons, subst, refl, sym, ap, ◌∙◌, append_assoc, arith, length-append}
use Rattle.std.specs.Prelude.{replicate}
use Rattle.byteorder.specs.Endian.{little_bytes}
use Rattle.byteorder.specs.Numbers.{length-bytes_low_first}
use Rattle.flatbuf.specs.declared.nodes.Node.{Node}
use Rattle.flatbuf.specs.declared.nodes.Slot.{Slot}
use Rattle.flatbuf.specs.Tree.{Tree, Nodes, Slots, table, references, scalar, refers}
use Rattle.flatbuf.specs.Laid.{gap, count_of, table_start, inline, inline_end, vtable, vtable_len, distances, links, laid, laid_all, laid_slots, starts, slot_starts, start, struct_bytes, metadata}
use Rattle.flatbuf.specs.Ends.{end_at, ends_at, below_ends_at}
use Rattle.flatbuf.specs.View.{node_of, nodes_of, slot_before, slots_in}
use Rattle.facts.specs.laws.Lists.{drop-item}
use Rattle.flatbuf.proofs.Ends.{end_is, ends_is, below_is}
use Rattle.flatbuf.proofs.ReadBack.{length-inline, length-links, length-starts, length-vtable}
use Rattle.std.proofs.lemmas.List.{length-replicate}

-- the next part of what is left
pub next_part : (old new x rest whole : List ℕ) → new ≡ old ++ x → old ++ (x ++ rest) ≡ whole → new ++ rest ≡ whole
next_part old new x rest whole e h = rw e (append_assoc old x rest ∙ h)

pub length_more : (old new x : List ℕ) → new ≡ old ++ x → length new ≡ length old + length x
length_more old new x e = ap length e ∙ length-append old x

pub length_gap : (old new : List ℕ) (m from : ℕ) → new ≡ old ++ replicate (gap m from) 0 → length new ≡ length old + gap m from
length_gap old new m from e = omega (arith, length_more old new _ e, length-replicate {A = ℕ} (gap m from) 0)

pub scalar_put : (old new field : List ℕ) (at offset end w n : ℕ) (positions : List ℕ) (rest : Slots) → field ≡ little_bytes w n → new ≡ old ++ (replicate (gap (length field) offset) 0 ++ field) → end ≡ offset + gap (length field) offset + length field
    → new ++ inline at end positions rest ≡ old ++ inline at offset positions (scalar w n rest)
unfolding inline
scalar_put old new field at offset end w n positions rest is e f =
    rw (f, e, is, length-bytes_low_first 0 w n) (append_assoc old _ _ ∙ ap (λ (t : List ℕ). old ++ t) (append_assoc (replicate (gap w offset) 0) (little_bytes w n) _))

-- where a number of n bytes ends
pub field_end : (field : List ℕ) (offset end w n : ℕ) → field ≡ little_bytes w n → end ≡ offset + gap (length field) offset + length field → end ≡ offset + gap w offset + w
field_end field offset end w n is e = rw (e, is, length-bytes_low_first 0 w n) refl

pub refers_put : (old new field : List ℕ) (at offset end d cursor next : ℕ) (t : Tree) (rest : Slots) → field ≡ little_bytes 4 d → new ≡ old ++ (replicate (gap (length field) offset) 0 ++ field) → end ≡ offset + gap (length field) offset + length field
    → d ≡ start cursor t - (at + offset + gap 4 offset) → next ≡ end_at cursor t
    → new ++ inline at end (slot_starts next rest) rest ≡ old ++ inline at offset (slot_starts cursor (refers t rest)) (refers t rest)
unfolding inline slot_starts
refers_put old new field at offset end d cursor next t rest is e f g h =
    let to : next ≡ cursor + length (laid cursor t) = h ∙ sym (end_is cursor t) in
    rw (f, e, is, length-bytes_low_first 0 4 d, g, to) (append_assoc old _ _ ∙ ap (λ (x : List ℕ). old ++ x) (append_assoc (replicate (gap 4 offset) 0) (little_bytes 4 (start cursor t - (at + offset + gap 4 offset))) _))

pub links_put : (old new whole : List ℕ) (d cursor next i : ℕ) (ns : List Node) (n : Node) → i < length ns → n ≡ get_or ns i n → new ≡ old ++ little_bytes 4 d → d ≡ start cursor (node_of n) - length old
    → next ≡ end_at cursor (node_of n) → old ++ links (length old) (starts cursor (nodes_of (map node_of (drop i ns)))) ≡ whole
    → new ++ links (length new) (starts next (nodes_of (map node_of (drop (i + 1) ns)))) ≡ whole
unfolding links starts
links_put old new whole d cursor next i ns n lt is e f g h =
    let to : next ≡ cursor + length (laid cursor (node_of n)) = g ∙ sym (end_is cursor (node_of n)) in
    let len : length new ≡ length old + 4 = ap length e ∙ length-append old (little_bytes 4 d) in
    let left = rw (drop-item ns i n lt is) at h in
    next_part old new (little_bytes 4 d) _ whole e (rw (f, to, len) left)

pub pairs_put : (old new whole : List ℕ) (i : ℕ) (ps : List (ℕ × ℕ)) (d : ℕ × ℕ) → i < length ps → new ≡ old ++ (little_bytes 8 (get_or ps i d).0 ++ little_bytes 8 (get_or ps i d).1)
    → old ++ struct_bytes (drop i ps) ≡ whole → new ++ struct_bytes (drop (i + 1) ps) ≡ whole
unfolding struct_bytes
pairs_put old new whole i ps d lt e h =
    let p = get_or ps i d in
    let next : drop i ps ≡ p ∷ drop (i + 1) ps = rw (add-one, drop-cons ps i d lt) refl in
    let left : old ++ struct_bytes (p ∷ drop (i + 1) ps) ≡ whole = subst (λ (t : List (ℕ × ℕ)). old ++ struct_bytes t ≡ whole) next h in
    let rest = struct_bytes (drop (i + 1) ps) in
    rw e (append_assoc old _ rest ∙ ap (λ (t : List ℕ). old ++ t) (append_assoc (little_bytes 8 p.0) (little_bytes 8 p.1) rest) ∙ left)

pub vtable_put : (old a b c new : List ℕ) (n : ℕ) (slots : Slots) → n ≡ vtable_len slots → a ≡ old ++ replicate (gap 8 (length old + n)) 0 → b ≡ a ++ little_bytes 2 n → c ≡ b ++ little_bytes 2 (inline_end 4 slots)
    → new ≡ c ++ distances 4 slots → new ≡ old ++ vtable (length old) slots
vtable_put old a b c new n slots is e f g h =
    let p = little_bytes 2 (vtable_len slots) in
    let q = little_bytes 2 (inline_end 4 slots) in
    let d = distances 4 slots in
    let z : List ℕ = replicate (gap 8 (length old + vtable_len slots)) 0 in
    let grouped : (((old ++ z) ++ p) ++ q) ++ d ≡ old ++ (z ++ (p ++ (q ++ d))) = simp append_assoc in
    rw (h, g, f, e, is) grouped

-- how far the inline part has come
pub inline_len : (old new : List ℕ) (at offset cursor below : ℕ) (rest all : Slots) → new ++ inline at offset (slot_starts cursor rest) rest ≡ old ++ inline at 4 (slot_starts below all) all
    → inline_end offset rest ≡ inline_end 4 all → length new + 4 ≡ length old + offset
inline_len old new at offset cursor below rest all e f =
    let a = inline at offset (slot_starts cursor rest) rest in
    let b = inline at 4 (slot_starts below all) all in
    omega (arith, ap length e, length-append new a, length-append old b, length-inline at offset cursor rest, length-inline at 4 below all)

pub head_put : (old a b c : List ℕ) (at below : ℕ) (slots : Slots) → at ≡ table_start (length old) slots → below ≡ at + inline_end 4 slots → a ≡ old ++ vtable (length old) slots → b ≡ a ++ little_bytes 4 (vtable_len slots)
    → c ≡ b ++ inline at 4 (slot_starts below slots) slots → c ++ laid_slots (length c) slots ≡ old ++ laid (length old) (table slots)
unfolding laid
head_put old a b c at below slots start_is below_at e f g =
    let ins = inline at 4 (slot_starts below slots) slots in
    let len_a = length_more old a _ e in
    let len_b = length_more a b _ f in
    let len_c = length_more b c ins g in
    let end : length c ≡ below = omega (arith, len_a, len_b, len_c, length-vtable (length old) slots, length-bytes_low_first 0 4 (vtable_len slots), length-inline at 4 below slots) in
    let grouped : ((old ++ vtable (length old) slots) ++ little_bytes 4 (vtable_len slots)) ++ ins ++ laid_slots below slots ≡ old ++ (vtable (length old) slots ++ (little_bytes 4 (vtable_len slots) ++ (ins ++ laid_slots below slots)))
    = simp append_assoc in
    rw (end, g, f, e) (rw (← start_is, ← below_at) grouped)

pub vector_put : (old a b c : List ℕ) (below count : ℕ) (ns : Nodes) → a ≡ old ++ replicate (gap 4 (length old)) 0 → count ≡ count_of ns → b ≡ a ++ little_bytes 4 count → below ≡ length b + 4 * count
    → c ≡ b ++ links (length b) (starts below ns) → c ++ laid_all (length c) ns ≡ old ++ laid (length old) (references ns)
unfolding laid
vector_put old a b c below count ns e is f at_below g =
    let z : List ℕ = replicate (gap 4 (length old)) 0 in
    let n = little_bytes 4 (count_of ns) in
    let first = length old + gap 4 (length old) + 4 in
    let len_a = length_more old a z e in
    let len_b : length b ≡ first = omega (arith, length_more a b (little_bytes 4 count) f, len_a, length-replicate {A = ℕ} (gap 4 (length old)) 0, length-bytes_low_first 0 4 count) in
    let under : below ≡ first + 4 * count_of ns = omega (arith, len_b, at_below, is) in
    let ls = links first (starts (first + 4 * count_of ns) ns) in
    let len_c = length_more b c _ g in
    let end : length c ≡ first + 4 * count_of ns = omega (arith, len_c, len_b, length-links (length b) (starts below ns), length-starts below ns) in
    let grouped : (((old ++ z) ++ n) ++ ls) ++ laid_all (first + 4 * count_of ns) ns ≡ old ++ (z ++ (n ++ (ls ++ laid_all (first + 4 * count_of ns) ns))) = simp append_assoc in
    rw (end, g, len_b, under, f, is, e) grouped

-- what is left of a table and of a vector of references ends where it all does
pub below_kept : (old new : List ℕ) (rest all : Slots) → new ++ laid_slots (length new) rest ≡ old ++ laid (length old) (table all) → below_ends_at (length new) rest ≡ end_at (length old) (table all)
below_kept old new rest all e =
    let a = laid_slots (length new) rest in
    let b = laid (length old) (table all) in
    sym (below_is (length new) rest) ∙ (sym (length-append new a) ∙ ap length e ∙ length-append old b) ∙ end_is (length old) (table all)

pub ends_kept : (old new : List ℕ) (rest all : Nodes) → new ++ laid_all (length new) rest ≡ old ++ laid (length old) (references all) → ends_at (length new) rest ≡ end_at (length old) (references all)
ends_kept old new rest all e =
    let a = laid_all (length new) rest in
    let b = laid (length old) (references all) in
    sym (ends_is (length new) rest) ∙ (sym (length-append new a) ∙ ap length e ∙ length-append old b) ∙ end_is (length old) (references all)

pub node_put : (old new whole : List ℕ) (i : ℕ) (ns : List Node) (n : Node) → i < length ns → n ≡ get_or ns i n → new ≡ old ++ laid (length old) (node_of n)
    → old ++ laid_all (length old) (nodes_of (map node_of (drop i ns))) ≡ whole → new ++ laid_all (length new) (nodes_of (map node_of (drop (i + 1) ns))) ≡ whole
unfolding laid_all
node_put old new whole i ns n lt is e h =
    let left = rw (drop-item ns i n lt is) at h in
    let len = length_more old new (laid (length old) (node_of n)) e in
    next_part old new _ _ whole e (rw len left)

pub slot_put : (old new whole : List ℕ) (i : ℕ) (ss : List Slot) (s : Slot) → i < length ss → s ≡ get_or ss i s
    → ((rest : Slots) → new ++ laid_slots (length new) rest ≡ old ++ laid_slots (length old) (slot_before s rest))
    → old ++ laid_slots (length old) (slots_in (map slot_before (drop i ss))) ≡ whole → new ++ laid_slots (length new) (slots_in (map slot_before (drop (i + 1) ss))) ≡ whole
slot_put old new whole i ss s lt is e h = e (slots_in (map slot_before (drop (i + 1) ss))) ∙ (rw (drop-item ss i s lt is) at h)

pub metadata_put : (a b c : List ℕ) (end : ℕ) (n : Tree) → a ≡ little_bytes 4 (start 4 n) → b ≡ a ++ laid (length a) n → end ≡ end_at 4 n → c ≡ b ++ replicate (gap 8 end) 0 → c ≡ metadata n
unfolding metadata
metadata_put a b c end n e f h g =
    let four : length a ≡ 4 = ap length e ∙ length-bytes_low_first 0 4 (start 4 n) in
    let to : end ≡ 4 + length (laid 4 n) = h ∙ sym (end_is 4 n) in
    rw (g, f, four, e, to) (append_assoc (little_bytes 4 (start 4 n)) (laid 4 n) _)
