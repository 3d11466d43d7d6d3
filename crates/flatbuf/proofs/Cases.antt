-- A slot of the code is absent, a number, or a reference; and how many slots and nodes a vector holds.
use Rattle.std.proofs.Common.{◌≡◌, ◌≤◌, ◌<◌, ◌+◌, ℕ, suc, get_or, drop, List, [], ◌∷◌, map, length, refl, sym, ap, subst, ◌∙◌, arith, rules}
use Rattle.facts.specs.laws.Lists.{drop-item}
use Rattle.flatbuf.specs.declared.nodes.Slot.{Slot}
use Rattle.flatbuf.specs.declared.nodes.Slot.TheVariants as slots
use Rattle.flatbuf.specs.declared.nodes.Node.{Node, the_lemmas}
use Rattle.flatbuf.specs.declared.nodes.Node.TheOpen.{Slot-F, Absent, Byte, Short, Word, Long, Refers}
use Rattle.flatbuf.specs.declared.nodes.Node.TheFolds.{fold_out-Slot}
use Rattle.flatbuf.specs.Tree.{Tree, Slots, absent, scalar, refers, no_slot}
use Rattle.flatbuf.specs.Laid.{gap, count_of, slots_of, inline_end}
use Rattle.flatbuf.specs.Ends.{end_at, ends_at, below_ends_at}
use Rattle.flatbuf.specs.Held.{FitsSlots}
use Rattle.flatbuf.proofs.Ends.{below_le, ends_le}
use Rattle.flatbuf.proofs.ReadBack.{inline_le_end}
use Rattle.flatbuf.specs.View.{node_of, nodes_of, slot_before, slots_in, slot_step, node_step}

of_layer : (P : (Slots → Slots) → Type 0) → P (λ rest. absent rest) → ((w n : ℕ) → P (λ rest. scalar w n rest)) → ((t : Tree) → P (λ rest. refers t rest)) → (l : Slot-F Tree (Slots → Slots)) → P (slot_step l)
of_layer P a b c Absent = a
of_layer P a b c (Byte n) = b 1 n
of_layer P a b c (Short n) = b 2 n
of_layer P a b c (Word n) = b 4 n
of_layer P a b c (Long n) = b 8 n
of_layer P a b c (Refers t) = c t

pub slot_cases : (P : (Slots → Slots) → Type 0) → P (λ rest. absent rest) → ((w n : ℕ) → P (λ rest. scalar w n rest)) → ((t : Tree) → P (λ rest. refers t rest)) → (s : Slot) → P (slot_before s)
slot_cases P a b c s = subst P (sym (fold_out-Slot Tree (Slots → Slots) node_step slot_step s)) (of_layer P a b c _)

-- a slot of the code as one of a tree
pub byte_is : (s : Slot) (n : ℕ) → s ≡ slots.Byte n → slot_before s ≡ (λ (rest : Slots). scalar 1 n rest)
byte_is s n is = rw is (search (rules, the_lemmas))

pub short_is : (s : Slot) (n : ℕ) → s ≡ slots.Short n → slot_before s ≡ (λ (rest : Slots). scalar 2 n rest)
short_is s n is = rw is (search (rules, the_lemmas))

pub word_is : (s : Slot) (n : ℕ) → s ≡ slots.Word n → slot_before s ≡ (λ (rest : Slots). scalar 4 n rest)
word_is s n is = rw is (search (rules, the_lemmas))

pub long_is : (s : Slot) (n : ℕ) → s ≡ slots.Long n → slot_before s ≡ (λ (rest : Slots). scalar 8 n rest)
long_is s n is = rw is (search (rules, the_lemmas))

pub refers_is : (s : Slot) (n : Node) → s ≡ slots.Refers n → slot_before s ≡ (λ (rest : Slots). refers (node_of n) rest)
refers_is s n is = rw is (search (rules, the_lemmas))

pub one_slot : (s : Slot) (rest : Slots) → slots_of (slot_before s rest) ≡ suc (slots_of rest)
one_slot s = slot_cases (λ f. (rest : Slots) → slots_of (f rest) ≡ suc (slots_of rest)) (λ rest. refl) (λ w n rest. refl) (λ t rest. refl) s

-- a slot fits, and so do the others
pub fits_split : (s : Slot) (rest : Slots) → FitsSlots (slot_before s rest) → FitsSlots (slot_before s no_slot) × FitsSlots rest
fits_split s =
    slot_cases (λ f. (rest : Slots) → FitsSlots (f rest) → FitsSlots (f no_slot) × FitsSlots rest) (λ rest h. (tt, h)) (λ w n rest h. ((h.0, tt), h.1)) (λ t rest h. ((h.0, tt), h.1)) s

pub count_slots : (ss : List Slot) → slots_of (slots_in (map slot_before ss)) ≡ length ss
count_slots [] = refl
count_slots (s ∷ ss) = one_slot s (slots_in (map slot_before ss)) ∙ ap suc (count_slots ss)

pub count_nodes : (ns : List Node) → count_of (nodes_of (map node_of ns)) ≡ length ns
count_nodes [] = refl
count_nodes (n ∷ ns) = ap suc (count_nodes ns)

-- what one slot refers to ends before what all do
pub below_one : (s : Slot) (rest : Slots) (cursor : ℕ) → below_ends_at cursor (slot_before s no_slot) ≤ below_ends_at cursor (slot_before s rest)
below_one s =
    slot_cases (λ f. (rest : Slots) (cursor : ℕ) → below_ends_at cursor (f no_slot) ≤ below_ends_at cursor (f rest))
    (λ rest cursor. below_le cursor rest)
    (λ w n rest cursor. below_le cursor rest)
    (λ t rest cursor. below_le (end_at cursor t) rest)
    s

pub node_fits : (ns : List Node) (i : ℕ) (n : Node) (cursor : ℕ) → i < length ns → n ≡ get_or ns i n → end_at cursor (node_of n) ≤ ends_at cursor (nodes_of (map node_of (drop i ns)))
node_fits ns i n cursor lt e =
    rw (drop-item ns i n lt e) (ends_le (end_at cursor (node_of n)) (nodes_of (map node_of (drop (i + 1) ns))))

pub slot_fits : (ss : List Slot) (i : ℕ) (s : Slot) (cursor : ℕ) → i < length ss → s ≡ get_or ss i s → below_ends_at cursor (slot_before s no_slot) ≤ below_ends_at cursor (slots_in (map slot_before (drop i ss)))
slot_fits ss i s cursor lt e = rw (drop-item ss i s lt e) (below_one s (slots_in (map slot_before (drop (i + 1) ss))) cursor)

pub node_ends : (ns : List Node) (i : ℕ) (n : Node) (cursor next whole : ℕ) → i < length ns → n ≡ get_or ns i n → next ≡ end_at cursor (node_of n) → ends_at cursor (nodes_of (map node_of (drop i ns))) ≡ whole
    → ends_at next (nodes_of (map node_of (drop (i + 1) ns))) ≡ whole
node_ends ns i n cursor next whole lt is e h = rw e (rw (drop-item ns i n lt is) at h)

-- the inline content of the slots before ends before that of all
pub offset_fits : (ss : List Slot) (i offset whole : ℕ) → inline_end offset (slots_in (map slot_before (drop i ss))) ≡ whole → offset ≤ whole
offset_fits ss i offset whole end = omega (arith, inline_le_end offset (slots_in (map slot_before (drop i ss))))

-- and so does that of the next one
pub field_fits : (ss : List Slot) (i : ℕ) (s : Slot) (offset w whole : ℕ) → i < length ss → s ≡ get_or ss i s
    → ((rest : Slots) → inline_end offset (slot_before s rest) ≡ inline_end (offset + gap w offset + w) rest) → inline_end offset (slots_in (map slot_before (drop i ss))) ≡ whole
    → offset + gap w offset + w ≤ whole
field_fits ss i s offset w whole lt is one end =
    let rest = slots_in (map slot_before (drop (i + 1) ss)) in
    let here : inline_end offset (slot_before s rest) ≡ whole = rw (drop-item ss i s lt is) at end in
    omega (arith, here, one rest, inline_le_end (offset + gap w offset + w) rest)
