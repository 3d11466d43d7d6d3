-- Trees on the way to a whole message.
use Rattle.std.specs.Prelude.{◌==◌}
use Rattle.std.proofs.Common.{◌≡◌, ℕ, ◌+◌, ◌<◌, ◌≤◌, true, false, List, [], ◌∷◌, ◌++◌, map, length, get_or, drop, Option, refl, sym, ap, ◌∙◌, arith}
use Rattle.std.proofs.lemmas.Bool.{eqb-true}
use Rattle.std.proofs.lemmas.List.{map-append, drop_all}
use Rattle.facts.specs.laws.Lists.{drop-item}
use Rattle.flatbuf.specs.Tree.{Tree, Nodes, Slots, references, no_node, and_node, no_slot, refers}
use Rattle.flatbuf.specs.declared.nodes.Node.{Node}
use Rattle.flatbuf.specs.declared.nodes.Slot.{Slot}
use Rattle.flatbuf.specs.View.{nodes_of, slots_in, node_of, slot_before}
use Rattle.arrow_schema.specs.declared.types.Field.{Field}
use Rattle.arrow_schema.specs.Column.{Index, Pair, Kind, Column, column, no_column, columns_of}
use Rattle.arrow_schema.specs.Parts.{kind_of_column, index_of_column}
use Rattle.arrow_schema.specs.View.{column_of}
use Rattle.ipc_write.specs.Trees.{pair_tree, pair_nodes, pairs_slot, dictionary_slot, ids_for, ids_of, ids_of_all, field_tree, child_nodes, field_nodes}
use Rattle.ipc_write.specs.inner.Steps.{slots_then, nodes_then, field_table}

-- ---- what is written only where there is some

no_item : {X : Type 0} (x : X) (xs : List X) → (length (x ∷ xs) == 0) ≡ true → ⊥
no_item x xs h = let none : length (x ∷ xs) ≡ 0 = eqb-true (length (x ∷ xs)) 0 h in omega (arith, none)

pub pairs_none : {X : Type 0} (pair : X → Pair) (xs : List X) → (length xs == 0) ≡ true → pairs_slot (map pair xs) ≡ no_slot
pairs_none pair [] h = refl
pairs_none pair (x ∷ xs) h = absurd (no_item x xs h)

pub pairs_some : {X : Type 0} (pair : X → Pair) (xs : List X) → (length xs == 0) ≡ false → pairs_slot (map pair xs) ≡ refers (references (pair_nodes (map pair xs))) no_slot
pairs_some pair [] h = absurd cc
pairs_some pair (x ∷ xs) h = refl

pub pair_nodes_are : {X : Type 0} (pair : X → Pair) (xs : List X) → nodes_of (map (λ (x : X). pair_tree (pair x)) xs) ≡ pair_nodes (map pair xs)
pair_nodes_are pair [] = refl
pair_nodes_are pair (x ∷ xs) = ap (and_node (pair_tree (pair x))) (pair_nodes_are pair xs)

-- ---- slots and nodes so far

pub slots_none : (ss : List (Slots → Slots)) → slots_then ss no_slot ≡ slots_in ss
slots_none [] = refl
slots_none (s ∷ ss) = ap s (slots_none ss)

pub slots_push : (ss : List (Slots → Slots)) (s : Slots → Slots) → slots_in (ss ++ s ∷ []) ≡ slots_then ss (s no_slot)
slots_push [] s = refl
slots_push (r ∷ ss) s = ap r (slots_push ss s)

pub nodes_none : (ns : List Tree) → nodes_then ns no_node ≡ nodes_of ns
nodes_none [] = refl
nodes_none (n ∷ ns) = ap (and_node n) (nodes_none ns)

pub nodes_push : (ns : List Tree) (n : Tree) (rest : Nodes) → nodes_then (ns ++ n ∷ []) rest ≡ nodes_then ns (and_node n rest)
nodes_push [] n rest = refl
nodes_push (m ∷ ns) n rest = ap (and_node m) (nodes_push ns n rest)

-- ---- fields

field_again : (id : ℕ) (c : Column) (encoding : Slots → Slots) → ((rest : Slots) → encoding rest ≡ dictionary_slot id (index_of_column c) rest)
    → field_table c encoding (child_nodes (id + ids_for (index_of_column c)) (kind_of_column c)) ≡ field_tree id c
unfolding field_tree
field_again id (column name nullable kind dictionary pairs) encoding is = rw (is (refers (references (child_nodes (id + ids_for dictionary) kind)) (pairs_slot pairs))) refl

-- the table of a field, with its dictionary and its children
pub field_is : (id : ℕ) (c : Column) (kind : Kind) (dictionary : Option Index) (encoding : Slots → Slots) (children : Nodes) → kind_of_column c ≡ kind → index_of_column c ≡ dictionary
    → ((rest : Slots) → encoding rest ≡ dictionary_slot id dictionary rest) → children ≡ child_nodes (id + ids_for dictionary) kind → field_table c encoding children ≡ field_tree id c
field_is id c kind dictionary encoding children k d is below =
    ap (field_table c encoding) (rw (k, d) below) ∙ field_again id c encoding (λ rest. rw d (is rest))

-- the next of some fields
next_nodes : (fields : List Field) (i : ℕ) (f : Field) (id : ℕ) → i < length fields → f ≡ get_or fields i f
    → field_nodes id (columns_of (map column_of (drop i fields))) ≡ and_node (field_tree id (column_of f)) (field_nodes (id + ids_of (column_of f)) (columns_of (map column_of (drop (i + 1) fields))))
unfolding field_nodes
next_nodes fields i f id lt is = ap (λ (fs : List Field). field_nodes id (columns_of (map column_of fs))) (drop-item fields i f lt is)

next_ids : (fields : List Field) (i : ℕ) (f : Field) → i < length fields → f ≡ get_or fields i f
    → ids_of_all (columns_of (map column_of (drop i fields))) ≡ ids_of (column_of f) + ids_of_all (columns_of (map column_of (drop (i + 1) fields)))
next_ids fields i f lt is = ap (λ (fs : List Field). ids_of_all (columns_of (map column_of fs))) (drop-item fields i f lt is)

pub nodes_after : (fields : List Field) (i : ℕ) (f : Field) (id next : ℕ) (nodes pushed : List Node) (n : Node) → i < length fields → f ≡ get_or fields i f → pushed ≡ nodes ++ n ∷ []
    → node_of n ≡ field_tree id (column_of f) → next ≡ id + ids_of (column_of f)
    → nodes_then (map node_of pushed) (field_nodes next (columns_of (map column_of (drop (i + 1) fields)))) ≡ nodes_then (map node_of nodes) (field_nodes id (columns_of (map column_of (drop i fields))))
nodes_after fields i f id next nodes pushed n lt is p node ids =
    let rest : ℕ → Nodes = λ m. field_nodes m (columns_of (map column_of (drop (i + 1) fields))) in
    ap (λ (ns : List Node). nodes_then (map node_of ns) (rest next)) p
    ∙ ap (λ (ts : List Tree). nodes_then ts (rest next)) (map-append node_of nodes (n ∷ []))
    ∙ nodes_push (map node_of nodes) (node_of n) (rest next)
    ∙ ap (nodes_then (map node_of nodes)) ((λ k. and_node (node k) (rest (ids k))) ∙ sym (next_nodes fields i f id lt is))

pub ids_after : (fields : List Field) (i : ℕ) (f : Field) (id next : ℕ) → i < length fields → f ≡ get_or fields i f → next ≡ id + ids_of (column_of f)
    → next + ids_of_all (columns_of (map column_of (drop (i + 1) fields))) ≡ id + ids_of_all (columns_of (map column_of (drop i fields)))
ids_after fields i f id next lt is ids = omega (arith, next_ids fields i f lt is, ids)

-- after the last of them
no_nodes : (id : ℕ) → field_nodes id no_column ≡ no_node
unfolding field_nodes
no_nodes id = refl

pub nodes_end : (fields : List Field) (i id : ℕ) (ns : List Tree) → length fields ≤ i → nodes_of ns ≡ nodes_then ns (field_nodes id (columns_of (map column_of (drop i fields))))
nodes_end fields i id ns past =
    let none : field_nodes id (columns_of (map column_of (drop i fields))) ≡ no_node = ap (λ (fs : List Field). field_nodes id (columns_of (map column_of fs))) (drop_all i fields past) ∙ no_nodes id in
    sym (nodes_none ns) ∙ ap (nodes_then ns) (sym none)

-- ---- a table with pairs

pub without_pairs : {X : Type 0} (pair : X → Pair) (xs : List X) (ss : List (Slots → Slots)) → (length xs == 0) ≡ true → slots_in ss ≡ slots_then ss (pairs_slot (map pair xs))
without_pairs pair xs ss h = sym (slots_none ss) ∙ ap (slots_then ss) (sym (pairs_none pair xs h))

pub with_pairs : {X : Type 0} (pair : X → Pair) (xs : List X) (slots pushed : List Slot) (last : Slot) (trees : List Tree) → (length xs == 0) ≡ false → pushed ≡ slots ++ last ∷ []
    → slot_before last no_slot ≡ refers (references (nodes_of trees)) no_slot → trees ≡ map (λ (x : X). pair_tree (pair x)) xs
    → slots_in (map slot_before pushed) ≡ slots_then (map slot_before slots) (pairs_slot (map pair xs))
with_pairs pair xs slots pushed last trees h p is all =
    let nodes : nodes_of trees ≡ pair_nodes (map pair xs) = ap nodes_of all ∙ pair_nodes_are pair xs in
    ap (λ (ss : List Slot). slots_in (map slot_before ss)) p
    ∙ ap slots_in (map-append slot_before slots (last ∷ []))
    ∙ slots_push (map slot_before slots) (slot_before last)
    ∙ ap (slots_then (map slot_before slots)) (is ∙ ap (λ (ns : Nodes). refers (references ns) no_slot) nodes ∙ sym (pairs_some pair xs h))
