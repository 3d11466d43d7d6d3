use Rattle.std.proofs.Common.{◌≡◌, ℕ, ◌+◌, List, map, drop, sym, ap, ◌∙◌, arith, rules}
use Rattle.arrow_schema.specs.declared.types.Field.{Field, the_lemmas as field_lemmas}
use Rattle.arrow_schema.specs.Column.{Kind, Columns, columns_of, texts, large_texts, binaries, large_binaries, lists, large_lists, fixed_lists, structs}
use Rattle.arrow_schema.specs.View.{kind_of, column_of}
use Rattle.cells.specs.declared.value.Value.{Value, the_lemmas as value_lemmas}
use Rattle.cells.specs.declared.value.Value.TheVariants.{Null}
use Rattle.cells.specs.Cell.{Cell, Cells, null, cells_of}
use Rattle.cells.specs.View.{cell}
use Rattle.cells.specs.Weight.{weight, kind_weight, parts_weight, first_part, sum_of, items_in, fixed_sum, parts_in, capped_weight}
use Rattle.facts.specs.laws.Lists.{drop-item}
use Rattle.cells.proofs.CellLemmas.{part_here, no_part_here, parts_behind}
use Rattle.cells.proofs.weigh.+weight.Goals as goal
use Rattle.cells.proofs.weigh.+weight.Goals.{parts_weight-in-Some+in-Some-light_weight, parts_weight-in-Some+in-None-light_weight, parts_weight-in-None}

pub items_weight-loop-value-preserved : goal.items_weight-loop-value-preserved
items_weight-loop-value-preserved t c =
    let values : List Value = c.args.values.now in
    let i : ℕ = c.loop-value.value-index in
    let w : Cell → ℕ = weight (column_of c.args.item.now) in
    let rest : ℕ = sum_of w (cells_of (map cell (drop (i + 1) values))) in
    let left : ℕ = sum_of w (cells_of (map cell (drop i values))) in
    let next : left ≡ w (cell c.value-item.result) + rest = ap (λ (vs : List Value). sum_of w (cells_of (map cell vs))) (drop-item values i c.value-item.result c.loop-value-test.true c.value-item.is) in
    let same : capped_weight (c.add_weights-total.result + rest) ≡ capped_weight (c.loop-value.total + left) = omega (arith, next, c.weight.ensures, c.add_weights-total.ensures) in
    (same ∙ c.loop-value.invariant.0, omega (arith, c.add_weights-total.ensures))

pub items_weight-returns-then-total-eq-TOO_HEAVY : goal.items_weight-returns-then-total-eq-TOO_HEAVY
items_weight-returns-then-total-eq-TOO_HEAVY t c = omega (arith, c.loop-value.invariant.0, c.if-total-eq-TOO_HEAVY.true)

pub type_weight-returns-in-Utf8 : goal.type_weight-returns-in-Utf8
unfolding kind_weight
type_weight-returns-in-Utf8 t c =
    let kind : kind_of c.args.data_type.now ≡ texts = rw c.in-Utf8.is (search (rules, field_lemmas)) in
    c.add_weights.ensures ∙ ap (λ (n : ℕ). capped_weight (1 + n)) c.byte_count.ensures ∙ ap (λ (k : Kind). capped_weight (kind_weight k (cell c.args.value.now))) (sym kind)

pub type_weight-returns-in-LargeUtf8 : goal.type_weight-returns-in-LargeUtf8
unfolding kind_weight
type_weight-returns-in-LargeUtf8 t c =
    let kind : kind_of c.args.data_type.now ≡ large_texts = rw c.in-LargeUtf8.is (search (rules, field_lemmas)) in
    c.add_weights-in-LargeUtf8.ensures ∙ ap (λ (n : ℕ). capped_weight (1 + n)) c.byte_count-in-LargeUtf8.ensures ∙ ap (λ (k : Kind). capped_weight (kind_weight k (cell c.args.value.now))) (sym kind)

pub type_weight-returns-in-Binary : goal.type_weight-returns-in-Binary
unfolding kind_weight
type_weight-returns-in-Binary t c =
    let kind : kind_of c.args.data_type.now ≡ binaries = rw c.in-Binary.is (search (rules, field_lemmas)) in
    c.add_weights-in-Binary.ensures ∙ ap (λ (n : ℕ). capped_weight (1 + n)) c.byte_count-in-Binary.ensures ∙ ap (λ (k : Kind). capped_weight (kind_weight k (cell c.args.value.now))) (sym kind)

pub type_weight-returns-in-LargeBinary : goal.type_weight-returns-in-LargeBinary
unfolding kind_weight
type_weight-returns-in-LargeBinary t c =
    let kind : kind_of c.args.data_type.now ≡ large_binaries = rw c.in-LargeBinary.is (search (rules, field_lemmas)) in
    c.add_weights-in-LargeBinary.ensures ∙ ap (λ (n : ℕ). capped_weight (1 + n)) c.byte_count-in-LargeBinary.ensures ∙ ap (λ (k : Kind). capped_weight (kind_weight k (cell c.args.value.now))) (sym kind)

pub type_weight-returns-in-List : goal.type_weight-returns-in-List
unfolding kind_weight
type_weight-returns-in-List t c =
    let kind : kind_of c.args.data_type.now ≡ lists (column_of c.in-List.item.value) = rw c.in-List.is (search (rules, field_lemmas)) in
    let below : c.items_weight.result ≡ capped_weight (sum_of (weight (column_of c.in-List.item.value)) (items_in (cell c.args.value.now))) = rw (c.deref.ensures, c.items_in.ensures) at c.items_weight.ensures in
    let all : c.add_weights-in-List.result ≡ capped_weight (1 + sum_of (weight (column_of c.in-List.item.value)) (items_in (cell c.args.value.now))) = omega (arith, c.add_weights-in-List.ensures, below) in
    all ∙ ap (λ (k : Kind). capped_weight (kind_weight k (cell c.args.value.now))) (sym kind)

pub type_weight-returns-in-LargeList : goal.type_weight-returns-in-LargeList
unfolding kind_weight
type_weight-returns-in-LargeList t c =
    let kind : kind_of c.args.data_type.now ≡ large_lists (column_of c.in-LargeList.item.value) = rw c.in-LargeList.is (search (rules, field_lemmas)) in
    let below : c.items_weight-in-LargeList.result ≡ capped_weight (sum_of (weight (column_of c.in-LargeList.item.value)) (items_in (cell c.args.value.now))) = rw (c.deref-in-LargeList.ensures, c.items_in-in-LargeList.ensures) at c.items_weight-in-LargeList.ensures in
    let all : c.add_weights-in-LargeList.result ≡ capped_weight (1 + sum_of (weight (column_of c.in-LargeList.item.value)) (items_in (cell c.args.value.now))) = omega (arith, c.add_weights-in-LargeList.ensures, below) in
    all ∙ ap (λ (k : Kind). capped_weight (kind_weight k (cell c.args.value.now))) (sym kind)

pub type_weight-returns-in-FixedSizeList : goal.type_weight-returns-in-FixedSizeList
unfolding kind_weight
type_weight-returns-in-FixedSizeList t c =
    let kind : kind_of c.args.data_type.now ≡ fixed_lists c.in-FixedSizeList.size (column_of c.in-FixedSizeList.item.value) = rw c.in-FixedSizeList.is (search (rules, field_lemmas)) in
    let below : c.fixed_weight.result ≡ capped_weight (fixed_sum c.in-FixedSizeList.size (weight (column_of c.in-FixedSizeList.item.value)) (cell c.args.value.now)) = rw c.deref-in-FixedSizeList.ensures at c.fixed_weight.ensures in
    let all : c.add_weights-in-FixedSizeList.result ≡ capped_weight (1 + fixed_sum c.in-FixedSizeList.size (weight (column_of c.in-FixedSizeList.item.value)) (cell c.args.value.now)) = omega (arith, c.add_weights-in-FixedSizeList.ensures, below) in
    all ∙ ap (λ (k : Kind). capped_weight (kind_weight k (cell c.args.value.now))) (sym kind)

pub type_weight-returns-in-Struct : goal.type_weight-returns-in-Struct
unfolding kind_weight
type_weight-returns-in-Struct t c =
    let kind : kind_of c.args.data_type.now ≡ structs (columns_of (map column_of c.in-Struct.fields.items)) = rw c.in-Struct.is (search (rules, field_lemmas)) in
    let below : c.parts_weight.result ≡ capped_weight (parts_weight (columns_of (map column_of c.in-Struct.fields.items)) (parts_in (cell c.args.value.now))) = rw (c.deref-in-Struct.ensures.value, c.parts_in.ensures) at c.parts_weight.ensures in
    let all : c.add_weights-in-Struct.result ≡ capped_weight (1 + parts_weight (columns_of (map column_of c.in-Struct.fields.items)) (parts_in (cell c.args.value.now))) = omega (arith, c.add_weights-in-Struct.ensures, below) in
    all ∙ ap (λ (k : Kind). capped_weight (kind_weight k (cell c.args.value.now))) (sym kind)

pub parts_weight-loop-i-preserved : goal.parts_weight-loop-i-preserved
unfolding parts_weight
parts_weight-loop-i-preserved t c =
    let fields : List Field = c.args.fields.now in
    let parts : List Value = c.args.parts.now in
    let i : ℕ = c.loop-i.i in
    let field : Field = c.index-fields-i.result in
    let behind : Columns = columns_of (map column_of (drop (i + 1) fields)) in
    let w : Cell → ℕ = weight (column_of field) in
    let part : Cell = first_part (cells_of (map cell (drop i parts))) in
    let rest : ℕ = parts_weight behind (cells_of (map cell (drop (i + 1) parts))) in
    let left : ℕ = parts_weight (columns_of (map column_of (drop i fields))) (cells_of (map cell (drop i parts))) in
    let next : left ≡ w part + rest =
    ap (λ (fs : List Field). parts_weight (columns_of (map column_of fs)) (cells_of (map cell (drop i parts)))) (drop-item fields i field c.loop-i-test.true c.index-fields-i.is)
    ∙ ap (λ (cs : Cells). w part + parts_weight behind cs) (parts_behind parts i) in
    let absent : cell Null ≡ null = search (rules, value_lemmas) in
    let weighed : c.match-get.part_weight ≡ capped_weight (w part) =
    elim c.match-get.branch [
      | parts_weight-in-Some+in-Some-light_weight b ↦ b.part_weight-is ∙ b.in-Some-light_weight.ensures
          ∙ ap (λ (x : Cell). capped_weight (w x)) (sym (part_here parts i b.in-Some.part.now b.in-Some.ensures.lookup.3.0 (b.in-Some.ensures.lookup.3.1 _)))
      | parts_weight-in-Some+in-None-light_weight b ↦ b.part_weight-is ∙ b.weight.ensures
          ∙ ap (λ (x : Cell). capped_weight (w x)) (sym (part_here parts i b.in-Some.part.now b.in-Some.ensures.lookup.3.0 (b.in-Some.ensures.lookup.3.1 _)))
      | parts_weight-in-None b ↦ b.part_weight-is ∙ b.weight-part_weight.ensures ∙ ap (λ (x : Cell). capped_weight (w x)) (absent ∙ sym (no_part_here parts i b.in-None.ensures.lookup.3))
    ] in
    let same : capped_weight (c.add_weights-total.result + rest) ≡ capped_weight (c.loop-i.total + left) = omega (arith, next, weighed, c.add_weights-total.ensures) in
    (same ∙ c.loop-i.invariant.0, omega (arith, c.add_weights-total.ensures))
