use Rattle.std.proofs.Common.{◌≡◌, ◌∙◌, ◌+◌, ◌*◌, ◌≤◌, ℕ, Bool, true, false, List, [], ◌∷◌, ◌++◌, length, map, drop, IfOk, nat_le, subst, sym, ap, arith, append_assoc}
use Rattle.std.specs.Prelude.{◌||◌, ◌==◌}
use Rattle.std.specs.List.{list_all}
use Rattle.std.proofs.lemmas.Bool.{le-leb, or_right}
use Rattle.std.proofs.lemmas.List.{append-nil, drop_all, length-map}
use Rattle.std.proofs.lemmas.Result.{IfOk-weaker}
use Rattle.bitmap.specs.Bits.{bytes_of, packed}
use Rattle.columns.specs.Built.{validity_of}
use Rattle.cells.specs.Cell.{Cell}
use Rattle.columns.specs.declared.borrowed.ValueRef.{ValueRef}
use Rattle.facts.specs.laws.Lists.{drop-item}
use Rattle.cells.specs.Nulls.{is_there}
use Rattle.columns.specs.Borrowed.{borrowed_cell}
use Rattle.batch_build.proofs.valid_bits.validity.Goals as goal

pub push_reserved-requires : goal.push_reserved-requires
push_reserved-requires c = omega (arith, c.loop-cell-test.true, c.loop-cell.invariant.len, c.loop-cell.invariant.room)

pub loop-cell-preserved : goal.loop-cell-preserved
loop-cell-preserved c =
    let cell = c.cell-item.result in
    let others = drop (c.loop-cell.cell-index + 1) c.args.cells.now in
    let kept = rw (drop-item c.args.cells.now c.loop-cell.cell-index cell c.loop-cell-test.true c.cell-item.is) at c.loop-cell.invariant.bits in
    record {
      bits = rw (c.push_reserved.ensures.items, c.is_there.ensures) (append_assoc c.loop-cell.bits.items (is_there (borrowed_cell cell) ∷ []) (map is_there (map borrowed_cell others)) ∙ kept);
      len = omega (arith, c.push_reserved.ensures.len, c.loop-cell.invariant.len);
      room = omega (arith, c.push_reserved.ensures.capacity, c.loop-cell.invariant.room);
    }

-- the bits of all cells
all_bits : (bits : List Bool) (cells : List ValueRef) (i : ℕ) → length cells ≤ i → bits ++ map is_there (map borrowed_cell (drop i cells)) ≡ map is_there (map borrowed_cell cells)
    → bits ≡ map is_there (map borrowed_cell cells)
all_bits bits cells i past kept = sym (append-nil bits) ∙ ap (λ (left : List ValueRef). bits ++ map is_there (map borrowed_cell left)) (sym (drop_all i cells past)) ∙ kept

bits_fit : (n size : ℕ) → size ≡ bytes_of n → (size == 0 || nat_le n (8 * size)) ≡ true
bits_fit n size is = or_right (size == 0) _ (le-leb _ _ (omega (arith, is)))

some_null : (cells : List Cell) (bits : List Bool) → list_all is_there cells ≡ false → bits ≡ map is_there cells → packed bits ≡ validity_of cells
some_null cells bits some is = rw some (ap packed is)

pub returns-clause-bits : goal.returns-clause-bits
returns-clause-bits c =
    let cells = map borrowed_cell c.args.cells.now in
    let bits = c.deref.ensures.value ∙ all_bits c.loop-cell.bits.items c.args.cells.now c.loop-cell.cell-index c.loop-cell-test.false c.loop-cell.invariant.bits in
    subst (λ (validity : List ℕ). IfOk c.pack.result (λ bytes. bytes.items ≡ validity)) (some_null cells _ (sym c.if-are_all_there.ensures) bits) c.pack.ensures.exact

pub returns-clause-long : goal.returns-clause-long
returns-clause-long c =
    let cells = c.args.cells.now in
    let bits = c.deref.ensures.value ∙ all_bits c.loop-cell.bits.items cells c.loop-cell.cell-index c.loop-cell-test.false c.loop-cell.invariant.bits in
    let count : length c.deref.result.now ≡ length cells = ap length bits ∙ length-map (map borrowed_cell cells) is_there ∙ length-map cells borrowed_cell in
    IfOk-weaker c.pack.result _ _ (λ bytes long. bits_fit (length cells) (length bytes.items) (long ∙ ap bytes_of count)) c.pack.ensures.length
