use Rattle.std.proofs.Common.{◌≡◌, ◌∙◌, ◌+◌, Bool, List, [], ◌∷◌, IfOk, arith, map, drop, append_assoc, refl, subst}
use Rattle.bitmap.specs.Bits.{packed}
use Rattle.facts.specs.laws.Lists.{drop-item}
use Rattle.columns.specs.Built.{is_set}
use Rattle.columns.specs.Borrowed.{borrowed_cell}
use Rattle.columns.specs.declared.borrowed.ValueRef.{ValueRef}
use Rattle.batch_build.specs.laws.Ended.{ended}
use Rattle.batch_build.proofs.boolean_bits.bits.Goals as goal

pub push_reserved-requires : goal.push_reserved-requires
push_reserved-requires c = omega (arith, c.loop-cell-test.true, c.loop-cell.invariant.len, c.loop-cell.invariant.room)

pub loop-cell-preserved : goal.loop-cell-preserved
loop-cell-preserved c =
    let cell = c.cell-item.result in
    let others = drop (c.loop-cell.cell-index + 1) c.args.cells.now in
    let kept = rw (drop-item c.args.cells.now c.loop-cell.cell-index cell c.loop-cell-test.true c.cell-item.is) at c.loop-cell.invariant.bits in
    record {
      bits = rw (c.push_reserved.ensures.items, c.is_set.ensures) (append_assoc c.loop-cell.bits.items (is_set (borrowed_cell cell) ∷ []) (map is_set (map borrowed_cell others)) ∙ kept);
      len = omega (arith, c.push_reserved.ensures.len, c.loop-cell.invariant.len);
      room = omega (arith, c.push_reserved.ensures.capacity, c.loop-cell.invariant.room);
    }

pub returns : goal.returns
returns c =
    let bits = c.deref.ensures.value
    ∙ ended (λ (cells : List ValueRef). map is_set (map borrowed_cell cells)) c.loop-cell.bits.items _ c.args.cells.now c.loop-cell.cell-index refl c.loop-cell-test.false c.loop-cell.invariant.bits in
    subst (λ (all : List Bool). IfOk c.pack.result (λ bytes. bytes.items ≡ packed all)) bits c.pack.ensures.exact
