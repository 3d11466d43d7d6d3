use Rattle.std.specs.List.{range_with_len}
use Rattle.std.proofs.Common.{◌≡◌, ◌+◌, ◌-◌, ◌<◌, ◌≤◌, ◌∙◌, map, take, arith}
use Rattle.std.proofs.lemmas.List.FromFn.{length-map-range_with_len}
use Rattle.query.specs.Choice.{rows_set}
use Rattle.query.specs.inner.ColumnSlots.{slot_columns, slot_row}
use Rattle.query.proofs.SlotLines.{fewer_readable}
use Rattle.query.specs.laws.Lines.{ArePrinted}
use Rattle.query.proofs.SetLines.{front_printed, run_printed, all_printed}
use Rattle.query.proofs.set_lines.push_set_slots.Goals as goal
use Rattle.query.proofs.set_lines.push_set_slots.Goals.{Left-loop-next, then-loop-next-test+else-left-gt0, else-loop-next-test}

pub loop-next-init : goal.loop-next-init
loop-next-init c =
    let start = c.args.start in
    let columns = c.args.columns.now in
    let found = c.next_set-next in
    record {
      begins = found.ensures.begins;
      within = found.ensures.ends;
      set = found.ensures.set;
      printed = front_printed c.args.form (slot_columns columns) c.args.most c.args.mask.now start _ (found.result - start) c.args.text.now.items
          (omega (arith, found.ensures.begins, found.ensures.ends, length-map-range_with_len (slot_row columns) 0 c.args.slots))
          (λ i above below. found.ensures.unset (start + i) (omega arith) (omega (arith, below, found.ensures.begins)));
    }

pub push_slot_lines-requires-clause-readable : goal.push_slot_lines-requires-clause-readable
push_slot_lines-requires-clause-readable c =
    fewer_readable c.args.form.dates c.args.columns.now c.args.slots _ (omega (arith, c.run_end-stop.ensures.ends, c.run_end-stop.ensures.begins, c.loop-next.invariant.begins)) c.requires.readable

pub loop-next-preserved : goal.loop-next-preserved
loop-next-preserved c =
    let start = c.args.start in
    let columns = c.args.columns.now in
    let is = c.loop-next.invariant in
    let i = c.loop-next.next - start in
    let n = c.min-len.result in
    let stop = c.run_end-stop in
    let found = c.next_set-next-in-loop-next in
    let here : start + i ≡ c.loop-next.next = omega (arith, is.begins) in
    let size : n ≤ stop.result - c.loop-next.next = omega arith in
    let set = is.set c.loop-next-test.true in
    record {
      begins = omega (arith, found.ensures.begins, is.begins);
      within = found.ensures.ends;
      set = found.ensures.set;
      printed = run_printed c.args.form (slot_columns columns) (slot_row columns) c.args.slots c.args.most c.args.mask.now start i n (found.result - start) c.loop-next.left _ _ _
          (omega (arith, here, found.ensures.begins)) (omega (arith, found.ensures.ends, is.begins, found.ensures.begins)) (omega arith)
          (λ j above below. stop.ensures.alike (start + j) (omega (arith, here, above)) (omega (arith, below, here, size, stop.ensures.begins)) ∙ set)
          (λ j above below. found.ensures.unset (start + j) (omega (arith, here, above)) (omega (arith, below, found.ensures.begins, is.begins)))
          is.printed c.in_ok-push_slot_lines.ensures;
    }

-- the loop ends where no slot is left, or no line
full : (c : Left-loop-next) → c.loop-next.next - c.args.start < c.args.slots → c.loop-next.left ≡ 0
full c some = elim c.loop-next-test.branch [
  | then-loop-next-test+else-left-gt0 w ↦ omega (arith, w.if-left-gt0.false)
  | else-loop-next-test w ↦ absurd (omega (arith, some, w.loop-next-test.false, c.loop-next.invariant.begins))
]

done : (c : Left-loop-next)
    → ArePrinted c.args.form (slot_columns c.args.columns.now) c.args.most (take c.args.most (rows_set c.args.mask.now c.args.start (map (slot_row c.args.columns.now) (range_with_len 0 c.args.slots))))
    c.args.text.now.items c.loop-next.text.items c.loop-next.left
done c =
    all_printed c.args.form (slot_columns c.args.columns.now) (slot_row c.args.columns.now) c.args.slots c.args.most c.args.mask.now c.args.start (c.loop-next.next - c.args.start) c.loop-next.left _ _
    (omega (arith, c.loop-next.invariant.within, c.loop-next.invariant.begins)) (full c) c.loop-next.invariant.printed

pub returns-clause-lines : goal.returns-clause-lines
returns-clause-lines c = (done c).text

pub returns-clause-count : goal.returns-clause-count
returns-clause-count c = omega (arith, (done c).room)
