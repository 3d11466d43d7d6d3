use Rattle.std.proofs.Common.{◌≡◌, ℕ, ◌+◌, ◌-◌, ◌<◌, ◌≤◌, true, List, ◌++◌, take, drop, length, refl, ap, ◌∙◌, arith}
use Rattle.bitmap.specs.Bits.{bit}
use Rattle.cells.specs.Cell.{Cell}
use Rattle.table_cut.specs.Rows.{run_rows, runs_rows}
use Rattle.table_cut.specs.laws.Runs.{run_size}
use Rattle.selection.proofs.Runs.{front_taken, kept_start, kept_next, kept_run, kept_done}
use Rattle.selection.proofs.kept.keep_batch.Goals as goal

pub loop-next-init : goal.loop-next-init
loop-next-init c =
    let start = c.args.start in
    let mask = c.args.mask.now in
    let found = c.next_set-next in
    record {
      begins = found.ensures.begins;
      within = found.ensures.ends;
      set = found.ensures.set;
      kept = λ cs sound rows h.
          let size = run_size cs c.args.whole in
          kept_next cs c.args.most rows mask start (run_rows cs c.args.whole) 0 (found.result - start) _ (omega arith) (omega (arith, found.ensures.begins, found.ensures.ends, size))
          (λ i above below. found.ensures.unset (start + i) (omega arith) (omega (arith, below, found.ensures.begins)))
          (kept_start cs c.args.most rows mask start (run_rows cs c.args.whole) _ h);
    }

pub loop-next-preserved : goal.loop-next-preserved
loop-next-preserved c =
    let most = c.args.most in
    let start = c.args.start in
    let mask = c.args.mask.now in
    let is = c.loop-next.invariant in
    let i = c.loop-next.next - start in
    let n = c.in_ok-len.len in
    let stop = c.run_end-stop in
    let found = c.next_set-next-in-loop-next in
    let here : start + i ≡ c.loop-next.next = omega (arith, is.begins) in
    let size : n ≤ stop.result - c.loop-next.next = omega (arith, c.in_ok-len.ensures.within, c.front-run.ensures.len) in
    let set = is.set c.loop-next-test.true in
    record {
      begins = omega (arith, found.ensures.begins, is.begins);
      within = found.ensures.ends;
      set = found.ensures.set;
      kept = λ cs sound rows h.
          let xs = run_rows cs c.args.whole in
          let long = run_size cs c.args.whole in
          let inside : i + n ≤ length xs = omega (arith, size, stop.ensures.begins, stop.ensures.ends, here, long) in
          let alike : (j : ℕ) → i ≤ j → j < i + n → bit mask (start + j) ≡ true =
          λ j above below. stop.ensures.alike (start + j) (omega (arith, here, above)) (omega (arith, below, here, size, stop.ensures.begins)) ∙ set in
          let run = run_rows cs c.front-run.result in
          let front : run ≡ take (stop.result - c.loop-next.next) (drop i xs) =
          c.front-run.ensures.rows cs ∙ ap (take (stop.result - c.loop-next.next)) (c.skip.ensures.rows cs) in
          let own = front_taken xs run (take n run) i (stop.result - c.loop-next.next) n front refl size in
          let added = c.in_ok-len.ensures.rows cs ∙ ap (λ (ys : List (List Cell)). runs_rows cs c.loop-next.kept.runs.items ++ ys) own in
          let more = kept_run cs most rows mask start xs i n c.loop-next.kept c.keep_front.new.kept inside alike (omega (arith, c.in_ok-len.ensures.count, c.in_ok-len.ensures.few)) (is.kept cs sound rows h) added
          (c.in_ok-len.ensures.sound cs (is.kept cs sound rows h).sound (c.front-run.ensures.sound cs (c.skip.ensures.sound cs sound))) c.in_ok-len.ensures.count in
          kept_next cs most rows mask start xs (i + n) (found.result - start) _ (omega (arith, here, found.ensures.begins)) (omega (arith, found.ensures.ends, long, is.begins, found.ensures.begins))
          (λ j above below. found.ensures.unset (start + j) (omega (arith, here, above)) (omega (arith, below, found.ensures.begins, is.begins))) more;
    }

pub returns-else-kept-most : goal.returns-else-kept-most
returns-else-kept-most c =
    λ cs sound rows h.
    let xs = run_rows cs c.args.whole in
    let size = run_size cs c.args.whole in
    let i = c.loop-next.next - c.args.start in
    let full : i < length xs → c.args.most ≤ c.loop-next.kept.rows = λ some. omega (arith, c.if-kept-most.false) in
    kept_done cs c.args.most rows c.args.mask.now c.args.start xs i c.loop-next.kept (omega (arith, c.loop-next.invariant.within, c.loop-next.invariant.begins, size)) full
    (c.loop-next.invariant.kept cs sound rows h)

pub returns-after-loop-next : goal.returns-after-loop-next
returns-after-loop-next c =
    λ cs sound rows h.
    let xs = run_rows cs c.args.whole in
    let size = run_size cs c.args.whole in
    let i = c.loop-next.next - c.args.start in
    let full : i < length xs → c.args.most ≤ c.loop-next.kept.rows = λ some. absurd (omega (arith, some, size, c.loop-next-test.false, c.loop-next.invariant.begins)) in
    kept_done cs c.args.most rows c.args.mask.now c.args.start xs i c.loop-next.kept (omega (arith, c.loop-next.invariant.within, c.loop-next.invariant.begins, size)) full
    (c.loop-next.invariant.kept cs sound rows h)
