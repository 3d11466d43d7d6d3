use Rattle.std.proofs.Common.{◌≡◌, [], ◌+◌, ◌++◌, ◌∙◌, length, take, drop, refl, sym, ap, subst, arith, take_all}
use Rattle.std.proofs.lemmas.Result.{on_ok_weaker, on_err_weaker}
use Rattle.sector_dev.specs.Rows.{GrowsBy, FailsAmong}
use Rattle.segments.specs.Pieces.{bytes_of_parts}
use Rattle.segments.specs.Writing.{run_writes}
use Rattle.segments.specs.inner.Tails.{tail_bytes, whole_bytes, rest_bytes}
use Rattle.sector_dev.specs.laws.Rows.{on_err}
use Rattle.segments.proofs.Pieces.{next_part, all_parts}
use Rattle.segments.proofs.Stretches.{few_left, part_room, tail_room, next_start, next_rest, none_written, still_rest, part_done, part_failed, tail_done, tail_failed}
use Rattle.segments.proofs.writing.write_parts.Goals as goal

pub loop-part-init : goal.loop-part-init
loop-part-init g c = record {
  size = refl;
  failed = refl;
  start = omega (arith, c.new-tail.ensures.start);
  rest = c.new-tail.ensures.bytes ∙ still_rest [] [] refl (omega arith);
  order = λ told. none_written c.args.start [] [] (g.D.SectorDevice.story c.args.device.now) refl (omega arith);
}

pub write_part-requires-clause-partial : goal.write_part-requires-clause-partial
write_part-requires-clause-partial g c = few_left (bytes_of_parts (take c.loop-part.part-index c.args.parts.now)) (tail_bytes c.loop-part.tail) c.loop-part.invariant.rest

pub write_part-requires-clause-within : goal.write_part-requires-clause-within
write_part-requires-clause-within g c =
    let i = c.loop-part.part-index in
    let ps = c.args.parts.now in
    let x = bytes_of_parts (take i ps) in
    let all = all_parts ps (i + 1) (x ++ c.bytes.result.now) (next_part ps i c.part-item.result c.bytes.result.now c.loop-part-test.true c.part-item.is c.bytes.ensures) in
    let room = part_room x c.bytes.result.now (tail_bytes c.loop-part.tail) (bytes_of_parts ps) (bytes_of_parts (drop (i + 1) ps)) c.loop-part.invariant.rest all in
    omega (arith, room, c.loop-part.invariant.start, c.loop-part.invariant.size, c.requires.within)

pub returns-in_err-write_part-clause-cut_short : goal.returns-in_err-write_part-clause-cut_short
returns-in_err-write_part-clause-cut_short g c = on_err c.from_residual.result (λ told.
    let D = g.D.SectorDevice in
    let i = c.loop-part.part-index in
    let ps = c.args.parts.now in
    let x = bytes_of_parts (take i ps) in
    let all = all_parts ps (i + 1) (x ++ c.bytes.result.now) (next_part ps i c.part-item.result c.bytes.result.now c.loop-part-test.true c.part-item.is c.bytes.ensures) in
    part_failed c.args.start c.loop-part.tail.start x c.bytes.result.now (tail_bytes c.loop-part.tail) (bytes_of_parts ps) (bytes_of_parts (drop (i + 1) ps)) (D.story c.args.device.now) (D.story c.loop-part.device) (D.story c.write_part.new.device)
    c.loop-part.invariant.start c.loop-part.invariant.rest all (c.loop-part.invariant.order told) (c.in_err-write_part.ensures.cut_short told))

pub loop-part-preserved : goal.loop-part-preserved
loop-part-preserved g c =
    let D = g.D.SectorDevice in
    let i = c.loop-part.part-index in
    let ps = c.args.parts.now in
    let x = bytes_of_parts (take i ps) in
    let y = c.bytes.result.now in
    let tail = tail_bytes c.loop-part.tail in
    let next : bytes_of_parts (take (i + 1) ps) ≡ x ++ y = next_part ps i c.part-item.result y c.loop-part-test.true c.part-item.is c.bytes.ensures in
    let further = next_start x y tail c.loop-part.invariant.rest in
    let long : length (bytes_of_parts (take (i + 1) ps)) ≡ length (x ++ y) = ap length next in
    record {
      size = c.write_part.ensures.size ∙ c.loop-part.invariant.size;
      failed = c.in_ok-write_part.ensures.count ∙ c.loop-part.invariant.failed;
      start = omega (arith, c.in_ok-write_part.ensures.start, c.loop-part.invariant.start, further, long);
      rest = c.in_ok-write_part.ensures.rest ∙ next_rest x y tail c.loop-part.invariant.rest ∙ ap rest_bytes (sym next);
      order = λ told.
          subst (λ l. GrowsBy (run_writes c.args.start (whole_bytes l)) (D.story c.args.device.now) (D.story c.write_part.new.device)) (sym next)
          (part_done c.args.start c.loop-part.tail.start x y tail (D.story c.args.device.now) (D.story c.loop-part.device) (D.story c.write_part.new.device) c.loop-part.invariant.start c.loop-part.invariant.rest
          (c.loop-part.invariant.order told) (c.in_ok-write_part.ensures.order told));
    }

pub write_tail-requires-clause-partial : goal.write_tail-requires-clause-partial
write_tail-requires-clause-partial g c = few_left (bytes_of_parts (take c.loop-part.part-index c.args.parts.now)) (tail_bytes c.loop-part.tail) c.loop-part.invariant.rest

pub write_tail-requires-clause-within : goal.write_tail-requires-clause-within
write_tail-requires-clause-within g c =
    let x = bytes_of_parts (take c.loop-part.part-index c.args.parts.now) in
    let room = tail_room x (tail_bytes c.loop-part.tail) c.loop-part.invariant.rest in
    let all : length x ≡ length (bytes_of_parts c.args.parts.now) = ap (λ ps. length (bytes_of_parts ps)) (take_all c.loop-part.part-index c.args.parts.now c.loop-part-test.false) in
    omega (arith, room, all, c.loop-part.invariant.start, c.loop-part.invariant.size, c.requires.within)

pub returns-clause-order : goal.returns-clause-order
returns-clause-order g c =
    let D = g.D.SectorDevice in
    let x = bytes_of_parts (take c.loop-part.part-index c.args.parts.now) in
    let all : x ≡ bytes_of_parts c.args.parts.now = ap bytes_of_parts (take_all c.loop-part.part-index c.args.parts.now c.loop-part-test.false) in
    on_ok_weaker c.write_tail.result
    (λ done told. subst (λ l. GrowsBy (run_writes c.args.start l) (D.story c.args.device.now) (D.story c.write_tail.new.device)) all
    (tail_done c.args.start c.loop-part.tail.start x (tail_bytes c.loop-part.tail) (D.story c.args.device.now) (D.story c.loop-part.device) (D.story c.write_tail.new.device) c.loop-part.invariant.start c.loop-part.invariant.rest
    (c.loop-part.invariant.order told) (done told)))
    c.write_tail.ensures.order

pub returns-clause-cut_short : goal.returns-clause-cut_short
returns-clause-cut_short g c =
    let D = g.D.SectorDevice in
    let x = bytes_of_parts (take c.loop-part.part-index c.args.parts.now) in
    let all : x ≡ bytes_of_parts c.args.parts.now = ap bytes_of_parts (take_all c.loop-part.part-index c.args.parts.now c.loop-part-test.false) in
    on_err_weaker c.write_tail.result
    (λ fails told. subst (λ l. FailsAmong (run_writes c.args.start l) (D.story c.args.device.now) (D.story c.write_tail.new.device)) all
    (tail_failed c.args.start c.loop-part.tail.start x (tail_bytes c.loop-part.tail) (D.story c.args.device.now) (D.story c.loop-part.device) (D.story c.write_tail.new.device) c.loop-part.invariant.start c.loop-part.invariant.rest
    (c.loop-part.invariant.order told) (fails told)))
    c.write_tail.ensures.cut_short
