use Rattle.std.proofs.Common.{◌∙◌, length, sym, ap}
use Rattle.std.proofs.lemmas.Bool.{eqb-false}
use Rattle.std.proofs.lemmas.Result.{on_ok_weaker, on_err_weaker}
use Rattle.segments.specs.Sectors.{filled}
use Rattle.segments.specs.inner.Tails.{tail_bytes}
use Rattle.segments.proofs.Stretches.{last_done, last_failed}
use Rattle.segments.proofs.writing.write_tail.Goals as goal

pub returns-clause-order : goal.returns-clause-order
returns-clause-order g c =
    let D = g.D.SectorDevice in
    let some = eqb-false (length c.bytes.result.now) 0 (sym c.is_empty.ensures ∙ c.if-is_empty.false) in
    on_ok_weaker c.write.result
    (λ puts told. last_done c.args.tail.now.start (tail_bytes c.args.tail.now) c.bytes.result.now c.filled_sector.result (D.story c.args.device.now) (D.story c.write.new.self) some c.requires.partial c.bytes.ensures
    (c.filled_sector.ensures ∙ ap filled (c.bytes-2.ensures ∙ sym c.bytes.ensures)) (puts told))
    c.write.ensures.ok

pub returns-clause-cut_short : goal.returns-clause-cut_short
returns-clause-cut_short g c =
    let D = g.D.SectorDevice in
    let some = eqb-false (length c.bytes.result.now) 0 (sym c.is_empty.ensures ∙ c.if-is_empty.false) in
    on_err_weaker c.write.result
    (λ fails told. last_failed c.args.tail.now.start (tail_bytes c.args.tail.now) c.bytes.result.now c.filled_sector.result (D.story c.args.device.now) (D.story c.write.new.self) some c.requires.partial c.bytes.ensures
    (c.filled_sector.ensures ∙ ap filled (c.bytes-2.ensures ∙ sym c.bytes.ensures)) (fails told))
    c.write.ensures.err
