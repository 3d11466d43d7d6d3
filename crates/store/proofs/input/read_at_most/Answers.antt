use Rattle.std.proofs.Common.{length, length-append, ap, arith, vec_items}
use Rattle.std.proofs.lemmas.Result.{err_from_is_err_and}
use Rattle.std.proofs.KnownBytes.{Consumes-trans}
use Rattle.store.proofs.Inputs.{given_none, refused_behind, room_left}
use Rattle.store.proofs.input.read_at_most.Goals as goal

pub returns-in_err-append_some-clause-told : goal.returns-in_err-append_some-clause-told
returns-in_err-append_some-clause-told g c =
    let p = err_from_is_err_and c.from_residual-in_err-append_some.result c.from_residual-in_err-append_some.ensures.1 in
    let room = room_left (vec_items c.loop-bytes.bytes) c.len.result c.args.largest (grind arith) (grind arith) in
    rw (p.1, p.2) (refused_behind _ _ _ (vec_items c.loop-bytes.bytes) _ _ _ c.loop-bytes.invariant.0 room c.in_err-append_some.ensures.told)

pub loop-bytes-preserved : goal.loop-bytes-preserved
loop-bytes-preserved g c =
    let read = c.in_ok-append_some.ensures.appended in
    let longer = simp length-append at (ap length read.2) in
    (rw read.2 (Consumes-trans _ _ _ _ _ c.loop-bytes.invariant.0 read.1), c.loop-bytes.invariant.1, omega (arith, longer, read.3, c.in_ok-append_some.ensures.within))

pub returns-in_err-chunk-clause-told : goal.returns-in_err-chunk-clause-told
returns-in_err-chunk-clause-told g c =
    let p = err_from_is_err_and c.from_residual.result c.from_residual.ensures.1 in
    rw (p.1, p.2) (given_none (g.R.Read.remaining c.args.reader.now) c.args.largest)
