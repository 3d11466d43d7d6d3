use Rattle.std.proofs.Common.{◌≡◌, ◌∙◌, length, ap, subst, arith, take_all}
use Rattle.sector_dev.specs.Rows.{GrowsBy}
use Rattle.segments.specs.Pieces.{plain_piece, plain_pieces, bytes_of_parts}
use Rattle.segments.specs.Writing.{runs_of, piece_writes}
use Rattle.std.proofs.lemmas.List.{length-map}
use Rattle.sector_dev.specs.laws.Rows.{on_err}
use Rattle.segments.proofs.Order.{piece_done, piece_failed}
use Rattle.segments.proofs.Pieces.{fit_of, number, plain_at, pieces_in, pieces_hold}
use Rattle.segments.proofs.Touched.{moments_done, moments_failed, leaves_others}
use Rattle.segments.proofs.writing.write_runs.Goals as goal

pub write_parts-requires-clause-within : goal.write_parts-requires-clause-within
write_parts-requires-clause-within g c =
    let D = g.D.SectorDevice in
    let fits = fit_of (D.size c.args.device.now) c.args.pieces.now c.loop-piece.piece-index c.piece-item.result c.requires.fit c.loop-piece-test.true c.piece-item.is in
    let same : length (bytes_of_parts c.deref.result.now) ≡ length (bytes_of_parts c.piece-item.result.parts.items) = ap (λ ps. length (bytes_of_parts ps)) c.deref.ensures.value in
    omega (arith, fits, same, c.loop-piece.invariant.size)

pub returns-in_err-write_parts-clause-cut_short : goal.returns-in_err-write_parts-clause-cut_short
returns-in_err-write_parts-clause-cut_short g c = on_err c.from_residual.result (λ told.
    let D = g.D.SectorDevice in
    let i = c.loop-piece.piece-index in
    let p = c.piece-item.result in
    piece_failed (plain_pieces c.args.pieces.now) i (plain_piece p) (bytes_of_parts c.deref.result.now) (D.story c.args.device.now) (D.story c.loop-piece.device) (D.story c.write_parts.new.device) (number c.args.pieces.now i c.loop-piece-test.true)
    (plain_at c.args.pieces.now i p c.loop-piece-test.true c.piece-item.is) (ap bytes_of_parts c.deref.ensures.value) (c.loop-piece.invariant.order told) (c.in_err-write_parts.ensures.cut_short told))

pub returns-in_err-write_parts-clause-moments : goal.returns-in_err-write_parts-clause-moments
returns-in_err-write_parts-clause-moments g c = λ told.
    let D = g.D.SectorDevice in
    let i = c.loop-piece.piece-index in
    let p = c.piece-item.result in
    let ps = plain_pieces c.args.pieces.now in
    moments_failed (runs_of ps) (piece_writes ps) (D.story c.args.device.now) (D.story c.write_parts.new.device) (pieces_in (D.size c.args.device.now) ps c.requires.fit)
    (piece_failed ps i (plain_piece p) (bytes_of_parts c.deref.result.now) (D.story c.args.device.now) (D.story c.loop-piece.device) (D.story c.write_parts.new.device) (number c.args.pieces.now i c.loop-piece-test.true)
    (plain_at c.args.pieces.now i p c.loop-piece-test.true c.piece-item.is) (ap bytes_of_parts c.deref.ensures.value) (c.loop-piece.invariant.order told) (c.in_err-write_parts.ensures.cut_short told))

pub returns-in_err-write_parts-clause-others : goal.returns-in_err-write_parts-clause-others
returns-in_err-write_parts-clause-others g c = λ told. leaves_others (runs_of (plain_pieces c.args.pieces.now)) _ _ (returns-in_err-write_parts-clause-moments g c told)

pub loop-piece-preserved : goal.loop-piece-preserved
loop-piece-preserved g c =
    let D = g.D.SectorDevice in
    let i = c.loop-piece.piece-index in
    let p = c.piece-item.result in
    record {
      size = c.write_parts.ensures.size ∙ c.loop-piece.invariant.size;
      failed = c.in_ok-write_parts.ensures.count ∙ c.loop-piece.invariant.failed;
      order = λ told.
          piece_done (plain_pieces c.args.pieces.now) i (plain_piece p) (bytes_of_parts c.deref.result.now) (D.story c.args.device.now) (D.story c.loop-piece.device) (D.story c.write_parts.new.device) (number c.args.pieces.now i c.loop-piece-test.true)
          (plain_at c.args.pieces.now i p c.loop-piece-test.true c.piece-item.is) (ap bytes_of_parts c.deref.ensures.value) (c.loop-piece.invariant.order told) (c.in_ok-write_parts.ensures.order told);
    }

pub returns-clause-order : goal.returns-clause-order
returns-clause-order g c = λ told.
    let D = g.D.SectorDevice in
    let ps = plain_pieces c.args.pieces.now in
    let many = length-map c.args.pieces.now plain_piece in
    subst (λ l. GrowsBy (piece_writes l) (D.story c.args.device.now) (D.story c.loop-piece.device)) (take_all c.loop-piece.piece-index ps (omega (arith, many, c.loop-piece-test.false))) (c.loop-piece.invariant.order told)

pub returns-clause-moments : goal.returns-clause-moments
returns-clause-moments g c = λ told.
    let D = g.D.SectorDevice in
    let ps = plain_pieces c.args.pieces.now in
    moments_done (runs_of ps) (piece_writes ps) (D.story c.args.device.now) (D.story c.loop-piece.device) (pieces_in (D.size c.args.device.now) ps c.requires.fit) (returns-clause-order g c told)

pub returns-clause-others : goal.returns-clause-others
returns-clause-others g c = λ told. leaves_others (runs_of (plain_pieces c.args.pieces.now)) _ _ (returns-clause-moments g c told)

pub returns-clause-holds : goal.returns-clause-holds
returns-clause-holds g c = λ told.
    let D = g.D.SectorDevice in
    pieces_hold (D.size c.args.device.now) (plain_pieces c.args.pieces.now) (D.story c.args.device.now) (D.story c.loop-piece.device) c.requires.fit c.requires.apart (returns-clause-order g c told)
