-- The writes of runs, in their order.
use Rattle.std.proofs.Common.{◌≡◌, ◌<◌, ◌+◌, ℕ, List, [], ◌∷◌, ◌++◌, length, take, drop, get_or, sym, ap, ◌∙◌, subst, append-nil}
use Rattle.std.proofs.lemmas.Grind.{flat_map-append}
use Rattle.std.proofs.lemmas.List.{take_more, take-append-drop}
use Rattle.sector_dev.specs.Disk.{Story}
use Rattle.sector_dev.specs.Rows.{SectorWrite, GrowsBy, FailsAmong}
use Rattle.sector_dev.specs.laws.Rows.{grows_on, fails_later, fails_before}
use Rattle.segments.specs.Pieces.{PlainPiece}
use Rattle.segments.specs.Writing.{run_writes, piece_writes}

-- the piece that a loop has come to
next_piece : (ps : List PlainPiece) (i : ℕ) (p : PlainPiece) (bytes : List ℕ) → i < length ps → p ≡ get_or ps i p → bytes ≡ p.bytes → piece_writes (take (i + 1) ps) ≡ piece_writes (take i ps) ++ run_writes p.run.start bytes
next_piece ps i p bytes lt is same =
    ap piece_writes (take_more ps i p lt)
    ∙ flat_map-append (λ (q : PlainPiece). run_writes q.run.start q.bytes) (take i ps) (get_or ps i p ∷ [])
    ∙ ap (λ (ws : List SectorWrite). piece_writes (take i ps) ++ ws)
    (append-nil (run_writes (get_or ps i p).run.start (get_or ps i p).bytes)
    ∙ ap (λ (q : PlainPiece). run_writes q.run.start q.bytes) (sym is)
    ∙ ap (run_writes p.run.start) (sym same))

pub piece_done : (ps : List PlainPiece) (i : ℕ) (p : PlainPiece) (bytes : List ℕ) (a b z : Story) → i < length ps → p ≡ get_or ps i p → bytes ≡ p.bytes → GrowsBy (piece_writes (take i ps)) a b → GrowsBy (run_writes p.run.start bytes) b z → GrowsBy (piece_writes (take (i + 1) ps)) a z
piece_done ps i p bytes a b z lt is same so_far here =
    subst (λ ws. GrowsBy ws a z) (sym (next_piece ps i p bytes lt is same)) (grows_on (piece_writes (take i ps)) (run_writes p.run.start bytes) a b z so_far here)

pub piece_failed : (ps : List PlainPiece) (i : ℕ) (p : PlainPiece) (bytes : List ℕ) (a b z : Story) → i < length ps → p ≡ get_or ps i p → bytes ≡ p.bytes → GrowsBy (piece_writes (take i ps)) a b → FailsAmong (run_writes p.run.start bytes) b z → FailsAmong (piece_writes ps) a z
piece_failed ps i p bytes a b z lt is same so_far fails =
    let front = take (i + 1) ps in
    let rest = drop (i + 1) ps in
    subst (λ ws. FailsAmong ws a z) (sym (flat_map-append (λ (q : PlainPiece). run_writes q.run.start q.bytes) front rest) ∙ ap piece_writes (take-append-drop (i + 1) ps))
    (fails_before (piece_writes front) (piece_writes rest) a z
    (subst (λ ws. FailsAmong ws a z) (sym (next_piece ps i p bytes lt is same)) (fails_later (piece_writes (take i ps)) (run_writes p.run.start bytes) a b z so_far fails)))
