-- Pieces that are written into runs that share no sector.
use Rattle.std.proofs.Common.{◌≡◌, ◌≤◌, ◌<◌, ◌+◌, ℕ, zero, suc, List, [], ◌∷◌, ◌++◌, length, take, drop, get_or, refl, sym, ap, ◌∙◌, subst, arith, append-nil}
use Rattle.std.proofs.lemmas.Grind.{flat_map-append}
use Rattle.std.proofs.lemmas.List.{get_or-map, length-map, take_more, take-append-drop}
use Rattle.sector_dev.specs.Disk.{Sector, Story, now, shown_image}
use Rattle.sector_dev.specs.Rows.{SectorWrite, GrowsBy}
use Rattle.segments.specs.declared.piece.Piece.{Piece}
use Rattle.segments.specs.declared.piece.PiecePart.{PiecePart}
use Rattle.segments.specs.Pieces.{PlainPiece, part_bytes, bytes_of_parts, plain_piece, plain_pieces}
use Rattle.segments.specs.Runs.{AreApart}
use Rattle.segments.specs.Sectors.{sector_count}
use Rattle.segments.specs.laws.ReadBack.{same_holds}
use Rattle.segments.specs.laws.Runs.{out_of_apart}
use Rattle.segments.specs.Writing.{WritesOnly, runs_of, AllFit, HoldsEach, run_writes, piece_writes}
use Rattle.segments.proofs.Touched.{AreIn, moments_done, in_both, in_more, run_in, run_holds, written_now}

-- a piece fits
fit_at : (size : ℕ) (ps : List PlainPiece) (i : ℕ) (d : PlainPiece) → AllFit size ps → i < length ps → ((get_or ps i d).run.start + (get_or ps i d).run.count ≤ size) × (sector_count (length (get_or ps i d).bytes) ≤ (get_or ps i d).run.count)
fit_at size [] i d fit lt = absurd (omega arith)
fit_at size (p ∷ ps) zero d fit lt = (fit.0, fit.1)
fit_at size (p ∷ ps) (suc i) d fit lt = fit_at size ps i d fit.2 (omega arith)

-- the piece that a loop has come to
pub number : (pieces : List Piece) (i : ℕ) → i < length pieces → i < length (plain_pieces pieces)
number pieces i lt = let same = length-map pieces plain_piece in omega (arith, lt, same)

pub plain_at : (pieces : List Piece) (i : ℕ) (p : Piece) → i < length pieces → p ≡ get_or pieces i p → plain_piece p ≡ get_or (plain_pieces pieces) i (plain_piece p)
plain_at pieces i p lt is = ap plain_piece is ∙ sym (get_or-map plain_piece pieces i p (plain_piece p) lt)

pub fit_of : (size : ℕ) (pieces : List Piece) (i : ℕ) (p : Piece) → AllFit size (plain_pieces pieces) → i < length pieces → p ≡ get_or pieces i p → p.run.start + sector_count (length (plain_piece p).bytes) ≤ size
fit_of size pieces i p fit lt is =
    let d = plain_piece p in
    let fits = subst (λ (q : PlainPiece). (q.run.start + q.run.count ≤ size) × (sector_count (length q.bytes) ≤ q.run.count)) (sym (plain_at pieces i p lt is)) (fit_at size (plain_pieces pieces) i d fit (number pieces i lt)) in
    omega (arith, fits.0, fits.1)

-- the parts of a piece, as a loop comes to them
pub next_part : (ps : List PiecePart) (i : ℕ) (p : PiecePart) (bytes : List ℕ) → i < length ps → p ≡ get_or ps i p → bytes ≡ part_bytes p → bytes_of_parts (take (i + 1) ps) ≡ bytes_of_parts (take i ps) ++ bytes
next_part ps i p bytes lt is same =
    ap bytes_of_parts (take_more ps i p lt) ∙ flat_map-append part_bytes (take i ps) (get_or ps i p ∷ [])
    ∙ ap (λ l. bytes_of_parts (take i ps) ++ l) (append-nil (part_bytes (get_or ps i p)) ∙ ap part_bytes (sym is) ∙ sym same)

pub all_parts : (ps : List PiecePart) (i : ℕ) (front : List ℕ) → bytes_of_parts (take i ps) ≡ front → bytes_of_parts ps ≡ front ++ bytes_of_parts (drop i ps)
all_parts ps i front is =
    ap bytes_of_parts (sym (take-append-drop i ps)) ∙ flat_map-append part_bytes (take i ps) (drop i ps) ∙ ap (λ l. l ++ bytes_of_parts (drop i ps)) is

-- their writes lie in their runs
pub pieces_in : (size : ℕ) (ps : List PlainPiece) → AllFit size ps → AreIn (runs_of ps) (piece_writes ps)
pieces_in size [] fit = tt
pieces_in size (p ∷ ps) fit =
    in_both (runs_of (p ∷ ps)) (run_writes p.run.start p.bytes) (piece_writes ps) (run_in p.run (runs_of ps) p.bytes fit.1)
    (in_more (runs_of ps) (runs_of (p ∷ ps)) (piece_writes ps) (λ n out. out.1) (pieces_in size ps fit.2))

-- some writes that were done after others
apart_done : (ws vs : List SectorWrite) (a b : Story) → GrowsBy (ws ++ vs) a b → (mid : Story) × GrowsBy ws a mid × GrowsBy vs mid b
apart_done [] vs a b done = (a, refl, done)
apart_done (w ∷ ws) vs a b done = let later = apart_done ws vs done.0 b done.2 in (later.0, (done.0, done.1, later.1), later.2)

-- each run holds its bytes after all were written
pub pieces_hold : (size : ℕ) (ps : List PlainPiece) (a b : Story) → AllFit size ps → AreApart (runs_of ps) → GrowsBy (piece_writes ps) a b → HoldsEach (shown_image (now b)) ps
pieces_hold size [] a b fit apart done = tt
pieces_hold size (p ∷ ps) a b fit apart done =
    let parts = apart_done (run_writes p.run.start p.bytes) (piece_writes ps) a b done in
    let later : WritesOnly (runs_of ps) (now parts.0) (now b) = written_now (runs_of ps) parts.0 b (moments_done (runs_of ps) (piece_writes ps) parts.0 b (pieces_in size ps fit.2) parts.2) in (
      same_holds (shown_image (now parts.0)) (shown_image (now b)) p.run.start p.bytes
          (λ j lt. ap (λ (s : Sector). s.shown) (later.outside (p.run.start + j) (out_of_apart p.run (runs_of ps) (p.run.start + j) apart.0 (omega arith) (omega (arith, lt, fit.1)))))
          (run_holds p.run.start p.bytes a parts.0 parts.1),
      pieces_hold size ps parts.0 b fit.2 apart.1 parts.2,
    )
