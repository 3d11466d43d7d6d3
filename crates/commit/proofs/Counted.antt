-- The numbers of sectors that contents take.
use Rattle.std.proofs.Common.{◌≡◌, ◌≤◌, ◌<◌, ◌+◌, ◌++◌, ◌∙◌, ℕ, zero, suc, List, [], ◌∷◌, length, map, take, get_or, sym, ap, arith, append_assoc}
use Rattle.std.specs.Global.{Vec}
use Rattle.std.specs.List.{AllByRecursion}
use Rattle.std.proofs.lemmas.List.{length-map, length-append, length_push, map_more, map_push, take_more}
use Rattle.segments.specs.declared.piece.PiecePart.{PiecePart}
use Rattle.segments.specs.declared.piece.Piece.{Piece}
use Rattle.segments.specs.declared.run.Run.{Run}
use Rattle.segments.specs.Pieces.{PlainPiece, bytes_of_parts, plain_piece, plain_pieces}
use Rattle.segments.specs.Writing.{runs_of}
use Rattle.segments.specs.Sectors.{sector_count}
use Rattle.commit.specs.Placing.{AreSome, AreWritten, sectors_of, contents_of, counts_of, plain_contents}

-- one for each, and one for the text
pub counted_length : (contents : List (Vec PiecePart)) (pages : List ℕ) (bytes : ℕ) → length (counts_of (plain_contents contents) pages bytes) ≡ length contents + length pages + 1
counted_length contents pages bytes =
    let own = length-map contents (λ (parts : Vec PiecePart). bytes_of_parts parts.items) in
    let counts = length-map (plain_contents contents) sectors_of in
    let written = length-map pages sector_count in
    let front = length-append (map sectors_of (plain_contents contents)) (map sector_count pages) in
    omega (arith, own, counts, written, front, length_push (map sectors_of (plain_contents contents) ++ map sector_count pages) (sector_count bytes))

-- none of them is 0
pub counts_some : (contents : List (List ℕ)) (pages : List ℕ) (bytes : ℕ) → AreSome contents → AreWritten pages → 1 ≤ bytes → (i : ℕ) → i < length (counts_of contents pages bytes) → 1 ≤ get_or (counts_of contents pages bytes) i 0
counts_some [] [] bytes some written le zero lt = omega arith
counts_some [] [] bytes some written le (suc i) lt = absurd (omega arith)
counts_some [] (p ∷ ps) bytes some written le zero lt = omega (arith, written.0)
counts_some [] (p ∷ ps) bytes some written le (suc i) lt = counts_some [] ps bytes some written.1 le i (omega arith)
counts_some (v ∷ vs) pages bytes some written le zero lt = omega (arith, some.0)
counts_some (v ∷ vs) pages bytes some written le (suc i) lt = counts_some vs pages bytes some.1 written le i (omega arith)

-- one content more
pub contents_more : (contents : List (Vec PiecePart)) (i : ℕ) (parts : Vec PiecePart) → i < length contents → parts ≡ get_or contents i parts
    → plain_contents (take (i + 1) contents) ≡ plain_contents (take i contents) ++ bytes_of_parts parts.items ∷ []
contents_more contents i parts lt is =
    let here : plain_contents (take (i + 1) contents) ≡ plain_contents (take i contents) ++ bytes_of_parts (get_or contents i parts).items ∷ [] = map_more (λ (p : Vec PiecePart). bytes_of_parts p.items) contents i parts lt in
    let same : bytes_of_parts (get_or contents i parts).items ≡ bytes_of_parts parts.items = ap (λ (p : Vec PiecePart). bytes_of_parts p.items) (sym is) in
    here ∙ ap (λ (bytes : List ℕ). plain_contents (take i contents) ++ bytes ∷ []) same

-- what holds of each item holds with one more
pub all_more : {X : Type 0} (P : X → Type 0) (xs : List X) (x : X) → AllByRecursion P xs → P x → AllByRecursion P (xs ++ x ∷ [])
all_more P [] x all here = (here, tt)
all_more P (y ∷ ys) x all here = (all.0, all_more P ys x all.1 here)

-- one piece more
pub piece_contents : (pieces : List Piece) (piece : Piece) (front : List (List ℕ)) (contents : List (Vec PiecePart)) → contents_of (plain_pieces pieces) ≡ front ++ plain_contents contents
    → contents_of (plain_pieces (pieces ++ piece ∷ [])) ≡ front ++ plain_contents (contents ++ piece.parts ∷ [])
piece_contents pieces piece front contents so_far =
    ap contents_of (map_push plain_piece pieces piece) ∙ map_push (λ (p : PlainPiece). p.bytes) (plain_pieces pieces) (plain_piece piece)
    ∙ ap (λ (vs : List (List ℕ)). vs ++ bytes_of_parts piece.parts.items ∷ []) so_far ∙ append_assoc front (plain_contents contents) (bytes_of_parts piece.parts.items ∷ []) ∙ ap (λ (vs : List (List ℕ)). front ++ vs) (sym (map_push (λ (parts : Vec PiecePart). bytes_of_parts parts.items) contents piece.parts))

pub piece_run : (pieces : List Piece) (piece : Piece) (runs : List Run) (n : ℕ) → runs_of (plain_pieces pieces) ≡ take n runs → n < length runs → piece.run ≡ get_or runs n piece.run
    → runs_of (plain_pieces (pieces ++ piece ∷ [])) ≡ take (n + 1) runs
piece_run pieces piece runs n so_far lt is =
    ap runs_of (map_push plain_piece pieces piece) ∙ map_push (λ (p : PlainPiece). p.run) (plain_pieces pieces) (plain_piece piece)
    ∙ (λ i. so_far i ++ is i ∷ []) ∙ sym (take_more runs n piece.run lt)
