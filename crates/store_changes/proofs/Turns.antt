-- What one more turn of a loop has made of parts, streams and segments, and what is left of them.
use Rattle.std.specs.Prelude.{length, IfSome}
use Rattle.std.specs.Int.{div_ceil}
use Rattle.std.specs.Option.{ok_or}
use Rattle.std.specs.Global.{Vec}
use Rattle.std.proofs.Common.{◌≡◌, ℕ, ◌+◌, ◌<◌, List, [], ◌∷◌, ◌++◌, Bor, Option, Some, None, Result, Ok, get_or, drop, ap, ◌∙◌, append_assoc, arith}
use Rattle.std.proofs.lemmas.List.{drop_more, map-append}
use Rattle.facts.specs.laws.Lists.{drop-item, flat_map-push}
use Rattle.batch_build.specs.Batch.{buffer_bytes}
use Rattle.batch_build.specs.declared.batch.Buffer.{Buffer}
use Rattle.ipc_encode.specs.View.{joined_parts, streams_behind}
use Rattle.segments.specs.declared.piece.PiecePart.{PiecePart}
use Rattle.segments.specs.declared.piece.PiecePart.TheVariants.{Borrowed}
use Rattle.segments.specs.declared.piece.Piece.{Piece}
use Rattle.segments.specs.declared.run.Run.{Run}
use Rattle.segments.specs.Pieces.{part_bytes, bytes_of_parts, plain_pieces}
use Rattle.segments.specs.Sectors.{sector_count}
use Rattle.segments.specs.Writing.{runs_of}
use Rattle.catalogue.specs.declared.entry.Segment.{Segment}
use Rattle.commit.specs.declared.sector.FormatVersion.{FormatVersion}
use Rattle.commit.specs.Placing.{plain_contents}
use Rattle.store_runs.specs.Changes.{digest_for}
use Rattle.store_runs.specs.Carrying.{unplaced}
use Rattle.store_changes.specs.Prepared.{in_runs}

-- one part more is borrowed
pub part_more : (old new : List PiecePart) (borrowed : Bor (List ℕ)) (parts : List Buffer) (i : ℕ) (part : Buffer) (all : List ℕ) → i < length parts → part ≡ get_or parts i part → borrowed.now ≡ buffer_bytes part
    → new ≡ old ++ Borrowed borrowed ∷ [] → bytes_of_parts old ++ joined_parts (drop i parts) ≡ all → bytes_of_parts new ++ joined_parts (drop (i + 1) parts) ≡ all
part_more old new borrowed parts i part all within is same pushed was =
    let rest : List ℕ = joined_parts (drop (i + 1) parts) in
    ap (λ (xs : List ℕ). xs ++ rest) (ap bytes_of_parts pushed ∙ flat_map-push part_bytes old (Borrowed borrowed))
    ∙ append_assoc (bytes_of_parts old) borrowed.now rest
    ∙ ap (λ (xs : List ℕ). bytes_of_parts old ++ (xs ++ rest)) same
    ∙ (rw (drop-item parts i part within is) at was)

-- one stream more is borrowed
pub stream_more : (front : List ℕ) (old new : List (Vec PiecePart)) (borrowed : Vec PiecePart) (streams : List (Vec Buffer)) (i : ℕ) (stream : Vec Buffer) (all : List (List ℕ)) → i < length streams → stream ≡ get_or streams i stream
    → bytes_of_parts borrowed.items ≡ front ++ joined_parts stream.items → new ≡ old ++ borrowed ∷ [] → plain_contents old ++ streams_behind front (drop i streams) ≡ all
    → plain_contents new ++ streams_behind front (drop (i + 1) streams) ≡ all
stream_more front old new borrowed streams i stream all within is same pushed was =
    let rest : List (List ℕ) = streams_behind front (drop (i + 1) streams) in
    ap (λ (xs : List (List ℕ)). xs ++ rest) (ap plain_contents pushed ∙ map-append (λ (parts : Vec PiecePart). bytes_of_parts parts.items) old (borrowed ∷ []))
    ∙ append_assoc (plain_contents old) (bytes_of_parts borrowed.items ∷ []) rest
    ∙ ap (λ (x : List ℕ). plain_contents old ++ x ∷ rest) same
    ∙ (rw (drop-item streams i stream within is) at was)

-- what was counted, where it was not refused
pub counted : {E : Type 0} (o : Option ℕ) (e : E) (r : Result ℕ E) (n bytes : ℕ) → r ≡ ok_or o e → r ≡ Ok n → IfSome o (λ count. count ≡ bytes) → n ≡ bytes
counted None e r n bytes told is count = absurd (cc (told, is))
counted {E = E} (Some m) e r n bytes told is count = let same : n ≡ m = cc (told, is) in same ∙ count

sectors_for : (bytes : ℕ) → div_ceil bytes 512 ≡ sector_count bytes
sectors_for bytes = omega arith

abbrev at_run : Run → ℕ → ℕ → Option (List ℕ) → Segment
at_run run bytes count digest = record { place = record { run = run; bytes = bytes }; rows = count; digest = digest }

-- one segment more has its place
pub placed_more : (old new : List Segment) (pieces : List Piece) (segments : List Segment) (i : ℕ) (piece : Piece) (s : Segment) (all : List Segment) → i < length pieces → piece ≡ get_or pieces i piece → i < length segments → s ≡ get_or segments i s
    → new ≡ old ++ at_run piece.run s.place.bytes s.rows s.digest ∷ [] → old ++ in_runs (runs_of (plain_pieces (drop i pieces))) (drop i segments) ≡ all
    → new ++ in_runs (runs_of (plain_pieces (drop (i + 1) pieces))) (drop (i + 1) segments) ≡ all
placed_more old new pieces segments i piece s all within is also here pushed was =
    let rest : List Segment = in_runs (runs_of (plain_pieces (drop (i + 1) pieces))) (drop (i + 1) segments) in
    ap (λ (xs : List Segment). xs ++ rest) pushed ∙ append_assoc old (at_run piece.run s.place.bytes s.rows s.digest ∷ []) rest
    ∙ (rw (drop-item pieces i piece within is, drop-item segments i s also here) at was)

-- one segment more has none yet
pub unplaced_more : (v : FormatVersion) (old new : List Segment) (streams : List (Vec PiecePart)) (counts : List ℕ) (i : ℕ) (stream : Vec PiecePart) (bytes sectors : ℕ) (digest : Option (List ℕ)) (all : List Segment) → i < length streams → stream ≡ get_or streams i stream → i < length counts
    → bytes ≡ length (bytes_of_parts stream.items) → sectors ≡ div_ceil bytes 512 → digest ≡ digest_for v (bytes_of_parts stream.items) → new ≡ old ++ at_run (record { start = 0; count = sectors }) bytes (get_or counts i 0) digest ∷ []
    → old ++ unplaced v (plain_contents (drop i streams)) (drop i counts) ≡ all → new ++ unplaced v (plain_contents (drop (i + 1) streams)) (drop (i + 1) counts) ≡ all
unplaced_more v old new streams counts i stream bytes sectors digest all within is also same rounded own pushed was =
    let rest : List Segment = unplaced v (plain_contents (drop (i + 1) streams)) (drop (i + 1) counts) in
    let count = get_or counts i 0 in
    let made : List ℕ = bytes_of_parts stream.items in
    ap (λ (xs : List Segment). xs ++ rest)
    (pushed
    ∙ ap (λ (n : ℕ). old ++ at_run (record { start = 0; count = n }) bytes count digest ∷ []) (rounded ∙ sectors_for bytes)
    ∙ (λ j. old ++ at_run (record { start = 0; count = sector_count (same j) }) (same j) count (own j) ∷ []))
    ∙ append_assoc old (at_run (record { start = 0; count = sector_count (length made) }) (length made) count (digest_for v made) ∷ []) rest
    ∙ (rw (drop-item streams i stream within is, drop_more counts i 0 also) at was)
