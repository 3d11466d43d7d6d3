use Rattle.std.specs.Prelude.{IfSome}
use Rattle.std.proofs.Common.{◌≡◌, ◌≤◌, ◌<◌, ◌^◌, ◌+◌, ◌++◌, get_or, append-nil, append_assoc, ◌∷◌, ◌∙◌, [], ℕ, List, Option, length, map, take, take_all, sym, ap, subst, arith, rules}
use Rattle.std.specs.Global.{Vec}
use Rattle.std.proofs.lemmas.List.{map_push, map_more}
use Rattle.segments.specs.declared.piece.PiecePart.{PiecePart}
use Rattle.segments.specs.Pieces.{bytes_of_parts}
use Rattle.segments.specs.Sectors.{sector_count}
use Rattle.commit.specs.Placing.{AreShort, plain_contents, sectors_of}
use Rattle.commit.proofs.Counted.{contents_more, all_more}
use Rattle.commit.proofs.placing.counts_for.Goals as goal

pub loop-parts-preserved : goal.loop-parts-preserved
loop-parts-preserved c =
    let i = c.loop-parts.parts-index in
    let contents = c.args.contents.now in
    let bytes = bytes_of_parts c.parts-item.result.items in
    let more : plain_contents (take (i + 1) contents) ≡ plain_contents (take i contents) ++ bytes ∷ [] = contents_more contents i c.parts-item.result c.loop-parts-test.true c.parts-item.is in
    let counted : c.in_ok-bytes.bytes ≡ length (bytes_of_parts c.deref.result.now) =
    subst (λ (o : Option ℕ). IfSome o (λ n. n ≡ length (bytes_of_parts c.deref.result.now))) c.in_ok-bytes.ensures.ok_part c.byte_count.ensures.some in
    let same : c.in_ok-bytes.bytes ≡ length bytes = counted ∙ ap (λ (ps : List PiecePart). length (bytes_of_parts ps)) c.deref.ensures.value in
    let sectors : c.div_ceil.result ≡ sectors_of bytes = omega (arith, same, c.div_ceil.ensures) in
    let fits : c.in_ok-bytes.bytes < 2 ^ 64 = search rules in
    let pushed : c.push.new.self.items ≡ map sectors_of (plain_contents (take i contents)) ++ sectors_of bytes ∷ [] = c.in_ok-push.ensures.items ∙ (λ j. c.loop-parts.invariant.counts j ++ sectors j ∷ []) in
    let joined : map sectors_of (plain_contents (take (i + 1) contents)) ≡ map sectors_of (plain_contents (take i contents)) ++ sectors_of bytes ∷ [] =
    ap (λ (vs : List (List ℕ)). map sectors_of vs) more ∙ map_push sectors_of (plain_contents (take i contents)) bytes in
    record {
      counts = pushed ∙ sym joined;
      short = subst (λ (vs : List (List ℕ)). AreShort vs) (sym more) (all_more (λ (own : List ℕ). length own < 2 ^ 64) (plain_contents (take i contents)) bytes c.loop-parts.invariant.short (subst (λ (n : ℕ). n < 2 ^ 64) same fits));
    }

pub loop-parts-init : goal.loop-parts-init
loop-parts-init c = record { counts = c.new-counts.ensures.items; short = tt }

parts_counted : (contents : List (Vec PiecePart)) (i : ℕ) (counts : List ℕ) → length contents ≤ i → counts ≡ map sectors_of (plain_contents (take i contents)) → counts ≡ map sectors_of (plain_contents contents)
parts_counted contents i counts past is = is ∙ ap (λ (vs : List (Vec PiecePart)). map sectors_of (plain_contents vs)) (take_all i contents past)

pub loop-bytes-init : goal.loop-bytes-init
loop-bytes-init c =
    let contents = c.args.contents.now in
    let all : take c.loop-parts.parts-index contents ≡ contents = take_all c.loop-parts.parts-index contents (omega (arith, c.loop-parts-test.false)) in
    record {
      counts = parts_counted contents c.loop-parts.parts-index c.loop-parts.counts.items (omega (arith, c.loop-parts-test.false)) c.loop-parts.invariant.counts ∙ sym (append-nil (map sectors_of (plain_contents contents)));
      short = subst (λ (vs : List (Vec PiecePart)). AreShort (plain_contents vs)) all c.loop-parts.invariant.short;
    }

pub loop-bytes-preserved : goal.loop-bytes-preserved
loop-bytes-preserved c =
    let i = c.loop-bytes.bytes-index in
    let pages = c.args.pages.now in
    let front = map sectors_of (plain_contents c.args.contents.now) in
    let x = get_or pages i 0 in
    let sectors : c.div_ceil-in-loop-bytes.result ≡ sector_count x = omega (arith, c.div_ceil-in-loop-bytes.ensures) in
    let more : map sector_count (take (i + 1) pages) ≡ map sector_count (take i pages) ++ sector_count x ∷ [] = map_more sector_count pages i 0 c.loop-bytes-test.true in
    record {
      counts = c.in_ok-push-2.ensures.items ∙ (λ j. c.loop-bytes.invariant.counts j ++ sectors j ∷ []) ∙ append_assoc front (map sector_count (take i pages)) (sector_count x ∷ []) ∙ ap (λ (ns : List ℕ). front ++ ns) (sym more);
      short = c.loop-bytes.invariant.short;
    }

pub returns-clause-counts : goal.returns-clause-counts
returns-clause-counts c =
    let pages = c.args.pages.now in
    let front = map sectors_of (plain_contents c.args.contents.now) in
    let all : take c.loop-bytes.bytes-index pages ≡ pages = take_all c.loop-bytes.bytes-index pages (omega (arith, c.loop-bytes-test.false)) in
    let sectors : c.div_ceil-2.result ≡ sector_count c.args.text_bytes = omega (arith, c.div_ceil-2.ensures) in
    let counts : c.loop-bytes.counts.items ≡ front ++ map sector_count pages = c.loop-bytes.invariant.counts ∙ ap (λ (ns : List ℕ). front ++ map sector_count ns) all in
    c.in_ok-push-3.ensures.items ∙ (λ i. counts i ++ sectors i ∷ [])

pub returns-clause-short : goal.returns-clause-short
returns-clause-short c = c.loop-bytes.invariant.short
