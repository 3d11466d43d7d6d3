use Rattle.std.proofs.Common.{◌≡◌, ◌+◌, ◌++◌, ◌∙◌, length, length-append, take, drop, ap, arith}
use Rattle.segments.specs.Pieces.{bytes_of_parts}
use Rattle.segments.proofs.Pieces.{next_part, all_parts}
use Rattle.segments.proofs.piece.byte_count.Goals as goal

pub returns-in_err-count-clause-none : goal.returns-in_err-count-clause-none
returns-in_err-count-clause-none c = λ short.
    let i = c.loop-part.part-index in
    let ps = c.args.parts.now in
    let x = bytes_of_parts (take i ps) in
    let y = c.bytes.result.now in
    let rest = bytes_of_parts (drop (i + 1) ps) in
    let all = all_parts ps (i + 1) (x ++ y) (next_part ps i c.part-item.result y c.loop-part-test.true c.part-item.is c.bytes.ensures) in
    let lens : length (bytes_of_parts ps) ≡ length x + length y + length rest = ap length all ∙ length-append (x ++ y) rest ∙ ap (λ n. n + length rest) (length-append x y) in
    absurd (c.in_err-count.ensures (omega (arith, lens, short, c.loop-part.invariant)))
