use Rattle.std.proofs.Common.{◌+◌, ◌++◌, length, take, drop, ap, ◌∙◌, arith}
use borrow.Rule.Slice.PartMut.{Post-is}
use Rattle.commit.proofs.Texts.{filled_more}
use Rattle.commit.proofs.sector.put.Goals as goal

pub returns : goal.returns
returns c = λ front long stored.
    let at = c.args.at in
    let sector = c.args.sector.now in
    let bytes = c.args.bytes.now in
    let after = Post-is at (at + length bytes) sector (omega arith) in
    (λ i. take at sector ++ (c.copy_from_slice.ensures.after i ++ after i))
    ∙ ap (λ l. take at l ++ (bytes ++ drop (at + length bytes) l)) stored
    ∙ filled_more front bytes at long
