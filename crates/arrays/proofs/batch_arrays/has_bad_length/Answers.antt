use Rattle.std.proofs.Common.{refl}
use Rattle.arrays.proofs.batch_arrays.has_bad_length.Goals as goal

pub returns-then-any_other_length : goal.returns-then-any_other_length
returns-then-any_other_length c =
    rw (← c.if-is_bad_length.ensures, ← c.if-any_bad_length.ensures, ← c.if-any_other_length.ensures c.args.placed.bytes.now c.args.placed.dictionaries.now) refl

pub returns : goal.returns
returns c =
    rw (← c.if-is_bad_length.ensures, ← c.if-any_bad_length.ensures, ← c.if-any_other_length.ensures c.args.placed.bytes.now c.args.placed.dictionaries.now, ← c.requires, ← c.any_short_child.ensures) refl
