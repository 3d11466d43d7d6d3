use Rattle.std.proofs.Common.{[], refl, arith}
use Rattle.store.proofs.formatting.empty_text_has_no_tables.Goals as goal

pub returns : goal.returns
returns c = λ form. c.one_text_each.ensures.again form [] (record { entries = refl; order = refl; tables = omega arith; segments = omega arith }) refl
