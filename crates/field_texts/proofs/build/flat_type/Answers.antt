use Rattle.std.proofs.Common.{rules}
use Rattle.arrow_schema.specs.declared.types.Field.{the_lemmas}
use Rattle.field_texts.proofs.build.flat_type.Goals as goal

pub returns-in-Null : goal.returns-in-Null
returns-in-Null c = rw c.in-Null.is (search (rules, the_lemmas))

pub returns-in-Bool : goal.returns-in-Bool
returns-in-Bool c = rw c.in-Bool.is (search (rules, the_lemmas))

pub returns-in-Int : goal.returns-in-Int
returns-in-Int c = rw c.in-Int.is (search (rules, the_lemmas))

pub returns-in-Date : goal.returns-in-Date
returns-in-Date c = rw c.in-Date.is (search (rules, the_lemmas))

pub returns-in-Utf8 : goal.returns-in-Utf8
returns-in-Utf8 c = rw c.in-Utf8.is (search (rules, the_lemmas))

pub returns-in-LargeUtf8 : goal.returns-in-LargeUtf8
returns-in-LargeUtf8 c = rw c.in-LargeUtf8.is (search (rules, the_lemmas))

pub returns-in-Binary : goal.returns-in-Binary
returns-in-Binary c = rw c.in-Binary.is (search (rules, the_lemmas))

pub returns-in-LargeBinary : goal.returns-in-LargeBinary
returns-in-LargeBinary c = rw c.in-LargeBinary.is (search (rules, the_lemmas))

pub returns-in-FixedBinary : goal.returns-in-FixedBinary
returns-in-FixedBinary c = rw c.in-FixedBinary.is (search (rules, the_lemmas))
