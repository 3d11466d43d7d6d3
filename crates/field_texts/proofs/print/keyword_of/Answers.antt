use Rattle.std.proofs.Common.{rules}
use Rattle.arrow_schema.specs.declared.types.Field.{the_lemmas}
use Rattle.field_texts.specs.Keywords.{keyword_text}
use Rattle.field_texts.proofs.print.keyword_of.Goals as goal

pub returns-in-Null : goal.returns-in-Null
unfolding keyword_text
returns-in-Null c = rw c.in-Null.is (search (rules, the_lemmas))

pub returns-in-Bool : goal.returns-in-Bool
unfolding keyword_text
returns-in-Bool c = rw c.in-Bool.is (search (rules, the_lemmas))

pub returns-in-Int : goal.returns-in-Int
unfolding keyword_text
returns-in-Int c = rw c.in-Int.is (search (rules, the_lemmas))

pub returns-in-Date : goal.returns-in-Date
unfolding keyword_text
returns-in-Date c = rw c.in-Date.is (search (rules, the_lemmas))

pub returns-in-Timestamp : goal.returns-in-Timestamp
unfolding keyword_text
returns-in-Timestamp c = rw c.in-Timestamp.is (search (rules, the_lemmas))

pub returns-in-Utf8 : goal.returns-in-Utf8
unfolding keyword_text
returns-in-Utf8 c = rw c.in-Utf8.is (search (rules, the_lemmas))

pub returns-in-LargeUtf8 : goal.returns-in-LargeUtf8
unfolding keyword_text
returns-in-LargeUtf8 c = rw c.in-LargeUtf8.is (search (rules, the_lemmas))

pub returns-in-Binary : goal.returns-in-Binary
unfolding keyword_text
returns-in-Binary c = rw c.in-Binary.is (search (rules, the_lemmas))

pub returns-in-LargeBinary : goal.returns-in-LargeBinary
unfolding keyword_text
returns-in-LargeBinary c = rw c.in-LargeBinary.is (search (rules, the_lemmas))

pub returns-in-FixedSizeBinary : goal.returns-in-FixedSizeBinary
unfolding keyword_text
returns-in-FixedSizeBinary c = rw c.in-FixedSizeBinary.is (search (rules, the_lemmas))

pub returns-in-List : goal.returns-in-List
unfolding keyword_text
returns-in-List c = rw c.in-List.is (search (rules, the_lemmas))

pub returns-in-LargeList : goal.returns-in-LargeList
unfolding keyword_text
returns-in-LargeList c = rw c.in-LargeList.is (search (rules, the_lemmas))

pub returns-in-FixedSizeList : goal.returns-in-FixedSizeList
unfolding keyword_text
returns-in-FixedSizeList c = rw c.in-FixedSizeList.is (search (rules, the_lemmas))

pub returns-in-Struct : goal.returns-in-Struct
unfolding keyword_text
returns-in-Struct c = rw c.in-Struct.is (search (rules, the_lemmas))
