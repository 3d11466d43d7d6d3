use Rattle.std.proofs.Common.{List, length, sym, ap, subst, arith}
use Rattle.arrow_schema.specs.Column.{PlainSchema}
use Rattle.arrow_schema.specs.Limits.{IsWithinLimits}
use Rattle.catalogue.specs.declared.entry.Segment.{Segment}
use Rattle.catalogue.specs.Entries.{plain_entry}
use Rattle.catalogue.specs.laws.Kept.{entry_is}
use Rattle.catalogue.proofs.encoding.page_size.Goals as goal

pub encode_schema-requires : goal.encode_schema-requires
encode_schema-requires c = subst (λ (s : PlainSchema). IsWithinLimits s) (sym c.schema.ensures) (entry_is (plain_entry c.args.entry.now) c.requires.sound).schema

pub overflow_add-result-2 : goal.overflow_add-result-2
overflow_add-result-2 c =
    let same = ap (λ (ss : List Segment). length ss) c.segments.ensures in
    omega (arith, same, c.segments_size.ensures.most, c.requires.segments, c.len.ensures, c.in_ok-message.message.ok.0, c.in_ok-message.ensures.short)

pub returns-clause-short : goal.returns-clause-short
returns-clause-short c =
    let same = ap (λ (ss : List Segment). length ss) c.segments.ensures in
    omega (arith, same, c.segments_size.ensures.most, c.requires.segments, c.len.ensures, c.in_ok-message.message.ok.0, c.in_ok-message.ensures.short)
