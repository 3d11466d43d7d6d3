use Rattle.facts.specs.Texts.{text_list}
use Rattle.field_texts.specs.declared.parse.ParseError.TheVariants.{BadText, Limit}
use Rattle.cli_replay.proofs.Texts.{fields_parsed}
use Rattle.cli_replay.proofs.commands.create.Goals as goal

pub unreachable-requires : goal.unreachable-requires
unreachable-requires c =
    let e = c.in-Err-Fields-BadText in
    fields_parsed c.one_column_of_a_text.ensures (text_list c.args.fields.now) e.field-0 e.field-0-0 _ (λ is. cc is) c.requires e.field-0-is e.field-0-0-is e.ensures.refused

pub unreachable-requires-in-Err-Fields-Limit : goal.unreachable-requires-in-Err-Fields-Limit
unreachable-requires-in-Err-Fields-Limit c =
    let e = c.in-Err-Fields-Limit in
    fields_parsed c.one_column_of_a_text.ensures (text_list c.args.fields.now) e.field-0 e.field-0-0 Limit (λ is. cc is) c.requires e.field-0-is e.field-0-0-is e.ensures.refused
