use Rattle.std.proofs.Common.{sym, ◌∙◌}
use Rattle.columns.specs.Array.{Arrays}
use Rattle.columns.specs.View.{placed_arrays, fields_of}
use Rattle.arrays.specs.inner.VisibleSpans.{is_no_plain_text}
use Rattle.arrays.proofs.SpanLists.{all_visible_of, no_row_fits, rows_fit}
use Rattle.arrays.proofs.VisibleTexts.{plain_texts_tell}
use Rattle.arrays.proofs.visible.has_bad_text.Goals as goal

pub returns : goal.returns
returns c =
    let arrays : Arrays = placed_arrays c.args.bytes.now c.args.dictionaries.now c.args.arrays.now in
    c.any_part.ensures ∙ all_visible_of is_no_plain_text (fields_of c.args.fields.now) arrays c.args.rows ∙ sym (plain_texts_tell (fields_of c.args.fields.now) arrays c.args.rows c.requires.entries)

pub any_part-requires-clause-sound : goal.any_part-requires-clause-sound
any_part-requires-clause-sound c =
    no_row_fits (fields_of c.args.fields.now) (placed_arrays c.args.bytes.now c.args.dictionaries.now c.args.arrays.now) c.args.rows c.requires.sound

pub any_part-requires-clause-long : goal.any_part-requires-clause-long
any_part-requires-clause-long c =
    rows_fit (fields_of c.args.fields.now) (placed_arrays c.args.bytes.now c.args.dictionaries.now c.args.arrays.now) c.args.rows c.requires.sound
