use Rattle.std.proofs.Common.{◌∙◌}
use Rattle.std.proofs.lemmas.Result.{IfOk-weaker, IfErr-weaker}
use Rattle.arrow_schema.specs.Column.{PlainSchema}
use Rattle.arrow_schema.specs.View.{schema_of}
use Rattle.store.proofs.exports.segment_piece.Goals as goal

pub returns-in-Ok-clause-piece : goal.returns-in-Ok-clause-piece
returns-in-Ok-clause-piece g c =
    let s : PlainSchema = schema_of c.args.schema.now in
    IfOk-weaker c.read_piece.result _ _ (λ piece of. of s c.requires.limits (c.deref.ensures.value ∙ c.in-Ok.ensures.message)) c.read_piece.ensures.piece

pub returns-in-Ok-clause-told : goal.returns-in-Ok-clause-told
returns-in-Ok-clause-told g c =
    let s : PlainSchema = schema_of c.args.schema.now in
    IfErr-weaker c.read_piece.result _ _ (λ e of. of s (c.deref.ensures.value ∙ c.in-Ok.ensures.message)) c.read_piece.ensures.told
