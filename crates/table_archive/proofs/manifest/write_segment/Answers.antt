use Rattle.std.proofs.Common.{◌∙◌}
use Rattle.std.proofs.lemmas.Result.{on_ok_weaker}
use Rattle.table_archive.proofs.Appending.{six_more}
use Rattle.table_archive.proofs.manifest.write_segment.Goals as goal

pub returns : goal.returns
returns c =
    on_ok_weaker c.end_object.result (λ e. (
      six_more c.args.writer.now.tokens _ _ _ _ _ _ _ _ _ _ _ _ c.in_ok-begin_object.ensures.ok c.in_ok-key.ensures.ok c.in_ok-write_hex.ensures.0
          c.in_ok-write_number.ensures.0 c.in_ok-write_number-2.ensures.0 e,
      c.end_object.ensures.room.0 ∙ c.in_ok-write_number-2.ensures.1 ∙ c.in_ok-write_number.ensures.1 ∙ c.in_ok-write_hex.ensures.1 ∙ c.key.ensures.room.0
          ∙ c.begin_object.ensures.room.0,
    )) c.end_object.ensures.ok
