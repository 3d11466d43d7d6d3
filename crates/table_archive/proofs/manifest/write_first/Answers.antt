use Rattle.std.proofs.Common.{◌∙◌}
use Rattle.std.proofs.lemmas.Result.{on_ok_weaker}
use Rattle.table_archive.proofs.Appending.{five_more}
use Rattle.table_archive.proofs.manifest.write_first.Goals as goal

pub returns : goal.returns
returns c =
    on_ok_weaker c.end_object.result (λ e. (
      five_more c.args.writer.now.tokens _ _ _ _ _ _ _ _ _ _ c.in_ok-begin_object.ensures.ok
          (rw c.number.ensures at c.in_ok-write_number.ensures.0) c.in_ok-write_number-2.ensures.0
          c.in_ok-write_number-3.ensures.0 e,
      c.end_object.ensures.room.0 ∙ c.in_ok-write_number-3.ensures.1 ∙ c.in_ok-write_number-2.ensures.1 ∙ c.in_ok-write_number.ensures.1
          ∙ c.begin_object.ensures.room.0,
    )) c.end_object.ensures.ok
