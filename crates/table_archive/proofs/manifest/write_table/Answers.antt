use Rattle.std.proofs.Common.{◌∙◌}
use Rattle.std.proofs.lemmas.Result.{on_ok_weaker}
use Rattle.table_archive.proofs.Appending.{five_more}
use Rattle.table_archive.proofs.manifest.write_table.Goals as goal

pub returns : goal.returns
returns c =
    on_ok_weaker c.end_object.result (λ e. (
      five_more c.args.writer.now.tokens _ _ _ _ _ _ _ _ _ _ (rw c.as_str.ensures.value at c.in_ok-write_name.ensures.0) c.in_ok-write_schema.ensures.0
          c.in_ok-write_fields.ensures.0 (rw c.deref.ensures.value at c.in_ok-write_list.ensures.0) e,
      c.end_object.ensures.room.0 ∙ c.in_ok-write_list.ensures.1 ∙ c.in_ok-write_fields.ensures.1 ∙ c.in_ok-write_schema.ensures.1
          ∙ c.in_ok-write_name.ensures.1,
    )) c.end_object.ensures.ok
