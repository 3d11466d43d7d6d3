use Rattle.std.proofs.Common.{◌∙◌}
use Rattle.csv.specs.Records.{fields_of}
use Rattle.text_import.proofs.RecordLemmas.{field_within, unwrapped}
use Rattle.text_import.proofs.records.record_field.Goals as goal

pub returns : goal.returns
returns c = rw c.unwrap_or.ensures (unwrapped c.get.result _ _ (c.get.ensures.value ∙ field_within (fields_of c.args.row.now) c.args.i c.requires))
