use Rattle.arrowstore.proofs.FileLemmas.{opened_file}
use Rattle.arrowstore.proofs.serving.device_of.Goals as goal

pub returns-in-Changes : goal.returns-in-Changes
returns-in-Changes g c =
    let e = c.open.ensures in
    record { opened = opened_file c.open.result e.length e.failed e.empty }
