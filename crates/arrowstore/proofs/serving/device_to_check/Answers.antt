use Rattle.arrowstore.proofs.FileLemmas.{opened_file}
use Rattle.arrowstore.proofs.serving.device_to_check.Goals as goal

pub returns-else-has_no_sectors_at : goal.returns-else-has_no_sectors_at
returns-else-has_no_sectors_at g c =
    let e = c.open_to_confirm.ensures in
    record { opened = opened_file c.open_to_confirm.result e.length e.failed e.empty }
