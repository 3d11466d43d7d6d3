use Rattle.arrowstore.proofs.FileLemmas.{opened_file}
use Rattle.arrowstore.proofs.applying_scripts.device_to_change.Goals as goal

pub returns : goal.returns
returns g c =
    let e = c.open.ensures in
    record { opened = opened_file c.open.result e.length e.failed e.empty }
