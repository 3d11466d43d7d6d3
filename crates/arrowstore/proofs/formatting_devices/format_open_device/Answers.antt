use Rattle.arrowstore.proofs.FileLemmas.{of_same_size}
use Rattle.arrowstore.proofs.formatting_devices.format_open_device.Goals as goal

pub returns-clause-refused : goal.returns-clause-refused
returns-clause-refused g c = of_same_size _ _ _ c.args.version c.format_file.result c.sectors-sectors.ensures c.format_file.ensures.refused
