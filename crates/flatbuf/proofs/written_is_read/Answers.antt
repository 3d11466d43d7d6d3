use Rattle.flatbuf.proofs.ReadBack.{has, root_has}
use Rattle.flatbuf.proofs.Ends.{metadata_len, metadata_whole}
use Rattle.flatbuf.proofs.written_is_read.Goals as goal

pub returns : goal.returns
returns c = record { anywhere = has; size = metadata_len; whole = metadata_whole; root = root_has }
