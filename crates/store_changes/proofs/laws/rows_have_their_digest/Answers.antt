use Rattle.store_changes.proofs.Undamaged.{held_digest, table_digest, read_digest, piece_digest, told_apart}
use Rattle.store_changes.proofs.laws.rows_have_their_digest.Goals as goal

pub returns : goal.returns
returns c = record { held = held_digest; table = table_digest; read = read_digest; piece = piece_digest; apart = told_apart }
