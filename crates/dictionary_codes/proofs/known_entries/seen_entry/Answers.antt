use Rattle.std.proofs.Common.{sym}
use Rattle.dictionary_codes.proofs.Known.{key_cell}
use Rattle.dictionary_codes.proofs.known_entries.seen_entry.Goals as goal

pub returns : goal.returns
returns c = sym (key_cell c.args.seen.now.keys c.args.number c.index.result.now c.index.ensures)
