use Rattle.std.proofs.Common.{map}
use Rattle.cli_scripts.specs.Plain.{plain_items, plain_words}
use Rattle.cli_replay.proofs.ItemCalls.{playable_script}
use Rattle.cli_replay.proofs.replaying.items_of.Goals as goal

pub returns-in-Ok-clause-items : goal.returns-in-Ok-clause-items
returns-in-Ok-clause-items c = λ script have. (map plain_words c.args.words.now, have, c.in-Ok.ensures)

pub returns-in-Err-BadLine-clause-told : goal.returns-in-Err-BadLine-clause-told
returns-in-Err-BadLine-clause-told c = λ script have. (map plain_words c.args.words.now, have, rw c.in-Err-BadLine.field-0-is at c.in-Err-BadLine.ensures)

pub returns-in-Ok-clause-playable : goal.returns-in-Ok-clause-playable
returns-in-Ok-clause-playable c = playable_script (map plain_words c.args.words.now) (plain_items c.in-Ok.items.items) c.in-Ok.ensures
