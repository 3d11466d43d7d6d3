use Rattle.std.specs.List.{list_any}
use Rattle.std.proofs.Common.{[], get_or}
use Rattle.columns.specs.View.{array_in, no_dictionary}
use Rattle.dictionary.specs.InEffect.{has_id, in_effect}
use Rattle.dictionary.specs.Kept.{arrays_for}
use Rattle.dictionary.proofs.InEffect.{no_batch, none_only_without}
use Rattle.dictionary.proofs.Steps.{has_is}
use Rattle.dictionary.proofs.dictionaries.Dictionaries.has.Goals as goal

pub returns : goal.returns
returns c = λ bytes before h.
    has_is c.part.result.count (get_or c.args.self.now.lists c.part.result.number []) (arrays_for c.args.self.now c.args.id) (array_in bytes no_dictionary) (in_effect c.args.id before)
    (list_any (has_id c.args.id) before) c.part.ensures.known c.part.ensures.stands (h c.args.id) (none_only_without c.args.id [] before) (no_batch c.args.id [] before)
