use Rattle.std.proofs.Common.{List, [], ◌∷◌, ◌++◌, refl, ap, ◌∙◌}
use Rattle.values.specs.declared.table_part.TablePart.{TablePart}
use Rattle.ipc_stream.proofs.OnePart.{sound_part, part_table, part_is_table}
use Rattle.ipc_stream.proofs.whole.table_of_front.Goals as goal

pub from_parts_or_back-requires-clause-sound : goal.from_parts_or_back-requires-clause-sound
from_parts_or_back-requires-clause-sound c =
    let p : TablePart = record { bytes = c.args.bytes; dictionaries = c.into_lists.result; batches = c.args.front.batches } in
    sound_part c.args.front c.requires.0 p c.push_reserved.new.self.items (c.push_reserved.ensures.items ∙ ap (λ (parts : List TablePart). parts ++ p ∷ []) c.in-Ok.ensures.items) c.requires.1
    (record { lists = c.into_lists.ensures; batches = refl })

pub from_parts_or_back-requires-clause-table : goal.from_parts_or_back-requires-clause-table
from_parts_or_back-requires-clause-table c =
    let p : TablePart = record { bytes = c.args.bytes; dictionaries = c.into_lists.result; batches = c.args.front.batches } in
    part_is_table c.args.front c.requires.0 p c.push_reserved.new.self.items (c.push_reserved.ensures.items ∙ ap (λ (parts : List TablePart). parts ++ p ∷ []) c.in-Ok.ensures.items) c.requires.1
    (record { lists = c.into_lists.ensures; batches = refl })

pub returns-in-Ok-from_parts_or_back-clause-table : goal.returns-in-Ok-from_parts_or_back-clause-table
returns-in-Ok-from_parts_or_back-clause-table c = λ k is.
    let p : TablePart = record { bytes = c.args.bytes; dictionaries = c.into_lists.result; batches = c.args.front.batches } in
    c.in-Ok-from_parts_or_back.ensures.made
    ∙ part_table c.args.front k p c.push_reserved.new.self.items (c.push_reserved.ensures.items ∙ ap (λ (parts : List TablePart). parts ++ p ∷ []) c.in-Ok.ensures.items) is
    (record { lists = c.into_lists.ensures; batches = refl })
