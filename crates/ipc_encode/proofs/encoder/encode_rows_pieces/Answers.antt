use Rattle.std.specs.List.{AllByRecursion}
use Rattle.std.proofs.Common.{◌<◌, ◌^◌, List, ℕ, length, ap, sym, subst, ◌∙◌}
use Rattle.ipc_encode.specs.View.{streams_behind}
use Rattle.ipc_encode.proofs.encoder.encode_rows_pieces.Goals as goal

pub push_table-requires-clause-none : goal.push_table-requires-clause-none
push_table-requires-clause-none c = c.no_pieces-pieces.ensures.none

pub push_table-requires-clause-uncounted : goal.push_table-requires-clause-uncounted
push_table-requires-clause-uncounted c = c.no_pieces-pieces.ensures.uncounted

pub returns-clause-streams : goal.returns-clause-streams
returns-clause-streams c =
    ap (λ (front : List ℕ). streams_behind front c.push_table.new.pieces.parts.items) (c.in_ok-push_table.ensures.message ∙ c.no_pieces-pieces.ensures.message ∙ c.requires.message)
    ∙ c.in_ok-push_table.ensures.streams

pub returns-clause-rows : goal.returns-clause-rows
returns-clause-rows c = c.in_ok-push_table.ensures.rows

pub returns-clause-short : goal.returns-clause-short
returns-clause-short c =
    subst (λ (front : List ℕ). AllByRecursion (λ (stream : List ℕ). length stream < 2 ^ 64) (streams_behind front c.push_table.new.pieces.parts.items))
    (sym (c.in_ok-push_table.ensures.message ∙ c.no_pieces-pieces.ensures.message ∙ c.requires.message)) c.in_ok-push_table.ensures.short
