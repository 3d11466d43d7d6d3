use Rattle.ipc_canonical.proofs.EachPiece.{TableLaws, each_piece}
use Rattle.ipc_canonical.proofs.laws.pieces_can_be_built.Goals as goal

pub returns : goal.returns
returns c =
    let laws : TableLaws = record { built = c.rows_can_be_built.ensures; cut = c.tables_are_joined_and_cut.ensures.cut } in
    each_piece laws
