use Rattle.std.proofs.Common.{refl}
use Rattle.text_columns.specs.declared.flat.FlatBuilder.{FlatBuilder}
use Rattle.text_columns.proofs.TokenCells.{null_kept}
use Rattle.text_columns.proofs.flat.FlatBuilder.push_null.Goals as goal

pub returns : goal.returns
returns c =
    let new : FlatBuilder = record { nullable = c.args.self.now.nullable; valid = c.push.new.self; values = c.push_null.new.values; coding = c.push_null.new.coding } in
    rw c.null_weight-weight.ensures (null_kept c.args.self.now new c.if-not-self.false refl c.in_ok-push.ensures.items c.in_ok-push_null.ensures)
