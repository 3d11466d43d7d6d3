use Rattle.std.proofs.Common.{refl}
use Rattle.std.proofs.lemmas.Option.{IfSome_then}
use Rattle.json.specs.Reads.{token_of}
use Rattle.text_columns.specs.declared.flat.FlatBuilder.{FlatBuilder}
use Rattle.text_columns.proofs.TokenCells.{there_behind}
use Rattle.text_columns.proofs.flat.FlatBuilder.push_there.Goals as goal

pub returns : goal.returns
returns c =
    let new : FlatBuilder = record { nullable = c.args.self.now.nullable; valid = c.push.new.self; values = c.push_token.new.values; coding = c.push_token.new.coding } in
    IfSome_then c.in_ok-taken.taken c.in_ok-taken.ensures (λ weight takes. there_behind c.args.date_form (token_of c.args.token) weight c.args.self.now new refl c.in_ok-push.ensures.items takes)
