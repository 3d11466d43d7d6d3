use Rattle.std.proofs.Common.{refl}
use Rattle.text_columns.specs.declared.coding.Coding.{Coding}
use Rattle.text_columns.proofs.Coded.{value_coded}
use Rattle.text_columns.proofs.coding.Coding.code.Goals as goal

pub returns : goal.returns
returns c =
    let old = c.args.self.now in
    let new : Coding = record { index = old.index; indices = c.push_place.new.indices; keys = c.push_place.new.keys; one = old.one } in
    λ done. value_coded old new c.args.entries.now c.push_place.new.entries (rw c.key-key.ensures at c.in_ok-done.ensures done) refl refl
