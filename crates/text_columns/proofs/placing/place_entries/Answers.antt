use Rattle.std.proofs.Common.{arith, refl}
use Rattle.text_columns.proofs.PlacedBuffers.{entries_placed}
use Rattle.text_columns.proofs.placing.place_entries.Goals as goal

pub returns : goal.returns
returns c =
    entries_placed c.args.entries.now c.args.count c.args.bytes.now.items c.place_values.new.bytes.items c.args.dictionaries.now.items c.push-2.new.self.items c.in_ok-layout.layout c.push.new.self
    (record { number = c.len-number.result; count = 1 })
    c.in_ok-layout.ensures (rw c.new-dictionary.ensures at c.in_ok-push.ensures.longer) c.in_ok-push-2.ensures.items (omega (arith, c.len-number.ensures, c.args.dictionaries.now.ok.0)) refl
