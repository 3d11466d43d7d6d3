use Rattle.std.proofs.Common.{◌≡◌, ◌+◌, ◌++◌, length, take, arith}
use Rattle.query.proofs.Pushed.{in_room, cut_off}
use Rattle.query.proofs.line.push_few_in_quotes.Goals as goal

pub returns : goal.returns
returns c =
    let one = c.push_reserved.new.self.items in
    let more = c.extend_from_slice.new.self.items in
    let two = c.truncate.new.self.items in
    let bytes = c.args.bytes.now in
    let end : c.len.result + c.args.size ≡ length one + c.args.size = omega (arith, c.len.ensures) in
    let text : two ≡ one ++ take c.args.size bytes =
    cut_off one more two bytes (c.len.result + c.args.size) c.args.size 16 end c.requires.few c.in_ok-extend_from_slice.ensures.items c.truncate.ensures.items in
    in_room 34 34 _ _ _ _ _ _ c.in_ok-reserve.ensures.items c.push_reserved.ensures.items text c.push_reserved-2.ensures.items
