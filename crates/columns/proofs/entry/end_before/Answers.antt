use Rattle.std.proofs.Common.{◌≡◌, ◌≤◌, ◌<◌, ◌+◌, ◌-◌, ℕ, length, take, arith, ap, ◌∙◌}
use Rattle.columns.specs.Ends.{entry_count}
use Rattle.columns.proofs.Ends.{ends_many, positive, end_there}
use Rattle.columns.proofs.entry.end_before.Goals as goal

pub bounds-known-i : goal.bounds-known-i
bounds-known-i c =
    let many : length c.args.known.ends.now ≡ length c.args.known.arrays.now = ap length c.args.known.ended ∙ ends_many 0 c.args.known.arrays.now in
    let le : c.args.i ≤ length c.args.known.arrays.now = c.requires in
    let some : 0 < c.args.i = positive c.args.i c.if-i-eq0.false in
    omega arith

pub returns-else-i-eq0 : goal.returns-else-i-eq0
returns-else-i-eq0 c =
    let le : c.args.i ≤ length c.args.known.arrays.now = c.requires in
    let some : 0 < c.args.i = positive c.args.i c.if-i-eq0.false in
    let e : (c.args.i - 1) + 1 ≡ c.args.i = omega arith in
    end_there c.args.known.arrays.now c.args.known.ends.now (c.args.i - 1) 0 c.args.known.ended (omega arith) ∙ ap (λ (k : ℕ). entry_count (take k c.args.known.arrays.now)) e
