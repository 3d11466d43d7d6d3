use Rattle.std.specs.Int.{w128, cast_unsigned}
use Rattle.std.specs.List.{flat_map}
use Rattle.std.proofs.Common.{◌≡◌, ◌<◌, ◌≤◌, ◌+◌, ◌*◌, ◌∙◌, ℕ, ℤ, List, arith, ap, length, map, rules, sym, take}
use Rattle.std.proofs.Math.Nat.{mul-le-mul_left}
use Rattle.std.proofs.lemmas.Int.{to_z-of_z}
use Rattle.std.proofs.lemmas.List.{length-map, take_all}
use Rattle.byteorder.specs.Endian.{little_bytes}
use Rattle.byteorder.specs.Numbers.{length-bytes_low_first}
use Rattle.cells.specs.Cell.{Cell, null}
use Rattle.columns.specs.Borrowed.{borrowed_cell}
use Rattle.batch_build.specs.inner.Stored.{low_bytes_of}
use Rattle.batch_build.proofs.Sized.{one_more}
use Rattle.batch_build.proofs.value_bytes.put_integers.Goals as goal
use mir.Val.{SFits}

pub overflow_mul-at : goal.overflow_mul-at
overflow_mul-at g c =
    let le : c.loop-i.i ≤ length c.args.cells.now = omega (arith, c.loop-i-test.true) in
    omega (arith, mul-le-mul_left g.row.SIZE le, c.requires.few)

pub put_integer-requires-clause-room : goal.put_integer-requires-clause-room
put_integer-requires-clause-room g c =
    let le : c.loop-i.i + 1 ≤ length c.args.cells.now = omega (arith, c.loop-i-test.true) in
    omega (arith, mul-le-mul_left g.row.SIZE le, c.requires.room, c.loop-i.auto.values)

pub loop-i-preserved : goal.loop-i-preserved
loop-i-preserved g c =
    let i : ℕ = c.loop-i.i in
    let cells : List Cell = map borrowed_cell c.args.cells.now in
    let count : length cells ≡ length c.args.cells.now = length-map c.args.cells.now borrowed_cell in
    let lt : i < length cells = omega (arith, c.loop-i-test.true, count) in
    let le : i ≤ length c.args.cells.now = omega (arith, c.loop-i-test.true) in
    let room : g.row.SIZE * i ≤ length c.loop-i.values = omega (arith, mul-le-mul_left g.row.SIZE le, c.requires.room, c.loop-i.auto.values) in
    let integer = c.integer_at-integer.result in
    let fits : SFits w128 integer = search rules in
    let same = ap (λ (z : ℤ). cast_unsigned w128 z) (to_z-of_z w128 integer fits) in
    rw (rw same at c.put_integer.ensures)
    (one_more null (low_bytes_of g.row.SIZE) g.row.SIZE i cells c.loop-i.values _ _ lt
    (length-bytes_low_first 0 g.row.SIZE (cast_unsigned w128 c.integer_at-integer.result))
    (ap (λ n. little_bytes g.row.SIZE (cast_unsigned w128 n)) c.integer_at-integer.ensures) room c.loop-i.invariant)

pub returns : goal.returns
returns g c =
    let cells : List Cell = map borrowed_cell c.args.cells.now in
    let count : length cells ≡ length c.args.cells.now = length-map c.args.cells.now borrowed_cell in
    let done : c.loop-i.i ≡ length c.args.cells.now = omega (arith, c.loop-i-test.false) in
    let size : g.row.SIZE * c.loop-i.i ≡ g.row.SIZE * length c.args.cells.now = ap (λ (n : ℕ). g.row.SIZE * n) done in
    let all : length c.loop-i.values ≤ g.row.SIZE * c.loop-i.i = omega (arith, size, c.requires.room, c.loop-i.auto.values) in
    let whole : take c.loop-i.i cells ≡ cells = take_all c.loop-i.i cells (omega (arith, done, count)) in
    sym (take_all (g.row.SIZE * c.loop-i.i) c.loop-i.values all) ∙ c.loop-i.invariant ∙ ap (flat_map (low_bytes_of g.row.SIZE)) whole
