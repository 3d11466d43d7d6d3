use Rattle.std.specs.Prelude.{◌||◌, ◌*◌, ◌-◌, ◌≤◌, nat_lt, length}
use Rattle.std.proofs.Common.{◌≡◌, ℕ, ◌+◌, ◌<◌, Bool, List, arith, sym, ap, ◌∙◌}
use Rattle.std.proofs.Math.Nat.{mul-le-mul_left}
use Rattle.std.proofs.lemmas.List.{length-drop, take_rest}
use Rattle.byteorder.specs.Endian.{little_number}
use Rattle.columns.specs.CellAt.{number_at}
use Rattle.columns.proofs.Unordered.{any_more}
use Rattle.columns.proofs.array_checks.any_sized_falls.Goals as goal

pub loop-i-preserved : goal.loop-i-preserved
loop-i-preserved g c =
    let os : List ℕ = c.args.offsets.now in
    let size : ℕ = g.row.SIZE in
    let i : ℕ = c.loop-i.i in
    let falls : ℕ → Bool = λ k. nat_lt (number_at size os (k + 1)) (number_at size os k) in
    let next : c.read_uint-next.result ≡ number_at size os (i + 1) = c.read_uint-next.ensures ∙ ap (little_number size) (take_rest os ((i + 1) * size)) in
    let last : c.read_uint-last.result ≡ number_at size os i = c.read_uint-last.ensures ∙ ap (little_number size) (take_rest os (i * size)) in
    rw (next, last) (ap (λ (b : Bool). b || falls i) c.loop-i.invariant ∙ sym (any_more falls i))

-- a number before the last one ends within the offsets
within : (size slots i long : ℕ) → (slots + 1) * size ≤ long → i < slots + 1 → i * size + size ≤ long
within size slots i long all below = let le : i + 1 ≤ slots + 1 = omega (arith, below) in omega (arith, all, mul-le-mul_left size le)

pub overflow_mul-i : goal.overflow_mul-i
overflow_mul-i g c = omega (arith, within g.row.SIZE c.args.slots c.loop-i.i (length c.args.offsets.now) c.requires.long (omega arith))

pub slice_bounds-read_uint-end : goal.slice_bounds-read_uint-end
slice_bounds-read_uint-end g c = omega (arith, within g.row.SIZE c.args.slots c.loop-i.i (length c.args.offsets.now) c.requires.long (omega arith))

pub read_uint-last-requires-clause-room : goal.read_uint-last-requires-clause-room
read_uint-last-requires-clause-room g c = omega (arith, within g.row.SIZE c.args.slots c.loop-i.i (length c.args.offsets.now) c.requires.long (omega arith), length-drop (c.loop-i.i * g.row.SIZE) c.args.offsets.now)

pub overflow_mul-i-in-loop-i : goal.overflow_mul-i-in-loop-i
overflow_mul-i-in-loop-i g c = omega (arith, within g.row.SIZE c.args.slots (c.loop-i.i + 1) (length c.args.offsets.now) c.requires.long (omega arith))

pub slice_bounds-read_uint-end-in-loop-i : goal.slice_bounds-read_uint-end-in-loop-i
slice_bounds-read_uint-end-in-loop-i g c = omega (arith, within g.row.SIZE c.args.slots (c.loop-i.i + 1) (length c.args.offsets.now) c.requires.long (omega arith))

pub read_uint-next-requires-clause-room : goal.read_uint-next-requires-clause-room
read_uint-next-requires-clause-room g c = omega (arith, within g.row.SIZE c.args.slots (c.loop-i.i + 1) (length c.args.offsets.now) c.requires.long (omega arith), length-drop ((c.loop-i.i + 1) * g.row.SIZE) c.args.offsets.now)
