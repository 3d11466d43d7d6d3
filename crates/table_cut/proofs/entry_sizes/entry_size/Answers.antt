use Rattle.std.proofs.Common.{◌+◌, ◌-◌, ◌≤◌, [], ◌∷◌, ℕ, List, length, ap, sym, subst, arith}
use Rattle.std.specs.Prelude.{◌*◌}
use Rattle.columns.specs.Array.{Array, arrays_of, offsets_in, slots_in}
use Rattle.columns.specs.CellAt.{number_at}
use Rattle.columns.specs.Offsets.{width_of}
use Rattle.columns.specs.View.{view_array}
use Rattle.table_cut.specs.inner.EntrySizes.{AreNoLonger}
use Rattle.table_cut.proofs.Bounds.{entries_light, offsets_there, spans_light}
use Rattle.table_cut.proofs.entry_sizes.entry_size.Goals as goal

pub longest-requires : goal.longest-requires
longest-requires c =
    let a : Array = view_array c.args.entries in
    let w : ℕ = width_of c.args.width in
    let there : (slots_in a + 1) * w ≤ length (offsets_in a) = offsets_there w a (omega (arith, c.slots-count.ensures)) c.requires in
    omega (arith, there, ap length c.offsets.ensures, ap (λ (n : ℕ). (n + 1) * w) c.slots-count.ensures)

pub returns : goal.returns
returns c =
    let a : Array = view_array c.args.entries in
    let w : ℕ = width_of c.args.width in
    let r : ℕ = c.longest.result in
    spans_light w a r (λ i lt. subst (λ (xs : List ℕ). number_at w xs (i + 1) - number_at w xs i ≤ r) c.offsets.ensures (c.longest.ensures i (omega (arith, lt, c.slots-count.ensures))))

pub returns-then-together-short : goal.returns-then-together-short
returns-then-together-short c =
    let a : Array = view_array c.args.entries in
    let w : ℕ = width_of c.args.width in
    subst (λ (size : ℕ). AreNoLonger w size (arrays_of (a ∷ []))) (sym (ap length c.contents.ensures)) (entries_light w a)
