use Rattle.std.proofs.Common.{◌*◌, ◌∙◌, ℕ, ap}
use Rattle.array_build.proofs.Masks.{bitmap_back}
use Rattle.dictionary_codes.specs.laws.Bitmaps.{bits_counted}
use Rattle.array_build.proofs.RunFixedItems.{repeated_length}
use Rattle.array_build.proofs.run_fixed_items.item_mask.Goals as goal
use Rattle.dictionary_codes.specs.Masks.{bitmap_bits}
use Rattle.array_build.specs.inner.Masked.{repeated}

pub returns-clause-bits : goal.returns-clause-bits
returns-clause-bits c =
    let size : ℕ = c.args.size in
    bitmap_back c.packed_reads_back.ensures c.in_ok-bytes.bytes.items (repeated size (bitmap_bits c.args.mask.now c.args.slots)) (c.args.slots * size) c.in_ok-bytes.ensures
    (repeated_length size (bitmap_bits c.args.mask.now c.args.slots) ∙ ap (λ (n : ℕ). n * size) (bits_counted c.args.mask.now c.args.slots))
