use Rattle.std.specs.Prelude.{◌*◌, ◌==◌, ◌||◌, nat_le}
use Rattle.std.proofs.Common.{◌≡◌, ◌∙◌, ℕ, Bool, true, false, List, ap, ap₂, length, subst, sym}
use Rattle.dictionary_codes.specs.laws.MaskedItems.{masked_length}
use Rattle.array_build.proofs.Masks.{bitmap_back, counted}
use Rattle.dictionary_codes.specs.laws.Bitmaps.{bitmap_fits}
use Rattle.array_build.proofs.slot_masks.push_masked_slots.Goals as goal
use Rattle.batch_build.specs.Batch.{batch_in}
use Rattle.dictionary_codes.specs.Masks.{bitmap_bits, slots_mask, bitmap_of, runs_bits}
use Rattle.array_build.specs.inner.Masked.{masked_slots}
use Rattle.batch_build.specs.Nodes.{with_validity}

pub push_validity-requires : goal.push_validity-requires
push_validity-requires c =
    let validity : List ℕ = c.in_ok-validity.validity.items in
    let bits : List Bool = masked_slots c.args.mask.now c.args.runs.now in
    record {
      long = subst (λ (n : ℕ). (length validity == 0 || nat_le n (8 * length validity)) ≡ true) (sym (counted c.args.mask.now c.args.runs.now c.in_ok-slots.slots c.in_ok-slots.ensures))
          (bitmap_fits validity bits c.in_ok-validity.ensures);
    }

pub returns : goal.returns
returns c =
    let bits : List Bool = masked_slots c.args.mask.now c.args.runs.now in
    let below : List ℕ = c.in_ok-below.below.items in
    let n : ℕ = length (runs_bits c.args.runs.now) in
    let exact : below ≡ bitmap_of bits = c.in_ok-below.ensures.items ∙ c.deref.ensures.value ∙ c.in_ok-validity.ensures in
    let back : bitmap_bits below n ≡ bits = bitmap_back c.packed_reads_back.ensures below bits n exact (masked_length false (slots_mask c.args.mask.now c.args.runs.now) (runs_bits c.args.runs.now)) in
    record {
      batch = c.in_ok-push_validity.ensures
          ∙ ap₂ (λ (k : ℕ) (xs : List ℕ). with_validity (batch_in c.args.batch.now) k xs) (counted c.args.mask.now c.args.runs.now c.in_ok-slots.slots c.in_ok-slots.ensures) c.in_ok-validity.ensures;
      bits = back;
      below = exact ∙ ap bitmap_of (sym back);
    }
