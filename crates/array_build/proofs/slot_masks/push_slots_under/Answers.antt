use Rattle.std.specs.Prelude.{◌*◌, ◌==◌, ◌||◌, nat_le}
use Rattle.std.proofs.Common.{◌≡◌, ◌∙◌, ℕ, true, List, ap₂, length, subst, sym}
use Rattle.std.proofs.lemmas.Result.{on_ok_weaker}
use Rattle.dictionary_codes.specs.laws.Bitmaps.{bitmap_fits}
use Rattle.array_build.proofs.Masks.{counted}
use Rattle.array_build.proofs.slot_masks.push_slots_under.Goals as goal
use Rattle.batch_build.specs.Batch.{batch_in}
use Rattle.array_build.specs.inner.Masked.{masked_slots}
use Rattle.batch_build.specs.Nodes.{with_validity}

pub push_validity-requires : goal.push_validity-requires
push_validity-requires c =
    let validity : List ℕ = c.in_ok-validity.validity.items in
    record {
      long = subst (λ (n : ℕ). (length validity == 0 || nat_le n (8 * length validity)) ≡ true) (sym (counted c.args.mask.now c.args.runs.now c.in_ok-slots.slots c.in_ok-slots.ensures))
          (bitmap_fits validity (masked_slots c.args.mask.now c.args.runs.now) c.in_ok-validity.ensures);
    }

pub returns : goal.returns
returns c =
    on_ok_weaker c.push_validity.result
    (λ h. h
    ∙ ap₂ (λ (k : ℕ) (xs : List ℕ). with_validity (batch_in c.args.batch.now) k xs) (counted c.args.mask.now c.args.runs.now c.in_ok-slots.slots c.in_ok-slots.ensures) c.in_ok-validity.ensures)
    c.push_validity.ensures
