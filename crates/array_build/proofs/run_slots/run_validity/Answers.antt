use Rattle.std.specs.Prelude.{◌*◌, ◌==◌, ◌||◌, nat_le}
use Rattle.std.specs.List.{list_all}
use Rattle.std.proofs.Common.{◌≡◌, ◌∙◌, ◌+◌, ◌++◌, ℕ, Bool, true, false, List, ap, arith, drop, length, refl, sym}
use Rattle.std.proofs.lemmas.Bool.{and_parts, le-leb, or_right}
use Rattle.bitmap.specs.Bits.{bytes_of, packed}
use Rattle.facts.specs.laws.Lists.{drop-item}
use Rattle.batch_build.specs.laws.Ended.{ended}
use Rattle.batch_build.specs.laws.Turns.{turned}
use Rattle.array_build.proofs.run_slots.run_validity.Goals as goal
use Rattle.dictionary_codes.specs.Masks.{bitmap_of, run_bits, runs_bits}
use Rattle.columns.specs.Runs.{has_validity}
use Rattle.columns.specs.declared.slot_runs.SlotRun.{SlotRun}

pub push_run_bits-requires : goal.push_run_bits-requires
push_run_bits-requires c =
    let others : List SlotRun = drop (c.loop-run.run-index + 1) c.args.runs.now in
    let item = drop-item c.args.runs.now c.loop-run.run-index c.run-item.result c.loop-run-test.true c.run-item.is in
    (and_parts (has_validity c.run-item.result) (list_all has_validity others) (sym (ap (list_all has_validity) item) ∙ c.loop-run.invariant.left)).0

pub loop-run-preserved : goal.loop-run-preserved
loop-run-preserved c =
    let others : List SlotRun = drop (c.loop-run.run-index + 1) c.args.runs.now in
    let item = drop-item c.args.runs.now c.loop-run.run-index c.run-item.result c.loop-run-test.true c.run-item.is in
    record {
      left = (and_parts (has_validity c.run-item.result) (list_all has_validity others) (sym (ap (list_all has_validity) item) ∙ c.loop-run.invariant.left)).1;
      bits = turned c.loop-run.bits (run_bits c.run-item.result) (runs_bits others) _ _ c.in_ok-push_run_bits.ensures
          (sym (ap (λ (rs : List SlotRun). c.loop-run.bits ++ runs_bits rs) item) ∙ c.loop-run.invariant.bits);
    }

some_null : (bits all : List Bool) → list_all (λ b. b) all ≡ false → bits ≡ all → packed bits ≡ bitmap_of all
some_null bits all some is = rw some (ap packed is)

pub returns-clause-bits : goal.returns-clause-bits
returns-clause-bits c =
    let bits = ended runs_bits c.loop-run.bits _ c.args.runs.now c.loop-run.run-index refl c.loop-run-test.false c.loop-run.invariant.bits in
    c.into_mask.ensures.exact ∙ some_null c.loop-run.bits (runs_bits c.args.runs.now) (sym c.if-have_no_null.ensures) bits

bits_fit : (n size : ℕ) → size ≡ bytes_of n → (size == 0 || nat_le n (8 * size)) ≡ true
bits_fit n size is = or_right (size == 0) _ (le-leb _ _ (omega (arith, is)))

pub returns-clause-long : goal.returns-clause-long
returns-clause-long c =
    let bits = ended runs_bits c.loop-run.bits _ c.args.runs.now c.loop-run.run-index refl c.loop-run-test.false c.loop-run.invariant.bits in
    let count = ap length bits ∙ sym c.requires.count in
    bits_fit c.args.slots _ (c.into_mask.ensures.length ∙ ap bytes_of count)
