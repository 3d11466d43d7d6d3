use Rattle.std.proofs.Common.{◌≡◌, None, refl, sym, ap, ◌∙◌, subst}
use Rattle.tables.specs.declared.refusal.Refusal.{Refusal}
use Rattle.store_runs.specs.Calls.{is_failure}
use Rattle.store_runs.specs.Held.{is_undamaged}
use Rattle.store_runs.specs.Reading.{LacksRows}
use Rattle.store_changes.specs.ReadSegment.{table_in_bytes, LacksTable}
use Rattle.store_changes.specs.laws.Digests.{copy_undamaged, copy_rows}
use Rattle.store_changes.proofs.reading.segment_in_bytes.Goals as goal

-- ---- a table

pub returns-in-Ok-Some-clause-means : goal.returns-in-Ok-Some-clause-means
returns-in-Ok-Some-clause-means c = let means = rw c.in-Ok-Some.field-0-is at c.in-Ok-Some.ensures.means in sym means

pub returns-in-Ok-Some-clause-rows : goal.returns-in-Ok-Some-clause-rows
returns-in-Ok-Some-clause-rows c = λ s message.
    let means = rw c.in-Ok-Some.field-0-is at c.in-Ok-Some.ensures.rows in sym (means s message)

-- ---- the bytes mean no such table

pub returns-in-Ok-None-clause-lacks : goal.returns-in-Ok-None-clause-lacks
returns-in-Ok-None-clause-lacks c = λ tells image copy.
    let means = rw c.in-Ok-None.field-0-is at c.in-Ok-None.ensures.means in
    let segment = c.args.segment in (
      refl,
      λ told. (
        ap (is_undamaged segment.digest) (copy.held told) ∙ copy.undamaged,
        ap (table_in_bytes c.args.front.now segment.rows) (copy.held told) ∙ sym means,
      ),
    )

pub returns-in-Ok-None-clause-told : goal.returns-in-Ok-None-clause-told
returns-in-Ok-None-clause-told c = λ tells image s copy message.
    let segment = c.args.segment in
    let bytes = c.args.bytes.items in
    let means = rw c.in-Ok-None.field-0-is at c.in-Ok-None.ensures.rows in (
      refl,
      λ told. (
        copy_undamaged tells image s segment bytes copy told,
        copy_rows tells image s segment bytes copy told ∙ sym (means s message),
      ),
    )

-- ---- memory is refused

pub returns-in-Err-clause-quiet : goal.returns-in-Err-clause-quiet
returns-in-Err-clause-quiet c = ap is_failure c.in-Err.ensures.memory

pub returns-in-Err-clause-lacks : goal.returns-in-Err-clause-lacks
returns-in-Err-clause-lacks c = λ tells image copy.
    let front = c.args.front.now in
    subst (λ (r : Refusal). LacksTable (λ found. found ≡ None) tells image front c.args.segment c.args.place r) (sym c.in-Err.ensures.memory) tt

pub returns-in-Err-clause-told : goal.returns-in-Err-clause-told
returns-in-Err-clause-told c = λ tells image s copy message.
    subst (λ (r : Refusal). LacksRows tells image s c.args.segment c.args.place r) (sym c.in-Err.ensures.memory) tt
