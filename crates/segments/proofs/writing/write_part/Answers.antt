use Rattle.std.proofs.Common.{◌≡◌, ◌<◌, ◌++◌, ◌/◌, ◌∙◌, ℕ, List, length, Err, subst, arith}
use Rattle.std.proofs.lemmas.Result.{err_from_is_err_and}
use Rattle.sector_dev.specs.Disk.{Counts}
use Rattle.segments.specs.inner.Tails.{tail_bytes}
use Rattle.sector_dev.specs.laws.Rows.{on_err}
use Rattle.segments.proofs.Stretches.{left_of, all_taken, still_rest, none_written, behind_sector, part_length, sector_failed, sectors_failed, sectors_done, left_behind}
use Rattle.segments.proofs.writing.write_part.Goals as goal

pub returns-in_default-clause-order : goal.returns-in_default-clause-order
returns-in_default-clause-order g c = λ told.
    let few = c.full.ensures.none c.in_default.is in
    let all = all_taken (tail_bytes c.args.tail.now) c.args.bytes.now (tail_bytes c.fill-taken.new.self) c.fill-taken.result c.fill-taken.ensures.taken c.fill-taken.ensures.bytes few in
    none_written c.args.tail.now.start (tail_bytes c.args.tail.now ++ c.args.bytes.now) (tail_bytes c.fill-taken.new.self) _ all few

pub returns-in_default-clause-rest : goal.returns-in_default-clause-rest
returns-in_default-clause-rest g c =
    let few = c.full.ensures.none c.in_default.is in
    still_rest (tail_bytes c.args.tail.now ++ c.args.bytes.now) (tail_bytes c.fill-taken.new.self)
    (all_taken (tail_bytes c.args.tail.now) c.args.bytes.now (tail_bytes c.fill-taken.new.self) c.fill-taken.result c.fill-taken.ensures.taken c.fill-taken.ensures.bytes few) few

pub write-requires : goal.write-requires
write-requires g c =
    let t = tail_bytes c.args.tail.now in
    let b = c.args.bytes.now in
    let split = behind_sector t b c.in-Some.sector.now c.fill-taken.result (c.in-Some.ensures.some ∙ c.fill-taken.ensures.bytes) in
    let count = part_length (t ++ b) c.in-Some.sector.now (left_of b c.fill-taken.result) split c.in-Some.ensures.whole in
    omega (arith, count, c.fill-taken.ensures.start, c.requires.within)

pub returns-in_err-write-clause-cut_short : goal.returns-in_err-write-clause-cut_short
returns-in_err-write-clause-cut_short g c = on_err c.from_residual.result (λ told.
    let D = g.D.SectorDevice in
    let t = tail_bytes c.args.tail.now in
    let b = c.args.bytes.now in
    let split = behind_sector t b c.in-Some.sector.now c.fill-taken.result (c.in-Some.ensures.some ∙ c.fill-taken.ensures.bytes) in
    sector_failed c.args.tail.now.start c.fill-taken.new.self.start (t ++ b) c.in-Some.sector.now (left_of b c.fill-taken.result) (D.story c.args.device.now) (D.story c.write.new.self) c.fill-taken.ensures.start split c.in-Some.ensures.whole
    (c.in_err-write.ensures.err told))

pub write_sectors-requires-clause-within : goal.write_sectors-requires-clause-within
write_sectors-requires-clause-within g c =
    let t = tail_bytes c.args.tail.now in
    let b = c.args.bytes.now in
    let split = behind_sector t b c.in-Some.sector.now c.fill-taken.result (c.in-Some.ensures.some ∙ c.fill-taken.ensures.bytes) in
    let count = part_length (t ++ b) c.in-Some.sector.now (left_of b c.fill-taken.result) split c.in-Some.ensures.whole in
    let whole : length c.as_chunks.result.0.now ≡ length (left_of b c.fill-taken.result) / 512 = c.as_chunks.ensures.front_len in
    omega (arith, count, whole, c.fill-taken.ensures.start, c.requires.within, c.write.ensures.size)

pub returns-in_err-write_sectors-clause-cut_short : goal.returns-in_err-write_sectors-clause-cut_short
returns-in_err-write_sectors-clause-cut_short g c = on_err c.from_residual-in_err-write_sectors.result (λ told.
    let D = g.D.SectorDevice in
    let t = tail_bytes c.args.tail.now in
    let b = c.args.bytes.now in
    let split = behind_sector t b c.in-Some.sector.now c.fill-taken.result (c.in-Some.ensures.some ∙ c.fill-taken.ensures.bytes) in
    sectors_failed c.args.tail.now.start c.fill-taken.new.self.start (t ++ b) c.in-Some.sector.now (left_of b c.fill-taken.result) c.as_chunks.result.0.now (D.story c.args.device.now) (D.story c.write.new.self) (D.story c.write_sectors.new.self)
    c.fill-taken.ensures.start split c.in-Some.ensures.whole c.as_chunks.ensures.front c.as_chunks.ensures.front_len (c.in_ok-write.ensures.ok told) (c.in_err-write_sectors.ensures.cut_short told))

pub returns-clause-order : goal.returns-clause-order
returns-clause-order g c = λ told.
    let D = g.D.SectorDevice in
    let t = tail_bytes c.args.tail.now in
    let b = c.args.bytes.now in
    let split = behind_sector t b c.in-Some.sector.now c.fill-taken.result (c.in-Some.ensures.some ∙ c.fill-taken.ensures.bytes) in
    sectors_done c.args.tail.now.start c.fill-taken.new.self.start (t ++ b) c.in-Some.sector.now (left_of b c.fill-taken.result) c.as_chunks.result.0.now (D.story c.args.device.now) (D.story c.write.new.self) (D.story c.write_sectors.new.self)
    c.fill-taken.ensures.start split c.in-Some.ensures.whole c.as_chunks.ensures.front c.as_chunks.ensures.front_len (c.in_ok-write.ensures.ok told) (c.in_ok-write_sectors.ensures.order told)

pub returns-clause-start : goal.returns-clause-start
returns-clause-start g c =
    let t = tail_bytes c.args.tail.now in
    let b = c.args.bytes.now in
    let split = behind_sector t b c.in-Some.sector.now c.fill-taken.result (c.in-Some.ensures.some ∙ c.fill-taken.ensures.bytes) in
    let count = part_length (t ++ b) c.in-Some.sector.now (left_of b c.fill-taken.result) split c.in-Some.ensures.whole in
    let whole : length c.as_chunks.result.0.now ≡ length (left_of b c.fill-taken.result) / 512 = c.as_chunks.ensures.front_len in
    omega (arith, count, whole, c.fill-taken.ensures.start, c.restart.ensures.start)

pub returns-clause-rest : goal.returns-clause-rest
returns-clause-rest g c =
    let t = tail_bytes c.args.tail.now in
    let b = c.args.bytes.now in
    let split = behind_sector t b c.in-Some.sector.now c.fill-taken.result (c.in-Some.ensures.some ∙ c.fill-taken.ensures.bytes) in
    c.restart.ensures.bytes ∙ left_behind (t ++ b) c.in-Some.sector.now (left_of b c.fill-taken.result) c.as_chunks.result.1.now split c.in-Some.ensures.whole c.as_chunks.ensures.back

-- ---- the numbers of sectors

pub returns-in_default-clause-start : goal.returns-in_default-clause-start
returns-in_default-clause-start g c =
    let few = c.full.ensures.none c.in_default.is in
    let all = all_taken (tail_bytes c.args.tail.now) c.args.bytes.now (tail_bytes c.fill-taken.new.self) c.fill-taken.result c.fill-taken.ensures.taken c.fill-taken.ensures.bytes few in
    let none : length (tail_bytes c.args.tail.now ++ c.args.bytes.now) < 512 = subst (λ (bytes : List ℕ). length bytes < 512) all few in
    omega (arith, none, c.fill-taken.ensures.start)

pub overflow_add-tail : goal.overflow_add-tail
overflow_add-tail g c =
    let t = tail_bytes c.args.tail.now in
    let b = c.args.bytes.now in
    let split = behind_sector t b c.in-Some.sector.now c.fill-taken.result (c.in-Some.ensures.some ∙ c.fill-taken.ensures.bytes) in
    let count = part_length (t ++ b) c.in-Some.sector.now (left_of b c.fill-taken.result) split c.in-Some.ensures.whole in
    omega (arith, count, c.fill-taken.ensures.start, c.requires.within, c.requires.countable)

pub write_sectors-requires-clause-countable : goal.write_sectors-requires-clause-countable
write_sectors-requires-clause-countable g c =
    let t = tail_bytes c.args.tail.now in
    let b = c.args.bytes.now in
    let split = behind_sector t b c.in-Some.sector.now c.fill-taken.result (c.in-Some.ensures.some ∙ c.fill-taken.ensures.bytes) in
    let count = part_length (t ++ b) c.in-Some.sector.now (left_of b c.fill-taken.result) split c.in-Some.ensures.whole in
    let whole : length c.as_chunks.result.0.now ≡ length (left_of b c.fill-taken.result) / 512 = c.as_chunks.ensures.front_len in
    omega (arith, count, whole, c.fill-taken.ensures.start, c.requires.within, c.requires.countable)

pub restart-requires-clause-count : goal.restart-requires-clause-count
restart-requires-clause-count g c =
    let t = tail_bytes c.args.tail.now in
    let b = c.args.bytes.now in
    let split = behind_sector t b c.in-Some.sector.now c.fill-taken.result (c.in-Some.ensures.some ∙ c.fill-taken.ensures.bytes) in
    let count = part_length (t ++ b) c.in-Some.sector.now (left_of b c.fill-taken.result) split c.in-Some.ensures.whole in
    let whole : length c.as_chunks.result.0.now ≡ length (left_of b c.fill-taken.result) / 512 = c.as_chunks.ensures.front_len in
    omega (arith, count, whole, c.fill-taken.ensures.start, c.requires.within, c.requires.countable)

-- ---- the device, whatever it tells

pub returns-in_err-write-clause-count : goal.returns-in_err-write-clause-count
returns-in_err-write-clause-count g c = let p = err_from_is_err_and c.from_residual.result c.from_residual.ensures.1 in rw (p.1, p.2) c.in_err-write.ensures.count

pub returns-in_err-write-clause-error : goal.returns-in_err-write-clause-error
returns-in_err-write-clause-error g c = let p = err_from_is_err_and c.from_residual.result c.from_residual.ensures.1 in rw (p.1, p.2) c.in_err-write.ensures.error

pub returns-in_err-write_sectors-clause-size : goal.returns-in_err-write_sectors-clause-size
returns-in_err-write_sectors-clause-size g c = c.write_sectors.ensures.size ∙ c.write.ensures.size

pub returns-in_err-write_sectors-clause-count : goal.returns-in_err-write_sectors-clause-count
returns-in_err-write_sectors-clause-count g c =
    let D = g.D.SectorDevice in
    let p = err_from_is_err_and c.from_residual-in_err-write_sectors.result c.from_residual-in_err-write_sectors.ensures.1 in
    rw (p.1, p.2) (subst (λ (n : ℕ). Counts {T = Unit {0}} n (D.failed c.write_sectors.new.self) (Err c.in_err-write_sectors.field-0.0)) c.in_ok-write.ensures.count c.in_err-write_sectors.ensures.count)

pub returns-in_err-write_sectors-clause-error : goal.returns-in_err-write_sectors-clause-error
returns-in_err-write_sectors-clause-error g c =
    let p = err_from_is_err_and c.from_residual-in_err-write_sectors.result c.from_residual-in_err-write_sectors.ensures.1 in rw (p.1, p.2) c.in_err-write_sectors.ensures.error

pub returns-clause-size : goal.returns-clause-size
returns-clause-size g c = c.write_sectors.ensures.size ∙ c.write.ensures.size

pub returns-clause-count : goal.returns-clause-count
returns-clause-count g c = c.in_ok-write_sectors.ensures.count ∙ c.in_ok-write.ensures.count
