use Rattle.std.proofs.Common.{◌≡◌, ◌+◌, ◌∙◌, ℕ, List, length, Some, Ok, Err, refl, sym, ap, arith, true, is_ok}
use Rattle.std.proofs.lemmas.Bool.{cond-true}
use Rattle.std.proofs.lemmas.Result.{err_from_is_err_and}
use Rattle.segments.specs.declared.reading.ReadError.{ReadError}
use Rattle.segments.specs.declared.reading.ReadError.TheVariants.{Unreadable, OutOfMemory}
use Rattle.sector_dev.specs.Disk.{Disk, now, shown_image}
use Rattle.sector_dev.specs.laws.Time.{stays, only_read, read_on, now_read}
use Rattle.segments.specs.laws.ReadBack.{none_at}
use Rattle.segments.specs.Sectors.{sector_count}
use Rattle.segments.proofs.Gathered.{counted, joined_more, gathered, told_unreadable, never_memory, read_counted, same_error, told_of, read_length, ends_at}
use Rattle.segments.proofs.reading.read_run.Goals as goal

memory_other : OutOfMemory ≡ Unreadable → ⊥
memory_other is = cc is

no_error : {T : Type 0} (x : T) (e : ReadError) → Ok x ≡ Err e → ⊥
no_error x e is = cc is

pub overflow_mul-count : goal.overflow_mul-count
overflow_mul-count g c = let count = counted c.args.byte_count in omega (arith, count)

pub returns-in_err-read-clause-moments : goal.returns-in_err-read-clause-moments
returns-in_err-read-clause-moments g c = λ told. read_on _ _ _ (c.loop-i.invariant.moments told) (only_read _ _ (c.read.ensures.story told))

pub returns-in_err-read-clause-unreadable : goal.returns-in_err-read-clause-unreadable
returns-in_err-read-clause-unreadable g c = λ is told.
    let D = g.D.SectorDevice in
    let p = err_from_is_err_and c.from_residual-in_err-read.result c.from_residual-in_err-read.ensures.1 in
    let e = told_unreadable c.in_err-read.field-0.0 (sym p.2 ∙ same_error c.from_residual-in_err-read.result p.0 Unreadable p.1 is) in
    let count = counted c.args.byte_count in
    let same = now_read (D.story c.args.device.now) (D.story c.loop-i.device) (c.loop-i.invariant.moments told) in
    none_at (shown_image (now (D.story c.args.device.now))) c.args.start c.args.byte_count c.loop-i.i (omega (arith, count))
    (ap (λ (d : Disk). shown_image d (c.args.start + c.loop-i.i)) (sym same) ∙ c.read.ensures.unreadable (c.in_err-read.was ∙ ap Err e) told)

pub returns-in_err-read-clause-first : goal.returns-in_err-read-clause-first
returns-in_err-read-clause-first g c =
    let D = g.D.SectorDevice in
    let count = counted c.args.byte_count in
    let p = err_from_is_err_and c.from_residual-in_err-read.result c.from_residual-in_err-read.ensures.1 in
    told_of _ c.from_residual-in_err-read.result p.0 p.1
    (λ _ told.
    let same = now_read (D.story c.args.device.now) (D.story c.loop-i.device) (c.loop-i.invariant.moments told) in
    ends_at p.0 c.in_err-read.field-0.0 (shown_image (now (D.story c.args.device.now))) c.args.start (sector_count c.args.byte_count) c.loop-i.i c.loop-i.bytes.items (D.story c.args.device.now) (D.story c.loop-i.device) (D.story c.read.new.self)
    (omega (arith, count)) (c.loop-i.invariant.found told) p.2
    (λ e. ap (λ (d : Disk). shown_image d (c.args.start + c.loop-i.i)) (sym same) ∙ c.read.ensures.unreadable (c.in_err-read.was ∙ ap Err e) told)
    (c.loop-i.invariant.begun told) (c.read.ensures.story told))

pub loop-i-preserved : goal.loop-i-preserved
loop-i-preserved g c =
    let D = g.D.SectorDevice in
    let took : is_ok c.extend_from_slice.result ≡ true = ap is_ok c.unwrap.ensures in
    record {
      size = c.read.ensures.size ∙ c.loop-i.invariant.size;
      failed = c.in_ok-read.ensures.count ∙ c.loop-i.invariant.failed;
      moments = λ told. read_on _ _ _ (c.loop-i.invariant.moments told) (only_read _ _ (c.read.ensures.story told));
      begun = λ told. read_length (length (D.story c.args.device.now)) c.loop-i.i (D.story c.loop-i.device) (D.story c.read.new.self) (c.loop-i.invariant.begun told) (c.read.ensures.story told);
      len = c.extend_from_slice.ensures.len ∙ cond-true (is_ok c.extend_from_slice.result) _ _ took ∙ omega (arith, c.loop-i.invariant.len, c.read.array_long);
      room = omega (arith, c.loop-i.invariant.room, c.extend_from_slice.ensures.capacity);
      found = λ told.
          let same = now_read (D.story c.args.device.now) (D.story c.loop-i.device) (c.loop-i.invariant.moments told) in
          joined_more (shown_image (now (D.story c.args.device.now))) c.args.start c.loop-i.i c.loop-i.bytes.items c.read.new.to (c.loop-i.invariant.found told)
          (ap (λ (d : Disk). shown_image d (c.args.start + c.loop-i.i)) (sym same) ∙ c.in_ok-read.ensures.content told)
          ∙ ap {A = List ℕ} Some (sym (c.extend_from_slice.ensures.items ∙ cond-true (is_ok c.extend_from_slice.result) _ _ took));
    }

pub returns-clause-found : goal.returns-clause-found
returns-clause-found g c = λ told.
    let count = counted c.args.byte_count in
    gathered _ c.args.start c.args.byte_count c.loop-i.i _ _ (omega (arith, count)) (c.loop-i.invariant.found told) c.truncate.ensures.items

-- ---- the sectors lie on the device, and the bytes have room

pub overflow_add-start : goal.overflow_add-start
overflow_add-start g c = let count = counted c.args.byte_count in omega (arith, count)

pub read-requires : goal.read-requires
read-requires g c = let count = counted c.args.byte_count in omega (arith, count, c.loop-i.invariant.size)

pub unwrap-requires : goal.unwrap-requires
unwrap-requires g c = c.extend_from_slice.ensures.succeeds (omega (arith, c.loop-i.invariant.len, c.loop-i.invariant.room, c.loop-i-test.true, c.read.array_long))

pub loop-i-init : goal.loop-i-init
loop-i-init g c =
    let D = g.D.SectorDevice in
    let story = D.story c.args.device.now in
    record {
      size = refl;
      failed = refl;
      moments = λ told. stays (λ (d : Disk). d ≡ now story) story;
      begun = λ told. omega arith;
      len = c.in_ok-bytes.ensures.len;
      room = c.in_ok-bytes.ensures.capacity;
      found = λ told. ap {A = List ℕ} Some (sym c.in_ok-bytes.ensures.items);
    }

pub returns-clause-length : goal.returns-clause-length
returns-clause-length g c = let count = counted c.args.byte_count in omega (arith, count, c.loop-i.invariant.len, c.truncate.ensures.len)

-- ---- without memory nothing is read

pub returns-in_err-bytes-clause-count : goal.returns-in_err-bytes-clause-count
returns-in_err-bytes-clause-count g c = let p = err_from_is_err_and c.from_residual.result c.from_residual.ensures.1 in rw (p.1, p.2) refl

pub returns-in_err-bytes-clause-unreadable : goal.returns-in_err-bytes-clause-unreadable
returns-in_err-bytes-clause-unreadable g c = λ is.
    let p = err_from_is_err_and c.from_residual.result c.from_residual.ensures.1 in absurd (memory_other (sym p.2 ∙ same_error c.from_residual.result p.0 Unreadable p.1 is))

pub returns-in_err-bytes-clause-first : goal.returns-in_err-bytes-clause-first
returns-in_err-bytes-clause-first g c = let p = err_from_is_err_and c.from_residual.result c.from_residual.ensures.1 in rw (p.1, p.2) (λ other. absurd (other refl))

pub returns-in_err-bytes-clause-memory : goal.returns-in_err-bytes-clause-memory
returns-in_err-bytes-clause-memory g c = λ is told. refl

-- ---- a sector is not read

pub returns-in_err-read-clause-size : goal.returns-in_err-read-clause-size
returns-in_err-read-clause-size g c = c.read.ensures.size ∙ c.loop-i.invariant.size

pub returns-in_err-read-clause-count : goal.returns-in_err-read-clause-count
returns-in_err-read-clause-count g c =
    let p = err_from_is_err_and c.from_residual-in_err-read.result c.from_residual-in_err-read.ensures.1 in
    rw (p.1, p.2) (read_counted c.in_err-read.field-0.0 _ _ _ c.loop-i.invariant.failed c.in_err-read.ensures.count)

pub returns-in_err-read-clause-memory : goal.returns-in_err-read-clause-memory
returns-in_err-read-clause-memory g c = λ is.
    let p = err_from_is_err_and c.from_residual-in_err-read.result c.from_residual-in_err-read.ensures.1 in
    absurd (never_memory c.in_err-read.field-0.0 (sym p.2 ∙ same_error c.from_residual-in_err-read.result p.0 OutOfMemory p.1 is))

-- ---- all are read

pub returns-clause-unreadable : goal.returns-clause-unreadable
returns-clause-unreadable g c = λ is. absurd (no_error _ _ is)

pub returns-clause-memory : goal.returns-clause-memory
returns-clause-memory g c = λ is. absurd (no_error _ _ is)
