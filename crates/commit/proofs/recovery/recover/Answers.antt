use Rattle.std.specs.Prelude.{OnOk, OnErr}
use Rattle.std.proofs.Common.{◌≡◌, ◌≢◌, ◌∙◌, ℕ, refl, sym, ap, subst, inl, inr, IfOk, IfErr, Result, Ok, Err, arith}
use Rattle.std.proofs.lemmas.Bool.{false≢true}
use Rattle.std.proofs.lemmas.Result.{err_from_is_err_and}
use Rattle.sector_dev.specs.Disk.{now, shown_image, flushed}
use Rattle.sector_dev.specs.laws.Time.{stays, weaken, goes_on, passed, two, now_read, only_read, read_on}
use Rattle.commit.specs.Opening.{CountsOpen, IsOpening}
use Rattle.commit.specs.declared.reading.OpenError.{OpenError}
use Rattle.commit.specs.declared.reading.OpenError.TheVariants.{Device}
use Rattle.commit.specs.laws.Frame.{stands_on_no_device}
use Rattle.commit.proofs.Told.{flushed_stands, no_size, sized, within, recounted, if_ok}
use Rattle.commit.proofs.recovery.recover.Goals as goal

if_err : {T P Q : Type 0} (r : Result T OpenError) → (P → Q) → IfErr r (λ e. e ≢ Device → P → Q)
if_err (Ok x) f = tt
if_err (Err e) f = λ _ p. f p

-- what is known of a store that is handed on
kept : {T E : Type 0} (P : T → Type 0) (r : Result T E) (x : T) → IfOk r (λ y. y ≡ x) → P x → IfOk r P
kept P (Ok y) x is p = subst P (sym is) p
kept P (Err e) x is p = tt

-- and since it was made safe
kept_safe : {T E A : Type 0} (P : T → Type 0) (r : Result T E) (x : T) → IfOk r (λ y. y ≡ x) → OnOk r A → (A → P x) → IfOk r P
kept_safe P (Ok y) x is safe f = subst P (sym is) (f safe)
kept_safe P (Err e) x is safe f = tt

-- whether it was made safe or not
in_both : {T E A B G : Type 0} (r : Result T E) → OnOk r A → OnErr r B → (A → G) → (B → G) → G
in_both (Ok x) safe failed f g = f safe
in_both (Err e) safe failed f g = g failed

-- after it was made safe, and after it was not
on_safe : {T E A B : Type 0} (r : Result T E) → OnOk r A → (A → B) → OnOk r B
on_safe (Ok x) safe f = f safe
on_safe (Err e) safe f = tt

on_failed : {T E A B : Type 0} (r : Result T E) → OnErr r A → (A → B) → OnErr r B
on_failed (Ok x) failed f = tt
on_failed (Err e) failed f = f failed

-- the one error that is reported then
told_device : {T : Type 0} (P : OpenError → Type 0) (r : Result T OpenError) → IfErr r (λ e. e ≡ Device) → P Device → IfErr r P
told_device P (Ok x) is p = tt
told_device P (Err e) is p = subst P (sym is) p

pub returns-then-sectors-lt-LEAST_SECTORS-clause-refused : goal.returns-then-sectors-lt-LEAST_SECTORS-clause-refused
returns-then-sectors-lt-LEAST_SECTORS-clause-refused g c = λ told.
    stands_on_no_device g.C.ReadCatalogue.reading (g.D.SectorDevice.size c.args.device.now) (shown_image (now (g.D.SectorDevice.story c.args.device.now)))
    (no_size (g.D.SectorDevice.size c.args.device.now) (λ is.
    let limits = within (g.D.SectorDevice.size c.args.device.now) is in
    elim c.then-sectors-lt-LEAST_SECTORS.either as (λ _. ⊥) [ inl low ↦ omega (arith, limits.0, c.sectors-sectors.ensures) | inr high ↦ omega (arith, limits.1, c.sectors-sectors.ensures) ]))

pub returns-in_err-store-clause-moments : goal.returns-in_err-store-clause-moments
returns-in_err-store-clause-moments g c = λ told. weaken (λ d is. inl is) (c.read_store.ensures.moments told)

pub returns-in_err-store-clause-quiet : goal.returns-in_err-store-clause-quiet
returns-in_err-store-clause-quiet g c = if_err _ (λ told. now_read _ _ (c.read_store.ensures.moments told))

pub returns-in_err-store-clause-limits : goal.returns-in_err-store-clause-limits
returns-in_err-store-clause-limits g c = λ other. absurd (false≢true (sym other ∙ sized (g.D.SectorDevice.size c.args.device.now) c.sectors-sectors.result c.sectors-sectors.ensures (omega arith) (omega arith)))

pub read_store-requires : goal.read_store-requires
read_store-requires g c = sized (g.D.SectorDevice.size c.args.device.now) c.sectors-sectors.result c.sectors-sectors.ensures (omega arith) (omega arith)

pub returns-in_err-store-clause-count : goal.returns-in_err-store-clause-count
returns-in_err-store-clause-count g c =
    let p = err_from_is_err_and c.from_residual.result c.from_residual.ensures.1 in
    rw (p.1, p.2) (recounted c.in_err-store.field-0.0 _ _ _ refl c.in_err-store.ensures.count)

pub returns-in_err-store-clause-refused : goal.returns-in_err-store-clause-refused
returns-in_err-store-clause-refused g c = let p = err_from_is_err_and c.from_residual.result c.from_residual.ensures.1 in rw (p.1, p.2) c.in_err-store.ensures.refused

pub returns-in_err-store-clause-found : goal.returns-in_err-store-clause-found
returns-in_err-store-clause-found g c = rw (err_from_is_err_and c.from_residual.result c.from_residual.ensures.1).1 tt

pub returns-in_err-store-clause-synced : goal.returns-in_err-store-clause-synced
returns-in_err-store-clause-synced g c = rw (err_from_is_err_and c.from_residual.result c.from_residual.ensures.1).1 tt

pub returns-in_err-store-clause-once : goal.returns-in_err-store-clause-once
returns-in_err-store-clause-once g c = rw (err_from_is_err_and c.from_residual.result c.from_residual.ensures.1).1 tt

pub returns-in_err-store-clause-unsynced : goal.returns-in_err-store-clause-unsynced
returns-in_err-store-clause-unsynced g c = rw (err_from_is_err_and c.from_residual.result c.from_residual.ensures.1).1 c.read_store.ensures.moments

pub returns-in_err-store-clause-stands : goal.returns-in_err-store-clause-stands
returns-in_err-store-clause-stands g c = rw (err_from_is_err_and c.from_residual.result c.from_residual.ensures.1).1 tt

pub returns-in_err-store-clause-in_limits : goal.returns-in_err-store-clause-in_limits
returns-in_err-store-clause-in_limits g c = rw (err_from_is_err_and c.from_residual.result c.from_residual.ensures.1).1 tt

pub returns-in_err-store-clause-device : goal.returns-in_err-store-clause-device
returns-in_err-store-clause-device g c = rw (err_from_is_err_and c.from_residual.result c.from_residual.ensures.1).1 tt

pub returns-in_err-store-clause-placed : goal.returns-in_err-store-clause-placed
returns-in_err-store-clause-placed g c = rw (err_from_is_err_and c.from_residual.result c.from_residual.ensures.1).1 tt

pub returns-in_err-store-clause-fit : goal.returns-in_err-store-clause-fit
returns-in_err-store-clause-fit g c = rw (err_from_is_err_and c.from_residual.result c.from_residual.ensures.1).1 tt

pub returns-in_err-store-clause-map_size : goal.returns-in_err-store-clause-map_size
returns-in_err-store-clause-map_size g c = rw (err_from_is_err_and c.from_residual.result c.from_residual.ensures.1).1 tt

pub returns-in_err-store-clause-uses : goal.returns-in_err-store-clause-uses
returns-in_err-store-clause-uses g c = rw (err_from_is_err_and c.from_residual.result c.from_residual.ensures.1).1 tt

pub returns-then-sectors-lt-LEAST_SECTORS-clause-limits : goal.returns-then-sectors-lt-LEAST_SECTORS-clause-limits
returns-then-sectors-lt-LEAST_SECTORS-clause-limits g c = λ other. (refl, refl)

pub returns-then-sectors-lt-LEAST_SECTORS-clause-moments : goal.returns-then-sectors-lt-LEAST_SECTORS-clause-moments
returns-then-sectors-lt-LEAST_SECTORS-clause-moments g c = λ told. let story = g.D.SectorDevice.story c.args.device.now in stays (IsOpening (now story)) story

pub returns-then-sectors-lt-LEAST_SECTORS-clause-unsynced : goal.returns-then-sectors-lt-LEAST_SECTORS-clause-unsynced
returns-then-sectors-lt-LEAST_SECTORS-clause-unsynced g c = λ told. let story = g.D.SectorDevice.story c.args.device.now in stays (λ d. d ≡ now story) story

pub returns-then-sectors-lt-LEAST_SECTORS-clause-quiet : goal.returns-then-sectors-lt-LEAST_SECTORS-clause-quiet
returns-then-sectors-lt-LEAST_SECTORS-clause-quiet g c = λ other told. refl

pub returns-clause-size : goal.returns-clause-size
returns-clause-size g c = c.make_safe.ensures.size ∙ c.read_store.ensures.size

pub returns-clause-count : goal.returns-clause-count
returns-clause-count g c = subst (λ (n : ℕ). CountsOpen n (g.D.SectorDevice.failed c.make_safe.new.device) c.make_safe.result) c.in_ok-store.ensures.count c.make_safe.ensures.count

pub returns-clause-limits : goal.returns-clause-limits
returns-clause-limits g c = λ other. absurd (false≢true (sym other ∙ sized (g.D.SectorDevice.size c.args.device.now) c.sectors-sectors.result c.sectors-sectors.ensures (omega arith) (omega arith)))

pub returns-clause-moments : goal.returns-clause-moments
returns-clause-moments g c = λ told.
    let reads = c.read_store.ensures.moments told in
    let P = IsOpening (now (g.D.SectorDevice.story c.args.device.now)) in
    goes_on (weaken (λ d is. inl is) reads)
    (in_both c.make_safe.result c.make_safe.ensures.synced c.make_safe.ensures.err
    (λ safe. two P _ _ _ _ (safe told) (inr (ap flushed (now_read _ _ reads))) (inl (now_read _ _ reads)))
    (λ same. passed P _ _ (inl (now_read _ _ reads)) (same told)))

pub returns-clause-found : goal.returns-clause-found
returns-clause-found g c = kept _ c.make_safe.result c.in_ok-store.store c.make_safe.ensures.kept c.in_ok-store.ensures.found

pub returns-clause-synced : goal.returns-clause-synced
returns-clause-synced g c = kept_safe _ c.make_safe.result c.in_ok-store.store c.make_safe.ensures.kept c.make_safe.ensures.synced
    (λ safe told. ap now (safe told) ∙ ap flushed (now_read _ _ (c.read_store.ensures.moments told)))

pub returns-clause-once : goal.returns-clause-once
returns-clause-once g c = on_safe c.make_safe.result c.make_safe.ensures.synced (λ safe told. record { read = _; reads = c.read_store.ensures.moments told; sync = safe told })

pub returns-clause-unsynced : goal.returns-clause-unsynced
returns-clause-unsynced g c = on_failed c.make_safe.result c.make_safe.ensures.err (λ same told. read_on _ _ _ (c.read_store.ensures.moments told) (only_read _ _ (same told)))

pub returns-clause-stands : goal.returns-clause-stands
returns-clause-stands g c = kept_safe _ c.make_safe.result c.in_ok-store.store c.make_safe.ensures.kept c.make_safe.ensures.synced (λ safe told.
    flushed_stands g.C.ReadCatalogue.reading (g.D.SectorDevice.size c.args.device.now) (now (g.D.SectorDevice.story c.args.device.now)) _ _ _
    (ap now (safe told) ∙ ap flushed (now_read _ _ (c.read_store.ensures.moments told)))
    (c.in_ok-store.ensures.found told))

pub returns-clause-refused : goal.returns-clause-refused
returns-clause-refused g c = told_device _ c.make_safe.result c.make_safe.ensures.error (λ told. tt)

pub returns-clause-quiet : goal.returns-clause-quiet
returns-clause-quiet g c = told_device _ c.make_safe.result c.make_safe.ensures.error (λ other. absurd (other refl))

pub returns-clause-in_limits : goal.returns-clause-in_limits
returns-clause-in_limits g c = if_ok c.make_safe.result (sized (g.D.SectorDevice.size c.args.device.now) c.sectors-sectors.result c.sectors-sectors.ensures (omega arith) (omega arith))

pub returns-clause-device : goal.returns-clause-device
returns-clause-device g c = kept _ c.make_safe.result c.in_ok-store.store c.make_safe.ensures.kept c.in_ok-store.ensures.device

pub returns-clause-placed : goal.returns-clause-placed
returns-clause-placed g c = kept _ c.make_safe.result c.in_ok-store.store c.make_safe.ensures.kept c.in_ok-store.ensures.placed

pub returns-clause-fit : goal.returns-clause-fit
returns-clause-fit g c = kept _ c.make_safe.result c.in_ok-store.store c.make_safe.ensures.kept c.in_ok-store.ensures.fit

pub returns-clause-map_size : goal.returns-clause-map_size
returns-clause-map_size g c = kept _ c.make_safe.result c.in_ok-store.store c.make_safe.ensures.kept c.in_ok-store.ensures.map_size

pub returns-clause-uses : goal.returns-clause-uses
returns-clause-uses g c = kept _ c.make_safe.result c.in_ok-store.store c.make_safe.ensures.kept c.in_ok-store.ensures.uses

pub returns-clause-form : goal.returns-clause-form
returns-clause-form g c = kept _ c.make_safe.result c.in_ok-store.store c.make_safe.ensures.kept c.in_ok-store.ensures.form
