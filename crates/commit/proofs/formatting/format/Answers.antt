use Rattle.std.specs.Prelude.{min}
use Rattle.std.proofs.Common.{◌≡◌, ◌≢◌, ◌+◌, ◌-◌, ◌^◌, ◌∷◌, [], ◌∙◌, inl, inr, refl, sym, ap, subst, arith, ℕ, Bool, true, false, Option, Some, None, is_some}
use Rattle.std.proofs.lemmas.Bool.{false≢true}
use Rattle.sector_dev.specs.Disk.{Disk, now, shown_image}
use Rattle.sector_dev.specs.laws.Time.{weaken, now_read}
use Rattle.commit.specs.declared.sector.Commit.{Commit}
use Rattle.commit.specs.Formatting.{IsFormatted, IsMadeEmpty, first_commit}
use Rattle.commit.specs.InOrder.{AreDone, OneFails, formatting_calls}
use Rattle.commit.specs.Placing.{Uses}
use Rattle.commit.proofs.Agreed.{made_agree}
use Rattle.commit.proofs.Formatted.{read_first, still_none}
use Rattle.commit.proofs.Told.{sized, no_size, within, failed_count}
use Rattle.commit.proofs.formatting.format.Goals as goal

-- what ruled before is what was found
none_ruled : (before found : Option Commit) (some : Bool) → before ≡ found → some ≡ is_some found → some ≡ false → before ≡ None
none_ruled before None some same is none = same
none_ruled before (Some k) some same is none = absurd cc

some_ruled : (before found : Option Commit) (some : Bool) → before ≡ found → some ≡ is_some found → some ≡ true → before ≢ None
some_ruled before None some same is there = absurd cc
some_ruled before (Some k) some same is there = λ none. cc

pub returns-in_default-clause-untouched : goal.returns-in_default-clause-untouched
returns-in_default-clause-untouched g c = λ told _. c.read_ruling.ensures.moments told

pub returns-in_default-clause-moments : goal.returns-in_default-clause-moments
returns-in_default-clause-moments g c = λ told. weaken (λ d is. inl is) (c.read_ruling.ensures.moments told)

pub returns-then-is_some-clause-already : goal.returns-then-is_some-clause-already
returns-then-is_some-clause-already g c = λ _ told. some_ruled _ _ _ (c.in-Ok.ensures.found told) c.is_some.ensures c.if-is_some.true

pub returns-then-is_some-clause-untouched : goal.returns-then-is_some-clause-untouched
returns-then-is_some-clause-untouched g c = λ told _. c.read_ruling.ensures.moments told

pub returns-then-is_some-clause-moments : goal.returns-then-is_some-clause-moments
returns-then-is_some-clause-moments g c = λ told. weaken (λ d is. inl is) (c.read_ruling.ensures.moments told)

pub returns-then-is_some-clause-quiet : goal.returns-then-is_some-clause-quiet
returns-then-is_some-clause-quiet g c = λ _ told. now_read _ _ (c.read_ruling.ensures.moments told)

pub returns-in-Err-clause-untouched : goal.returns-in-Err-clause-untouched
returns-in-Err-clause-untouched g c = λ told some. absurd (some (none_ruled _ _ _ (c.in-Ok.ensures.found told) c.is_some.ensures c.if-is_some.false))

pub returns-in-Ok-clear_and_begin-clause-untouched : goal.returns-in-Ok-clear_and_begin-clause-untouched
returns-in-Ok-clear_and_begin-clause-untouched g c = λ told some. absurd (some (none_ruled _ _ _ (c.in-Ok.ensures.found told) c.is_some.ensures c.if-is_some.false))

pub returns-in_default-first_map-clause-moments : goal.returns-in_default-first_map-clause-moments
returns-in_default-first_map-clause-moments g c = λ told. weaken (λ d is. inl is) (c.read_ruling.ensures.moments told)

pub returns-in_default-first_map-clause-quiet : goal.returns-in_default-first_map-clause-quiet
returns-in_default-first_map-clause-quiet g c = λ _ told. now_read _ _ (c.read_ruling.ensures.moments told)

pub returns-in_default-first_map-clause-untouched : goal.returns-in_default-first_map-clause-untouched
returns-in_default-first_map-clause-untouched g c = λ told _. c.read_ruling.ensures.moments told

pub returns-in_default-first_map-clause-memory : goal.returns-in_default-first_map-clause-memory
returns-in_default-first_map-clause-memory g c = λ _ told. none_ruled _ _ _ (c.in-Ok.ensures.found told) c.is_some.ensures c.if-is_some.false

pub returns-in-Ok-clear_and_begin-clause-none_before : goal.returns-in-Ok-clear_and_begin-clause-none_before
returns-in-Ok-clear_and_begin-clause-none_before g c = λ told. none_ruled _ _ _ (c.in-Ok.ensures.found told) c.is_some.ensures c.if-is_some.false

pub returns-in-Err-clause-moments : goal.returns-in-Err-clause-moments
returns-in-Err-clause-moments g c = λ told.
    let D = g.D.SectorDevice in
    read_first (D.size c.args.device.now) (D.size c.read_ruling.new.device) c.args.version (D.story c.args.device.now) (D.story c.read_ruling.new.device) (D.story c.clear_and_begin.new.device)
    c.read_ruling.ensures.size (c.read_ruling.ensures.moments told) (none_ruled _ _ _ (c.in-Ok.ensures.found told) c.is_some.ensures c.if-is_some.false) (c.clear_and_begin.ensures.moments told)

pub returns-in-Ok-clear_and_begin-clause-moments : goal.returns-in-Ok-clear_and_begin-clause-moments
returns-in-Ok-clear_and_begin-clause-moments g c = λ told.
    let D = g.D.SectorDevice in
    read_first (D.size c.args.device.now) (D.size c.read_ruling.new.device) c.args.version (D.story c.args.device.now) (D.story c.read_ruling.new.device) (D.story c.clear_and_begin.new.device)
    c.read_ruling.ensures.size (c.read_ruling.ensures.moments told) (none_ruled _ _ _ (c.in-Ok.ensures.found told) c.is_some.ensures c.if-is_some.false) (c.clear_and_begin.ensures.moments told)

pub returns-in-Ok-clear_and_begin-clause-formatted : goal.returns-in-Ok-clear_and_begin-clause-formatted
returns-in-Ok-clear_and_begin-clause-formatted g c = λ told.
    let D = g.D.SectorDevice in
    let s0 = D.story c.args.device.now in
    let s1 = D.story c.read_ruling.new.device in
    let s2 = D.story c.clear_and_begin.new.device in
    let reads = c.read_ruling.ensures.moments told in
    let none = still_none s0 s1 reads (none_ruled _ _ _ (c.in-Ok.ensures.found told) c.is_some.ensures c.if-is_some.false) in
    subst (λ (d : Disk). IsFormatted (D.size c.args.device.now) c.args.version d (now s2)) (now_read s0 s1 reads)
    (subst (λ (n : ℕ). IsFormatted n c.args.version (now s1) (now s2)) c.read_ruling.ensures.size (c.in-Ok-clear_and_begin.ensures.formatted told none))

pub returns-in-Ok-clear_and_begin-clause-made : goal.returns-in-Ok-clear_and_begin-clause-made
returns-in-Ok-clear_and_begin-clause-made g c = λ told.
    let D = g.D.SectorDevice in
    let s0 = D.story c.args.device.now in
    let s1 = D.story c.read_ruling.new.device in
    let s2 = D.story c.clear_and_begin.new.device in
    let made = subst (λ (n : ℕ). IsMadeEmpty n c.args.version (shown_image (now s1)) (shown_image (now s2))) c.read_ruling.ensures.size (c.in-Ok-clear_and_begin.ensures.made told) in
    subst (λ (d : Disk). IsMadeEmpty (D.size c.args.device.now) c.args.version (shown_image d) (shown_image (now s2))) (now_read s0 s1 (c.read_ruling.ensures.moments told)) made

pub returns-in-Ok-clear_and_begin-clause-agree : goal.returns-in-Ok-clear_and_begin-clause-agree
returns-in-Ok-clear_and_begin-clause-agree g c = λ told.
    let D = g.D.SectorDevice in
    made_agree (D.size c.args.device.now) c.args.version _ (shown_image (now (D.story c.clear_and_begin.new.device)))
    (omega (arith, c.sectors-sectors.ensures)) (returns-in-Ok-clear_and_begin-clause-made g c told)

pub returns-in_default-clause-limits : goal.returns-in_default-clause-limits
returns-in_default-clause-limits g c = λ other. absurd (false≢true (sym other ∙ sized (g.D.SectorDevice.size c.args.device.now) c.sectors-sectors.result c.sectors-sectors.ensures (omega arith) (omega arith)))

pub returns-then-is_some-clause-limits : goal.returns-then-is_some-clause-limits
returns-then-is_some-clause-limits g c = λ other. absurd (false≢true (sym other ∙ sized (g.D.SectorDevice.size c.args.device.now) c.sectors-sectors.result c.sectors-sectors.ensures (omega arith) (omega arith)))

pub returns-in_default-first_map-clause-limits : goal.returns-in_default-first_map-clause-limits
returns-in_default-first_map-clause-limits g c = λ other. absurd (false≢true (sym other ∙ sized (g.D.SectorDevice.size c.args.device.now) c.sectors-sectors.result c.sectors-sectors.ensures (omega arith) (omega arith)))

pub returns-in-Err-clause-limits : goal.returns-in-Err-clause-limits
returns-in-Err-clause-limits g c = λ other. absurd (false≢true (sym other ∙ sized (g.D.SectorDevice.size c.args.device.now) c.sectors-sectors.result c.sectors-sectors.ensures (omega arith) (omega arith)))

pub returns-in-Ok-clear_and_begin-clause-limits : goal.returns-in-Ok-clear_and_begin-clause-limits
returns-in-Ok-clear_and_begin-clause-limits g c = λ other. absurd (false≢true (sym other ∙ sized (g.D.SectorDevice.size c.args.device.now) c.sectors-sectors.result c.sectors-sectors.ensures (omega arith) (omega arith)))

-- ---- the device, whatever it tells

pub returns-in_default-clause-count : goal.returns-in_default-clause-count
returns-in_default-clause-count g c = failed_count _ _ _ c.in_default.ensures.error c.in_default.ensures.count

pub returns-then-is_some-clause-count : goal.returns-then-is_some-clause-count
returns-then-is_some-clause-count g c = c.in-Ok.ensures.count

pub returns-in_default-first_map-clause-count : goal.returns-in_default-first_map-clause-count
returns-in_default-first_map-clause-count g c = c.in-Ok.ensures.count

pub clear_and_begin-requires-clause-room : goal.clear_and_begin-requires-clause-room
clear_and_begin-requires-clause-room g c = omega (arith, c.sectors-sectors.ensures, c.read_ruling.ensures.size)

pub clear_and_begin-requires-clause-most : goal.clear_and_begin-requires-clause-most
clear_and_begin-requires-clause-most g c = omega (arith, c.sectors-sectors.ensures, c.read_ruling.ensures.size)

pub returns-in-Ok-clear_and_begin-clause-size : goal.returns-in-Ok-clear_and_begin-clause-size
returns-in-Ok-clear_and_begin-clause-size g c = c.clear_and_begin.ensures.size ∙ c.read_ruling.ensures.size

pub returns-in-Ok-clear_and_begin-clause-count : goal.returns-in-Ok-clear_and_begin-clause-count
returns-in-Ok-clear_and_begin-clause-count g c = c.in-Ok-clear_and_begin.ensures.count ∙ c.in-Ok.ensures.count

pub returns-in-Ok-clear_and_begin-clause-commit : goal.returns-in-Ok-clear_and_begin-clause-commit
returns-in-Ok-clear_and_begin-clause-commit g c = c.first_commit.ensures ∙ ap (λ (n : ℕ). first_commit n c.args.version) c.sectors-sectors.ensures

pub returns-in-Ok-clear_and_begin-clause-map_size : goal.returns-in-Ok-clear_and_begin-clause-map_size
returns-in-Ok-clear_and_begin-clause-map_size g c = c.in-Ok-first_map.ensures.size ∙ c.sectors-sectors.ensures

pub returns-in-Ok-clear_and_begin-clause-uses : goal.returns-in-Ok-clear_and_begin-clause-uses
returns-in-Ok-clear_and_begin-clause-uses g c =
    subst (λ (k : Commit). Uses c.in-Ok-first_map.map.entries (k.catalogue.run ∷ []) []) (sym c.first_commit.ensures) c.in-Ok-first_map.ensures.uses

pub returns-in-Err-clause-size : goal.returns-in-Err-clause-size
returns-in-Err-clause-size g c = c.clear_and_begin.ensures.size ∙ c.read_ruling.ensures.size

pub returns-in-Err-clause-count : goal.returns-in-Err-clause-count
returns-in-Err-clause-count g c = failed_count _ _ _ c.in-Err.ensures.error c.in-Err.ensures.count ∙ ap (λ (n : ℕ). min (n + 1) (2 ^ 64 - 1)) c.in-Ok.ensures.count

pub returns-then-sectors-lt-LEAST_SECTORS-clause-damaged : goal.returns-then-sectors-lt-LEAST_SECTORS-clause-damaged
returns-then-sectors-lt-LEAST_SECTORS-clause-damaged g c = λ cause told.
    no_size (g.D.SectorDevice.size c.args.device.now) (λ is.
    let limits = within (g.D.SectorDevice.size c.args.device.now) is in
    elim c.then-sectors-lt-LEAST_SECTORS.either as (λ _. ⊥) [ inl low ↦ omega (arith, limits.0, c.sectors-sectors.ensures) | inr high ↦ omega (arith, limits.1, c.sectors-sectors.ensures) ])

-- ---- the calls in order

pub returns-in_default-clause-cut_short : goal.returns-in_default-clause-cut_short
returns-in_default-clause-cut_short g c = λ _ told. record { read = _; reads = c.read_ruling.ensures.moments told; calls = inl refl }

pub returns-in-Err-clause-cut_short : goal.returns-in-Err-clause-cut_short
returns-in-Err-clause-cut_short g c = λ _ told.
    let D = g.D.SectorDevice in
    let failed = subst (λ (n : ℕ). OneFails (formatting_calls n c.args.version) (D.story c.read_ruling.new.device) (D.story c.clear_and_begin.new.device)) c.read_ruling.ensures.size (c.in-Err.ensures.cut_short told) in
    record { read = _; reads = c.read_ruling.ensures.moments told; calls = inr failed }

pub returns-in-Ok-clear_and_begin-clause-order : goal.returns-in-Ok-clear_and_begin-clause-order
returns-in-Ok-clear_and_begin-clause-order g c = λ told.
    let D = g.D.SectorDevice in
    let done = subst (λ (n : ℕ). AreDone (formatting_calls n c.args.version) (D.story c.read_ruling.new.device) (D.story c.clear_and_begin.new.device)) c.read_ruling.ensures.size (c.in-Ok-clear_and_begin.ensures.order told) in
    record { read = _; reads = c.read_ruling.ensures.moments told; calls = done }
