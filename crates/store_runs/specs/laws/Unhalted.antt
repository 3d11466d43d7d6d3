-- Where no reply says that a device failed, none is refused as halted while a store is open.
use Rattle.std.specs.Prelude.{◌≡◌, ◌≢◌, ◌⊎◌, Bool, true, false, ℕ, List, [], ◌∷◌, Some, None, refl}
use Rattle.std.specs.List.{list_any}
use Rattle.std.proofs.Common.{inl, inr, ap, sym, ◌∙◌}
use Rattle.std.proofs.lemmas.Bool.{or_from, or_parts}
use Rattle.sector_dev.specs.Disk.{Story}
use Rattle.tables.specs.declared.refusal.Refusal.{Refusal}
use Rattle.tables.specs.declared.refusal.Refusal.TheVariants as refusals
use Rattle.tables.specs.declared.refusal.Limit.TheVariants as limits
use Rattle.tables.specs.Refusals.{Origin, by_tables, by_room, by_memory, by_device, by_halt, elsewhere, origin_of}
use Rattle.tables.specs.Commands.{PlainCommand}
use Rattle.commit.specs.declared.opening_refusal.OpeningRefusal.TheVariants as openings
use Rattle.store_runs.specs.Calls.{PlainCall, apply_call, format_call, open_call, close_call, tables_call, schema_call, read_call, export_call, stream_call, open_export_call, export_next_call, close_export_call, compact_call, upgrade_call, PlainReply, done, counts, schema_is, table_is, bytes_are, export_is, piece_is, merged, moved, nothing, already, refused, refused_at, shut_by, is_failure, is_device_reply}
use Rattle.store_runs.specs.Machine.{Setting, Machine, Phase, running, shut, with_doubt, opened}
use Rattle.store_runs.specs.Steps.{RefusesFrom, Step}
use Rattle.store_runs.specs.Runs.{Run}
use Rattle.store_runs.specs.Halting.{phase_where, is_open_after, tells_halt, tells_halt_while_open}
use Rattle.store_runs.specs.laws.Settled.{device_fails}

-- one call: whether a store is open after it, and that it is not refused as halted
record Turns (call : PlainCall) (reply : PlainReply) (new : Machine) (is_open : Bool) : Type 0 where
  pub phase : new.phase ≡ phase_where (is_open_after call reply is_open)
  pub on : tells_halt is_open reply ≡ false

failing : {A : Type 0} → true ≡ false → A
failing is = absurd (cc is)

-- a halted call of an open store that is not halted
not_halted : (is_open : Bool) (p : Phase) → p ≡ phase_where is_open → p ≢ running → is_open ≡ false
not_halted true p is other = absurd (other is)
not_halted false p is other = refl

on_of : (r : Refusal) (is_open : Bool) → origin_of r ≢ by_halt → tells_halt is_open (refused r) ≡ false
on_of refusals.Halted is_open other = absurd (other refl)
on_of _ is_open other = refl

halts_shut : (r : Refusal) (is_open : Bool) → is_open ≡ false → tells_halt is_open (refused r) ≡ false
halts_shut refusals.Halted is_open is = is
halts_shut _ is_open is = refl

module _ (m new : Machine) (is_open : Bool) (at : m.phase ≡ phase_where is_open) where
  -- the machine stays
  same : (call : PlainCall) (reply : PlainReply) → is_open_after call reply is_open ≡ is_open → new ≡ m → tells_halt is_open reply ≡ false → Turns call reply new is_open
  same call reply keeps is on = record { phase = ap (λ (k : Machine). k.phase) is ∙ at ∙ ap phase_where (sym keeps); on = on }

  -- it is refused as halted
  halts : (call : PlainCall) → is_open_after call (refused refusals.Halted) is_open ≡ is_open → m.phase ≢ running → new ≡ m → Turns call (refused refusals.Halted) new is_open
  halts call keeps off is = same call (refused refusals.Halted) keeps is (not_halted is_open m.phase at off)

  shuts : (call : PlainCall) (reply : PlainReply) → is_open_after call reply is_open ≡ false → new.phase ≡ shut → tells_halt is_open reply ≡ false → Turns call reply new is_open
  shuts call reply closes is on = record { phase = is ∙ ap phase_where (sym closes); on = on }

  by_origin : (o : Origin) (s : Setting) (c : PlainCommand) (call : PlainCall) (r : Refusal) (wrote : Bool) → is_open_after call (refused r) is_open ≡ is_open → origin_of r ≡ o → is_failure r ≡ false → RefusesFrom o s m c r wrote new → Turns call (refused r) new is_open
  by_origin by_tables s c call r wrote keeps is quiet step = same call (refused r) keeps step.3.1 (on_of r is_open (λ h. cc (is, h)))
  by_origin by_room s c call r wrote keeps is quiet step = same call (refused r) keeps step.2.1 (on_of r is_open (λ h. cc (is, h)))
  by_origin by_memory s c call r wrote keeps is quiet step = same call (refused r) keeps step.1.1 (on_of r is_open (λ h. cc (is, h)))
  by_origin by_device s c call r wrote keeps is quiet step = failing (sym (device_fails r is) ∙ quiet)
  by_origin by_halt s c call r wrote keeps is quiet step = same call (refused r) keeps step.1.1 (halts_shut r is_open (not_halted is_open m.phase at step.0))
  by_origin elsewhere s c call r wrote keeps is quiet step = absurd step

turns : (s : Setting) (m : Machine) (call : PlainCall) (reply : PlainReply) (wrote : Bool) (new : Machine) (is_open : Bool) → Step s m call reply wrote new → m.phase ≡ phase_where is_open → is_device_reply reply ≡ false
    → Turns call reply new is_open
unfolding Step
turns s m (apply_call c) done wrote new is_open step at quiet = record { phase = ap (λ (k : Machine). k.phase) step.3 ∙ sym step.0 ∙ at; on = refl }
turns s m (apply_call c) (refused r) wrote new is_open step at quiet = by_origin m new is_open at (origin_of r) s c (apply_call c) r wrote refl refl quiet step
turns s m (apply_call c) (refused_at place r) wrote new is_open step at quiet = same m new is_open at (apply_call c) (refused_at place r) refl step.2.1 refl
turns s m (apply_call c) _ wrote new is_open step at quiet = absurd step
turns s m format_call done wrote new is_open step at quiet = record { phase = ap (λ (k : Machine). k.phase) step.3; on = refl }
turns s m format_call (shut_by openings.AlreadyAStore) wrote new is_open step at quiet = shuts m new is_open at format_call (shut_by openings.AlreadyAStore) refl (ap (λ (k : Machine). k.phase) step.1) refl
turns s m format_call (shut_by openings.OutOfMemory) wrote new is_open step at quiet = shuts m new is_open at format_call (shut_by openings.OutOfMemory) refl (ap (λ (k : Machine). k.phase) step.1) refl
turns s m format_call (shut_by openings.Device) wrote new is_open step at quiet = failing quiet
turns s m format_call _ wrote new is_open step at quiet = absurd step
turns s m open_call done wrote new is_open step at quiet = by_choice step.1
  where
    by_choice : (new ≡ opened m.settled) ⊎ (new ≡ opened (with_doubt m.settled m.doubt)) → Turns open_call done new is_open
    by_choice (inl is) = record { phase = ap (λ (k : Machine). k.phase) is; on = refl }
    by_choice (inr is) = record { phase = ap (λ (k : Machine). k.phase) is; on = refl }
turns s m open_call (shut_by openings.NotAStore) wrote new is_open step at quiet = shuts m new is_open at open_call (shut_by openings.NotAStore) refl (ap (λ (k : Machine). k.phase) step.2) refl
turns s m open_call (shut_by openings.Device) wrote new is_open step at quiet = failing quiet
turns s m open_call (shut_by openings.OutOfMemory) wrote new is_open step at quiet = shuts m new is_open at open_call (shut_by openings.OutOfMemory) refl (ap (λ (k : Machine). k.phase) step.1) refl
turns s m open_call _ wrote new is_open step at quiet = absurd step
turns s m close_call done wrote new is_open step at quiet = shuts m new is_open at close_call done refl (ap (λ (k : Machine). k.phase) step.2) refl
turns s m close_call (refused refusals.Halted) wrote new is_open step at quiet =
    shuts m new is_open at close_call (refused refusals.Halted) refl (ap (λ (k : Machine). k.phase) step.1.1 ∙ step.0) (not_halted is_open m.phase at (λ is. let no : shut ≡ running = sym step.0 ∙ is in cc no))
turns s m close_call _ wrote new is_open step at quiet = absurd step
turns s m tables_call (counts ns) wrote new is_open step at quiet = same m new is_open at tables_call (counts ns) refl step.2.1 refl
turns s m tables_call (refused refusals.Halted) wrote new is_open step at quiet = halts m new is_open at tables_call refl step.0 step.1.1
turns s m tables_call (refused refusals.OutOfMemory) wrote new is_open step at quiet = same m new is_open at tables_call (refused refusals.OutOfMemory) refl step.1.1 refl
turns s m tables_call _ wrote new is_open step at quiet = absurd step
turns s m (schema_call name) (schema_is schema) wrote new is_open step at quiet = same m new is_open at (schema_call name) (schema_is schema) refl step.2.1 refl
turns s m (schema_call name) (refused refusals.NoTable) wrote new is_open step at quiet = same m new is_open at (schema_call name) (refused refusals.NoTable) refl step.2.1 refl
turns s m (schema_call name) (refused refusals.Halted) wrote new is_open step at quiet = halts m new is_open at (schema_call name) refl step.0 step.1.1
turns s m (schema_call name) (refused refusals.OutOfMemory) wrote new is_open step at quiet = same m new is_open at (schema_call name) (refused refusals.OutOfMemory) refl step.1.1 refl
turns s m (schema_call name) _ wrote new is_open step at quiet = absurd step
turns s m (read_call name) (table_is table) wrote new is_open step at quiet = same m new is_open at (read_call name) (table_is table) refl step.2.1 refl
turns s m (read_call name) (refused refusals.NoTable) wrote new is_open step at quiet = same m new is_open at (read_call name) (refused refusals.NoTable) refl step.2.1 refl
turns s m (read_call name) (refused refusals.Halted) wrote new is_open step at quiet = halts m new is_open at (read_call name) refl step.0 step.1.1
turns s m (read_call name) (refused refusals.OutOfMemory) wrote new is_open step at quiet = same m new is_open at (read_call name) (refused refusals.OutOfMemory) refl step.1.1 refl
turns s m (read_call name) (refused refusals.Device) wrote new is_open step at quiet = failing quiet
turns s m (read_call name) _ wrote new is_open step at quiet = absurd step
turns s m (export_call name) (bytes_are bytes) wrote new is_open step at quiet = same m new is_open at (export_call name) (bytes_are bytes) refl step.2.1 refl
turns s m (export_call name) (refused refusals.NoTable) wrote new is_open step at quiet = same m new is_open at (export_call name) (refused refusals.NoTable) refl step.2.1 refl
turns s m (export_call name) (refused refusals.Halted) wrote new is_open step at quiet = halts m new is_open at (export_call name) refl step.0 step.1.1
turns s m (export_call name) (refused refusals.OutOfMemory) wrote new is_open step at quiet = same m new is_open at (export_call name) (refused refusals.OutOfMemory) refl step.1.1 refl
turns s m (export_call name) (refused refusals.Device) wrote new is_open step at quiet = failing quiet
turns s m (export_call name) _ wrote new is_open step at quiet = absurd step
turns s m (stream_call c) (refused refusals.Read) wrote new is_open step at quiet = same m new is_open at (stream_call c) (refused refusals.Read) refl step.1.1 refl
turns s m (stream_call c) done wrote new is_open step at quiet = record { phase = ap (λ (k : Machine). k.phase) step.3 ∙ sym step.0 ∙ at; on = refl }
turns s m (stream_call c) (refused r) wrote new is_open step at quiet = by_origin m new is_open at (origin_of r) s c (stream_call c) r wrote refl refl quiet step
turns s m (stream_call c) _ wrote new is_open step at quiet = absurd step
turns s m (open_export_call name) (export_is id) wrote new is_open step at quiet = record { phase = ap (λ (k : Machine). k.phase) step.5.3 ∙ at; on = refl }
turns s m (open_export_call name) (refused refusals.NoTable) wrote new is_open step at quiet = same m new is_open at (open_export_call name) (refused refusals.NoTable) refl step.2.1 refl
turns s m (open_export_call name) (refused (refusals.TooMany limits.Exports)) wrote new is_open step at quiet = same m new is_open at (open_export_call name) (refused (refusals.TooMany limits.Exports)) refl step.3.1 refl
turns s m (open_export_call name) (refused refusals.Halted) wrote new is_open step at quiet = halts m new is_open at (open_export_call name) refl step.0 step.1.1
turns s m (open_export_call name) (refused refusals.OutOfMemory) wrote new is_open step at quiet = same m new is_open at (open_export_call name) (refused refusals.OutOfMemory) refl step.1.1 refl
turns s m (open_export_call name) _ wrote new is_open step at quiet = absurd step
turns s m (export_next_call id) (piece_is (Some piece)) wrote new is_open step at quiet = record { phase = ap (λ (k : Machine). k.phase) step.3 ∙ at; on = refl }
turns s m (export_next_call id) (piece_is None) wrote new is_open step at quiet = record { phase = ap (λ (k : Machine). k.phase) step.3 ∙ at; on = refl }
turns s m (export_next_call id) (refused refusals.NoExport) wrote new is_open step at quiet = same m new is_open at (export_next_call id) (refused refusals.NoExport) refl step.2.1 refl
turns s m (export_next_call id) (refused refusals.Halted) wrote new is_open step at quiet = halts m new is_open at (export_next_call id) refl step.0 step.1.1
turns s m (export_next_call id) (refused refusals.OutOfMemory) wrote new is_open step at quiet = same m new is_open at (export_next_call id) (refused refusals.OutOfMemory) refl step.1.1 refl
turns s m (export_next_call id) (refused refusals.Device) wrote new is_open step at quiet = failing quiet
turns s m (export_next_call id) _ wrote new is_open step at quiet = absurd step
turns s m (close_export_call id) done wrote new is_open step at quiet = record { phase = ap (λ (k : Machine). k.phase) step.3 ∙ at; on = refl }
turns s m (close_export_call id) (refused refusals.NoExport) wrote new is_open step at quiet = same m new is_open at (close_export_call id) (refused refusals.NoExport) refl step.2.1 refl
turns s m (close_export_call id) (refused refusals.Halted) wrote new is_open step at quiet = halts m new is_open at (close_export_call id) refl step.0 step.1.1
turns s m (close_export_call id) _ wrote new is_open step at quiet = absurd step
turns s m compact_call merged wrote new is_open step at quiet = same m new is_open at compact_call merged refl step.3 refl
turns s m compact_call moved wrote new is_open step at quiet = same m new is_open at compact_call moved refl step.3 refl
turns s m compact_call nothing wrote new is_open step at quiet = same m new is_open at compact_call nothing refl step.1.1 refl
turns s m compact_call (refused (refusals.TooMany limits.Epochs)) wrote new is_open step at quiet = same m new is_open at compact_call (refused (refusals.TooMany limits.Epochs)) refl step.1.1 refl
turns s m compact_call (refused (refusals.NoRoom count)) wrote new is_open step at quiet = same m new is_open at compact_call (refused (refusals.NoRoom count)) refl step.1.1 refl
turns s m compact_call (refused refusals.OutOfMemory) wrote new is_open step at quiet = same m new is_open at compact_call (refused refusals.OutOfMemory) refl step.1.1 refl
turns s m compact_call (refused refusals.Halted) wrote new is_open step at quiet = halts m new is_open at compact_call refl step.0 step.1.1
turns s m compact_call (refused refusals.Device) wrote new is_open step at quiet = failing quiet
turns s m compact_call _ wrote new is_open step at quiet = absurd step
turns s m upgrade_call done wrote new is_open step at quiet = same m new is_open at upgrade_call done refl step.3 refl
turns s m upgrade_call already wrote new is_open step at quiet = same m new is_open at upgrade_call already refl step.1.1 refl
turns s m upgrade_call (refused (refusals.TooMany limits.Epochs)) wrote new is_open step at quiet = same m new is_open at upgrade_call (refused (refusals.TooMany limits.Epochs)) refl step.1.1 refl
turns s m upgrade_call (refused (refusals.NoRoom count)) wrote new is_open step at quiet = same m new is_open at upgrade_call (refused (refusals.NoRoom count)) refl step.1.1 refl
turns s m upgrade_call (refused refusals.OutOfMemory) wrote new is_open step at quiet = same m new is_open at upgrade_call (refused refusals.OutOfMemory) refl step.1.1 refl
turns s m upgrade_call (refused refusals.Halted) wrote new is_open step at quiet = halts m new is_open at upgrade_call refl step.0 step.1.1
turns s m upgrade_call (refused refusals.Device) wrote new is_open step at quiet = failing quiet
turns s m upgrade_call _ wrote new is_open step at quiet = absurd step

pub tells_no_halt : (s : Setting) (calls : List PlainCall) (replies : List PlainReply) (m : Machine) (old : Story) (failed : ℕ) (m' : Machine) (new : Story) (failed' : ℕ)
    → Run s calls replies m old failed m' new failed' → (is_open : Bool) → m.phase ≡ phase_where is_open → list_any is_device_reply replies ≡ false → tells_halt_while_open is_open calls replies ≡ false
unfolding Run
tells_no_halt s [] [] m old failed m' new failed' run is_open at quiet = refl
tells_no_halt s (call ∷ calls) (reply ∷ replies) m old failed m' new failed' run is_open at quiet =
    let parts = or_parts (is_device_reply reply) (list_any is_device_reply replies) quiet in
    let one = turns s m call reply _ run.machine is_open run.goes.step at parts.0 in
    or_from (tells_halt is_open reply) (tells_halt_while_open (is_open_after call reply is_open) calls replies) one.on
    (tells_no_halt s calls replies run.machine run.story run.failures m' new failed' run.others (is_open_after call reply is_open) one.phase parts.1)
tells_no_halt s [] (reply ∷ replies) m old failed m' new failed' run is_open at quiet = absurd run
tells_no_halt s (call ∷ calls) [] m old failed m' new failed' run is_open at quiet = absurd run
