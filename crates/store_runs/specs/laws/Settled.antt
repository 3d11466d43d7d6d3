-- The settled commands of a run: all that were acknowledged, and none that did not begin. Where no device failed, just those that were acknowledged.
use Rattle.std.specs.Prelude.{◌≡◌, ◌≢◌, ◌⊎◌, ℕ, Bool, true, false, if◌then◌else◌, List, [], ◌∷◌, ◌++◌, Option, Some, None, refl}
use Rattle.std.proofs.Common.{inl, inr, ap, sym, ◌∙◌, subst, append_assoc, append-nil}
use Rattle.std.specs.List.{list_any}
use Rattle.std.proofs.lemmas.Bool.{or_parts}
use Rattle.sector_dev.specs.Disk.{Story}
use Rattle.tables.specs.declared.refusal.Limit.{Limit}
use Rattle.tables.specs.declared.refusal.Limit.TheVariants as limits
use Rattle.tables.specs.declared.refusal.Refusal.{Refusal}
use Rattle.tables.specs.declared.refusal.Refusal.TheVariants as refusals
use Rattle.tables.specs.Refusals.{Origin, by_tables, by_room, by_memory, by_device, by_halt, elsewhere, origin_of_limit, origin_of}
use Rattle.tables.specs.Commands.{PlainCommand}
use Rattle.commit.specs.declared.opening_refusal.OpeningRefusal.TheVariants as openings
use Rattle.store_runs.specs.Calls.{PlainCall, apply_call, format_call, open_call, close_call, tables_call, schema_call, read_call, export_call, stream_call, open_export_call, export_next_call, close_export_call, compact_call, upgrade_call, PlainReply, done, counts, schema_is, table_is, bytes_are, export_is, piece_is, merged, moved as is_moved, nothing, already, refused, refused_at, shut_by, is_failure, is_device_reply, is_change}
use Rattle.store_runs.specs.Machine.{Setting, Machine, shut, running, halted, with_doubt, settle, opened, shut_down, halt}
use Rattle.store_runs.specs.Steps.{RefusesFrom, Step}
use Rattle.store_runs.specs.Runs.{Run}
use Rattle.store_runs.specs.History.{InOrder, in_doubt, begun_by, begun, acknowledged_by, acknowledged, Settles, SettlesAll}

-- ---- lists in order

all_of : (xs : List PlainCommand) → InOrder xs xs
all_of [] = tt
all_of (x ∷ xs) = inl (refl, all_of xs)

own_front : (xs ys : List PlainCommand) → InOrder xs (xs ++ ys)
own_front [] ys = tt
own_front (x ∷ xs) ys = inl (refl, own_front xs ys)

skip : (xs : List PlainCommand) (y : PlainCommand) (ys : List PlainCommand) → InOrder xs ys → InOrder xs (y ∷ ys)
skip [] y ys is = tt
skip (x ∷ xs) y ys is = inr is

later : (xs ys zs : List PlainCommand) → InOrder xs zs → InOrder xs (ys ++ zs)
later xs [] zs is = is
later xs (y ∷ ys) zs is = skip xs y (ys ++ zs) (later xs ys zs is)

front : (zs xs ys : List PlainCommand) → InOrder xs ys → InOrder (zs ++ xs) (zs ++ ys)
front [] xs ys is = is
front (z ∷ zs) xs ys is = inl (refl, front zs xs ys is)

behind : (xs ys zs : List PlainCommand) → InOrder xs ys → InOrder (xs ++ zs) (ys ++ zs)
behind [] ys zs is = later zs ys zs (all_of zs)
behind (x ∷ xs) [] zs is = absurd is
behind (x ∷ xs) (y ∷ ys) zs (inl here) = inl (here.0, behind xs ys zs here.1)
behind (x ∷ xs) (y ∷ ys) zs (inr rest) = inr (behind (x ∷ xs) ys zs rest)

in_turn : (xs ys zs : List PlainCommand) → InOrder xs ys → InOrder ys zs → InOrder xs zs
in_turn [] ys zs a b = tt
in_turn (x ∷ xs) [] zs a b = absurd a
in_turn (x ∷ xs) (y ∷ ys) [] a b = absurd b
in_turn (x ∷ xs) (y ∷ ys) (z ∷ zs) a (inr b) = inr (in_turn (x ∷ xs) (y ∷ ys) zs a b)
in_turn (x ∷ xs) (y ∷ ys) (z ∷ zs) (inl a) (inl b) = inl (a.0 ∙ b.0, in_turn xs ys zs a.1 b.1)
in_turn (x ∷ xs) (y ∷ ys) (z ∷ zs) (inr a) (inl b) = inr (in_turn (x ∷ xs) ys zs a b.1)

-- ---- one call

pub record Moves (m : Machine) (call : PlainCall) (reply : PlainReply) (new : Machine) : Type 0 where
  pub settles : Settles m.settled new.settled m.doubt new.doubt (acknowledged_by call reply) (begun_by call reply)
  pub undisturbed : is_device_reply reply ≡ false → m.doubt ≡ None → m.phase ≢ halted → SettlesAll m new (acknowledged_by call reply)
  pub starts : new.started ≡ false → (m.started ≡ false) × (is_change call reply ≡ false) × (acknowledged_by call reply ≡ [])

moved : (m : Machine) (call : PlainCall) (reply : PlainReply) (new is : Machine) → new ≡ is → Moves m call reply is → Moves m call reply new
moved m call reply new is same moves = subst (λ (k : Machine). Moves m call reply k) (sym same) moves

-- the settled commands and the one in doubt are as they were
same_list : (settled : List PlainCommand) (doubt : Option PlainCommand) (calls : List PlainCommand) → Settles settled settled doubt doubt [] calls
same_list settled doubt calls = record { more = []; grew = sym (append-nil settled); kept = tt; only = own_front (in_doubt doubt) calls }

-- the one in doubt is dropped
pub dropped_list : (settled : List PlainCommand) (doubt : Option PlainCommand) (calls : List PlainCommand) → Settles settled settled doubt None [] calls
dropped_list settled doubt calls = record { more = []; grew = sym (append-nil settled); kept = tt; only = tt }

-- or settled
pub kept_list : (settled : List PlainCommand) (doubt : Option PlainCommand) (calls : List PlainCommand) → Settles settled (with_doubt settled doubt) doubt None [] calls
kept_list settled None calls = dropped_list settled None calls
kept_list settled (Some c) calls = record { more = c ∷ []; grew = refl; kept = tt; only = inl (refl, tt) }

-- or the command that has begun is settled
pub begun_list : (settled : List PlainCommand) (doubt : Option PlainCommand) (c : PlainCommand) (calls : List PlainCommand) → Settles settled (settled ++ c ∷ []) doubt None [] (c ∷ calls)
begun_list settled doubt c calls = record { more = c ∷ []; grew = refl; kept = tt; only = later (c ∷ []) (in_doubt doubt) (c ∷ calls) (inl (refl, tt)) }

settled_one : (settled : List PlainCommand) (doubt : Option PlainCommand) (c : PlainCommand) → Settles settled (settled ++ c ∷ []) doubt None (c ∷ []) (c ∷ [])
settled_one settled doubt c = record { more = c ∷ []; grew = refl; kept = inl (refl, tt); only = later (c ∷ []) (in_doubt doubt) (c ∷ []) (inl (refl, tt)) }

formatted_list : (m : Machine) → m.settled ≡ [] → Settles m.settled [] m.doubt None [] []
formatted_list m none = record { more = []; grew = sym (append-nil m.settled ∙ none); kept = tt; only = tt }

-- only a failed device refuses from the device
not_a_limit : (limit : Limit) → origin_of_limit limit ≡ by_device → ⊥
not_a_limit limits.Tables is = cc is
not_a_limit limits.Segments is = cc is
not_a_limit limits.Epochs is = cc is
not_a_limit limits.Weight is = cc is
not_a_limit limits.Bytes is = cc is
not_a_limit limits.Exports is = cc is

pub device_fails : (r : Refusal) → origin_of r ≡ by_device → is_failure r ≡ true
device_fails refusals.Device is = refl
device_fails (refusals.TooMany limit) is = absurd (not_a_limit limit is)
device_fails _ is = absurd (cc is)

-- a command whose device failed
halted_list : (m : Machine) (c : PlainCommand) (r : Refusal) (wrote : Bool) → is_failure r ≡ true
    → Settles m.settled (halt (apply_call c) wrote m).settled m.doubt (halt (apply_call c) wrote m).doubt [] (begun_by (apply_call c) (refused r))
halted_list m c r wrote failed = subst (λ (b : Bool). Settles m.settled (halt (apply_call c) wrote m).settled m.doubt (halt (apply_call c) wrote m).doubt [] (if b then c ∷ [] else [])) (sym failed) (by_write wrote)
  where
    by_write : (w : Bool) → Settles m.settled (halt (apply_call c) w m).settled m.doubt (halt (apply_call c) w m).doubt [] (c ∷ [])
    by_write true = record { more = []; grew = sym (append-nil m.settled); kept = tt; only = later (c ∷ []) (in_doubt m.doubt) (c ∷ []) (inl (refl, tt)) }
    by_write false = same_list m.settled m.doubt (c ∷ [])

not_both : {A : Type 0} (b : Bool) → b ≡ true → b ≡ false → A
not_both b holds fails = let is : true ≡ false = sym holds ∙ fails in absurd (cc is)

-- ---- the ways in which a machine goes on

module _ (m : Machine) (c : PlainCommand) where
  halted_one : (r : Refusal) (wrote : Bool) → is_failure r ≡ true → Moves m (apply_call c) (refused r) (halt (apply_call c) wrote m)
  halted_one r wrote failed = record { settles = halted_list m c r wrote failed; undisturbed = λ quiet none on. not_both (is_failure r) failed quiet; starts = λ no. (no, refl, refl) }

  done_one : Moves m (apply_call c) done (settle c m)
  done_one = record { settles = settled_one m.settled m.doubt c; undisturbed = λ quiet none on. record { settled = refl; none = refl; on = λ is. cc is }; starts = λ no. absurd (cc no) }

module _ (m : Machine) where
  formatted_one : m.settled ≡ [] → Moves m format_call done (opened [])
  formatted_one empty =
      record {
        settles = formatted_list m empty;
        undisturbed = λ quiet none on. record { settled = sym (append-nil m.settled ∙ empty); none = refl; on = λ is. cc is };
        starts = λ no. absurd (cc no);
      }

  opened_without : Moves m open_call done (opened m.settled)
  opened_without =
      record {
        settles = dropped_list m.settled m.doubt [];
        undisturbed = λ quiet none on. record { settled = sym (append-nil m.settled); none = refl; on = λ is. cc is };
        starts = λ no. absurd (cc no);
      }

  opened_with : Moves m open_call done (opened (with_doubt m.settled m.doubt))
  opened_with =
      record {
        settles = kept_list m.settled m.doubt [];
        undisturbed = λ quiet none on. record { settled = ap (with_doubt m.settled) none ∙ sym (append-nil m.settled); none = refl; on = λ is. cc is };
        starts = λ no. absurd (cc no);
      }

-- a call after which the settled commands and the one in doubt are as they were
module _ (m : Machine) (new : Machine) where
  as_it_was : (call : PlainCall) (reply : PlainReply) → is_change call reply ≡ false → acknowledged_by call reply ≡ [] → new.settled ≡ m.settled → new.doubt ≡ m.doubt → new.started ≡ m.started
      → (is_device_reply reply ≡ false → m.phase ≢ halted → new.phase ≢ halted) → Moves m call reply new
  as_it_was call reply plain silent settled doubt started phase =
      record {
        settles = record {
          more = [];
          grew = settled ∙ sym (append-nil m.settled);
          kept = subst (λ (xs : List PlainCommand). InOrder xs []) (sym silent) tt;
          only = subst (λ (d : Option PlainCommand). InOrder (in_doubt d) (in_doubt m.doubt ++ begun_by call reply)) (sym doubt) (own_front (in_doubt m.doubt) (begun_by call reply));
        };
        undisturbed = λ quiet none on. record {
          settled = subst (λ (xs : List PlainCommand). new.settled ≡ m.settled ++ xs) (sym silent) (settled ∙ sym (append-nil m.settled));
          none = doubt ∙ none;
          on = phase quiet on;
        };
        starts = λ no. (sym started ∙ no, plain, silent);
      }

  is_same : (call : PlainCall) (reply : PlainReply) → is_change call reply ≡ false → acknowledged_by call reply ≡ [] → new ≡ m → Moves m call reply new
  is_same call reply plain silent is = as_it_was call reply plain silent (ap (λ (k : Machine). k.settled) is) (ap (λ (k : Machine). k.doubt) is) (ap (λ (k : Machine). k.started) is) (λ quiet on halts. on (sym (ap (λ (k : Machine). k.phase) is) ∙ halts))

  -- a change of the device that no command asked for
  changed : (call : PlainCall) (reply : PlainReply) → acknowledged_by call reply ≡ [] → m.phase ≡ running → m.started ≡ true → new ≡ m → Moves m call reply new
  changed call reply silent runs started is =
      record {
        settles = record {
          more = [];
          grew = ap (λ (k : Machine). k.settled) is ∙ sym (append-nil m.settled);
          kept = subst (λ (xs : List PlainCommand). InOrder xs []) (sym silent) tt;
          only = subst (λ (k : Machine). InOrder (in_doubt k.doubt) (in_doubt m.doubt ++ begun_by call reply)) (sym is) (own_front (in_doubt m.doubt) (begun_by call reply));
        };
        undisturbed = λ quiet none on. record {
          settled = subst (λ (xs : List PlainCommand). new.settled ≡ m.settled ++ xs) (sym silent) (ap (λ (k : Machine). k.settled) is ∙ sym (append-nil m.settled));
          none = ap (λ (k : Machine). k.doubt) is ∙ none;
          on = λ halts. on (sym (ap (λ (k : Machine). k.phase) is) ∙ halts);
        };
        starts = λ no. let both : true ≡ false = sym started ∙ sym (ap (λ (k : Machine). k.started) is) ∙ no in absurd (cc both);
      }

  is_shut : (call : PlainCall) (reply : PlainReply) → is_change call reply ≡ false → acknowledged_by call reply ≡ [] → new ≡ shut_down m → Moves m call reply new
  is_shut call reply plain silent is =
      as_it_was call reply plain silent (ap (λ (k : Machine). k.settled) is) (ap (λ (k : Machine). k.doubt) is) (ap (λ (k : Machine). k.started) is) (λ quiet on halts. let no : shut ≡ halted = sym (ap (λ (k : Machine). k.phase) is) ∙ halts in cc no)

  is_halted : (call : PlainCall) (reply : PlainReply) → is_change call reply ≡ false → acknowledged_by call reply ≡ [] → is_device_reply reply ≡ true → new ≡ halt call false m → Moves m call reply new
  is_halted call reply plain silent failed is =
      as_it_was call reply plain silent (ap (λ (k : Machine). k.settled) is) (ap (λ (k : Machine). k.doubt) is) (ap (λ (k : Machine). k.started) is) (λ quiet on halts. not_both (is_device_reply reply) failed quiet)

by_origin : (o : Origin) (s : Setting) (m : Machine) (c : PlainCommand) (r : Refusal) (wrote : Bool) (new : Machine) → origin_of r ≡ o → RefusesFrom o s m c r wrote new → Moves m (apply_call c) (refused r) new
by_origin by_tables s m c r wrote new is step = is_same m new (apply_call c) (refused r) refl refl step.3.1
by_origin by_room s m c r wrote new is step = is_same m new (apply_call c) (refused r) refl refl step.2.1
by_origin by_memory s m c r wrote new is step = is_same m new (apply_call c) (refused r) refl refl step.1.1
by_origin by_device s m c r wrote new is step = moved m (apply_call c) (refused r) new (halt (apply_call c) wrote m) step.1 (halted_one m c r wrote (device_fails r is))
by_origin by_halt s m c r wrote new is step = is_same m new (apply_call c) (refused r) refl refl step.1.1
by_origin elsewhere s m c r wrote new is step = absurd step

pub one_step : (s : Setting) (m : Machine) (call : PlainCall) (reply : PlainReply) (wrote : Bool) (new : Machine) → Step s m call reply wrote new → Moves m call reply new
unfolding Step
one_step s m (apply_call c) done wrote new step = moved m (apply_call c) done new (settle c m) step.3 (done_one m c)
one_step s m (apply_call c) (refused r) wrote new step = by_origin (origin_of r) s m c r wrote new refl step
one_step s m (apply_call c) (refused_at place r) wrote new step = is_same m new (apply_call c) (refused_at place r) refl refl step.2.1
one_step s m (apply_call c) _ wrote new step = absurd step
one_step s m format_call done wrote new step = moved m format_call done new (opened []) step.3 (formatted_one m step.1)
one_step s m format_call (shut_by openings.AlreadyAStore) wrote new step = is_shut m new format_call (shut_by openings.AlreadyAStore) refl refl step.1
one_step s m format_call (shut_by openings.OutOfMemory) wrote new step = is_shut m new format_call (shut_by openings.OutOfMemory) refl refl step.1
one_step s m format_call (shut_by openings.Device) wrote new step = is_shut m new format_call (shut_by openings.Device) refl refl step
one_step s m format_call _ wrote new step = absurd step
one_step s m open_call done wrote new step = by_choice step.1
  where
    by_choice : (new ≡ opened m.settled) ⊎ (new ≡ opened (with_doubt m.settled m.doubt)) → Moves m open_call done new
    by_choice (inl is) = moved m open_call done new (opened m.settled) is (opened_without m)
    by_choice (inr is) = moved m open_call done new (opened (with_doubt m.settled m.doubt)) is (opened_with m)
one_step s m open_call (shut_by openings.NotAStore) wrote new step = is_shut m new open_call (shut_by openings.NotAStore) refl refl step.2
one_step s m open_call (shut_by openings.Device) wrote new step = is_shut m new open_call (shut_by openings.Device) refl refl step.1
one_step s m open_call (shut_by openings.OutOfMemory) wrote new step = is_shut m new open_call (shut_by openings.OutOfMemory) refl refl step.1
one_step s m open_call _ wrote new step = absurd step
one_step s m close_call done wrote new step = is_shut m new close_call done refl refl step.2
one_step s m close_call (refused refusals.Halted) wrote new step = is_same m new close_call (refused refusals.Halted) refl refl step.1.1
one_step s m close_call _ wrote new step = absurd step
one_step s m tables_call (counts ns) wrote new step = is_same m new tables_call (counts ns) refl refl step.2.1
one_step s m tables_call (refused refusals.Halted) wrote new step = is_same m new tables_call (refused refusals.Halted) refl refl step.1.1
one_step s m tables_call (refused refusals.OutOfMemory) wrote new step = is_same m new tables_call (refused refusals.OutOfMemory) refl refl step.1.1
one_step s m tables_call _ wrote new step = absurd step
one_step s m (schema_call name) (schema_is schema) wrote new step = is_same m new (schema_call name) (schema_is schema) refl refl step.2.1
one_step s m (schema_call name) (refused refusals.NoTable) wrote new step = is_same m new (schema_call name) (refused refusals.NoTable) refl refl step.2.1
one_step s m (schema_call name) (refused refusals.Halted) wrote new step = is_same m new (schema_call name) (refused refusals.Halted) refl refl step.1.1
one_step s m (schema_call name) (refused refusals.OutOfMemory) wrote new step = is_same m new (schema_call name) (refused refusals.OutOfMemory) refl refl step.1.1
one_step s m (schema_call name) _ wrote new step = absurd step
one_step s m (read_call name) (table_is table) wrote new step = is_same m new (read_call name) (table_is table) refl refl step.2.1
one_step s m (read_call name) (refused refusals.NoTable) wrote new step = is_same m new (read_call name) (refused refusals.NoTable) refl refl step.2.1
one_step s m (read_call name) (refused refusals.Halted) wrote new step = is_same m new (read_call name) (refused refusals.Halted) refl refl step.1.1
one_step s m (read_call name) (refused refusals.OutOfMemory) wrote new step = is_same m new (read_call name) (refused refusals.OutOfMemory) refl refl step.1.1
one_step s m (read_call name) (refused refusals.Device) wrote new step = is_halted m new (read_call name) (refused refusals.Device) refl refl refl step.2
one_step s m (read_call name) _ wrote new step = absurd step
one_step s m (export_call name) (bytes_are bytes) wrote new step = is_same m new (export_call name) (bytes_are bytes) refl refl step.2.1
one_step s m (export_call name) (refused refusals.NoTable) wrote new step = is_same m new (export_call name) (refused refusals.NoTable) refl refl step.2.1
one_step s m (export_call name) (refused refusals.Halted) wrote new step = is_same m new (export_call name) (refused refusals.Halted) refl refl step.1.1
one_step s m (export_call name) (refused refusals.OutOfMemory) wrote new step = is_same m new (export_call name) (refused refusals.OutOfMemory) refl refl step.1.1
one_step s m (export_call name) (refused refusals.Device) wrote new step = is_halted m new (export_call name) (refused refusals.Device) refl refl refl step.2
one_step s m (export_call name) _ wrote new step = absurd step
one_step s m (stream_call c) (refused refusals.Read) wrote new step = is_same m new (stream_call c) (refused refusals.Read) refl refl step.1.1
one_step s m (stream_call c) done wrote new step = let one = moved m (apply_call c) done new (settle c m) step.3 (done_one m c) in record { settles = one.settles; undisturbed = one.undisturbed; starts = one.starts }
one_step s m (stream_call c) (refused r) wrote new step = let one = by_origin (origin_of r) s m c r wrote new refl step in record { settles = one.settles; undisturbed = one.undisturbed; starts = one.starts }
one_step s m (stream_call c) _ wrote new step = absurd step
one_step s m (open_export_call name) (export_is id) wrote new step =
    let is = step.5.3 in as_it_was m new (open_export_call name) (export_is id) refl refl (ap (λ (k : Machine). k.settled) is) (ap (λ (k : Machine). k.doubt) is) (ap (λ (k : Machine). k.started) is) (λ quiet on halts. on (sym (ap (λ (k : Machine). k.phase) is) ∙ halts))
one_step s m (open_export_call name) (refused refusals.NoTable) wrote new step = is_same m new (open_export_call name) (refused refusals.NoTable) refl refl step.2.1
one_step s m (open_export_call name) (refused (refusals.TooMany limits.Exports)) wrote new step = is_same m new (open_export_call name) (refused (refusals.TooMany limits.Exports)) refl refl step.3.1
one_step s m (open_export_call name) (refused refusals.Halted) wrote new step = is_same m new (open_export_call name) (refused refusals.Halted) refl refl step.1.1
one_step s m (open_export_call name) (refused refusals.OutOfMemory) wrote new step = is_same m new (open_export_call name) (refused refusals.OutOfMemory) refl refl step.1.1
one_step s m (open_export_call name) _ wrote new step = absurd step
one_step s m (export_next_call id) (piece_is (Some piece)) wrote new step =
    let is = step.3 in as_it_was m new (export_next_call id) (piece_is (Some piece)) refl refl (ap (λ (k : Machine). k.settled) is) (ap (λ (k : Machine). k.doubt) is) (ap (λ (k : Machine). k.started) is) (λ quiet on halts. on (sym (ap (λ (k : Machine). k.phase) is) ∙ halts))
one_step s m (export_next_call id) (piece_is None) wrote new step = is_same m new (export_next_call id) (piece_is None) refl refl step.3
one_step s m (export_next_call id) (refused refusals.NoExport) wrote new step = is_same m new (export_next_call id) (refused refusals.NoExport) refl refl step.2.1
one_step s m (export_next_call id) (refused refusals.Halted) wrote new step = is_same m new (export_next_call id) (refused refusals.Halted) refl refl step.1.1
one_step s m (export_next_call id) (refused refusals.OutOfMemory) wrote new step = is_same m new (export_next_call id) (refused refusals.OutOfMemory) refl refl step.1.1
one_step s m (export_next_call id) (refused refusals.Device) wrote new step = is_halted m new (export_next_call id) (refused refusals.Device) refl refl refl step.2
one_step s m (export_next_call id) _ wrote new step = absurd step
one_step s m (close_export_call id) done wrote new step =
    let is = step.3 in as_it_was m new (close_export_call id) done refl refl (ap (λ (k : Machine). k.settled) is) (ap (λ (k : Machine). k.doubt) is) (ap (λ (k : Machine). k.started) is) (λ quiet on halts. on (sym (ap (λ (k : Machine). k.phase) is) ∙ halts))
one_step s m (close_export_call id) (refused refusals.NoExport) wrote new step = is_same m new (close_export_call id) (refused refusals.NoExport) refl refl step.2.1
one_step s m (close_export_call id) (refused refusals.Halted) wrote new step = is_same m new (close_export_call id) (refused refusals.Halted) refl refl step.1.1
one_step s m (close_export_call id) _ wrote new step = absurd step
one_step s m compact_call merged wrote new step = changed m new compact_call merged refl step.0 step.1 step.3
one_step s m compact_call is_moved wrote new step = changed m new compact_call is_moved refl step.0 step.1 step.3
one_step s m compact_call nothing wrote new step = is_same m new compact_call nothing refl refl step.1.1
one_step s m compact_call (refused (refusals.TooMany limits.Epochs)) wrote new step = is_same m new compact_call (refused (refusals.TooMany limits.Epochs)) refl refl step.1.1
one_step s m compact_call (refused (refusals.NoRoom count)) wrote new step = is_same m new compact_call (refused (refusals.NoRoom count)) refl refl step.1.1
one_step s m compact_call (refused refusals.OutOfMemory) wrote new step = is_same m new compact_call (refused refusals.OutOfMemory) refl refl step.1.1
one_step s m compact_call (refused refusals.Halted) wrote new step = is_same m new compact_call (refused refusals.Halted) refl refl step.1.1
one_step s m compact_call (refused refusals.Device) wrote new step = by_wrote wrote step.1
  where
    by_wrote : (w : Bool) → new ≡ halt compact_call w m → Moves m compact_call (refused refusals.Device) new
    by_wrote true is = is_halted m new compact_call (refused refusals.Device) refl refl refl is
    by_wrote false is = is_halted m new compact_call (refused refusals.Device) refl refl refl is
one_step s m compact_call _ wrote new step = absurd step
one_step s m upgrade_call done wrote new step = changed m new upgrade_call done refl step.0 step.1 step.3
one_step s m upgrade_call already wrote new step = is_same m new upgrade_call already refl refl step.1.1
one_step s m upgrade_call (refused (refusals.TooMany limits.Epochs)) wrote new step = is_same m new upgrade_call (refused (refusals.TooMany limits.Epochs)) refl refl step.1.1
one_step s m upgrade_call (refused (refusals.NoRoom count)) wrote new step = is_same m new upgrade_call (refused (refusals.NoRoom count)) refl refl step.1.1
one_step s m upgrade_call (refused refusals.OutOfMemory) wrote new step = is_same m new upgrade_call (refused refusals.OutOfMemory) refl refl step.1.1
one_step s m upgrade_call (refused refusals.Halted) wrote new step = is_same m new upgrade_call (refused refusals.Halted) refl refl step.1.1
one_step s m upgrade_call (refused refusals.Device) wrote new step = by_wrote wrote step.1
  where
    by_wrote : (w : Bool) → new ≡ halt upgrade_call w m → Moves m upgrade_call (refused refusals.Device) new
    by_wrote true is = is_halted m new upgrade_call (refused refusals.Device) refl refl refl is
    by_wrote false is = is_halted m new upgrade_call (refused refusals.Device) refl refl refl is
one_step s m upgrade_call _ wrote new step = absurd step

-- ---- a run

pub joined : (a b c : List PlainCommand) (d e f : Option PlainCommand) (ack others calls more : List PlainCommand)
    → Settles a b d e ack calls → Settles b c e f others more → Settles a c d f (ack ++ others) (calls ++ more)
joined a b c d e f ack others calls more one two =
    let left : InOrder (one.more ++ (two.more ++ in_doubt f)) (one.more ++ (in_doubt e ++ more)) = front one.more (two.more ++ in_doubt f) (in_doubt e ++ more) two.only in
    let right : InOrder ((one.more ++ in_doubt e) ++ more) ((in_doubt d ++ calls) ++ more) = behind (one.more ++ in_doubt e) (in_doubt d ++ calls) more one.only in
    record {
      more = one.more ++ two.more;
      grew = two.grew ∙ ap (λ (xs : List PlainCommand). xs ++ two.more) one.grew ∙ append_assoc a one.more two.more;
      kept = in_turn (ack ++ others) (one.more ++ others) (one.more ++ two.more) (behind ack one.more others one.kept) (front one.more others two.more two.kept);
      only =
          subst (λ (xs : List PlainCommand). InOrder xs (in_doubt d ++ (calls ++ more))) (sym (append_assoc one.more two.more (in_doubt f)))
          (subst (λ (ys : List PlainCommand). InOrder (one.more ++ (two.more ++ in_doubt f)) ys) (append_assoc (in_doubt d) calls more)
          (in_turn (one.more ++ (two.more ++ in_doubt f)) (one.more ++ (in_doubt e ++ more)) ((in_doubt d ++ calls) ++ more) left
          (subst (λ (xs : List PlainCommand). InOrder xs ((in_doubt d ++ calls) ++ more)) (append_assoc one.more (in_doubt e) more) right)));
    }

pub run_settles : (s : Setting) (calls : List PlainCall) (replies : List PlainReply) (m : Machine) (old : Story) (failed : ℕ) (m' : Machine) (new : Story) (failed' : ℕ)
    → Run s calls replies m old failed m' new failed' → Settles m.settled m'.settled m.doubt m'.doubt (acknowledged calls replies) (begun calls replies)
unfolding Run
run_settles s [] [] m old failed m' new failed' run =
    subst (λ (k : Machine). Settles m.settled k.settled m.doubt k.doubt [] []) (sym run.machine) (same_list m.settled m.doubt [])
run_settles s (call ∷ calls) (reply ∷ replies) m old failed m' new failed' run =
    joined m.settled run.machine.settled m'.settled m.doubt run.machine.doubt m'.doubt (acknowledged_by call reply) (acknowledged calls replies) (begun_by call reply) (begun calls replies)
    (one_step s m call reply _ run.machine run.goes.step).settles
    (run_settles s calls replies run.machine run.story run.failures m' new failed' run.others)
run_settles s [] (reply ∷ replies) m old failed m' new failed' run = absurd run
run_settles s (call ∷ calls) [] m old failed m' new failed' run = absurd run

-- ---- a run in which no device failed

pub run_settles_all : (s : Setting) (calls : List PlainCall) (replies : List PlainReply) (m : Machine) (old : Story) (failed : ℕ) (m' : Machine) (new : Story) (failed' : ℕ)
    → Run s calls replies m old failed m' new failed' → m.doubt ≡ None → m.phase ≢ halted → list_any is_device_reply replies ≡ false → SettlesAll m m' (acknowledged calls replies)
unfolding Run
run_settles_all s [] [] m old failed m' new failed' run none on quiet =
    subst (λ (k : Machine). SettlesAll m k []) (sym run.machine) (record { settled = sym (append-nil m.settled); none = none; on = on })
run_settles_all s (call ∷ calls) (reply ∷ replies) m old failed m' new failed' run none on quiet =
    let parts = or_parts (is_device_reply reply) (list_any is_device_reply replies) quiet in
    let one = (one_step s m call reply _ run.machine run.goes.step).undisturbed parts.0 none on in
    let two = run_settles_all s calls replies run.machine run.story run.failures m' new failed' run.others one.none one.on parts.1 in
    record {
      settled = two.settled ∙ ap (λ (xs : List PlainCommand). xs ++ acknowledged calls replies) one.settled ∙ append_assoc m.settled (acknowledged_by call reply) (acknowledged calls replies);
      none = two.none;
      on = two.on;
    }
run_settles_all s [] (reply ∷ replies) m old failed m' new failed' run none on quiet = absurd run
run_settles_all s (call ∷ calls) [] m old failed m' new failed' run none on quiet = absurd run
