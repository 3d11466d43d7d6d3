-- What is given of an export while it stays open: its pieces in order, and all of them where its end was found.
use Rattle.std.specs.Prelude.{◌≡◌, ◌+◌, ◌==◌, ◌||◌, ◌++◌, ℕ, zero, suc, Bool, true, false, not, if◌then◌else◌, List, [], ◌∷◌, drop, map, slice_get, Option, Some, None, option_map, refl}
use Rattle.std.specs.List.{filter}
use Rattle.std.proofs.Common.{ap, sym, ◌∙◌, subst, arith, append_assoc, append-nil}
use Rattle.std.proofs.lemmas.Bool.{and_parts, eqb-true, eq-eqb}
use Rattle.sector_dev.specs.Disk.{Story, now}
use Rattle.ipc_message.specs.Header.{supported_codes}
use Rattle.ipc_stream.specs.Meaning.{meaning}
use Rattle.cells.specs.Cell.{PlainTable}
use Rattle.table_cut.specs.CutRows.{joined}
use Rattle.tables.specs.Tables.{table_at}
use Rattle.tables.specs.declared.refusal.Refusal.{Refusal}
use Rattle.tables.specs.declared.refusal.Refusal.TheVariants as refusals
use Rattle.tables.specs.declared.refusal.Limit.TheVariants as limits
use Rattle.tables.specs.Refusals.{Origin, by_tables, by_room, by_memory, by_device, by_halt, elsewhere, origin_of}
use Rattle.tables.specs.Commands.{PlainCommand}
use Rattle.store_runs.specs.Calls.{PlainCall, apply_call, format_call, open_call, close_call, tables_call, schema_call, read_call, export_call, stream_call, open_export_call, export_next_call, close_export_call, compact_call, upgrade_call, PlainReply, done, counts, schema_is, table_is, bytes_are, export_is, piece_is, merged, moved, nothing, already, refused, refused_at, is_failure}
use Rattle.store_runs.specs.Machine.{Setting, Machine, Export, settle, tables_now, has_written, is_of, export_at, gave, after_piece}
use Rattle.store_runs.specs.Steps.{RefusesFrom, Step, IsExportOf, StepOpenExport}
use Rattle.store_runs.specs.Runs.{Run}
use Rattle.store_runs.specs.Snapshots.{given_by, given, finds_end, has_ended, leaves_open, stays_open, GivesTable}
use Rattle.store_runs.specs.laws.Settled.{device_fails}

-- ---- the exports of a machine

found_first : (es more : List Export) (id : ℕ) (e : Export) → export_at es id ≡ Some e → export_at (es ++ more) id ≡ Some e
found_first [] more id e is = absurd (cc is)
found_first (x ∷ xs) more id e is = by_test (is_of id x) is (λ h. found_first xs more id e h)
  where
    by_test : (b : Bool) → (if b then Some x else export_at xs id) ≡ Some e → (export_at xs id ≡ Some e → export_at (xs ++ more) id ≡ Some e)
        → (if b then Some x else export_at (xs ++ more) id) ≡ Some e
    by_test true h later = h
    by_test false h later = later h

pub found_last : (es : List Export) (id : ℕ) (e : Export) → export_at es id ≡ None → e.id ≡ id → export_at (es ++ e ∷ []) id ≡ Some e
found_last [] id e none is = let here : is_of id e ≡ true = eq-eqb e.id id is in ap (λ (b : Bool). if b then Some e else None) here
found_last (x ∷ xs) id e none is = by_test (is_of id x) none (λ h. found_last xs id e h is)
  where
    by_test : (b : Bool) → (if b then Some x else export_at xs id) ≡ None → (export_at xs id ≡ None → export_at (xs ++ e ∷ []) id ≡ Some e)
        → (if b then Some x else export_at (xs ++ e ∷ []) id) ≡ Some e
    by_test true h later = absurd (cc h)
    by_test false h later = later h

-- one of another id
found_other : (es : List Export) (i id : ℕ) → (i == id) ≡ false → export_at (filter (λ e. not (is_of i e)) es) id ≡ export_at es id
found_other [] i id other = refl
found_other (x ∷ xs) i id other = by_tests (is_of i x) (is_of id x) refl refl (found_other xs i id other)
  where
    by_tests : (a b : Bool) → is_of i x ≡ a → is_of id x ≡ b → export_at (filter (λ e. not (is_of i e)) xs) id ≡ export_at xs id
        → export_at (if not a then x ∷ filter (λ e. not (is_of i e)) xs else filter (λ e. not (is_of i e)) xs) id ≡ (if b then Some x else export_at xs id)
    by_tests true true p q later =
        let first : x.id ≡ i = eqb-true x.id i p in
        let second : x.id ≡ id = eqb-true x.id id q in
        let same : (i == id) ≡ true = eq-eqb i id (sym first ∙ second) in absurd (cc (same, other))
    by_tests true false p q later = later
    by_tests false b p q later = ap (λ (t : Bool). if t then Some x else export_at (filter (λ e. not (is_of i e)) xs) id) q ∙ ap (λ (o : Option Export). if b then Some x else o) later

keeps_id : (i id : ℕ) (x : Export) → is_of id (gave i x) ≡ is_of id x
keeps_id i id x = by_test (is_of i x)
  where
    by_test : (b : Bool) → is_of id (if b then record x { given = x.given + 1 } else x) ≡ is_of id x
    by_test true = refl
    by_test false = refl

found_given : (es : List Export) (i id : ℕ) → export_at (map (gave i) es) id ≡ option_map (gave i) (export_at es id)
found_given [] i id = refl
found_given (x ∷ xs) i id = ap (λ (b : Bool). if b then Some (gave i x) else export_at (map (gave i) xs) id) (keeps_id i id x) ∙ by_test (is_of id x) (found_given xs i id)
  where
    by_test : (b : Bool) → export_at (map (gave i) xs) id ≡ option_map (gave i) (export_at xs id)
        → (if b then Some (gave i x) else export_at (map (gave i) xs) id) ≡ option_map (gave i) (if b then Some x else export_at xs id)
    by_test true later = refl
    by_test false later = later

has_id : (es : List Export) (id : ℕ) (e : Export) → export_at es id ≡ Some e → is_of id e ≡ true
has_id [] id e is = absurd (cc is)
has_id (x ∷ xs) id e is = by_test (is_of id x) refl is (λ h. has_id xs id e h)
  where
    by_test : (b : Bool) → is_of id x ≡ b → (if b then Some x else export_at xs id) ≡ Some e → (export_at xs id ≡ Some e → is_of id e ≡ true) → is_of id e ≡ true
    by_test true t h later = let same : x ≡ e = cc h in subst (λ (y : Export). is_of id y ≡ true) same t
    by_test false t h later = later h

-- ---- one call

-- the export stays as it is, or it gave its next piece; its end is found only where no piece is left
record Gives (id : ℕ) (e : Export) (call : PlainCall) (reply : PlainReply) (next : Machine) : Type 0 where
  pub given : ℕ
  pub there : export_at next.exports id ≡ Some (record e { given = given })
  pub gives : given_by id call reply ++ drop given e.pieces ≡ drop e.given e.pieces
  pub ends : finds_end id call reply ≡ true → drop e.given e.pieces ≡ []

module _ (id : ℕ) (e : Export) (m next : Machine) (is : export_at m.exports id ≡ Some e) where
  stays : (call : PlainCall) (reply : PlainReply) → given_by id call reply ≡ [] → finds_end id call reply ≡ false → export_at next.exports id ≡ Some e → Gives id e call reply next
  stays call reply none on there = record {
    given = e.given;
    there = there;
    gives = ap (λ (xs : List (List ℕ)). xs ++ drop e.given e.pieces) none;
    ends = λ ended. let no : true ≡ false = sym ended ∙ on in absurd (cc no);
  }

  -- the machine has the exports that it had
  same : (call : PlainCall) (reply : PlainReply) → given_by id call reply ≡ [] → finds_end id call reply ≡ false → next.exports ≡ m.exports → Gives id e call reply next
  same call reply none on exports = stays call reply none on (ap (λ (es : List Export). export_at es id) exports ∙ is)

  unmoved : (call : PlainCall) (reply : PlainReply) → given_by id call reply ≡ [] → finds_end id call reply ≡ false → next ≡ m → Gives id e call reply next
  unmoved call reply none on still = same call reply none on (ap (λ (k : Machine). k.exports) still)

failing : {A : Type 0} (b : Bool) → b ≡ true → not b ≡ true → A
failing true fails works = absurd (cc works)
failing false fails works = absurd (cc fails)

-- where the list goes on with a piece
next_piece : (pieces : List (List ℕ)) (n : ℕ) (piece : List ℕ) → Some piece ≡ slice_get pieces n → piece ∷ drop (n + 1) pieces ≡ drop n pieces
next_piece [] n piece is = absurd (cc is)
next_piece (x ∷ xs) zero piece is = let same : piece ≡ x = cc is in ap (λ (y : List ℕ). y ∷ xs) same
next_piece (x ∷ xs) (suc n) piece is =
    let more : suc n + 1 ≡ suc (n + 1) = omega arith in
    ap (λ (k : ℕ). piece ∷ drop k (x ∷ xs)) more ∙ next_piece xs n piece is

no_piece : (pieces : List (List ℕ)) (n : ℕ) → None ≡ slice_get pieces n → drop n pieces ≡ []
no_piece [] zero is = refl
no_piece [] (suc n) is = refl
no_piece (x ∷ xs) zero is = absurd (cc is)
no_piece (x ∷ xs) (suc n) is = no_piece xs n is

module _ (id : ℕ) (e : Export) (s : Setting) (m : Machine) (wrote : Bool) (next : Machine) (is : export_at m.exports id ≡ Some e) where
  by_origin : (o : Origin) (c : PlainCommand) (call : PlainCall) (r : Refusal) → origin_of r ≡ o → is_failure r ≡ false → given_by id call (refused r) ≡ [] → finds_end id call (refused r) ≡ false → RefusesFrom o s m c r wrote next → Gives id e call (refused r) next
  by_origin by_tables c call r at quiet none on step = unmoved id e m next is call (refused r) none on step.3.1
  by_origin by_room c call r at quiet none on step = unmoved id e m next is call (refused r) none on step.2.1
  by_origin by_memory c call r at quiet none on step = unmoved id e m next is call (refused r) none on step.1.1
  by_origin by_device c call r at quiet none on step = let fails = device_fails r at in absurd (cc (fails, quiet))
  by_origin by_halt c call r at quiet none on step = unmoved id e m next is call (refused r) none on step.1.1
  by_origin elsewhere c call r at quiet none on step = absurd step

  -- a command
  applied : (c : PlainCommand) (call : PlainCall) (reply : PlainReply) → given_by id call reply ≡ [] → finds_end id call reply ≡ false → next ≡ settle c m → Gives id e call reply next
  applied c call reply none on becomes = same id e m next is call reply none on (ap (λ (k : Machine). k.exports) becomes)

  -- the next piece of this export, or of another one
  gave_piece : (i : ℕ) (piece : List ℕ) → ((x : Export) × (export_at m.exports i ≡ Some x) × (Some piece ≡ slice_get x.pieces x.given)) → next ≡ after_piece (Some piece) i m
      → Gives id e (export_next_call i) (piece_is (Some piece)) next
  gave_piece i piece (x, at, gets) becomes = by_id (i == id) refl
    where
      found : export_at next.exports id ≡ Some (gave i e)
      found = ap (λ (k : Machine). export_at k.exports id) becomes ∙ found_given m.exports i id ∙ ap (option_map (gave i)) is

      by_id : (b : Bool) → (i == id) ≡ b → Gives id e (export_next_call i) (piece_is (Some piece)) next
      by_id true t =
          let same_id : i ≡ id = eqb-true i id t in
          let own : x ≡ e = let both : Some x ≡ Some e = sym at ∙ ap (export_at m.exports) same_id ∙ is in cc both in
          let of : is_of i e ≡ true = ap (λ (k : ℕ). is_of k e) same_id ∙ has_id m.exports id e is in
          let read : Some piece ≡ slice_get e.pieces e.given = gets ∙ ap (λ (y : Export). slice_get y.pieces y.given) own in
          record {
            given = e.given + 1;
            there = found ∙ ap (λ (b : Bool). Some (if b then record e { given = e.given + 1 } else e)) of;
            gives = ap (λ (b : Bool). (if b then piece ∷ [] else []) ++ drop (e.given + 1) e.pieces) t ∙ next_piece e.pieces e.given piece read;
            ends = λ no. absurd (cc no);
          }
      by_id false t =
          let other : is_of i e ≡ false =
          let own = eqb-true e.id id (has_id m.exports id e is) in
          by_test (is_of i e) refl own in
          record {
            given = e.given;
            there = found ∙ ap (λ (b : Bool). Some (if b then record e { given = e.given + 1 } else e)) other;
            gives = ap (λ (b : Bool). (if b then piece ∷ [] else []) ++ drop e.given e.pieces) t;
            ends = λ no. absurd (cc no);
          }
        where
          by_test : (b : Bool) → is_of i e ≡ b → e.id ≡ id → is_of i e ≡ false
          by_test false f own = f
          by_test true f own = let both : (i == id) ≡ true = eq-eqb i id (sym (eqb-true e.id i f) ∙ own) in absurd (cc (both, t))

  gave_end : (i : ℕ) → ((x : Export) × (export_at m.exports i ≡ Some x) × (None ≡ slice_get x.pieces x.given)) → next ≡ m → Gives id e (export_next_call i) (piece_is None) next
  gave_end i (x, at, gets) becomes = record {
    given = e.given;
    there = ap (λ (k : Machine). export_at k.exports id) becomes ∙ is;
    gives = refl;
    ends = λ ended.
        let same_id : i ≡ id = eqb-true i id ended in
        let own : x ≡ e = let both : Some x ≡ Some e = sym at ∙ ap (export_at m.exports) same_id ∙ is in cc both in
        no_piece e.pieces e.given (gets ∙ ap (λ (y : Export). slice_get y.pieces y.given) own);
  }

  one_call : (call : PlainCall) (reply : PlainReply) → Step s m call reply wrote next → leaves_open id call reply ≡ true → Gives id e call reply next
  unfolding Step
  one_call (apply_call c) done step stay = applied c (apply_call c) done refl refl step.3
  one_call (apply_call c) (refused r) step stay = by_failure (is_failure r) refl
    where
      by_failure : (b : Bool) → is_failure r ≡ b → Gives id e (apply_call c) (refused r) next
      by_failure true fails = failing (is_failure r) fails stay
      by_failure false quiet = by_origin (origin_of r) c (apply_call c) r refl quiet refl refl step
  one_call (apply_call c) (refused_at place r) step stay = unmoved id e m next is (apply_call c) (refused_at place r) refl refl step.2.1
  one_call (apply_call c) _ step stay = absurd step
  one_call format_call reply step stay = absurd (cc stay)
  one_call open_call reply step stay = absurd (cc stay)
  one_call close_call reply step stay = absurd (cc stay)
  one_call tables_call (counts ns) step stay = unmoved id e m next is tables_call (counts ns) refl refl step.2.1
  one_call tables_call (refused refusals.Halted) step stay = unmoved id e m next is tables_call (refused refusals.Halted) refl refl step.1.1
  one_call tables_call (refused refusals.OutOfMemory) step stay = unmoved id e m next is tables_call (refused refusals.OutOfMemory) refl refl step.1.1
  one_call tables_call _ step stay = absurd step
  one_call (schema_call name) (schema_is schema) step stay = unmoved id e m next is (schema_call name) (schema_is schema) refl refl step.2.1
  one_call (schema_call name) (refused refusals.NoTable) step stay = unmoved id e m next is (schema_call name) (refused refusals.NoTable) refl refl step.2.1
  one_call (schema_call name) (refused refusals.Halted) step stay = unmoved id e m next is (schema_call name) (refused refusals.Halted) refl refl step.1.1
  one_call (schema_call name) (refused refusals.OutOfMemory) step stay = unmoved id e m next is (schema_call name) (refused refusals.OutOfMemory) refl refl step.1.1
  one_call (schema_call name) _ step stay = absurd step
  one_call (read_call name) (table_is table) step stay = unmoved id e m next is (read_call name) (table_is table) refl refl step.2.1
  one_call (read_call name) (refused refusals.NoTable) step stay = unmoved id e m next is (read_call name) (refused refusals.NoTable) refl refl step.2.1
  one_call (read_call name) (refused refusals.Halted) step stay = unmoved id e m next is (read_call name) (refused refusals.Halted) refl refl step.1.1
  one_call (read_call name) (refused refusals.OutOfMemory) step stay = unmoved id e m next is (read_call name) (refused refusals.OutOfMemory) refl refl step.1.1
  one_call (read_call name) (refused refusals.Device) step stay = absurd (cc stay)
  one_call (read_call name) _ step stay = absurd step
  one_call (export_call name) (bytes_are bytes) step stay = unmoved id e m next is (export_call name) (bytes_are bytes) refl refl step.2.1
  one_call (export_call name) (refused refusals.NoTable) step stay = unmoved id e m next is (export_call name) (refused refusals.NoTable) refl refl step.2.1
  one_call (export_call name) (refused refusals.Halted) step stay = unmoved id e m next is (export_call name) (refused refusals.Halted) refl refl step.1.1
  one_call (export_call name) (refused refusals.OutOfMemory) step stay = unmoved id e m next is (export_call name) (refused refusals.OutOfMemory) refl refl step.1.1
  one_call (export_call name) (refused refusals.Device) step stay = absurd (cc stay)
  one_call (export_call name) _ step stay = absurd step
  one_call (stream_call c) (refused refusals.Read) step stay = unmoved id e m next is (stream_call c) (refused refusals.Read) refl refl step.1.1
  one_call (stream_call c) done step stay = applied c (stream_call c) done refl refl step.3
  one_call (stream_call c) (refused r) step stay = by_failure (is_failure r) refl
    where
      by_failure : (b : Bool) → is_failure r ≡ b → Gives id e (stream_call c) (refused r) next
      by_failure true fails = failing (is_failure r) fails stay
      by_failure false quiet = by_origin (origin_of r) c (stream_call c) r refl quiet refl refl step
  one_call (stream_call c) _ step stay = absurd step
  one_call (open_export_call name) (export_is i) step stay =
      stays id e m next is (open_export_call name) (export_is i) refl refl (ap (λ (k : Machine). export_at k.exports id) step.5.3 ∙ found_first m.exports (step.5.0 ∷ []) id e is)
  one_call (open_export_call name) (refused refusals.NoTable) step stay = unmoved id e m next is (open_export_call name) (refused refusals.NoTable) refl refl step.2.1
  one_call (open_export_call name) (refused (refusals.TooMany limits.Exports)) step stay = unmoved id e m next is (open_export_call name) (refused (refusals.TooMany limits.Exports)) refl refl step.3.1
  one_call (open_export_call name) (refused refusals.Halted) step stay = unmoved id e m next is (open_export_call name) (refused refusals.Halted) refl refl step.1.1
  one_call (open_export_call name) (refused refusals.OutOfMemory) step stay = unmoved id e m next is (open_export_call name) (refused refusals.OutOfMemory) refl refl step.1.1
  one_call (open_export_call name) _ step stay = absurd step
  one_call (export_next_call i) (piece_is (Some piece)) step stay = gave_piece i piece step.1 step.3
  one_call (export_next_call i) (piece_is None) step stay = gave_end i step.1 step.3
  one_call (export_next_call i) (refused refusals.NoExport) step stay = unmoved id e m next is (export_next_call i) (refused refusals.NoExport) refl refl step.2.1
  one_call (export_next_call i) (refused refusals.Halted) step stay = unmoved id e m next is (export_next_call i) (refused refusals.Halted) refl refl step.1.1
  one_call (export_next_call i) (refused refusals.OutOfMemory) step stay = unmoved id e m next is (export_next_call i) (refused refusals.OutOfMemory) refl refl step.1.1
  one_call (export_next_call i) (refused refusals.Device) step stay = absurd (cc stay)
  one_call (export_next_call i) _ step stay = absurd step
  one_call (close_export_call i) done step stay = by_id (i == id) refl stay
    where
      by_id : (b : Bool) → (i == id) ≡ b → not b ≡ true → Gives id e (close_export_call i) done next
      by_id true t other = absurd (cc other)
      by_id false t other = stays id e m next is (close_export_call i) done refl refl (ap (λ (k : Machine). export_at k.exports id) step.3 ∙ found_other m.exports i id t ∙ is)
  one_call (close_export_call i) (refused refusals.NoExport) step stay = unmoved id e m next is (close_export_call i) (refused refusals.NoExport) refl refl step.2.1
  one_call (close_export_call i) (refused refusals.Halted) step stay = unmoved id e m next is (close_export_call i) (refused refusals.Halted) refl refl step.1.1
  one_call (close_export_call i) _ step stay = absurd step
  one_call compact_call merged step stay = unmoved id e m next is compact_call merged refl refl step.3
  one_call compact_call moved step stay = unmoved id e m next is compact_call moved refl refl step.3
  one_call compact_call nothing step stay = unmoved id e m next is compact_call nothing refl refl step.1.1
  one_call compact_call (refused (refusals.TooMany limits.Epochs)) step stay = unmoved id e m next is compact_call (refused (refusals.TooMany limits.Epochs)) refl refl step.1.1
  one_call compact_call (refused (refusals.NoRoom count)) step stay = unmoved id e m next is compact_call (refused (refusals.NoRoom count)) refl refl step.1.1
  one_call compact_call (refused refusals.OutOfMemory) step stay = unmoved id e m next is compact_call (refused refusals.OutOfMemory) refl refl step.1.1
  one_call compact_call (refused refusals.Halted) step stay = unmoved id e m next is compact_call (refused refusals.Halted) refl refl step.1.1
  one_call compact_call (refused refusals.Device) step stay = absurd (cc stay)
  one_call compact_call _ step stay = absurd step
  one_call upgrade_call done step stay = unmoved id e m next is upgrade_call done refl refl step.3
  one_call upgrade_call already step stay = unmoved id e m next is upgrade_call already refl refl step.1.1
  one_call upgrade_call (refused (refusals.TooMany limits.Epochs)) step stay = unmoved id e m next is upgrade_call (refused (refusals.TooMany limits.Epochs)) refl refl step.1.1
  one_call upgrade_call (refused (refusals.NoRoom count)) step stay = unmoved id e m next is upgrade_call (refused (refusals.NoRoom count)) refl refl step.1.1
  one_call upgrade_call (refused refusals.OutOfMemory) step stay = unmoved id e m next is upgrade_call (refused refusals.OutOfMemory) refl refl step.1.1
  one_call upgrade_call (refused refusals.Halted) step stay = unmoved id e m next is upgrade_call (refused refusals.Halted) refl refl step.1.1
  one_call upgrade_call (refused refusals.Device) step stay = absurd (cc stay)
  one_call upgrade_call _ step stay = absurd step

-- ---- a run

-- what calls gave of an export: its pieces from one on, up to another; none is left where its end was found
pub record GivesAll (e : Export) (pieces : List (List ℕ)) (ended : Bool) : Type 0 where
  pub last : ℕ
  pub gives : pieces ++ drop last e.pieces ≡ drop e.given e.pieces
  pub ends : ended ≡ true → drop last e.pieces ≡ []

none_behind : {A : Type 0} (xs ys : List A) → xs ++ ys ≡ [] → ys ≡ []
none_behind [] ys is = is
none_behind (x ∷ xs) ys is = absurd (cc is)

pub run_gives : (s : Setting) (calls : List PlainCall) (replies : List PlainReply) (m : Machine) (old : Story) (failed : ℕ) (m' : Machine) (new : Story) (failed' : ℕ)
    → Run s calls replies m old failed m' new failed' → (id : ℕ) (e : Export) → export_at m.exports id ≡ Some e → stays_open id calls replies ≡ true → GivesAll e (given id calls replies) (has_ended id calls replies)
unfolding Run
run_gives s [] [] m old failed m' new failed' run id e is stay = record { last = e.given; gives = refl; ends = λ no. absurd (cc no) }
run_gives s (call ∷ calls) (reply ∷ replies) m old failed m' new failed' run id e is stay =
    let parts = and_parts (leaves_open id call reply) (stays_open id calls replies) stay in
    let one = one_call id e s m _ run.machine is call reply run.goes.step parts.0 in
    let rest = run_gives s calls replies run.machine run.story run.failures m' new failed' run.others id (record e { given = one.given }) one.there parts.1 in
    let whole : given id (call ∷ calls) (reply ∷ replies) ++ drop rest.last e.pieces ≡ drop e.given e.pieces =
    append_assoc (given_by id call reply) (given id calls replies) (drop rest.last e.pieces) ∙ ap (λ (xs : List (List ℕ)). given_by id call reply ++ xs) rest.gives ∙ one.gives in
    record { last = rest.last; gives = whole; ends = by_end rest.last (finds_end id call reply) refl one.ends rest.ends whole }
  where
    by_end : (last : ℕ) (b : Bool) → finds_end id call reply ≡ b → (finds_end id call reply ≡ true → drop e.given e.pieces ≡ []) → (has_ended id calls replies ≡ true → drop last e.pieces ≡ [])
        → given id (call ∷ calls) (reply ∷ replies) ++ drop last e.pieces ≡ drop e.given e.pieces → (b || has_ended id calls replies) ≡ true → drop last e.pieces ≡ []
    by_end last true t now later whole ended = none_behind (given id (call ∷ calls) (reply ∷ replies)) (drop last e.pieces) (whole ∙ now t)
    by_end last false t now later whole ended = later ended
run_gives s [] (reply ∷ replies) m old failed m' new failed' run id e is stay = absurd run
run_gives s (call ∷ calls) [] m old failed m' new failed' run id e is stay = absurd run

-- an export that is opened, and then comes to its end while it stays open, gives the table that it found
pub run_snapshot : (s : Setting) (name : List ℕ) (id : ℕ) (calls : List PlainCall) (replies : List PlainReply) (m : Machine) (old : Story) (failed : ℕ) (m' : Machine) (new : Story) (failed' : ℕ)
    → Run s (open_export_call name ∷ calls) (export_is id ∷ replies) m old failed m' new failed' → stays_open id calls replies ≡ true → has_ended id calls replies ≡ true → GivesTable s m name (given id calls replies)
unfolding Run Step
run_snapshot s name id calls replies m old failed m' new failed' run stay ended = by_table (table_at (tables_now s m) name) refl step.5.2
  where
    step : StepOpenExport s m name (export_is id) (has_written (now old) (now run.story)) run.machine
    step = run.goes.step

    e : Export
    e = step.5.0

    there : export_at run.machine.exports id ≡ Some e
    there = ap (λ (k : Machine). export_at k.exports id) step.5.3 ∙ found_last m.exports id e step.3 step.5.1

    rest : GivesAll e (given id calls replies) (has_ended id calls replies)
    rest = run_gives s calls replies run.machine run.story run.failures m' new failed' run.others id e there stay

    by_table : (o : Option PlainTable) → table_at (tables_now s m) name ≡ o → IsExportOf o e → GivesTable s m name (given id calls replies)
    by_table None at is = absurd is
    by_table (Some table) at is =
        let none : drop rest.last e.pieces ≡ [] = rest.ends ended in
        let all : given id calls replies ≡ e.pieces =
        sym (append-nil (given id calls replies)) ∙ ap (λ (xs : List (List ℕ)). given id calls replies ++ xs) (sym none) ∙ rest.gives ∙ ap (λ (n : ℕ). drop n e.pieces) is.1 in
        (table, at, ap (λ (ps : List (List ℕ)). meaning supported_codes (joined ps)) all ∙ is.0)
