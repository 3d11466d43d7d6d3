use Rattle.std.specs.Prelude.{◌||◌, option_map}
use Rattle.std.proofs.Common.{◌≡◌, ℕ, Bool, true, None, refl, sym, ap, ◌∙◌, subst, List, ◌∷◌}
use Rattle.std.proofs.lemmas.Result.{IfOk-weaker, IfErr-weaker}
use Rattle.sector_dev.specs.Disk.{now, shown_image}
use Rattle.segments.specs.declared.run.Run.{Run}
use Rattle.segments.specs.laws.Usages.{or_false}
use Rattle.catalogue.specs.Entries.{runs_of}
use Rattle.commit.specs.Placing.{Uses}
use Rattle.commit.specs.Standing.{is_size, is_on_device, runs_fault}
use Rattle.export_book.specs.Book.{PlainBook, runs_kept, open_at}
use Rattle.export_book.specs.Plain.{plain_export}
use Rattle.tables.specs.declared.refusal.Refusal.TheVariants.{Halted, NoExport}
use Rattle.store_runs.specs.Calls.{is_device_reply, refused}
use Rattle.store.specs.Exported.{AreExportable}
use Rattle.store_runs.specs.Reading.{ended}
use Rattle.store.specs.Fits.{book_of, listed_in}
use Rattle.store_changes.specs.laws.ReadTables.{reads_quiet}
use Rattle.store.proofs.OpenExports.{found_exportable, given_exportable, kept_given}
use Rattle.store.proofs.ExportAnswers.{piece_given, piece_refused, next_halted, next_missing, may_give_some, counted_some, counted_none}
use Rattle.store.proofs.StillSound.{still_sound}
use Rattle.store.proofs.store.Store.give_piece.Goals as goal

pub next_piece-piece-requires-clause-sound : goal.next_piece-piece-requires-clause-sound
next_piece-piece-requires-clause-sound g c =
    let store = c.args.self.now in
    found_exportable (g.D.SectorDevice.size store.device) (book_of store).exports c.args.id (plain_export c.in-Some.export.now) store.exported (sym c.in-Some.ensures.export)

pub returns-then-self-clause-told : goal.returns-then-self-clause-told
returns-then-self-clause-told g c =
    let D = g.D.SectorDevice in
    let store = c.args.self.now in
    next_halted store.halted D.tells (shown_image (now (D.story store.device))) (open_at (book_of store) c.args.id) c.if-self.true

pub returns-then-self-clause-reads : goal.returns-then-self-clause-reads
returns-then-self-clause-reads g c =
    let D = g.D.SectorDevice in
    record { device = reads_quiet D.size D.story D.failed D.tells (refused Halted) c.args.self.now.device refl; kept = refl; halts = sym (or_false c.args.self.now.halted) }

pub returns-in-None-clause-told : goal.returns-in-None-clause-told
returns-in-None-clause-told g c =
    let D = g.D.SectorDevice in
    let store = c.args.self.now in
    next_missing store.halted D.tells (shown_image (now (D.story store.device))) (open_at (book_of store) c.args.id) c.if-self.false (sym c.in-None.ensures.export)

pub returns-in-None-clause-reads : goal.returns-in-None-clause-reads
returns-in-None-clause-reads g c =
    let D = g.D.SectorDevice in
    record { device = reads_quiet D.size D.story D.failed D.tells (refused NoExport) c.args.self.now.device refl; kept = refl; halts = sym (or_false c.args.self.now.halted) }

-- ---- a piece is given

pub give-requires : goal.give-requires
give-requires g c =
    let D = g.D.SectorDevice in
    let s = c.args.self.now in
    may_give_some _ (λ v. v.items) D.tells (shown_image (now (D.story s.device))) (open_at (book_of s) c.args.id) (plain_export c.in-Some.export.now) c.next_piece-piece.result c.in-Ok.given (sym c.in-Some.ensures.export) c.in-Ok.is
    (sym c.is_some.ensures ∙ c.if-is_some.true) c.next_piece-piece.ensures.piece

pub invariant_of-self : goal.invariant_of-self
invariant_of-self g c =
    let s = c.args.self.now in
    let sized = c.next_piece-piece.ensures.reads.same in
    record {
      in_limits = subst (λ (n : ℕ). is_size n ≡ true) (sym sized) s.in_limits;
      same = s.same ∙ sym sized;
      own = s.own ∙ sym sized;
      fit = subst (λ (n : ℕ). runs_fault n s.opened.commit.catalogue.run (runs_of (listed_in s)) ≡ None) (sym sized) s.fit;
      placed = subst (λ (n : ℕ). is_on_device n s.opened.commit.catalogue.run ≡ true) (sym sized) s.placed;
      form = s.form;
      uses = subst (λ (b : PlainBook). Uses s.opened.map.entries (s.opened.commit.catalogue.run ∷ runs_of (listed_in s)) (runs_kept b.exports)) (sym c.give.ensures)
          (subst (λ (rs : List Run). Uses s.opened.map.entries (s.opened.commit.catalogue.run ∷ runs_of (listed_in s)) rs) (sym (kept_given (book_of s).exports c.args.id)) s.uses);
      exported = subst (λ (b : PlainBook). AreExportable (g.D.SectorDevice.size c.next_piece-piece.new.device) b.exports) (sym c.give.ensures)
          (given_exportable (g.D.SectorDevice.size c.next_piece-piece.new.device) (book_of s).exports c.args.id (subst (λ (n : ℕ). AreExportable n (book_of s).exports) (sym sized) s.exported));
    }

pub returns-then-is_some-clause-given : goal.returns-then-is_some-clause-given
returns-then-is_some-clause-given g c =
    let D = g.D.SectorDevice in
    let s = c.args.self.now in
    IfOk-weaker c.next_piece-piece.result _ _
    (λ piece is. piece_given s.halted D.tells (shown_image (now (D.story s.device))) (open_at (book_of s) c.args.id) (plain_export c.in-Some.export.now) (option_map (λ v. v.items) piece) c.if-self.false (sym c.in-Some.ensures.export) is) c.next_piece-piece.ensures.piece

pub returns-then-is_some-clause-told : goal.returns-then-is_some-clause-told
returns-then-is_some-clause-told g c =
    let D = g.D.SectorDevice in
    let s = c.args.self.now in
    IfErr-weaker c.next_piece-piece.result _ _
    (λ e is. piece_refused s.halted D.tells (shown_image (now (D.story s.device))) (open_at (book_of s) c.args.id) (plain_export c.in-Some.export.now) e c.if-self.false (sym c.in-Some.ensures.export) is) c.next_piece-piece.ensures.told

pub returns-then-is_some-clause-reads : goal.returns-then-is_some-clause-reads
returns-then-is_some-clause-reads g c =
    record { device = c.next_piece-piece.ensures.reads; kept = refl; halts = c.halts-self.ensures ∙ sym (ap (λ (b : Bool). b || is_device_reply (ended c.next_piece-piece.result)) c.if-self.false) }

pub returns-then-is_some-clause-counted : goal.returns-then-is_some-clause-counted
returns-then-is_some-clause-counted g c = counted_some _ (λ v. v.items) _ _ c.args.id c.next_piece-piece.result c.in-Ok.given c.in-Ok.is (sym c.is_some.ensures ∙ c.if-is_some.true) c.give.ensures

-- ---- none is left, or it is refused

pub invariant_of-self-in_default : goal.invariant_of-self-in_default
invariant_of-self-in_default g c =
    assumption (still_sound c.args.self.now _ _ c.next_piece-piece.ensures.reads.same refl)

pub returns-in_default-clause-given : goal.returns-in_default-clause-given
returns-in_default-clause-given g c =
    let D = g.D.SectorDevice in
    let s = c.args.self.now in
    IfOk-weaker c.next_piece-piece.result _ _
    (λ piece is. piece_given s.halted D.tells (shown_image (now (D.story s.device))) (open_at (book_of s) c.args.id) (plain_export c.in-Some.export.now) (option_map (λ v. v.items) piece) c.if-self.false (sym c.in-Some.ensures.export) is) c.next_piece-piece.ensures.piece

pub returns-in_default-clause-told : goal.returns-in_default-clause-told
returns-in_default-clause-told g c =
    let D = g.D.SectorDevice in
    let s = c.args.self.now in
    IfErr-weaker c.next_piece-piece.result _ _
    (λ e is. piece_refused s.halted D.tells (shown_image (now (D.story s.device))) (open_at (book_of s) c.args.id) (plain_export c.in-Some.export.now) e c.if-self.false (sym c.in-Some.ensures.export) is) c.next_piece-piece.ensures.told

pub returns-in_default-clause-reads : goal.returns-in_default-clause-reads
returns-in_default-clause-reads g c =
    record { device = c.next_piece-piece.ensures.reads; kept = refl; halts = c.halts-self.ensures ∙ sym (ap (λ (b : Bool). b || is_device_reply (ended c.next_piece-piece.result)) c.if-self.false) }

pub returns-else-is_some-clause-given : goal.returns-else-is_some-clause-given
returns-else-is_some-clause-given g c =
    let D = g.D.SectorDevice in
    let s = c.args.self.now in
    IfOk-weaker c.next_piece-piece.result _ _
    (λ piece is. piece_given s.halted D.tells (shown_image (now (D.story s.device))) (open_at (book_of s) c.args.id) (plain_export c.in-Some.export.now) (option_map (λ v. v.items) piece) c.if-self.false (sym c.in-Some.ensures.export) is) c.next_piece-piece.ensures.piece

pub returns-else-is_some-clause-told : goal.returns-else-is_some-clause-told
returns-else-is_some-clause-told g c =
    let D = g.D.SectorDevice in
    let s = c.args.self.now in
    IfErr-weaker c.next_piece-piece.result _ _
    (λ e is. piece_refused s.halted D.tells (shown_image (now (D.story s.device))) (open_at (book_of s) c.args.id) (plain_export c.in-Some.export.now) e c.if-self.false (sym c.in-Some.ensures.export) is) c.next_piece-piece.ensures.told

pub returns-else-is_some-clause-reads : goal.returns-else-is_some-clause-reads
returns-else-is_some-clause-reads g c =
    record { device = c.next_piece-piece.ensures.reads; kept = refl; halts = c.halts-self.ensures ∙ sym (ap (λ (b : Bool). b || is_device_reply (ended c.next_piece-piece.result)) c.if-self.false) }

pub returns-else-is_some-clause-counted : goal.returns-else-is_some-clause-counted
returns-else-is_some-clause-counted g c = counted_none _ (λ v. v.items) _ c.args.id c.next_piece-piece.result c.in-Ok.given c.in-Ok.is (sym c.is_some.ensures ∙ c.if-is_some.false)
