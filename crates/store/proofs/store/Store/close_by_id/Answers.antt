use Rattle.std.proofs.Common.{◌≡◌, ◌∷◌, refl, sym, ap, ◌∙◌, subst, List}
use Rattle.segments.specs.Usages.{UnpinsAll}
use Rattle.segments.specs.laws.Usages.{or_false}
use Rattle.catalogue.specs.Entries.{runs_of, runs_in_segments}
use Rattle.commit.specs.Placing.{Uses}
use Rattle.export_book.specs.Book.{PlainBook, PlainExport, runs_kept, open_at, without}
use Rattle.export_book.specs.Plain.{plain_export}
use Rattle.tables.specs.declared.refusal.Refusal.TheVariants.{Halted, NoExport}
use Rattle.store_runs.specs.Calls.{refused}
use Rattle.store.specs.Exported.{AreExportable}
use Rattle.store.specs.Fits.{book_of, listed_in}
use Rattle.store_changes.specs.laws.ReadTables.{reads_quiet}
use Rattle.store.proofs.Applied.{reads_nothing}
use Rattle.store.proofs.OpenExports.{left_exportable, closed_uses, none_left_out}
use Rattle.store.proofs.ExportAnswers.{close_halted, close_missing, closes_at}
use Rattle.store.proofs.StillSound.{still_sound}
use Rattle.store.proofs.store.Store.close_by_id.Goals as goal

pub returns-then-self-clause-told : goal.returns-then-self-clause-told
returns-then-self-clause-told g c = let s = c.args.self.now in close_halted s.halted (open_at (book_of s) c.args.id) c.if-self.true

pub returns-then-self-clause-kept : goal.returns-then-self-clause-kept
returns-then-self-clause-kept g c = let D = g.D.SectorDevice in reads_nothing D.size D.story D.failed D.tells (refused Halted) c.args.self.now refl

pub returns-in-None-clause-told : goal.returns-in-None-clause-told
returns-in-None-clause-told g c = let s = c.args.self.now in close_missing s.halted (open_at (book_of s) c.args.id) c.if-self.false (sym c.in-None.ensures.export)

pub returns-in-None-clause-kept : goal.returns-in-None-clause-kept
returns-in-None-clause-kept g c =
    let D = g.D.SectorDevice in
    let s = c.args.self.now in
    let same : without c.args.id (book_of s) ≡ book_of s = ap (λ (es : List PlainExport). record { exports = es; next = (book_of s).next }) (none_left_out (book_of s).exports c.args.id (sym c.in-None.ensures.export)) in
    record { device = reads_quiet D.size D.story D.failed D.tells (refused NoExport) s.device refl; kept = refl; book = c.close.ensures.closed ∙ same; halts = sym (or_false s.halted) }

pub returns-in-Some-clause-closed : goal.returns-in-Some-clause-closed
returns-in-Some-clause-closed g c =
    let s = c.args.self.now in
    closes_at s.halted (open_at (book_of s) c.args.id) s c.args.id (plain_export c.in-Some.export) _ c.if-self.false (sym c.in-Some.ensures.export)
    (record {
      closed = c.close.ensures.closed;
      pins = subst (UnpinsAll s.opened.map c.unpin_each.new.self) (c.deref.ensures.value ∙ c.in-Some.export.listed) c.unpin_each.ensures;
      commit = refl;
      listed = refl;
      on = c.if-self.false;
    })

pub invariant_of-self : goal.invariant_of-self
invariant_of-self g c =
    let s = c.args.self.now in
    let size = g.D.SectorDevice.size s.device in
    let text = s.opened.commit.catalogue.run in
    let listed = listed_in s in
    let new = c.unpin_each.new.self in
    let pins : UnpinsAll s.opened.map new (runs_in_segments (plain_export c.in-Some.export).segments) = subst (UnpinsAll s.opened.map new) (c.deref.ensures.value ∙ c.in-Some.export.listed) c.unpin_each.ensures in
    record {
      in_limits = s.in_limits;
      same = c.unpin_each.ensures.size ∙ s.same;
      own = s.own;
      fit = s.fit;
      placed = s.placed;
      form = s.form;
      uses = subst (λ (b : PlainBook). Uses new.entries (text ∷ runs_of listed) (runs_kept b.exports)) (sym c.close.ensures.closed)
          (closed_uses s.opened.map new (text ∷ runs_of listed) (book_of s).exports c.args.id (plain_export c.in-Some.export) s.book.sound.rising (sym c.in-Some.ensures.export) s.uses pins);
      exported = subst (λ (b : PlainBook). AreExportable size b.exports) (sym c.close.ensures.closed) (left_exportable size (book_of s).exports c.args.id s.exported);
    }

pub invariant_of-self-in-None : goal.invariant_of-self-in-None
invariant_of-self-in-None g c =
    let s = c.args.self.now in
    let same : without c.args.id (book_of s) ≡ book_of s = ap (λ (es : List PlainExport). record { exports = es; next = (book_of s).next }) (none_left_out (book_of s).exports c.args.id (sym c.in-None.ensures.export)) in
    assumption (still_sound s _ _ refl (c.close.ensures.closed ∙ same))
