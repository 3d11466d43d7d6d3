use Rattle.std.proofs.Common.{◌≡◌, ◌∷◌, true, false, refl, sym, ap, ◌∙◌, subst, List, arith}
use Rattle.segments.specs.declared.run.Run.{Run}
use Rattle.segments.specs.declared.entries.Usage.{Usage}
use Rattle.segments.specs.Usages.{is_among, times_among, PinsAll}
use Rattle.segments.specs.laws.Usages.{or_false}
use Rattle.catalogue.specs.Entries.{plain_entry, runs_of}
use Rattle.catalogue.specs.Edits.{entry_of}
use Rattle.catalogue.specs.laws.Kept.{catalogue_is}
use Rattle.commit.specs.Placing.{Uses}
use Rattle.export_book.specs.Book.{PlainBook, PlainExport, runs_kept}
use Rattle.export_book.specs.View as books
use Rattle.export_book.specs.laws.Kept.{kept_few}
use Rattle.tables.specs.declared.refusal.Refusal.TheVariants.{OutOfMemory}
use Rattle.store_runs.specs.Calls.{refused}
use Rattle.store.specs.Exported.{AreExportable}
use Rattle.store.specs.Fits.{book_of, listed_in}
use Rattle.store_changes.specs.laws.ReadTables.{reads_quiet}
use Rattle.store.proofs.OpenExports.{entry_once, entry_used, entry_short, entry_exportable, some_opened, opened_runs, more_exportable, opened_uses}
use Rattle.store.proofs.ExportAnswers.{opens_at, open_refused_at}
use Rattle.store.proofs.StillSound.{still_sound}
use Rattle.store.proofs.store.Store.open_named.Goals as goal

pub open-requires-clause-short : goal.open-requires-clause-short
open-requires-clause-short g c =
    let s = c.args.self.now in
    let most = (catalogue_is (listed_in s) s.opened.catalogue.list.kept).segments in
    let few = entry_short (listed_in s) c.args.name.now (plain_entry c.in-Ok.entry) c.in-Ok.ensures.entry in
    omega (arith, most, few)

pub open-requires-clause-once : goal.open-requires-clause-once
open-requires-clause-once g c =
    let s = c.args.self.now in
    entry_once (g.D.SectorDevice.size s.device) s.opened.commit.catalogue.run (listed_in s) c.args.name.now (plain_entry c.in-Ok.entry) c.in-Ok.ensures.entry s.fit

pub unwrap-export-requires : goal.unwrap-export-requires
unwrap-export-requires g c =
    let s = c.args.self.now in
    some_opened (book_of s) (books.book_of c.open.new.self) (plain_entry c.in-Ok.entry) c.in-Ok-open.id s.book.sound c.in-Ok-open.ensures.opened c.in-Ok-open.ensures.id c.get.result _ c.get.ensures.export

pub pin_each-requires-clause-used : goal.pin_each-requires-clause-used
pin_each-requires-clause-used g c = λ run is.
    let s = c.args.self.now in
    let e = plain_entry c.in-Ok.entry in
    let runs = c.deref.ensures.value ∙ opened_runs (book_of s) (books.book_of c.open.new.self) e c.in-Ok-open.id s.book.sound c.in-Ok-open.ensures.opened c.in-Ok-open.ensures.id c.get.result c.unwrap-export.result (λ x. x.now) c.get.ensures.export c.unwrap-export.ensures in
    entry_used (g.D.SectorDevice.size s.device) s.opened.commit.catalogue.run (listed_in s) c.args.name.now e c.in-Ok.ensures.entry s.opened.map.entries (runs_kept (book_of s).exports) s.uses run
    (subst (λ (rs : List Run). is_among rs run ≡ true) runs is)

pub pin_each-requires-clause-few : goal.pin_each-requires-clause-few
pin_each-requires-clause-few g c = λ run.
    let s = c.args.self.now in
    let e = plain_entry c.in-Ok.entry in
    let runs = c.deref.ensures.value ∙ opened_runs (book_of s) (books.book_of c.open.new.self) e c.in-Ok-open.id s.book.sound c.in-Ok-open.ensures.opened c.in-Ok-open.ensures.id c.get.result c.unwrap-export.result (λ x. x.now) c.get.ensures.export c.unwrap-export.ensures in
    let times = ap (λ (rs : List Run). times_among rs run) runs in
    let one = entry_once (g.D.SectorDevice.size s.device) s.opened.commit.catalogue.run (listed_in s) c.args.name.now e c.in-Ok.ensures.entry s.fit run in
    let kept = kept_few (book_of s) run s.book.sound in
    let was = ap (λ (u : Usage). u.pins) (s.uses run) in
    omega (arith, times, one, kept, was)

-- ---- it was opened

pub invariant_of-self : goal.invariant_of-self
invariant_of-self g c =
    let s = c.args.self.now in
    let size = g.D.SectorDevice.size s.device in
    let text = s.opened.commit.catalogue.run in
    let listed = listed_in s in
    let e = plain_entry c.in-Ok.entry in
    let export : PlainExport = record { id = (book_of s).next; schema = e.schema; segments = e.segments; given = 0 } in
    let runs = c.deref.ensures.value ∙ opened_runs (book_of s) (books.book_of c.open.new.self) e c.in-Ok-open.id s.book.sound c.in-Ok-open.ensures.opened c.in-Ok-open.ensures.id c.get.result c.unwrap-export.result (λ x. x.now) c.get.ensures.export c.unwrap-export.ensures in
    let pins = subst (PinsAll s.opened.map c.pin_each.new.self) runs c.pin_each.ensures in
    let is = entry_exportable size text listed c.args.name.now e export (catalogue_is listed s.opened.catalogue.list.kept).entries s.fit c.in-Ok.ensures.entry refl refl in
    record {
      in_limits = s.in_limits;
      same = c.pin_each.ensures.size ∙ s.same;
      own = s.own;
      fit = s.fit;
      placed = s.placed;
      form = s.form;
      uses = subst (λ (b : PlainBook). Uses c.pin_each.new.self.entries (text ∷ runs_of listed) (runs_kept b.exports)) (sym c.in-Ok-open.ensures.opened)
          (opened_uses s.opened.map c.pin_each.new.self (text ∷ runs_of listed) (book_of s).exports export s.uses pins);
      exported = subst (λ (b : PlainBook). AreExportable size b.exports) (sym c.in-Ok-open.ensures.opened) (more_exportable size (book_of s).exports export s.exported is);
    }

pub returns-in-Ok-open-clause-opened : goal.returns-in-Ok-open-clause-opened
returns-in-Ok-open-clause-opened g c =
    let s = c.args.self.now in
    let e = plain_entry c.in-Ok.entry in
    let runs = c.deref.ensures.value ∙ opened_runs (book_of s) (books.book_of c.open.new.self) e c.in-Ok-open.id s.book.sound c.in-Ok-open.ensures.opened c.in-Ok-open.ensures.id c.get.result c.unwrap-export.result (λ x. x.now) c.get.ensures.export c.unwrap-export.ensures in
    opens_at s.halted (entry_of (listed_in s) c.args.name.now) s e c.in-Ok-open.id _ c.in-Ok.ensures.on c.in-Ok.ensures.entry
    (record {
      room = c.in-Ok.ensures.room;
      next = c.in-Ok-open.ensures.id;
      opened = c.in-Ok-open.ensures.opened;
      pins = subst (PinsAll s.opened.map c.pin_each.new.self) runs c.pin_each.ensures;
      commit = refl;
      listed = refl;
      on = c.in-Ok.ensures.on;
    })

-- ---- it was not

pub invariant_of-self-in-Err-open : goal.invariant_of-self-in-Err-open
invariant_of-self-in-Err-open g c = assumption (still_sound c.args.self.now _ _ refl c.in-Err-open.ensures.err)

pub returns-in-Err-open-clause-told : goal.returns-in-Err-open-clause-told
returns-in-Err-open-clause-told g c =
    let s = c.args.self.now in
    open_refused_at s.halted (entry_of (listed_in s) c.args.name.now) (book_of s) (plain_entry c.in-Ok.entry) false OutOfMemory c.in-Ok.ensures.on c.in-Ok.ensures.entry c.in-Ok.ensures.room refl

pub returns-in-Err-open-clause-kept : goal.returns-in-Err-open-clause-kept
returns-in-Err-open-clause-kept g c =
    let D = g.D.SectorDevice in
    let s = c.args.self.now in
    record { device = reads_quiet D.size D.story D.failed D.tells (refused OutOfMemory) s.device refl; kept = refl; book = c.in-Err-open.ensures.err; halts = sym (or_false s.halted) }

pub returns-in-Err-clause-told : goal.returns-in-Err-clause-told
returns-in-Err-clause-told g c = c.in-Err.ensures.told
