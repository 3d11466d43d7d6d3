use Rattle.std.proofs.Common.{true, false, refl, sym, ◌∙◌}
use Rattle.catalogue.specs.Entries.{plain_entry}
use Rattle.catalogue.specs.Edits.{entry_of}
use Rattle.tables.specs.declared.refusal.Limit.TheVariants as limits
use Rattle.tables.specs.declared.refusal.Refusal.TheVariants as refusals
use Rattle.store.specs.Fits.{book_of, listed_in}
use Rattle.store.proofs.ExportAnswers.{open_halted, open_nowhere, open_refused_at}
use Rattle.store.proofs.store.Store.entry_to_export.Goals as goal

pub returns-then-self-clause-told : goal.returns-then-self-clause-told
returns-then-self-clause-told g c =
    let store = c.args.self.now in open_halted store.halted (entry_of (listed_in store) c.args.name.now) (book_of store) c.if-self.true

pub returns-then-full-clause-told : goal.returns-then-full-clause-told
returns-then-full-clause-told g c =
    let store = c.args.self.now in
    open_refused_at store.halted (entry_of (listed_in store) c.args.name.now) (book_of store) (plain_entry c.in-Some.entry.now) true (refusals.TooMany limits.Exports) c.if-self.false (sym c.in-Some.ensures.entry)
    (sym c.is_full-full.ensures.full ∙ c.if-full.true) refl

pub returns-in-Err-clause-told : goal.returns-in-Err-clause-told
returns-in-Err-clause-told g c =
    let store = c.args.self.now in
    open_refused_at store.halted (entry_of (listed_in store) c.args.name.now) (book_of store) (plain_entry c.in-Some.entry.now) false refusals.OutOfMemory c.if-self.false (sym c.in-Some.ensures.entry)
    (sym c.is_full-full.ensures.full ∙ c.if-full.false) refl

pub returns-in-None-clause-told : goal.returns-in-None-clause-told
returns-in-None-clause-told g c =
    let store = c.args.self.now in open_nowhere store.halted (entry_of (listed_in store) c.args.name.now) (book_of store) c.if-self.false (sym c.in-None.ensures.entry)
