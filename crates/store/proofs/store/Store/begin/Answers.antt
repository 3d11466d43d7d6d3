use Rattle.std.proofs.Common.{ℕ, List, refl, sym, ap, ◌∙◌, subst}
use Rattle.sector_dev.specs.Disk.{now, shown_image}
use Rattle.catalogue.specs.Entries.{runs_of}
use Rattle.store_runs.specs.Calls.{done}
use Rattle.store_runs.specs.Deciding.{AreBefore}
use Rattle.store_changes.specs.Draft.{laid, end_of}
use Rattle.store.specs.Fits.{listed_in}
use Rattle.store.proofs.Applied.{on_before, reads_nothing}
use Rattle.store.proofs.Begun.{halted_refuses, memory_refuses}
use Rattle.store.proofs.StillSound.{all_placed}
use Rattle.store.proofs.store.Store.begin.Goals as goal

pub begin-requires : goal.begin-requires
begin-requires g c =
    let D = g.D.SectorDevice in
    let store = c.args.self.now in
    let runs = runs_of (listed_in store) in
    subst (λ (n : ℕ). AreBefore n runs) (sym store.own) (on_before (D.size store.device) runs (all_placed store))

-- ---- a store that is halted

pub returns-then-self-clause-refused : goal.returns-then-self-clause-refused
returns-then-self-clause-refused g c = λ commands.
    let D = g.D.SectorDevice in halted_refuses D.size D.story D.failed D.tells c.args.self.now commands c.if-self.true

-- ---- one that is not

pub returns-in-Ok-clause-drafts : goal.returns-in-Ok-clause-drafts
returns-in-Ok-clause-drafts g c =
    let D = g.D.SectorDevice in
    let store = c.args.self.now in
    let d = c.in-Ok.draft in
    let begun = c.in-Ok.ensures in
    let image = shown_image (now (D.story store.device)) in
    record {
      on = c.if-self.false;
      before = on_before (D.size store.device) (runs_of (listed_in store)) (all_placed store);
      reads = reads_nothing D.size D.story D.failed D.tells done store refl;
      still = λ none. refl;
      single = tt;
      brings = tt;
      draft = begun.draft;
      from = begun.from ∙ store.own;
      old = begun.old;
      leads = (
        begun.draft.next ∙ ap (end_of d.from) begun.none ∙ begun.from ∙ store.own,
        ap (λ (ss : List (List ℕ)). laid d.from ss image) begun.none,
        begun.made,
      );
      weighed = tt;
    }

pub returns-in-Err-clause-refused : goal.returns-in-Err-clause-refused
returns-in-Err-clause-refused g c = λ commands.
    let D = g.D.SectorDevice in memory_refuses D.size D.story D.failed D.tells c.args.self.now commands c.if-self.false
