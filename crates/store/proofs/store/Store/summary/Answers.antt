use Rattle.std.specs.Prelude.{sum_by}
use Rattle.std.proofs.Common.{◌∷◌, ◌∙◌, ℕ, List, refl, sym, ap, subst, arith}
use Rattle.segments.specs.declared.run.Run.{Run}
use Rattle.segments.specs.Usages.{IsUsedIn}
use Rattle.catalogue.specs.Entries.{runs_of}
use Rattle.store.specs.Fits.{commit_of, listed_in}
use Rattle.store.specs.Summary.{CountsKept, IsLargest}
use Rattle.store.proofs.Fitted.{used_fit, used_are}
use Rattle.store.proofs.Roomed.{in_kept}
use Rattle.store.proofs.store.Store.summary.Goals as goal

pub sectors_of-requires : goal.sectors_of-requires
sectors_of-requires g c =
    let store = c.args.self.now in
    let fits = used_fit (g.D.SectorDevice.size store.device) (commit_of store).catalogue.run (runs_of (listed_in store)) c.deref.result.now store.in_limits store.placed store.fit (c.deref.ensures.value ∙ c.in_ok-runs.ensures) in
    omega (arith, fits.0, fits.1)

pub overflow_add-used-2 : goal.overflow_add-used-2
overflow_add-used-2 g c =
    let store = c.args.self.now in
    let fits = used_fit (g.D.SectorDevice.size store.device) (commit_of store).catalogue.run (runs_of (listed_in store)) c.deref.result.now store.in_limits store.placed store.fit (c.deref.ensures.value ∙ c.in_ok-runs.ensures) in
    omega (arith, fits.0, fits.1, c.sectors_of.ensures)

pub overflow_sub-result : goal.overflow_sub-result
overflow_sub-result g c =
    let store = c.args.self.now in
    let fits = used_fit (g.D.SectorDevice.size store.device) (commit_of store).catalogue.run (runs_of (listed_in store)) c.deref.result.now store.in_limits store.placed store.fit (c.deref.ensures.value ∙ c.in_ok-runs.ensures) in
    omega (arith, fits.0, c.sectors_of.ensures, c.sectors-sectors.ensures)

pub returns : goal.returns
returns g c =
    let store = c.args.self.now in
    let text = (commit_of store).catalogue.run in
    let kept = c.in_ok-kept.kept in
    let are = c.deref.ensures.value ∙ c.in_ok-runs.ensures in
    let pinned = c.deref-3.ensures.value ∙ c.in_ok-runs-2.ensures in
    let same = ap (sum_by (λ (r : Run). r.count)) (c.deref.ensures.value ∙ sym c.deref-2.ensures.value) in (
      c.if-self.false,
      record {
        format_version = c.number.ensures;
        epoch = refl;
        sectors = c.sectors-sectors.ensures;
        used = used_are text (runs_of (listed_in store)) c.deref.result.now c.sectors_of.result c.sectors_of.ensures are;
        kept = subst (λ (rs : List Run). CountsKept (text ∷ runs_of (listed_in store)) rs kept) pinned
            (subst (λ (rs : List Run). CountsKept (text ∷ rs) c.deref-3.result.now kept) (c.deref-2.ensures.value ∙ c.in_ok-runs.ensures) c.in_ok-kept.ensures.kept);
        free = omega (arith, c.in_ok-kept.ensures.fits, same, c.sectors_of.ensures, c.sectors-sectors.ensures);
        largest = in_kept store (λ used. IsLargest (g.D.SectorDevice.size store.device) used c.largest_free.result)
            (subst (λ (n : ℕ). IsLargest n (IsUsedIn store.opened.map.entries) c.largest_free.result) c.sectors-sectors.ensures c.largest_free.ensures);
        tables = c.len.ensures.tables;
        segments = c.segment_count.ensures;
      },
    )
