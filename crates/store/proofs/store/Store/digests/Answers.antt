use Rattle.std.proofs.Common.{◌∙◌, Bool, List, String, Global, ℕ, map, ap, subst, sym}
use Rattle.std.specs.Prelude.{string_bytes}
use Rattle.std.proofs.lemmas.Result.{IfOk-weaker}
use Rattle.sector_dev.specs.Disk.{now, shown_image}
use Rattle.table_archive.specs.declared.manifest.ListedTable.{ListedTable}
use Rattle.table_archive.specs.Manifest.{plain_listed}
use Rattle.store.specs.Fits.{listed_in}
use Rattle.store.specs.Sending.{ListsTables, HasDigestsAt, digests_of}
use Rattle.store.proofs.store.Store.digests.Goals as goal

pub returns-clause-has : goal.returns-clause-has
returns-clause-has g c =
    let D = g.D.SectorDevice in
    let first = c.args.self.now in
    let image = shown_image (now (D.story first.device)) in
    IfOk-weaker c.digests_of.result _ _
    (λ digests are. subst (λ (h : Bool). HasDigestsAt h D.tells image (listed_in first) digests.items) (sym c.in_ok-names.ensures.listed.0)
    (record {
      tables = map plain_listed c.in_ok-tables.tables.items;
      listed =
          subst (λ (ns : List (List ℕ × ℕ)). ListsTables D.tells image (listed_in first) ns (map plain_listed c.in_ok-tables.tables.items))
          (ap (map (λ (t : String Global × ℕ). (string_bytes t.0, t.1))) c.deref.ensures.value ∙ c.in_ok-names.ensures.listed.1) c.in_ok-tables.ensures.listed;
      all = are ∙ ap (λ (ts : List ListedTable). digests_of (map plain_listed ts)) c.deref-2.ensures.value;
    })) c.digests_of.ensures.digests
