use Rattle.std.proofs.Common.{◌∙◌, List, sym, ap, subst}
use Rattle.catalogue.specs.Entries.{PlainRoot, IsRoot}
use Rattle.catalogue.specs.View.{catalogue_of}
use Rattle.pages.specs.Paging.{root_of}
use Rattle.pages.specs.laws.Stands.{root_stands}
use Rattle.pages.proofs.KindRuns.{page_runs_filled}
use Rattle.pages.proofs.paging.settle.Goals as goal

pub with_pages-requires : goal.with_pages-requires
with_pages-requires c = page_runs_filled (catalogue_of c.args.list) c.args.runs.now (sym c.requires.kind ∙ c.in-Pages.is) c.requires.runs

pub root_text-requires : goal.root_text-requires
root_text-requires c =
    let listed = catalogue_of c.args.list in
    let filled = page_runs_filled listed c.args.runs.now (sym c.requires.kind ∙ c.in-Pages.is) c.requires.runs in
    subst (λ (rs : List PlainRoot). IsRoot rs) (ap root_of (sym c.in_ok-list-in-Pages.ensures.catalogue)) (root_stands listed c.args.runs.now filled c.args.list.kept)
