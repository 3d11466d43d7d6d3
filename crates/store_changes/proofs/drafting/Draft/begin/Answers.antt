use Rattle.std.proofs.Common.{map, refl, ap}
use Rattle.catalogue.specs.View.{catalogue_of}
use Rattle.catalogue.specs.laws.Kept.{catalogue_is}
use Rattle.store_changes.proofs.Drafts.{begins_as}
use Rattle.store_changes.proofs.drafting.Draft.begin.Goals as goal

pub returns-clause-draft : goal.returns-clause-draft
returns-clause-draft c =
    let listed = catalogue_of c.args.catalogue.now in
    begins_as _ listed (catalogue_is listed c.args.catalogue.now.kept) c.requires c.in_ok-old.ensures c.in_ok-made.ensures c.new.ensures.items c.new-2.ensures.items c.new-3.ensures.items refl

pub returns-clause-none : goal.returns-clause-none
returns-clause-none c = ap (map (λ s. s.items)) c.new-2.ensures.items
