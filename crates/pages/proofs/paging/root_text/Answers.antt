use Rattle.std.proofs.Common.{◌∙◌, List, map, sym, ap, subst}
use Rattle.catalogue.specs.declared.entry.RootEntry.{RootEntry}
use Rattle.catalogue.specs.Entries.{PlainRoot, plain_root, IsRoot}
use Rattle.pages.specs.Paging.{root_of}
use Rattle.pages.proofs.paging.root_text.Goals as goal

pub encode_root-requires : goal.encode_root-requires
encode_root-requires c =
    let is = ap (λ (rs : List RootEntry). map plain_root rs) c.deref.ensures.value ∙ c.in_ok-root.ensures ∙ ap root_of c.entries.ensures.entries in
    subst (λ (rs : List PlainRoot). IsRoot rs) (sym is) c.requires
