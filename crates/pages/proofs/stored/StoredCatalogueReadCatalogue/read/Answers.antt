use Rattle.std.proofs.Common.{◌≡◌, ◌∙◌, true, List, map, ap, subst, sym}
use Rattle.catalogue.specs.Entries.{plain_entry, plain_root, has_form}
use Rattle.catalogue.specs.View.{catalogue_of}
use Rattle.catalogue.specs.declared.entry.RootEntry.{RootEntry}
use Rattle.catalogue.specs.declared.entry.SegmentForm.{SegmentForm}
use Rattle.pages.specs.Stored.{AreTables, form_of}
use Rattle.pages.proofs.stored.StoredCatalogueReadCatalogue.read.Goals as goal

pub read_pages-requires-clause-root : goal.read_pages-requires-clause-root
read_pages-requires-clause-root g c =
    let roots = c.in-Ok-decode_root.roots in
    let p = c.one_root_each.ensures.kept c.args.text.now (map plain_root roots.items) c.in-Ok-decode_root.ensures.exact in
    subst (λ (rs : List RootEntry). AreTables (map plain_root rs)) (sym c.deref.ensures.value) (record { named = p.0; order = p.1; tables = p.2 })

-- ---- what is read has the form of the commit's version

pub returns-in-Ok-clause-form : goal.returns-in-Ok-clause-form
returns-in-Ok-clause-form g c =
    subst (λ (form : SegmentForm). has_form form (catalogue_of c.in-Ok.list) ≡ true) c.form_of-form.ensures
    (c.one_text_each.ensures.formed c.form_of-form.result c.args.text.now (catalogue_of c.in-Ok.list) c.in-Ok.ensures.exact)

pub returns-in-Ok-read_pages-clause-form : goal.returns-in-Ok-read_pages-clause-form
returns-in-Ok-read_pages-clause-form g c =
    let version = form_of c.args.commit.version in
    ap (has_form version) c.of_entries.ensures
    ∙ subst (λ (form : SegmentForm). has_form form (map plain_entry c.in-Ok-read_pages.entries.items) ≡ true) c.form_of-form.ensures c.in-Ok-read_pages.ensures.form
