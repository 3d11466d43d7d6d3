-- A catalogue in pages is a catalogue, and its root has its tables.
use Rattle.std.specs.Prelude.{◌≡◌, ◌+◌, ℕ, true, List, [], ◌∷◌, ◌++◌, length, sum_by, Option, Some, None, refl}
use Rattle.std.specs.List.{list_all}
use Rattle.std.proofs.Common.{ap, ◌∙◌, subst, arith}
use Rattle.std.proofs.lemmas.Bool.{and_parts, and_from}
use Rattle.std.proofs.lemmas.List.{length-map}
use Rattle.std.proofs.lemmas.List.Sums.{sum_by-cons}
use Rattle.segments.specs.declared.run.Run.{Run}
use Rattle.segments.specs.declared.extent.Extent.{Extent}
use Rattle.catalogue.specs.Entries.{PlainEntry, PlainCatalogue, PlainRoot, is_name, is_filled, is_page, is_entry, names_of, ascends, is_root_entry, root_names, is_catalogue, IsRoot}
use Rattle.catalogue.specs.Text.{table_size, root_size}
use Rattle.catalogue.specs.laws.Kept.{entry_is, entry_stands, passes_catalogue, catalogue_is}
use Rattle.catalogue.specs.laws.Sums.{one, number, segments_in}
use Rattle.pages.specs.Paging.{pageless, in_page, with_pages, AreFilled, settled, root_of, root_bytes}
use Rattle.pages.specs.laws.Paged.{by_pages}
use Rattle.pages.specs.laws.Sizes.{pages_sum}

module _ (c : PlainCatalogue) (runs : List Run) (filled : AreFilled (pageless c) runs) where
  pub pages_names : names_of (with_pages c runs) ≡ names_of c
  pages_names =
      by_pages (λ es made. names_of made ≡ names_of es) refl (λ e es made same p here. ap (λ (ns : List (List ℕ)). e.name ∷ ns) same)
      (λ e es made run rest same none fills. ap (λ (ns : List (List ℕ)). e.name ∷ ns) same) c runs filled

  pages_sound : list_all is_entry c ≡ true → list_all is_entry (with_pages c runs) ≡ true
  pages_sound =
      by_pages (λ es made. list_all is_entry es ≡ true → list_all is_entry made ≡ true) (λ all. refl)
      (λ e es made later p here all. let parts = and_parts (is_entry e) (list_all is_entry es) all in and_from (is_entry e) (list_all is_entry made) parts.0 (later parts.1))
      (λ e es made run rest later none fills all.
      let parts = and_parts (is_entry e) (list_all is_entry es) all in
      let s = entry_is e parts.0 in
      and_from (is_entry (in_page e run)) (list_all is_entry made) (entry_stands (in_page e run) s.name s.schema s.segments fills.0) (later parts.1))
      c runs filled

  pub pages_stand : is_catalogue c ≡ true → is_catalogue (with_pages c runs) ≡ true
  pages_stand kept =
      let k = catalogue_is c kept in
      let tables = k.tables in
      let segments = k.segments in
      passes_catalogue (with_pages c runs) (record {
        entries = pages_sound k.entries;
        order = ap ascends pages_names ∙ k.order;
        tables = omega (arith, tables, number c, number (with_pages c runs), pages_sum one (λ e o. refl) c runs);
        segments = omega (arith, segments, pages_sum segments_in (λ e o. refl) c runs);
      })

  -- ---- its root

  pub root_names_are : root_names (root_of (with_pages c runs)) ≡ names_of c
  root_names_are =
      by_pages (λ es made. root_names (root_of made) ≡ names_of es) refl
      (λ e es made same p here. ap (λ (o : Option Extent). root_names (elim o [ None ↦ [] | Some q ↦ record { name = e.name; page = q } ∷ [] ] ++ root_of made)) here ∙ ap (λ (ns : List (List ℕ)). e.name ∷ ns) same)
      (λ e es made run rest same none fills. ap (λ (ns : List (List ℕ)). e.name ∷ ns) same) c runs filled

  root_sound : list_all is_entry c ≡ true → list_all is_root_entry (root_of (with_pages c runs)) ≡ true
  root_sound =
      by_pages (λ es made. list_all is_entry es ≡ true → list_all is_root_entry (root_of made) ≡ true) (λ all. refl)
      (λ e es made later p here all.
      let parts = and_parts (is_entry e) (list_all is_entry es) all in
      let s = entry_is e parts.0 in
      let r : PlainRoot = record { name = e.name; page = p } in
      let page : is_filled 8 p ≡ true = subst (λ (o : Option Extent). is_page o ≡ true) here s.page in
      ap (λ (o : Option Extent). list_all is_root_entry (elim o [ None ↦ [] | Some q ↦ record { name = e.name; page = q } ∷ [] ] ++ root_of made)) here
      ∙ and_from (is_root_entry r) (list_all is_root_entry (root_of made)) (and_from (is_name e.name) (is_filled 8 p) s.name page) (later parts.1))
      (λ e es made run rest later none fills all.
      let parts = and_parts (is_entry e) (list_all is_entry es) all in
      let s = entry_is e parts.0 in
      let p : Extent = record { run = run; bytes = table_size e } in
      let r : PlainRoot = record { name = e.name; page = p } in
      and_from (is_root_entry r) (list_all is_root_entry (root_of made)) (and_from (is_name e.name) (is_filled 8 p) s.name fills.0) (later parts.1))
      c runs filled

  pub root_stands : is_catalogue c ≡ true → IsRoot (root_of (with_pages c runs))
  root_stands kept =
      let k = catalogue_is c kept in
      let tables = k.tables in
      let r = root_of (with_pages c runs) in
      let named : length (root_names r) ≡ length (names_of c) = ap (λ (ns : List (List ℕ)). length ns) root_names_are in
      record {
        entries = root_sound k.entries;
        order = ap ascends root_names_are ∙ k.order;
        tables = omega (arith, tables, named, length-map r (λ (x : PlainRoot). x.name), length-map c (λ (x : PlainEntry). x.name));
      }

  pub root_length : root_size (root_of (with_pages c runs)) ≡ root_bytes c
  root_length =
      let size : PlainRoot → ℕ = λ r. 28 + length r.name in
      let own : PlainEntry → ℕ = λ e. 28 + length e.name in
      ap (λ (n : ℕ). 4 + n) (by_pages (λ es made. sum_by size (root_of made) ≡ sum_by own es) refl
      (λ e es made same p here.
      ap (λ (o : Option Extent). sum_by size (elim o [ None ↦ [] | Some q ↦ record { name = e.name; page = q } ∷ [] ] ++ root_of made)) here
      ∙ omega (arith, same, sum_by-cons size (record { name = e.name; page = p }) (root_of made), sum_by-cons own e es))
      (λ e es made run rest same none fills.
      omega (arith, same, sum_by-cons size (record { name = e.name; page = record { run = run; bytes = table_size e } }) (root_of made), sum_by-cons own e es))
      c runs filled)

-- ---- settled
