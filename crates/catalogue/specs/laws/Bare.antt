-- A catalogue without its pages.
use Rattle.std.proofs.Common.{◌≡◌, ℕ, true, List, [], ◌∷◌, length, map, refl, ap, ◌∙◌, arith}
use Rattle.std.specs.List.{list_all}
use Rattle.std.proofs.lemmas.Bool.{and_parts, and_from}
use Rattle.std.proofs.lemmas.List.{length-map}
use Rattle.std.proofs.lemmas.List.Sums.{sum_by-cons}
use Rattle.catalogue.specs.Entries.{PlainEntry, PlainCatalogue, is_entry, bare, names_of, ascends, segment_count, is_catalogue}
use Rattle.catalogue.specs.laws.Kept.{entry_is, entry_stands, passes_catalogue, catalogue_is}

pub bare_names : (c : PlainCatalogue) → names_of (map bare c) ≡ names_of c
bare_names [] = refl
bare_names (e ∷ es) = ap (λ (ns : List (List ℕ)). e.name ∷ ns) (bare_names es)

pub bare_count : (c : PlainCatalogue) → segment_count (map bare c) ≡ segment_count c
bare_count [] = refl
bare_count (e ∷ es) = omega (arith, bare_count es, sum_by-cons (λ (x : PlainEntry). length x.segments) e es, sum_by-cons (λ (x : PlainEntry). length x.segments) (bare e) (map bare es))

bare_entries : (c : PlainCatalogue) → list_all is_entry c ≡ true → list_all is_entry (map bare c) ≡ true
bare_entries [] all = refl
bare_entries (e ∷ es) all =
    let parts = and_parts (is_entry e) (list_all is_entry es) all in
    let s = entry_is e parts.0 in
    and_from (is_entry (bare e)) (list_all is_entry (map bare es)) (entry_stands (bare e) s.name s.schema s.segments refl) (bare_entries es parts.1)

pub bare_stands : (c : PlainCatalogue) → is_catalogue c ≡ true → is_catalogue (map bare c) ≡ true
bare_stands c kept =
    let k = catalogue_is c kept in
    let tables = k.tables in
    let segments = k.segments in
    passes_catalogue (map bare c) (record {
      entries = bare_entries c k.entries;
      order = ap ascends (bare_names c) ∙ k.order;
      tables = omega (arith, tables, length-map c bare);
      segments = omega (arith, segments, bare_count c);
    })
