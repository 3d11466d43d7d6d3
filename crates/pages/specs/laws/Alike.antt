-- How a catalogue is stored does not depend on where the segments of its tables lie.
use Rattle.std.specs.Prelude.{◌≡◌, ◌+◌, ℕ, Bool, nat_le, List, [], ◌∷◌, ◌++◌, length, map, flat_map, sum_by, Option, Some, None, if◌then◌else◌, refl}
use Rattle.std.proofs.Common.{sym, ap, ◌∙◌, arith}
use Rattle.std.proofs.lemmas.List.{map-append, length-map}
use Rattle.std.proofs.lemmas.List.Sums.{sum_by-cons}
use Rattle.ipc_write.specs.Written.{schema_message}
use Rattle.segments.specs.declared.extent.Extent.{Extent}
use Rattle.catalogue.specs.Entries.{PlainEntry, PlainCatalogue, page_runs, segment_count}
use Rattle.catalogue.specs.declared.entry.Segment.{Segment}
use Rattle.catalogue.specs.Text.{segment_size, table_size, entry_size, list_size}
use Rattle.catalogue.specs.laws.Shapes.{Shape, shape, shapes, IsByShape, sum_alike}
use Rattle.catalogue.specs.laws.Sums.{segments_in}
use Rattle.commit.specs.declared.sector.CatalogueKind.TheVariants.{Whole, Pages}
use Rattle.pages.specs.Paging.{is_whole, kind_of, if_pageless, pageless, page_sizes, root_bytes, text_size, dropped_pages}

abbrev own_size : ℕ → ℕ
own_size n = n

segments_alike : (segments : List Segment) → sum_by segment_size segments ≡ sum_by own_size (map segment_size segments)
segments_alike [] = refl
segments_alike (s ∷ ss) = omega (arith, segments_alike ss, sum_by-cons segment_size s ss, sum_by-cons own_size (segment_size s) (map segment_size ss))

abbrev shape_size : Shape → ℕ
shape_size s = 8 + length (schema_message s.0.1) + sum_by own_size s.1.0

table_shaped : (e : PlainEntry) → table_size e ≡ shape_size (shape e)
table_shaped e = ap (λ (n : ℕ). 8 + length (schema_message e.schema) + n) (segments_alike e.segments)

table_alike : (a b : PlainEntry) → shape a ≡ shape b → table_size a ≡ table_size b
table_alike a b same = omega (arith, table_shaped a, table_shaped b, ap shape_size same)

entry_alike : IsByShape entry_size
entry_alike a b same = omega (arith, table_alike a b same, ap (λ (s : Shape). length s.0.0) same)

module _ (c d : PlainCatalogue) (same : shapes c ≡ shapes d) where
  pub count_alike : segment_count c ≡ segment_count d
  count_alike = sum_alike segments_in (λ a b is. sym (length-map a.segments segment_size) ∙ ap (λ (s : Shape). length s.1.0) is ∙ length-map b.segments segment_size) c d same

  pub size_alike : list_size c ≡ list_size d
  size_alike = ap (λ (n : ℕ). 4 + n) (sum_alike entry_size entry_alike c d same)

  pub whole_alike : is_whole c ≡ is_whole d
  whole_alike = ap (λ (n : ℕ). nat_le n 512) size_alike

  pub kind_alike : kind_of c ≡ kind_of d
  kind_alike = ap (λ (t : Bool). if t then Whole else Pages) whole_alike

  root_alike : root_bytes c ≡ root_bytes d
  root_alike = ap (λ (n : ℕ). 4 + n) (sum_alike (λ (e : PlainEntry). 28 + length e.name) (λ a b is. ap (λ (s : Shape). 28 + length s.0.0) is) c d same)

  pub text_alike : text_size c ≡ text_size d
  text_alike = λ i. if whole_alike i then size_alike i else root_alike i

one_size : (e : PlainEntry) → map table_size (if_pageless e) ≡ elim e.page [ None ↦ table_size e ∷ [] | Some p ↦ [] ]
one_size e = by_page e.page
  where
    by_page : (o : Option Extent) → map table_size (elim o [ None ↦ e ∷ [] | Some p ↦ [] ]) ≡ elim o [ None ↦ table_size e ∷ [] | Some p ↦ [] ]
    by_page None = refl
    by_page (Some p) = refl

one_alike : (a b : PlainEntry) → shape a ≡ shape b → map table_size (if_pageless a) ≡ map table_size (if_pageless b)
one_alike a b same = one_size a ∙ (λ i. elim (same i).1.1 [ None ↦ table_alike a b same i ∷ [] | Some p ↦ [] ]) ∙ sym (one_size b)

pageless_alike : (c d : PlainCatalogue) → shapes c ≡ shapes d → map table_size (pageless c) ≡ map table_size (pageless d)
pageless_alike [] [] same = refl
pageless_alike [] (y ∷ ys) same = absurd (cc same)
pageless_alike (x ∷ xs) [] same = absurd (cc same)
pageless_alike (x ∷ xs) (y ∷ ys) same =
    let first : shape x ≡ shape y = cc same in
    let others : shapes xs ≡ shapes ys = cc same in
    map-append table_size (if_pageless x) (pageless xs) ∙ (λ i. one_alike x y first i ++ pageless_alike xs ys others i) ∙ sym (map-append table_size (if_pageless y) (pageless ys))

pub sizes_alike : (c d : PlainCatalogue) → shapes c ≡ shapes d → page_sizes c ≡ page_sizes d
sizes_alike c d same = λ i. if whole_alike c d same i then [] else pageless_alike c d same i

pages_alike : (c d : PlainCatalogue) → shapes c ≡ shapes d → flat_map (λ (e : PlainEntry). page_runs e.page) c ≡ flat_map (λ (e : PlainEntry). page_runs e.page) d
pages_alike [] [] same = refl
pages_alike [] (y ∷ ys) same = absurd (cc same)
pages_alike (x ∷ xs) [] same = absurd (cc same)
pages_alike (x ∷ xs) (y ∷ ys) same =
    let first : shape x ≡ shape y = cc same in
    let others : shapes xs ≡ shapes ys = cc same in
    λ i. page_runs (first i).1.1 ++ pages_alike xs ys others i

pub dropped_alike : (c d : PlainCatalogue) → shapes c ≡ shapes d → dropped_pages c ≡ dropped_pages d
dropped_alike c d same = λ i. if whole_alike c d same i then pages_alike c d same i else []
