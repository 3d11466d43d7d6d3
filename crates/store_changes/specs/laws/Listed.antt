-- A catalogue lists the tables that an image holds of it: their names in order, their schemas and how many rows they have.
use Rattle.std.specs.Prelude.{◌≡◌, ℕ, suc, true, List, [], ◌∷◌, ◌++◌, length, map, Option, Some, None, refl}
use Rattle.std.specs.List.{sum_by}
use Rattle.std.proofs.Common.{sym, ap, subst, ◌∙◌, arith}
use Rattle.std.proofs.lemmas.Bool.{and_parts}
use Rattle.std.proofs.lemmas.List.{length-append, nil_from_length}
use Rattle.std.proofs.lemmas.List.Sums.{sum_by-cons}
use Rattle.std.proofs.lemmas.Cmp.{nat_list_cmp_total}
use Rattle.std.specs.declared.cmp.Ordering.TheVariants.{Less}
use Rattle.std.specs.Cmp.Lexicographic.{slice_cmp}
use Rattle.std.specs.Ordering.{nat_cmp}
use Rattle.std.specs.FinMap as maps
use Rattle.sector_dev.specs.Disk.{Image}
use Rattle.arrow_schema.specs.Column.{PlainSchema}
use Rattle.cells.specs.Cell.{Cell, PlainTable}
use Rattle.catalogue.specs.declared.entry.Segment.{Segment}
use Rattle.catalogue.specs.Entries.{PlainEntry, PlainCatalogue, names_of, comes_before, ascends, row_count, IsCatalogue}
use Rattle.catalogue.specs.Edits.{entry_of, tables_of}
use Rattle.catalogue.specs.laws.Order.{less_is}
use Rattle.tables.specs.Tables.{Tables, no_tables, table_at, with_table, table_count, row_counts}
use Rattle.store_runs.specs.Held.{bytes_of, segment_rows, joined_rows, rows_held, table_held, with_held, tables_held}
use Rattle.store_runs.specs.laws.Known.{bytes_counted}
use Rattle.store_changes.specs.Verdicts.{TellsTable, Lists}
use Rattle.store_changes.specs.laws.Digests.{rows_come}
use Rattle.store_changes.specs.laws.Named.{entry_has, entry_lacks, held_has}

-- ---- how many rows there are

pub segments_counted : (schema : PlainSchema) (segments : List Segment) (image : Image) (rows : List (List Cell)) → rows_held schema segments image ≡ Some rows
    → length rows ≡ sum_by (λ (s : Segment). s.rows) segments
unfolding rows_held segment_rows
segments_counted schema [] image rows is = let none : [] ≡ rows = cc is in ap length (sym none)
segments_counted schema (g ∷ gs) image rows is = by_parts (segment_rows schema g image) (rows_held schema gs image) refl refl is (λ ys o. segments_counted schema gs image ys o)
  where
    by_parts : (first others : Option (List (List Cell))) → segment_rows schema g image ≡ first → rows_held schema gs image ≡ others → joined_rows first others ≡ Some rows
        → ((ys : List (List Cell)) → rows_held schema gs image ≡ Some ys → length ys ≡ sum_by (λ (s : Segment). s.rows) gs) → length rows ≡ sum_by (λ (s : Segment). s.rows) (g ∷ gs)
    by_parts None others f o h later = absurd (cc h)
    by_parts (Some xs) None f o h later = absurd (cc h)
    by_parts (Some xs) (Some ys) f o h later =
        let whole : xs ++ ys ≡ rows = cc h in
        let one = bytes_counted schema g.rows (bytes_of g image) xs (rows_come schema g (bytes_of g image) xs f).1 in
        let more = later ys o in
        ap length (sym whole) ∙ omega (arith, length-append xs ys, sum_by-cons (λ (s : Segment). s.rows) g gs, one, more)

rows_of_entry : (image : Image) (e : PlainEntry) (table : PlainTable) → table_held image e ≡ Some table → (table.schema ≡ e.schema) × (length table.rows ≡ row_count e)
rows_of_entry image e table is =
    let held = held_has image e table is in
    (ap (λ (t : PlainTable). t.schema) held.2, ap (λ (t : PlainTable). length t.rows) held.2 ∙ segments_counted e.schema e.segments image held.0 held.1)

-- ---- the entries of the tables

-- these are the tables of a catalogue, in its order
abbrev AreHeld : Image → PlainCatalogue → List (List ℕ × PlainTable) → Type 0
AreHeld image [] xs = xs ≡ []
AreHeld image (e ∷ es) [] = ⊥
AreHeld image (e ∷ es) (x ∷ xs) = (x.0 ≡ e.name) × (table_held image e ≡ Some x.1) × AreHeld image es xs

-- a name that comes before the others stands before them
put_first : (image : Image) (c : PlainCatalogue) (name : List ℕ) (table : PlainTable) (xs : List (List ℕ × PlainTable)) → comes_before name (names_of c) ≡ true → AreHeld image c xs
    → maps.put (slice_cmp nat_cmp) name table xs ≡ (name, table) ∷ xs
put_first image [] name table xs first held = ap (maps.put (slice_cmp nat_cmp) name table) held ∙ ap (λ (ys : List (List ℕ × PlainTable)). (name, table) ∷ ys) (sym held)
put_first image (e ∷ es) name table [] first held = absurd held
put_first image (e ∷ es) name table (x ∷ xs) first held =
    let less : slice_cmp nat_cmp name x.0 ≡ Less = ap (slice_cmp nat_cmp name) held.0 ∙ less_is (slice_cmp nat_cmp name e.name) first in
    rw less refl

entries_held : (image : Image) (c : PlainCatalogue) (t : Tables) → ascends (names_of c) ≡ true → tables_held image c ≡ Some t → AreHeld image c (maps.entries t)
unfolding tables_held
entries_held image [] t rises is = let empty : t ≡ no_tables = cc is in ap maps.entries empty ∙ nil_from_length (maps.entries no_tables) (sym (maps.len-entries no_tables) ∙ maps.len-empty (slice_cmp nat_cmp) PlainTable)
entries_held image (e ∷ es) t rises is = by_parts (table_held image e) (tables_held image es) refl refl is (λ u r. entries_held image es u parts.1 r)
  where
    parts : (comes_before e.name (names_of es) ≡ true) × (ascends (names_of es) ≡ true)
    parts = and_parts (comes_before e.name (names_of es)) (ascends (names_of es)) rises

    by_parts : (o : Option PlainTable) (rest : Option Tables) → table_held image e ≡ o → tables_held image es ≡ rest → with_held e.name o rest ≡ Some t
        → ((u : Tables) → tables_held image es ≡ Some u → AreHeld image es (maps.entries u)) → AreHeld image (e ∷ es) (maps.entries t)
    by_parts None rest o r h later = absurd (cc h)
    by_parts (Some table) None o r h later = absurd (cc h)
    by_parts (Some table) (Some u) o r h later =
        let same : t ≡ with_table u e.name table = cc h in
        let others = later u r in
        let front : maps.entries t ≡ (e.name, table) ∷ maps.entries u = ap maps.entries same ∙ maps.entries-insert nat_list_cmp_total u e.name table ∙ put_first image es e.name table (maps.entries u) parts.0 others in
        subst (AreHeld image (e ∷ es)) (sym front) (refl, o, others)

-- ---- names and rows

counts_held : (image : Image) (c : PlainCatalogue) (xs : List (List ℕ × PlainTable)) → AreHeld image c xs → map (λ (x : List ℕ × PlainTable). (x.0, length x.1.rows)) xs ≡ tables_of c
counts_held image [] xs held = ap (map (λ (x : List ℕ × PlainTable). (x.0, length x.1.rows))) held
counts_held image (e ∷ es) [] held = absurd held
counts_held image (e ∷ es) (x ∷ xs) held =
    let rows = (rows_of_entry image e x.1 held.1).1 in
    let others = counts_held image es xs held.2 in
    λ i. (held.0 i, rows i) ∷ others i

-- the names of the tables and their rows, in order
pub held_counts : (image : Image) (c : PlainCatalogue) (t : Tables) → IsCatalogue c → tables_held image c ≡ Some t → row_counts t ≡ tables_of c
held_counts image c t catalogue is = counts_held image c (maps.entries t) (entries_held image c t catalogue.order is)

-- as many tables as entries
pub count_held : (image : Image) (c : PlainCatalogue) (t : Tables) → ascends (names_of c) ≡ true → tables_held image c ≡ Some t → table_count t ≡ length c
count_held image c t rises is = maps.len-entries t ∙ many c (maps.entries t) (entries_held image c t rises is)
  where
    many : (c : PlainCatalogue) (xs : List (List ℕ × PlainTable)) → AreHeld image c xs → length xs ≡ length c
    many [] xs held = ap length held
    many (e ∷ es) [] held = absurd held
    many (e ∷ es) (x ∷ xs) held = ap suc (many es xs held.2)

-- what the catalogue says of each name
tells_table : (image : Image) (c : PlainCatalogue) (t : Tables) → tables_held image c ≡ Some t → (name : List ℕ) → TellsTable (entry_of c name) (table_at t name)
tells_table image c t is name = by_entry (entry_of c name) refl
  where
    by_entry : (o : Option PlainEntry) → entry_of c name ≡ o → TellsTable o (table_at t name)
    by_entry None found = entry_lacks image c t is name found
    by_entry (Some e) found =
        let own = entry_has image c t is name e found in
        let rows = rows_of_entry image e own.0 own.1 in
        (own.0, own.2, rows.0, rows.1)

pub held_lists : (image : Image) (c : PlainCatalogue) (t : Tables) → IsCatalogue c → tables_held image c ≡ Some t → Lists c t
held_lists image c t catalogue is = record { each = tells_table image c t is; count = count_held image c t catalogue.order is }
