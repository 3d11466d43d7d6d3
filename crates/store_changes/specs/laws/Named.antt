-- The tables of a catalogue by their names: what is looked up in the catalogue is what the tables have.
use Rattle.std.specs.Prelude.{◌≡◌, ℕ, Bool, true, false, cond, nat_le, List, [], ◌∷◌, Option, Some, None, Result, Ok, Err, if◌then◌else◌, refl}
use Rattle.std.proofs.Common.{sym, ap, ◌∙◌}
use Rattle.std.proofs.lemmas.Cmp.{nat_list_cmp_total}
use Rattle.std.proofs.lemmas.Map.Text.{is_eq-slice_cmp}
use Rattle.std.specs.Str.{bytes_eq}
use Rattle.std.specs.Cmp.{eq_by_cmp_equiv}
use Rattle.std.specs.Cmp.Lexicographic.{slice_cmp}
use Rattle.std.specs.Ordering.{nat_cmp, eq_by_cmp}
use Rattle.std.specs.FinMap as maps
use Rattle.sector_dev.specs.Disk.{Image}
use Rattle.arrow_schema.specs.Column.{PlainSchema}
use Rattle.cells.specs.Cell.{Cell, PlainTable}
use Rattle.cells.specs.Weight.{table_weight}
use Rattle.cells.specs.declared.limits.TheConstants.{MAX_TABLE_WEIGHT}
use Rattle.values.specs.Table.{Refusal, too_heavy, first_unfit, weighed, table_from}
use Rattle.catalogue.specs.Entries.{PlainEntry, PlainCatalogue}
use Rattle.catalogue.specs.Edits.{entry_of}
use Rattle.tables.specs.Tables.{Tables, no_tables, table_at, with_table}
use Rattle.store_runs.specs.Held.{rows_held, table_where, table_of_rows, table_held, with_held, tables_held}

-- the table that an entry is, where there is one
abbrev pub held_at : Image → Option PlainEntry → Option PlainTable
held_at image None = None
held_at image (Some entry) = table_held image entry

-- ---- by name

name_test : (own name : List ℕ) → eq_by_cmp (slice_cmp nat_cmp) name own ≡ bytes_eq own name
name_test own name = (eq_by_cmp_equiv nat_list_cmp_total).symm name own ∙ is_eq-slice_cmp own name

pub table_named : (image : Image) (c : PlainCatalogue) (t : Tables) → tables_held image c ≡ Some t → (name : List ℕ) → table_at t name ≡ held_at image (entry_of c name)
unfolding tables_held
table_named image [] t is name = let empty : t ≡ no_tables = cc is in ap (λ (x : Tables). table_at x name) empty ∙ maps.get-empty (slice_cmp nat_cmp) name
table_named image (e ∷ es) t is name = by_parts (table_held image e) (tables_held image es) refl refl is (λ u r. table_named image es u r name)
  where
    by_parts : (o : Option PlainTable) (rest : Option Tables) → table_held image e ≡ o → tables_held image es ≡ rest → with_held e.name o rest ≡ Some t
        → ((u : Tables) → tables_held image es ≡ Some u → table_at u name ≡ held_at image (entry_of es name)) → table_at t name ≡ held_at image (entry_of (e ∷ es) name)
    by_parts None rest o r h more = absurd (cc h)
    by_parts (Some table) None o r h more = absurd (cc h)
    by_parts (Some table) (Some u) o r h more =
        let same : t ≡ with_table u e.name table = cc h in
        ap (λ (x : Tables). table_at x name) same ∙ maps.get-insert nat_list_cmp_total u e.name table name ∙ ap (λ (b : Bool). cond b (Some table) (table_at u name)) (name_test e.name name)
        ∙ elim (bytes_eq e.name name) as (λ b. cond b (Some table) (table_at u name) ≡ held_at image (cond b (Some e) (entry_of es name))) [ true ↦ sym o | false ↦ more u r ]

-- an entry that stands has a table
pub entry_has : (image : Image) (c : PlainCatalogue) (t : Tables) → tables_held image c ≡ Some t → (name : List ℕ) (e : PlainEntry) → entry_of c name ≡ Some e
    → (table : PlainTable) × (table_held image e ≡ Some table) × (table_at t name ≡ Some table)
unfolding tables_held
entry_has image [] t is name e found = absurd (cc found)
entry_has image (x ∷ xs) t is name e found =
    by_parts (table_held image x) (tables_held image xs) refl refl is (λ u r h. let rest = entry_has image xs u r name e h in (rest.0, rest.1))
  where
    by_name : (b : Bool) (table : PlainTable) (u : Tables) → table_held image x ≡ Some table → tables_held image xs ≡ Some u → cond b (Some x) (entry_of xs name) ≡ Some e
        → ((v : Tables) → tables_held image xs ≡ Some v → entry_of xs name ≡ Some e → (own : PlainTable) × (table_held image e ≡ Some own)) → (own : PlainTable) × (table_held image e ≡ Some own)
    by_name true table u o r h more = let same : x ≡ e = cc h in (table, ap (table_held image) (sym same) ∙ o)
    by_name false table u o r h more = more u r h

    by_parts : (o : Option PlainTable) (rest : Option Tables) → table_held image x ≡ o → tables_held image xs ≡ rest → with_held x.name o rest ≡ Some t
        → ((v : Tables) → tables_held image xs ≡ Some v → entry_of xs name ≡ Some e → (own : PlainTable) × (table_held image e ≡ Some own))
        → (table : PlainTable) × (table_held image e ≡ Some table) × (table_at t name ≡ Some table)
    by_parts None rest o r h more = absurd (cc h)
    by_parts (Some table) None o r h more = absurd (cc h)
    by_parts (Some table) (Some u) o r h more =
        let own = by_name (bytes_eq x.name name) table u o r found more in
        (own.0, own.1, table_named image (x ∷ xs) t is name ∙ ap (held_at image) found ∙ own.1)

-- and where none stands there is none
pub entry_lacks : (image : Image) (c : PlainCatalogue) (t : Tables) → tables_held image c ≡ Some t → (name : List ℕ) → entry_of c name ≡ None → table_at t name ≡ None
entry_lacks image c t is name none = table_named image c t is name ∙ ap (held_at image) none

-- ---- schemas and rows

-- the rows of a schema as a table, unless they are too heavy
abbrev unless_heavy : PlainSchema → List (List Cell) → Bool → Result PlainTable Refusal
unless_heavy schema rows light = if light then Ok (record { schema = schema; rows = rows }) else Err too_heavy

-- the table of some rows has this schema and these rows
pub made_of : (schema : PlainSchema) (rows : List (List Cell)) (table : PlainTable) → table_of_rows schema (Some rows) ≡ Some table → table ≡ record { schema = schema; rows = rows }
unfolding table_from
made_of schema rows table is = by_first (first_unfit schema rows) is
  where
    by_weight : (b : Bool) → table_where (unless_heavy schema rows b) ≡ Some table → table ≡ record { schema = schema; rows = rows }
    by_weight true h = cc h
    by_weight false h = absurd (cc h)

    by_first : (o : Option ℕ) → table_where (weighed schema rows o) ≡ Some table → table ≡ record { schema = schema; rows = rows }
    by_first (Some i) h = absurd (cc h)
    by_first None h = by_weight (nat_le (table_weight schema rows) MAX_TABLE_WEIGHT) h

pub held_has : (image : Image) (e : PlainEntry) (table : PlainTable) → table_held image e ≡ Some table
    → (rows : List (List Cell)) × (rows_held e.schema e.segments image ≡ Some rows) × (table ≡ record { schema = e.schema; rows = rows })
held_has image e table is = by_rows (rows_held e.schema e.segments image) refl is
  where
    by_rows : (o : Option (List (List Cell))) → rows_held e.schema e.segments image ≡ o → table_of_rows e.schema o ≡ Some table
        → (rows : List (List Cell)) × (rows_held e.schema e.segments image ≡ Some rows) × (table ≡ record { schema = e.schema; rows = rows })
    by_rows None r h = absurd (cc h)
    by_rows (Some rows) r h = (rows, r, made_of e.schema rows table h)
