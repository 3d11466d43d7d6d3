-- Tests by a catalogue are those by the tables that it lists.
use Rattle.std.specs.Prelude.{◌&&◌, nat_le, is_some, not}
use Rattle.std.specs.List.{AllByRecursion}
use Rattle.std.proofs.Common.{◌≡◌, ℕ, Bool, true, false, List, [], ◌∷◌, length, ◌^◌, ◌<◌, ◌≤◌, Option, Some, None, Result, Ok, Err, refl, sym, ap, ◌∙◌, arith}
use Rattle.std.proofs.lemmas.Bool.{leb-false}
use Rattle.facts.specs.Checks.{when, first_some, unless}
use Rattle.catalogue.specs.Entries as entries
use Rattle.catalogue.specs.Entries.{PlainEntry, PlainCatalogue}
use Rattle.catalogue.specs.Entries.{IsCatalogue}
use Rattle.catalogue.specs.Edits.{entry_of, with_entry}
use Rattle.catalogue.specs.Counts.{HasMore, HasSame}
use Rattle.values.specs.Table.{table_from, first_unfit}
use Rattle.arrow_schema.specs.Limits.{IsWithinLimits}
use Rattle.ipc_message.specs.declared.fault.Fault.{Fault}
use Rattle.ipc_message.specs.Header.{supported_codes}
use Rattle.table_cut.specs.Piece.{pieces_of}
use Rattle.ipc_stream.specs.Meaning.{meaning}
use Rattle.ipc_canonical.specs.PieceStreams.{piece_streams, piece_counts}
use Rattle.ipc_encode.specs.Pieces.{IsPiece}
use Rattle.store_changes.specs.laws.Pieces.{pieces_each, pieces_some, pieces_few}
use Rattle.ipc_message.specs.laws.Accepted.{first_none}
use Rattle.store_runs.specs.Changes.{put, move, remove, HasEntry, IsEdit, IsChange, new_entry, rows_under}
use Rattle.cells.specs.Cell.{PlainTable}
use Rattle.arrow_schema.specs.Column.{PlainSchema}
use Rattle.catalogue.specs.declared.limits.TheConstants.{MAX_TABLES}
use Rattle.tables.specs.declared.refusal.Limit.TheVariants as limits
use Rattle.tables.specs.declared.refusal.Refusal.{Refusal}
use Rattle.tables.specs.declared.refusal.Refusal.TheVariants.{NoTable, NameTaken, BadName, TooMany}
use Rattle.tables.specs.Commands.{create, import_stream, rename, drop_table}
use Rattle.tables.specs.Tables.{Tables, table_at, has_table, with_table, without_table}
use Rattle.tables.specs.Verdict.{put as tables_put}
use Rattle.tables.specs.Verdict.{bad_name, name_taken, too_many_tables, too_many_bytes, of_table, of_meaning, empty_table, renamed, dropped, verdict, import_tests}
use Rattle.store_changes.specs.Verdicts.{TellsTable, Lists}
use Rattle.store_runs.specs.Deciding.{has_entry, missing_in, taken_in, full_in, create_tests, rename_tests}

-- ---- what the tables have

has_by : (o : Option PlainEntry) (found : Option PlainTable) → TellsTable o found → is_some found ≡ is_some o
has_by None found tells = ap is_some tells
has_by (Some e) found tells = ap is_some tells.1

pub has_same : (c : PlainCatalogue) (t : Tables) (name : List ℕ) → Lists c t → has_table t name ≡ has_entry c name
has_same c t name lists = has_by (entry_of c name) (table_at t name) (lists.each name)

pub taken_same : (c : PlainCatalogue) (t : Tables) (name : List ℕ) → Lists c t → name_taken t name ≡ taken_in c name
taken_same c t name lists = ap (λ (b : Bool). when b NameTaken) (has_same c t name lists)

pub full_same : (c : PlainCatalogue) (t : Tables) (name : List ℕ) → Lists c t → too_many_tables t name ≡ full_in c name
full_same c t name lists = λ i. when (not (has_same c t name lists i) && nat_le MAX_TABLES (lists.count i)) (TooMany limits.Tables)

-- ---- create

pub create_same : (c : PlainCatalogue) (t : Tables) (name : List ℕ) (schema : PlainSchema) → Lists c t
    → verdict t (create name schema) ≡ unless (create_tests c name) (Ok (with_table t name (empty_table schema)))
unfolding verdict
create_same c t name schema lists =
    λ i. unless (first_some (bad_name name ∷ taken_same c t name lists i ∷ full_same c t name lists i ∷ [])) (Ok (with_table t name (empty_table schema)))

-- ---- rename

pub rename_by : (c : PlainCatalogue) (t : Tables) (from to : List ℕ) (r : Refusal) → Lists c t → (o : Option PlainTable) → table_at t from ≡ o → rename_tests c from to ≡ Some r
    → verdict t (rename from to) ≡ Err r
unfolding verdict
rename_by c t from to r lists None e h =
    let none : has_entry c from ≡ false = sym (has_same c t from lists) ∙ ap is_some e in
    let first : Some NoTable ≡ Some r = sym (λ i. first_some (when (not (none i)) NoTable ∷ bad_name to ∷ taken_in c to ∷ [])) ∙ h in
    let is : NoTable ≡ r = cc first in
    ap (λ (o : Option PlainTable). of_table o (renamed t from to)) e ∙ ap Err is
rename_by c t from to r lists (Some table) e h =
    let there : has_entry c from ≡ true = sym (has_same c t from lists) ∙ ap is_some e in
    let later : first_some (bad_name to ∷ name_taken t to ∷ []) ≡ Some r =
    (λ i. first_some (bad_name to ∷ taken_same c t to lists i ∷ [])) ∙ sym (λ i. first_some (when (not (there i)) NoTable ∷ bad_name to ∷ taken_in c to ∷ [])) ∙ h in
    ap (λ (o : Option PlainTable). of_table o (renamed t from to)) e
    ∙ ap (λ (o : Option Refusal). unless o (Ok (with_table (without_table t from) to table))) later

-- a table that is there
abbrev pub IsThere : Tables → List ℕ → Type 0
IsThere t name = (table : PlainTable) × (table_at t name ≡ Some table)

there_by : (o : Option PlainTable) → is_some o ≡ true → (table : PlainTable) × (o ≡ Some table)
there_by None h = absurd (cc h)
there_by (Some table) h = (table, refl)

pub there_in : (c : PlainCatalogue) (t : Tables) (name : List ℕ) → Lists c t → has_entry c name ≡ true → IsThere t name
there_in c t name lists h = there_by (table_at t name) (has_same c t name lists ∙ h)

-- what the tests of names say where they pass
missing_none : (b : Bool) → when (not b) NoTable ≡ None → b ≡ true
missing_none true h = refl
missing_none false h = absurd (cc h)

taken_none : (b : Bool) → when b NameTaken ≡ None → b ≡ false
taken_none false h = refl
taken_none true h = absurd (cc h)

bad_none : (b : Bool) → when (not b) BadName ≡ None → b ≡ true
bad_none true h = refl
bad_none false h = absurd (cc h)

pub name_passed : (name : List ℕ) → bad_name name ≡ None → entries.is_name name ≡ true
name_passed name h = bad_none (entries.is_name name) h

pub there_passed : (c : PlainCatalogue) (name : List ℕ) → missing_in c name ≡ None → has_entry c name ≡ true
there_passed c name h = missing_none (has_entry c name) h

pub entry_none : (o : Option PlainEntry) → is_some o ≡ false → o ≡ None
entry_none None h = refl
entry_none (Some e) h = absurd (cc h)

pub entry_some : (o : Option PlainEntry) → is_some o ≡ true → (e : PlainEntry) × (o ≡ Some e)
entry_some None h = absurd (cc h)
entry_some (Some e) h = (e, refl)

pub entry_there : (c : PlainCatalogue) (name : List ℕ) → has_entry c name ≡ true → HasEntry c name
entry_there c name h = entry_some (entry_of c name) h

pub record RenamePassed (c : PlainCatalogue) (from to : List ℕ) : Type 0 where
  pub there : has_entry c from ≡ true
  pub name : entries.is_name to ≡ true
  pub free : entry_of c to ≡ None
  pub later : first_some (bad_name to ∷ taken_in c to ∷ []) ≡ None

pub rename_passed : (c : PlainCatalogue) (from to : List ℕ) → rename_tests c from to ≡ None → RenamePassed c from to
rename_passed c from to h =
    let one = first_none (missing_in c from) (bad_name to ∷ taken_in c to ∷ []) h in
    let two = first_none (bad_name to) (taken_in c to ∷ []) one.1 in
    let three = first_none (taken_in c to) [] two.1 in
    record {
      there = there_passed c from one.0;
      name = name_passed to two.0;
      free = entry_none (entry_of c to) (taken_none (has_entry c to) three.0);
      later = one.1;
    }

pub rename_made : (c : PlainCatalogue) (t : Tables) (from to : List ℕ) → Lists c t → RenamePassed c from to
    → (table : PlainTable) × (table_at t from ≡ Some table) × (verdict t (rename from to) ≡ Ok (with_table (without_table t from) to table))
unfolding verdict
rename_made c t from to lists passed =
    let table = there_in c t from lists passed.there in
    let later : first_some (bad_name to ∷ name_taken t to ∷ []) ≡ None = (λ i. first_some (bad_name to ∷ taken_same c t to lists i ∷ [])) ∙ passed.later in (
      table.0,
      table.1,
      ap (λ (o : Option PlainTable). of_table o (renamed t from to)) table.1 ∙ ap (λ (o : Option Refusal). unless o (Ok (with_table (without_table t from) to table.0))) later,
    )

pub rename_is_change : (c : PlainCatalogue) (from to : List ℕ) → RenamePassed c from to → IsChange c (record { edit = move from to; streams = []; counts = [] })
rename_is_change c from to passed = record {
  edit = (passed.name, passed.free, entry_there c from passed.there, refl);
  each = refl;
  some = tt;
  short = tt;
  rows = refl;
}

-- ---- drop

pub drop_by : (c : PlainCatalogue) (t : Tables) (name : List ℕ) (r : Refusal) → Lists c t → (o : Option PlainTable) → table_at t name ≡ o → missing_in c name ≡ Some r → verdict t (drop_table name) ≡ Err r
unfolding verdict
drop_by c t name r lists None e h =
    let none : has_entry c name ≡ false = sym (has_same c t name lists) ∙ ap is_some e in
    let first : Some NoTable ≡ Some r = sym (ap (λ (b : Bool). when (not b) NoTable) none) ∙ h in
    let is : NoTable ≡ r = cc first in
    ap (λ (o : Option PlainTable). of_table o (dropped t name)) e ∙ ap Err is
drop_by c t name r lists (Some table) e h =
    let there : has_entry c name ≡ true = sym (has_same c t name lists) ∙ ap is_some e in
    let none : None ≡ Some r = sym (ap (λ (b : Bool). when (not b) NoTable) there) ∙ h in
    absurd (cc none)

pub drop_is_change : (c : PlainCatalogue) (name : List ℕ) → missing_in c name ≡ None → IsChange c (record { edit = remove name; streams = []; counts = [] })
drop_is_change c name h = record { edit = (entry_there c name (there_passed c name h), refl); each = refl; some = tt; short = tt; rows = refl }

pub drop_made : (c : PlainCatalogue) (t : Tables) (name : List ℕ) → Lists c t → missing_in c name ≡ None → verdict t (drop_table name) ≡ Ok (without_table t name)
unfolding verdict
drop_made c t name lists h =
    let table = there_in c t name lists (there_passed c name h) in
    ap (λ (o : Option PlainTable). of_table o (dropped t name)) table.1

-- ---- a table that is put

-- the clauses of counts_after_changes
pub record Counts (c : PlainCatalogue) : Type 0 where
  pub more : (e : PlainEntry) → HasMore c e (with_entry c e)
  pub same : (e old : PlainEntry) → IsCatalogue c → entry_of c e.name ≡ Some old → HasSame c old e (with_entry c e)

full_none : (n : ℕ) → when (nat_le MAX_TABLES n) (TooMany limits.Tables) ≡ None → n < MAX_TABLES
full_none n h = by_test (nat_le MAX_TABLES n) refl h
  where
    by_test : (b : Bool) → nat_le MAX_TABLES n ≡ b → when b (TooMany limits.Tables) ≡ None → n < MAX_TABLES
    by_test true e h = absurd (cc h)
    by_test false e h = leb-false MAX_TABLES n e

room_by : (c : PlainCatalogue) (e : PlainEntry) (o : Option PlainEntry) → entry_of c e.name ≡ o → Counts c → IsCatalogue c → full_in c e.name ≡ None → length (with_entry c e) ≤ MAX_TABLES
room_by c e None is counts sound h =
    let none : has_entry c e.name ≡ false = ap is_some is in
    let few = full_none (length c) (sym (ap (λ (b : Bool). when (not b && nat_le MAX_TABLES (length c)) (TooMany limits.Tables)) none) ∙ h) in
    omega (arith, few, (counts.more e).tables)
room_by c e (Some old) is counts sound h = omega (arith, sound.tables, (counts.same e old sound is).tables)

-- a name and a schema may be put where there is room
pub put_is_edit : (c : PlainCatalogue) (name : List ℕ) (schema : PlainSchema) (streams : List (List ℕ)) → Counts c → IsCatalogue c → bad_name name ≡ None → full_in c name ≡ None
    → IsWithinLimits schema → IsEdit c (put name schema) streams
put_is_edit c name schema streams counts sound named room within =
    (name_passed name named, within, room_by c (new_entry name schema [] None) (entry_of c name) refl counts sound room)

pub record CreatePassed (c : PlainCatalogue) (name : List ℕ) : Type 0 where
  pub named : bad_name name ≡ None
  pub room : full_in c name ≡ None

pub create_names : (c : PlainCatalogue) (name : List ℕ) → create_tests c name ≡ None → CreatePassed c name
create_names c name h =
    let one = first_none (bad_name name) (taken_in c name ∷ full_in c name ∷ []) h in
    let two = first_none (taken_in c name) (full_in c name ∷ []) one.1 in
    let three = first_none (full_in c name) [] two.1 in
    record { named = one.0; room = three.0 }

-- no rows are a table of any schema
pub empty_rows : (schema : PlainSchema) → table_from schema [] ≡ Ok (rows_under schema [])
unfolding table_from first_unfit
empty_rows schema = refl

-- ---- import

pub import_by : (t : Tables) (name bytes : List ℕ) (o : Option Refusal) (m : Result PlainTable Fault) → import_tests name bytes ≡ o → meaning supported_codes bytes ≡ m
    → verdict t (import_stream name bytes) ≡ unless o (of_meaning m (tables_put t name))
unfolding verdict
import_by t name bytes o m tested means = λ i. unless (tested i) (of_meaning (means i) (tables_put t name))

-- what is put with the streams of a table's pieces is a change
pub table_is_change : (c : PlainCatalogue) (name : List ℕ) (table : PlainTable) → Counts c → IsCatalogue c → bad_name name ≡ None → full_in c name ≡ None
    → IsWithinLimits table.schema → AllByRecursion (IsPiece table.schema) (pieces_of table)
    → AllByRecursion (λ (stream : List ℕ). length stream < 2 ^ 64) (piece_streams table)
    → IsChange c (record { edit = put name table.schema; streams = piece_streams table; counts = piece_counts table })
table_is_change c name table counts sound named room within pieces short = record {
  edit = put_is_edit c name table.schema (piece_streams table) counts sound named room within;
  each = pieces_each table;
  some = pieces_some table pieces;
  short = short;
  rows = pieces_few table pieces;
}

-- the name passed the tests of an import
pub import_named : (name bytes : List ℕ) → import_tests name bytes ≡ None → bad_name name ≡ None
import_named name bytes h = (first_none (bad_name name) (too_many_bytes bytes ∷ []) h).0
