-- The rows of a table after the commands of an archive.
use Rattle.std.proofs.Common.{◌≡◌, ◌∙◌, ◌++◌, ℕ, List, [], ◌∷◌, Some, None, Ok, Err, map, append_assoc, append-nil, refl, sym, ap, subst, arith}
use Rattle.std.specs.Prelude.{Option, Result}
use Rattle.facts.specs.Checks.{unless}
use Rattle.arrow_schema.specs.Column.{PlainSchema}
use Rattle.arrow_schema.specs.Limits.{IsWithinLimits}
use Rattle.cells.specs.Cell.{Cell, PlainTable}
use Rattle.values.specs.Table.{IsTable}
use Rattle.ipc_message.specs.Header.{supported_codes}
use Rattle.ipc_message.specs.declared.fault.Fault.{Fault}
use Rattle.ipc_stream.specs.Meaning.{meaning}
use Rattle.ipc_canonical.specs.Canonical.{canonical}
use Rattle.table_archive.specs.declared.manifest.ListedSegment.{ListedSegment}
use Rattle.table_archive.specs.Archive.{AreStreamsOf}
use Rattle.table_archive.specs.Manifest.{PlainListed, empty_stream}
use Rattle.tables.specs.declared.refusal.Refusal.{Refusal}
use Rattle.tables.specs.Commands.{PlainCommand, PlainCommands, import_stream, append_stream, all_of, no_command, and_command, commands_of}
use Rattle.tables.specs.Tables.{Tables, table_at, with_table}
use Rattle.tables.specs.Verdict.{too_many_bytes, too_many_tables, import_tests, other_shape, of_table, of_meaning, put, appended, appended_table}
use Rattle.tables.specs.Verdict.{appended_stream, joined, empty_table, verdict, verdict_in_turn}
use Rattle.tables.specs.laws.Maps.{found_here}
use Rattle.tables.specs.laws.Steps.{passed}
use Rattle.store.specs.Receiving.{Append, ArePart}
use Rattle.store.specs.ReceivedRows.{MeanRows, HasRowsBehind}

-- ---- what a verdict is

appends : (t : Tables) (name bytes : List ℕ) → verdict t (append_stream name bytes) ≡ of_table (table_at t name) (appended_stream t name bytes)
unfolding verdict
appends t name bytes = refl

imports : (t : Tables) (name bytes : List ℕ) → verdict t (import_stream name bytes)
    ≡ unless (import_tests name bytes) (of_meaning (meaning supported_codes bytes) (put t name))
unfolding verdict
imports t name bytes = refl

in_turn : (t : Tables) (cs : PlainCommands) → verdict t (all_of cs) ≡ verdict_in_turn t cs
unfolding verdict
in_turn t cs = refl

none_in_turn : (t : Tables) → verdict_in_turn t no_command ≡ Ok t
unfolding verdict
none_in_turn t = refl

abbrev after_one : PlainCommands → Result Tables Refusal → Result Tables Refusal
after_one cs (Err r) = Err r
after_one cs (Ok u) = verdict_in_turn u cs

more_in_turn : (t : Tables) (c : PlainCommand) (cs : PlainCommands) → verdict_in_turn t (and_command c cs) ≡ after_one cs (verdict t c)
unfolding verdict
more_in_turn t c cs = by_result (verdict t c)
  where
    by_result : (r : Result Tables Refusal) → elim r [ Err e ↦ Err e | Ok u ↦ verdict_in_turn u cs ] ≡ after_one cs r
    by_result (Err e) = refl
    by_result (Ok u) = refl

unless_passed : (o : Option Refusal) (r : Result Tables Refusal) (u : Tables) → unless o r ≡ Ok u → r ≡ Ok u
unless_passed None r u is = is
unless_passed (Some e) r u is = absurd (cc is)

-- ---- one command

pub record Joins (t u : Tables) (name bytes : List ℕ) (table : PlainTable) : Type 0 where
  new : PlainTable
  means : meaning supported_codes bytes ≡ Ok new
  there : table_at u name ≡ Some (joined table new.rows)

appended_one : (t u : Tables) (name bytes : List ℕ) (table : PlainTable) → table_at t name ≡ Some table → verdict t (append_stream name bytes) ≡ Ok u
    → Joins t u name bytes table
appended_one t u name bytes table found is = by_meaning (meaning supported_codes bytes) refl
  where
    one : of_meaning (meaning supported_codes bytes) (appended_table t name table) ≡ Ok u
    one = unless_passed (too_many_bytes bytes) _ u (subst (λ (o : Option PlainTable). of_table o (appended_stream t name bytes) ≡ Ok u) found
        (sym (appends t name bytes) ∙ is))

    by_meaning : (r : Result PlainTable Fault) → meaning supported_codes bytes ≡ r → Joins t u name bytes table
    by_meaning (Err fault) means =
        let no : of_meaning (Err fault) (appended_table t name table) ≡ Ok u =
        subst (λ (x : Result PlainTable Fault). of_meaning x (appended_table t name table) ≡ Ok u) means one in
        absurd (cc no)
    by_meaning (Ok new) means =
        let two : appended_table t name table new ≡ Ok u =
        subst (λ (x : Result PlainTable Fault). of_meaning x (appended_table t name table) ≡ Ok u) means one in
        let same : u ≡ with_table t name (joined table new.rows) =
        passed _ (with_table t name (joined table new.rows)) u (unless_passed (other_shape table.schema new.schema) (appended t name new.rows table) u two) in
        record { new = new; means = means; there = ap (λ (v : Tables). table_at v name) same ∙ found_here t name (joined table new.rows) }

-- the streams of segments are appended
pub record HasRowsOf (u : Tables) (name : List ℕ) (xs : List (List ℕ)) (table : PlainTable) : Type 0 where
  pub rows : List (List Cell)
  pub mean : MeanRows xs rows
  pub there : table_at u name ≡ Some (joined table rows)

pub appended_all : (xs : List (List ℕ)) (t u : Tables) (name : List ℕ) (table : PlainTable) → table_at t name ≡ Some table
    → verdict_in_turn t (commands_of (map (append_stream name) xs)) ≡ Ok u → HasRowsOf u name xs table
appended_all [] t u name table found is =
    let same : t ≡ u = cc (sym (none_in_turn t) ∙ is) in
    record {
      rows = [];
      mean = refl;
      there = subst (λ (v : Tables). table_at v name ≡ Some (joined table [])) same (found
          ∙ ap (λ (rs : List (List Cell)). Some (record { schema = table.schema; rows = rs })) (sym (append-nil table.rows)));
    }
appended_all (x ∷ xs) t u name table found is =
    by_first (λ v new there turn. appended_all xs v u name (joined table new.rows) there turn) (verdict t (append_stream name x)) refl
  where
    by_first : ((v : Tables) (new : PlainTable) → table_at v name ≡ Some (joined table new.rows)
        → verdict_in_turn v (commands_of (map (append_stream name) xs)) ≡ Ok u
        → HasRowsOf u name xs (joined table new.rows)) → (r : Result Tables Refusal) → verdict t (append_stream name x) ≡ r → HasRowsOf u name (x ∷ xs) table
    by_first next (Err e) first =
        let no : after_one (commands_of (map (append_stream name) xs)) (Err e) ≡ Ok u =
        subst (λ (r : Result Tables Refusal). after_one (commands_of (map (append_stream name) xs)) r ≡ Ok u) first
        (sym (more_in_turn t (append_stream name x) (commands_of (map (append_stream name) xs))) ∙ is) in
        absurd (cc no)
    by_first next (Ok v) first =
        let one = appended_one t v name x table found first in
        let then_rest : after_one (commands_of (map (append_stream name) xs)) (Ok v) ≡ Ok u =
        subst (λ (r : Result Tables Refusal). after_one (commands_of (map (append_stream name) xs)) r ≡ Ok u) first
        (sym (more_in_turn t (append_stream name x) (commands_of (map (append_stream name) xs))) ∙ is) in
        let later = next v one.new one.there then_rest in
        record {
          rows = one.new.rows ++ later.rows;
          mean = (one.new, later.rows, one.means, later.mean, refl);
          there = later.there ∙ ap (λ (rs : List (List Cell)). Some (record { schema = table.schema; rows = rs }))
              (append_assoc table.rows one.new.rows later.rows);
        }

-- ---- a table that is made anew

empty_is : (s : PlainSchema) → IsWithinLimits s → IsTable (empty_table s)
empty_is s within = record { schema = within; rows = λ k d less. absurd (omega (arith, less)); weight = omega arith }

empty_means : ((t : PlainTable) → IsTable t → meaning supported_codes (canonical t) ≡ Ok t) → (s : PlainSchema) → IsWithinLimits s
    → meaning supported_codes (empty_stream s) ≡ Ok (empty_table s)
unfolding canonical
empty_means means s within = means (empty_table s) (empty_is s within)

imported_one : (t u : Tables) (name bytes : List ℕ) (table : PlainTable) → meaning supported_codes bytes ≡ Ok table
    → verdict t (import_stream name bytes) ≡ Ok u → table_at u name ≡ Some table
imported_one t u name bytes table means is =
    let one : of_meaning (meaning supported_codes bytes) (put t name) ≡ Ok u = unless_passed (import_tests name bytes) _ u (sym (imports t name bytes) ∙ is) in
    let two : put t name table ≡ Ok u = subst (λ (x : Result PlainTable Fault). of_meaning x (put t name) ≡ Ok u) means one in
    ap (λ (v : Tables). table_at v name) (passed _ (with_table t name table) u two) ∙ found_here t name table

pub imported_then : (xs : List (List ℕ)) (t u : Tables) (name bytes : List ℕ) (table : PlainTable) → meaning supported_codes bytes ≡ Ok table
    → verdict_in_turn t (and_command (import_stream name bytes) (commands_of (map (append_stream name) xs))) ≡ Ok u → HasRowsOf u name xs table
imported_then xs t u name bytes table means is = by_first (verdict t (import_stream name bytes)) refl
  where
    by_first : (r : Result Tables Refusal) → verdict t (import_stream name bytes) ≡ r → HasRowsOf u name xs table
    by_first (Err e) first =
        let no : after_one (commands_of (map (append_stream name) xs)) (Err e) ≡ Ok u =
        subst (λ (r : Result Tables Refusal). after_one (commands_of (map (append_stream name) xs)) r ≡ Ok u) first
        (sym (more_in_turn t (import_stream name bytes) (commands_of (map (append_stream name) xs))) ∙ is) in
        absurd (cc no)
    by_first (Ok v) first =
        let then_rest : after_one (commands_of (map (append_stream name) xs)) (Ok v) ≡ Ok u =
        subst (λ (r : Result Tables Refusal). after_one (commands_of (map (append_stream name) xs)) r ≡ Ok u) first
        (sym (more_in_turn t (import_stream name bytes) (commands_of (map (append_stream name) xs))) ∙ is) in
        appended_all xs v u name table (imported_one t v name bytes table means first) then_rest

-- ---- the commands of a listed table

pub rows_behind : (t u : Tables) (table : PlainTable) (name : List ℕ) (ls : List ListedSegment) (cs : List PlainCommand)
    → table_at t name ≡ Some table → Append name ls cs
    → verdict t (all_of (commands_of cs)) ≡ Ok u → HasRowsBehind u name ls table
rows_behind t u table name ls cs found are is =
    let turn : verdict_in_turn t (commands_of (map (append_stream name) are.streams)) ≡ Ok u =
    subst (λ (xs : List PlainCommand). verdict_in_turn t (commands_of xs) ≡ Ok u) are.appends (sym (in_turn t (commands_of cs)) ∙ is) in
    let all = appended_all are.streams t u name table found turn in
    record { streams = are.streams; are = are.are; rows = all.rows; mean = all.mean; there = all.there }

pub rows_anew : ((x : PlainTable) → IsTable x → meaning supported_codes (canonical x) ≡ Ok x)
    → (t u : Tables) (l : PlainListed) (cs : List PlainCommand) → IsWithinLimits l.schema
    → ArePart l None cs → verdict t (all_of (commands_of cs)) ≡ Ok u → HasRowsBehind u l.name l.segments (empty_table l.schema)
rows_anew means t u l cs within (others, are, whole) is =
    let parts : cs ≡ import_stream l.name (empty_stream l.schema) ∷ map (append_stream l.name) are.streams =
    whole ∙ ap (λ (xs : List PlainCommand). import_stream l.name (empty_stream l.schema) ∷ xs) are.appends in
    let turn : verdict_in_turn t (and_command (import_stream l.name (empty_stream l.schema)) (commands_of (map (append_stream l.name) are.streams))) ≡ Ok u =
    subst (λ (xs : List PlainCommand). verdict_in_turn t (commands_of xs) ≡ Ok u) parts (sym (in_turn t (commands_of cs)) ∙ is) in
    let all = imported_then are.streams t u l.name (empty_stream l.schema) (empty_table l.schema) (empty_means means l.schema within) turn in
    record { streams = are.streams; are = are.are; rows = all.rows; mean = all.mean; there = all.there }
