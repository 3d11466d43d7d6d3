-- Rows after those of a table: what is decided of an append is the verdict.
use Rattle.std.specs.Prelude.{◌⊎◌, ◌<◌, ◌+◌, nat_le, not}
use Rattle.std.proofs.Common.{◌≡◌, ℕ, ◌≤◌, Bool, true, false, List, [], ◌∷◌, ◌++◌, Option, Some, None, Result, Ok, Err, inl, inr, refl, sym, ap, ◌∙◌, subst, arith}
use Rattle.std.proofs.lemmas.Bool.{leb-true, le-leb}
use Rattle.std.proofs.lemmas.Bool.Decides.{leb_tells}
use Rattle.std.proofs.lemmas.List.Sums.{sum_by-append}
use Rattle.facts.specs.Checks.{when, first_some, unless}
use Rattle.sector_dev.specs.Disk.{Image}
use Rattle.arrow_schema.specs.Column.{PlainSchema}
use Rattle.arrow_schema.specs.Limits.{IsWithinLimits}
use Rattle.arrow_schema.specs.OneShape.{have_one_shape}
use Rattle.cells.specs.Cell.{Cell, PlainTable}
use Rattle.cells.specs.Weight.{row_weight, table_weight}
use Rattle.cells.specs.declared.limits.TheConstants.{MAX_TABLE_WEIGHT}
use Rattle.values.specs.Table.{IsTable, table_from, first_unfit}
use Rattle.ipc_message.specs.declared.fault.Fault.{Fault}
use Rattle.ipc_message.specs.Header.{supported_codes}
use Rattle.ipc_stream.specs.Meaning.{meaning}
use Rattle.catalogue.specs.Entries.{PlainEntry, PlainCatalogue}
use Rattle.catalogue.specs.Edits.{entry_of}
use Rattle.tables.specs.declared.refusal.Limit.TheVariants as limits
use Rattle.tables.specs.declared.refusal.Refusal.{Refusal}
use Rattle.tables.specs.declared.refusal.Refusal.TheVariants as refusals
use Rattle.tables.specs.declared.refusal.Refusal.TheVariants.{NoTable, OutOfMemory, TooMany}
use Rattle.tables.specs.Commands.{PlainCommand, append_stream, append_rows}
use Rattle.tables.specs.Tables.{Tables, table_at, with_table}
use Rattle.tables.specs.Verdict.{too_many_bytes, other_shape, unfit_row, too_heavy, of_table, of_meaning, appended, appended_table, appended_stream, verdict}
use Rattle.store_runs.specs.Changes.{PlainChange, extend, rows_under, stream_rows}
use Rattle.store_runs.specs.Deciding.{of_entry, Addition, given_rows, rows_of_table, streamed_rows, pieces_put, decided_extension, IsAdded, IsSurelyLight}
use Rattle.store_runs.specs.Held.{table_held}
use Rattle.store_runs.specs.Reading.{IsRead}
use Rattle.store_changes.specs.Appending.{IsAppended}
use Rattle.store_changes.specs.LawsBelow.{LawsBelow}
use Rattle.store_changes.specs.Verdicts.{TellsTable, AreListed, IsVerdict}
use Rattle.store_changes.specs.Weights.{WeighsAfter}

-- ---- tests in turn

-- what is made of rows that can be added
abbrev onto : {B : Type 0} → Result Addition Refusal → (Addition → Result B Refusal) → Result B Refusal
onto (Err r) f = Err r
onto (Ok a) f = f a

both_tests : (u w : Option Refusal) (x : Result Tables Refusal) → unless (first_some (u ∷ w ∷ [])) x ≡ unless u (unless w x)
both_tests (Some r) w x = refl
both_tests None (Some r) x = refl
both_tests None None x = refl

meaning_then : {B : Type 0} (m : Result PlainTable Fault) (g : PlainTable → Result Addition Refusal) (f : Addition → Result B Refusal) → onto (of_meaning m g) f ≡ of_meaning m (λ t. onto (g t) f)
meaning_then (Err fault) g f = refl
meaning_then (Ok t) g f = refl

test_then : {B : Type 0} (o : Option Refusal) (r : Result Addition Refusal) (f : Addition → Result B Refusal) → onto (unless o r) f ≡ unless o (onto r f)
test_then (Some e) r f = refl
test_then None r f = refl

-- ---- the verdict

module _ (t : Tables) (name : List ℕ) (e : PlainEntry) (rows : List (List Cell)) (found : table_at t name ≡ Some (rows_under e.schema rows)) where
  -- after the rows that stand
  abbrev behind : Addition → Result Tables Refusal
  behind a = unless (too_heavy e.schema (rows ++ a.rows)) (Ok (with_table t name (rows_under e.schema (rows ++ a.rows))))

  given_same : (new : List (List Cell)) → onto (given_rows new e) behind ≡ appended t name new (rows_under e.schema rows)
  given_same new =
      let last : Result Tables Refusal = Ok (with_table t name (rows_under e.schema (rows ++ new))) in
      test_then (unfit_row e.schema new) (Ok (record { entry = e; rows = new })) behind ∙ sym (both_tests (unfit_row e.schema new) (too_heavy e.schema (rows ++ new)) last)

  table_same : (new : PlainTable) → onto (rows_of_table e new) behind ≡ appended_table t name (rows_under e.schema rows) new
  table_same new = test_then (other_shape e.schema new.schema) (given_rows new.rows e) behind ∙ ap (unless (other_shape e.schema new.schema)) (given_same new.rows)

  pub rows_verdict : (new : List (List Cell)) → verdict t (append_rows name new) ≡ onto (given_rows new e) behind
  unfolding verdict
  rows_verdict new = ap (λ (o : Option PlainTable). of_table o (appended t name new)) found ∙ sym (given_same new)

  pub stream_verdict : (bytes : List ℕ) → verdict t (append_stream name bytes) ≡ onto (streamed_rows bytes e) behind
  unfolding verdict
  stream_verdict bytes =
      ap (λ (o : Option PlainTable). of_table o (appended_stream t name bytes)) found
      ∙ sym (test_then (too_many_bytes bytes) (of_meaning (meaning supported_codes bytes) (rows_of_table e)) behind
      ∙ ap (unless (too_many_bytes bytes))
      (meaning_then (meaning supported_codes bytes) (rows_of_table e) behind ∙ ap (of_meaning (meaning supported_codes bytes)) (λ i new. table_same new i)))

-- ---- rows that can be added

shape_by : (b : Bool) → when (not b) refusals.SchemaMismatch ≡ None → b ≡ true
shape_by true h = refl
shape_by false h = absurd (cc h)

-- schemas of one shape, as a test finds it
pub one_shape : (a b : PlainSchema) → other_shape a b ≡ None → have_one_shape a b ≡ true
one_shape a b h = shape_by (have_one_shape a b) h

-- those of the entry that was asked, and its table takes each of them
pub record IsFitting (e : PlainEntry) (a : Addition) : Type 0 where
  pub entry : a.entry ≡ e
  pub fit : first_unfit e.schema a.rows ≡ None

pub none_unfit : (s : PlainSchema) (rows : List (List Cell)) → unfit_row s rows ≡ None → first_unfit s rows ≡ None
none_unfit s rows h = by_first (first_unfit s rows) refl h
  where
    told : Option ℕ → Option Refusal
    told None = None
    told (Some i) = Some (refusals.RowUnfit i)

    by_first : (o : Option ℕ) → first_unfit s rows ≡ o → told o ≡ None → first_unfit s rows ≡ None
    by_first None is h = is
    by_first (Some i) is h = absurd (cc h)

pub given_is : (e : PlainEntry) (rows : List (List Cell)) (a : Addition) → given_rows rows e ≡ Ok a → IsFitting e a
given_is e rows a h = by_test (unfit_row e.schema rows) refl h
  where
    by_test : (u : Option Refusal) → unfit_row e.schema rows ≡ u → unless u (Ok (record { entry = e; rows = rows })) ≡ Ok a → IsFitting e a
    by_test (Some r) is h = absurd (cc h)
    by_test None is h =
        let same : record { entry = e; rows = rows } ≡ a = cc h in
        record {
          entry = sym (ap (λ (x : Addition). x.entry) same);
          fit = ap (first_unfit e.schema) (sym (ap (λ (x : Addition). x.rows) same)) ∙ none_unfit e.schema rows is;
        }

-- where a test passed
passed : {A : Type 0} (o : Option Refusal) (r : Result A Refusal) (a : A) → unless o r ≡ Ok a → r ≡ Ok a
passed None r a h = h
passed (Some e) r a h = absurd (cc h)

pub streamed_is : (e : PlainEntry) (bytes : List ℕ) (a : Addition) → streamed_rows bytes e ≡ Ok a → IsFitting e a
streamed_is e bytes a h = by_meaning (meaning supported_codes bytes) (passed (too_many_bytes bytes) (of_meaning (meaning supported_codes bytes) (rows_of_table e)) a h)
  where
    by_meaning : (m : Result PlainTable Fault) → of_meaning m (rows_of_table e) ≡ Ok a → IsFitting e a
    by_meaning (Err fault) h = absurd (cc h)
    by_meaning (Ok new) h = given_is e new.rows a (passed (other_shape e.schema new.schema) (given_rows new.rows e) a h)

-- ---- tables

-- rows that fit and are light are accepted
pub accepted : (s : PlainSchema) (rows : List (List Cell)) → first_unfit s rows ≡ None → nat_le (table_weight s rows) MAX_TABLE_WEIGHT ≡ true → table_from s rows ≡ Ok (rows_under s rows)
unfolding table_from
accepted s rows fit light = rw (fit, light) refl

light_none : (b : Bool) → when (not b) (TooMany limits.Weight) ≡ None → b ≡ true
light_none true h = refl
light_none false h = absurd (cc h)

-- new rows under the entry's schema, that are light after those that stand
pub new_table : LawsBelow → (e : PlainEntry) (a : Addition) (standing : List (List Cell)) → IsWithinLimits e.schema → IsFitting e a → nat_le (table_weight e.schema (standing ++ a.rows)) MAX_TABLE_WEIGHT ≡ true
    → IsTable (rows_under e.schema a.rows)
new_table laws e a standing within fitting light =
    let whole : table_weight e.schema (standing ++ a.rows) ≤ MAX_TABLE_WEIGHT = leb-true (table_weight e.schema (standing ++ a.rows)) MAX_TABLE_WEIGHT light in
    let split = sum_by-append (row_weight e.schema) standing a.rows in
    let own : nat_le (table_weight e.schema a.rows) MAX_TABLE_WEIGHT ≡ true = le-leb (table_weight e.schema a.rows) MAX_TABLE_WEIGHT (omega (arith, whole, split)) in
    (laws.tables.accepts e.schema a.rows (rows_under e.schema a.rows) within (accepted e.schema a.rows fitting.fit own)).1

-- ---- what is decided

-- the table of a name, as the catalogue's entry tells of it
pub listed_at : (image : Image) (c : PlainCatalogue) (t : Tables) (name : List ℕ) (e : PlainEntry) → AreListed image c t → entry_of c name ≡ Some e
    → (table : PlainTable) × (table_at t name ≡ Some table) × (table.schema ≡ e.schema)
listed_at image c t name e listed there =
    let tells = subst (λ (o : Option PlainEntry). TellsTable o (table_at t name)) there (listed.lists.each name) in
    (tells.0, tells.1, tells.2)

-- and where there is no entry there is none
pub none_listed : (image : Image) (c : PlainCatalogue) (t : Tables) (name : List ℕ) → AreListed image c t → entry_of c name ≡ None → table_at t name ≡ None
none_listed image c t name listed none = subst (λ (o : Option PlainEntry). TellsTable o (table_at t name)) none (listed.lists.each name)

-- a table of this schema, by its rows
under : (t : Tables) (name : List ℕ) (s : PlainSchema) (table : PlainTable) → table_at t name ≡ Some table → table.schema ≡ s → table_at t name ≡ Some (rows_under s table.rows)
under t name s table at same = at ∙ (λ i. Some (rows_under (same i) table.rows))

-- of rows for the table of an entry, by whatever command
module _ (laws : LawsBelow) (image : Image) (c : PlainCatalogue) (t : Tables) (listed : AreListed image c t) (name : List ℕ) (e : PlainEntry) (there : entry_of c name ≡ Some e)
    (command : PlainCommand) (tested : Result Addition Refusal) (fitting : (a : Addition) → tested ≡ Ok a → IsFitting e a)
    (verdict_is : (rows : List (List Cell)) (found : table_at t name ≡ Some (rows_under e.schema rows)) → verdict t command ≡ onto tested (behind t name e rows found)) where
  by_weight : (rows : List (List Cell)) (found : table_at t name ≡ Some (rows_under e.schema rows)) → IsTable (rows_under e.schema rows) → (a : Addition) (w : Option Refusal) → tested ≡ Ok a
      → too_heavy e.schema (rows ++ a.rows) ≡ w → IsVerdict t command (unless w (Ok (pieces_put (extend name) (rows_under e.schema a.rows))))
  by_weight rows found old a (Some r) is heavy =
      verdict_is rows found ∙ ap (λ (x : Result Addition Refusal). onto x (behind t name e rows found)) is
      ∙ ap (λ (o : Option Refusal). unless o (Ok (with_table t name (rows_under e.schema (rows ++ a.rows))))) heavy
  by_weight rows found old a None is light =
      let test : nat_le (table_weight e.schema (rows ++ a.rows)) MAX_TABLE_WEIGHT ≡ true = light_none (nat_le (table_weight e.schema (rows ++ a.rows)) MAX_TABLE_WEIGHT) light in
      let more = new_table laws e a rows old.schema (fitting a is) test in
      let whole = laws.tables.joined e.schema rows a.rows old more (leb-true (table_weight e.schema (rows ++ a.rows)) MAX_TABLE_WEIGHT test) in (
        with_table t name (rows_under e.schema (rows ++ a.rows)),
        verdict_is rows found ∙ ap (λ (x : Result Addition Refusal). onto x (behind t name e rows found)) is
            ∙ ap (λ (o : Option Refusal). unless o (Ok (with_table t name (rows_under e.schema (rows ++ a.rows))))) light,
        (rows_under e.schema rows, found, (a.rows, laws.held (rows_under e.schema a.rows) more, laws.tables.accepted (rows_under e.schema (rows ++ a.rows)) whole, refl)),
      )

  pub added_verdict : (d : Result PlainChange Refusal) → IsAdded true image name tested d → IsVerdict t command d
  added_verdict d is = by_tests tested refl is
    where
      by_tests : (x : Result Addition Refusal) → tested ≡ x → IsAdded true image name x d → IsVerdict t command d
      by_tests (Err r) test same =
          let own = listed_at image c t name e listed there in
          let found = under t name e.schema own.0 own.1 own.2 in
          subst (IsVerdict t command) (sym same) (verdict_is own.0.rows found ∙ ap (λ (x : Result Addition Refusal). onto x (behind t name e own.0.rows found)) test)
      by_tests (Ok a) test (inr light) =
          let own : a.entry ≡ e = (fitting a test).entry in
          let stands = listed_at image c t name e listed there in
          let could = listed.possible name e stands.0 there stands.1 in
          let held : table_held could.1.0 a.entry ≡ Some stands.0 = ap (table_held could.1.0) own ∙ could.1.1 in
          let weight : table_weight e.schema (stands.0.rows ++ a.rows) ≤ MAX_TABLE_WEIGHT
          = subst (λ (x : PlainEntry). table_weight x.schema (stands.0.rows ++ a.rows) ≤ MAX_TABLE_WEIGHT) own (light.0 could.1.0 stands.0 held) in
          let old : IsTable (rows_under e.schema stands.0.rows) = subst (λ (s : PlainSchema). IsTable (rows_under s stands.0.rows)) stands.2 could.0 in
          let none : too_heavy e.schema (stands.0.rows ++ a.rows) ≡ None
          = ap (λ (b : Bool). when (not b) (TooMany limits.Weight)) (le-leb (table_weight e.schema (stands.0.rows ++ a.rows)) MAX_TABLE_WEIGHT weight) in
          let same : d ≡ Ok (pieces_put (extend name) (rows_under e.schema a.rows))
          = light.1 ∙ ap (λ (x : PlainEntry). Ok (pieces_put (extend name) (rows_under x.schema a.rows))) own in
          subst (IsVerdict t command) (sym same) (by_weight stands.0.rows (under t name e.schema stands.0 stands.1 stands.2) old a None test none)
      by_tests (Ok a) test (inl stands) =
          let own : a.entry ≡ e = (fitting a test).entry in
          let schema : stands.0.schema ≡ e.schema = stands.1.schema ∙ ap (λ (x : PlainEntry). x.schema) own in
          let at = listed.held name e stands.0 there (ap (table_held image) (sym own) ∙ stands.1.held refl) in
          let old : IsTable (rows_under e.schema stands.0.rows) = subst (λ (s : PlainSchema). IsTable (rows_under s stands.0.rows)) schema stands.1.kept in
          let same : d ≡ unless (too_heavy e.schema (stands.0.rows ++ a.rows)) (Ok (pieces_put (extend name) (rows_under e.schema a.rows))) =
          stands.2 ∙ (λ i. unless (too_heavy (own i).schema (stands.0.rows ++ a.rows)) (Ok (pieces_put (extend name) (rows_under (own i).schema a.rows)))) in
          subst (IsVerdict t command) (sym same) (by_weight stands.0.rows (under t name e.schema stands.0 at schema) old a (too_heavy e.schema (stands.0.rows ++ a.rows)) test refl)

module _ (laws : LawsBelow) (image : Image) (c : PlainCatalogue) (t : Tables) (listed : AreListed image c t) (name : List ℕ) (d : Result PlainChange Refusal) where
  -- no table has the name
  missing_rows : (rows : List (List Cell)) → entry_of c name ≡ None → verdict t (append_rows name rows) ≡ Err NoTable
  unfolding verdict
  missing_rows rows none = ap (λ (o : Option PlainTable). of_table o (appended t name rows)) (none_listed image c t name listed none)

  missing_stream : (bytes : List ℕ) → entry_of c name ≡ None → verdict t (append_stream name bytes) ≡ Err NoTable
  unfolding verdict
  missing_stream bytes none = ap (λ (o : Option PlainTable). of_table o (appended_stream t name bytes)) (none_listed image c t name listed none)

  pub rows_decided : (rows : List (List Cell)) → IsAdded true image name (of_entry (entry_of c name) (given_rows rows)) d → IsVerdict t (append_rows name rows) d
  rows_decided rows is = by_entry (entry_of c name) refl is
    where
      by_entry : (o : Option PlainEntry) → entry_of c name ≡ o → IsAdded true image name (of_entry o (given_rows rows)) d → IsVerdict t (append_rows name rows) d
      by_entry (Some e) there added =
          added_verdict laws image c t listed name e there (append_rows name rows) (given_rows rows e) (given_is e rows) (λ old found. rows_verdict t name e old found rows) d added
      by_entry None none same = subst (IsVerdict t (append_rows name rows)) (sym same) (missing_rows rows none)

  pub stream_decided : (bytes : List ℕ) → IsAdded true image name (of_entry (entry_of c name) (streamed_rows bytes)) d → IsVerdict t (append_stream name bytes) d
  stream_decided bytes is = by_entry (entry_of c name) refl is
    where
      by_entry : (o : Option PlainEntry) → entry_of c name ≡ o → IsAdded true image name (of_entry o (streamed_rows bytes)) d → IsVerdict t (append_stream name bytes) d
      by_entry (Some e) there added =
          added_verdict laws image c t listed name e there (append_stream name bytes) (streamed_rows bytes e) (streamed_is e bytes) (λ old found. stream_verdict t name e old found bytes) d added
      by_entry None none same = subst (IsVerdict t (append_stream name bytes)) (sym same) (missing_stream bytes none)

-- ---- what is answered of rows for the table of an entry

-- what stands and new rows weigh as much together as the one and the others
pub weighed_both : (e : PlainEntry) (t : PlainTable) (rows : List (List Cell)) (a b : ℕ) → t.schema ≡ e.schema → a ≡ table_weight t.schema t.rows → b ≡ table_weight e.schema rows
    → a + b ≡ table_weight e.schema (t.rows ++ rows)
weighed_both e t rows a b same standing new =
    let own : a ≡ table_weight e.schema t.rows = standing ∙ ap (λ (s : PlainSchema). table_weight s t.rows) same in
    let split = sum_by-append (row_weight e.schema) t.rows rows in
    omega (arith, own, new, split)

heavy_test : (a b : ℕ) → b < a → nat_le a b ≡ false
heavy_test a b less = elim (leb_tells a b) [ inl is ↦ absurd (omega (arith, less, is.1)) | inr other ↦ other.0 ]

module _ (tells : Bool) (image : Image) (name : List ℕ) (e : PlainEntry) (tested : Result Addition Refusal) (rows : List (List Cell)) (standing : PlainTable)
    (passed : tested ≡ Ok (record { entry = e; rows = rows })) (read : IsRead tells image e standing) where
  added : (d : Result PlainChange Refusal) → d ≡ decided_extension name (record { entry = e; rows = rows }) standing.rows → IsAdded tells image name tested d
  added d is = subst (λ (x : Result Addition Refusal). IsAdded tells image name x d) (sym passed) (inl (standing, read, is))

  -- rows that are too heavy alone
  pub heavy_alone : MAX_TABLE_WEIGHT < table_weight e.schema rows → IsAdded tells image name tested (Err (TooMany limits.Weight))
  heavy_alone heavy =
      let split = sum_by-append (row_weight e.schema) standing.rows rows in
      let whole : nat_le (table_weight e.schema (standing.rows ++ rows)) MAX_TABLE_WEIGHT ≡ false = heavy_test (table_weight e.schema (standing.rows ++ rows)) MAX_TABLE_WEIGHT (omega (arith, heavy, split)) in
      added (Err (TooMany limits.Weight)) (sym (ap (λ (b : Bool). unless (when (not b) (TooMany limits.Weight)) (Ok (pieces_put (extend name) (rows_under e.schema rows)))) whole))

  -- rows that are decided after those that stand
  pub appended_behind : (d : Result PlainChange Refusal) (weight : ℕ) → weight ≡ table_weight e.schema (standing.rows ++ rows)
      → (d ≡ Err OutOfMemory) ⊎ ((s : List (List Cell)) → weight ≡ table_weight e.schema (s ++ rows) → d ≡ decided_extension name (record { entry = e; rows = rows }) s)
      → IsAppended tells image name tested d
  appended_behind d weight weighs (inl none) = inl none
  appended_behind d weight weighs (inr decided) = inr (inr (added d (decided standing.rows weighs)))

-- rows that are surely light enough after those that stand
pub appended_unread : (tells : Bool) (image : Image) (name : List ℕ) (e : PlainEntry) (tested : Result Addition Refusal) (rows : List (List Cell)) (d : Result PlainChange Refusal)
    → tested ≡ Ok (record { entry = e; rows = rows }) → IsSurelyLight (record { entry = e; rows = rows })
    → (d ≡ Err OutOfMemory) ⊎ (d ≡ Ok (pieces_put (extend name) (rows_under e.schema rows))) → IsAppended tells image name tested d
appended_unread tells image name e tested rows d passed light (inl none) = inl none
appended_unread tells image name e tested rows d passed light (inr is) = inr (inr (subst (λ (x : Result Addition Refusal). IsAdded tells image name x d) (sym passed) (inr (light, is))))

-- what is decided of an addition, by the test of what it and the rows that stand weigh
pub behind_by : (name : List ℕ) (a : Addition) (standing : List (List Cell)) (weight : ℕ) (o : Option Refusal) → weight ≡ table_weight a.entry.schema (standing ++ a.rows)
    → when (not (nat_le weight MAX_TABLE_WEIGHT)) (TooMany limits.Weight) ≡ o → decided_extension name a standing ≡ unless o (Ok (pieces_put (extend name) (rows_under a.entry.schema a.rows)))
behind_by name a standing weight o is tested =
    ap (λ (x : Option Refusal). unless x (Ok (pieces_put (extend name) (rows_under a.entry.schema a.rows)))) (ap (λ (n : ℕ). when (not (nat_le n MAX_TABLE_WEIGHT)) (TooMany limits.Weight)) (sym is) ∙ tested)

-- where the test of a weight passed
pub light_passed : (weight : ℕ) → when (not (nat_le weight MAX_TABLE_WEIGHT)) (TooMany limits.Weight) ≡ None → weight ≤ MAX_TABLE_WEIGHT
light_passed weight none = leb-true weight MAX_TABLE_WEIGHT (light_none (nat_le weight MAX_TABLE_WEIGHT) none)

-- the table with rows that were appended to it, as they weigh together
pub weighs_after : LawsBelow → (tells : Bool) (image : Image) (e : PlainEntry) (name : List ℕ) (change : PlainChange) (standing : PlainTable) (rows : List (List Cell)) (weight : ℕ)
    → IsRead tells image e standing → IsTable (rows_under e.schema rows) → change ≡ pieces_put (extend name) (rows_under e.schema rows) → weight ≤ MAX_TABLE_WEIGHT
    → weight ≡ table_weight e.schema (standing.rows ++ rows) → WeighsAfter tells image e name change weight
weighs_after laws tells image e name change standing rows weight read own is light weighs =
    let old : IsTable (rows_under e.schema standing.rows) = subst (λ (s : PlainSchema). IsTable (rows_under s standing.rows)) read.schema read.kept in
    record {
      standing = standing;
      read = read;
      rows = rows;
      extends = ap (λ (x : PlainChange). x.edit) is;
      new = (λ i. stream_rows e.schema (is i).streams (is i).counts) ∙ laws.held (rows_under e.schema rows) own;
      kept = laws.tables.joined e.schema standing.rows rows old own (omega (arith, light, weighs));
      is = weighs;
    }
