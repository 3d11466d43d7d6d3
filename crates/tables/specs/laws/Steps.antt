-- Consequences of a verdict.
use Rattle.std.specs.Prelude.{◌≡◌, ◌≢◌, ◌+◌, ◌&&◌, ℕ, suc, take, slice_get, Bool, true, false, not, nat_le, nat_lt, List, [], ◌∷◌, ◌++◌, length, Option, Some, None, IfSome, IfErr, Result, Ok, Err, Contains, refl}
use Rattle.std.proofs.Common.{ap, ◌∙◌, sym, subst, arith}
use Rattle.std.proofs.lemmas.List.Elements.{Contains-append_left, Contains-append_right}
use Rattle.facts.specs.Checks.{when, first_some, unless}
use Rattle.arrow_schema.specs.OneShape.{have_one_shape}
use Rattle.cells.specs.Cell.{Cell, PlainTable}
use Rattle.cells.specs.Weight.{table_weight}
use Rattle.cells.specs.declared.limits.TheConstants.{MAX_TABLE_WEIGHT}
use Rattle.values.specs.Table.{first_unfit}
use Rattle.ipc_message.specs.declared.fault.Fault.{Fault}
use Rattle.ipc_message.specs.Header.{supported_codes}
use Rattle.ipc_stream.specs.Meaning.{meaning}
use Rattle.query.specs.Bound as queries
use Rattle.query.specs.Selection.{selection}
use Rattle.tables.specs.declared.refusal.Refusal.{Refusal}
use Rattle.tables.specs.declared.refusal.Refusal.TheVariants.{NameTaken, BadName, SchemaMismatch, RowUnfit, TooMany}
use Rattle.tables.specs.declared.refusal.Limit.TheVariants as limits
use Rattle.tables.specs.declared.limits.TheConstants.{MAX_IMPORT_BYTES}
use Rattle.catalogue.specs.declared.limits.TheConstants.{MAX_TABLES}
use Rattle.catalogue.specs.Entries.{is_name}
use Rattle.tables.specs.Refusals.{by_tables, origin_of}
use Rattle.tables.specs.Tables.{Tables, table_at, has_table, with_table, without_table, table_count}
use Rattle.tables.specs.Commands.{PlainCommand, create, import_stream, append_stream, append_rows, save_as, rename, drop_table, all_of, PlainCommands, no_command, and_command, commands_of, changed_names, changed_by_each}
use Rattle.tables.specs.Verdict.{bad_name, name_taken, too_many_tables, too_many_bytes, other_shape, unfit_row, too_heavy, of_table, of_meaning, of_query, empty_table, joined, made, put, appended, appended_table, appended_stream, saved, renamed, dropped, verdict, verdict_in_turn, refused_in_turn, after_verdict, step, after}
use Rattle.tables.specs.laws.Maps.{found_elsewhere, gone_elsewhere}

pub refused : (t : Tables) (c : PlainCommand) (r : Refusal) → verdict t c ≡ Err r → step t c ≡ t
refused t c r is = ap (after_verdict t) is

pub accepted : (t u : Tables) (c : PlainCommand) → verdict t c ≡ Ok u → step t c ≡ u
accepted t u c is = ap (after_verdict t) is

pub after_append : (t : Tables) (cs ds : List PlainCommand) → after t (cs ++ ds) ≡ after (after t cs) ds
unfolding after
after_append t [] ds = refl
after_append t (c ∷ cs) ds = after_append (step t c) cs ds

pub after_one_more : (t : Tables) (cs : List PlainCommand) (c : PlainCommand) → after t (cs ++ c ∷ []) ≡ step (after t cs) c
unfolding after
after_one_more t [] c = refl
after_one_more t (d ∷ cs) c = after_one_more (step t d) cs c

-- ---- results that leave a name's table as it is

abbrev Keeps : Tables → List ℕ → Result Tables Refusal → Type 0
Keeps t name r = table_at (after_verdict t r) name ≡ table_at t name

keeps_unless : (t : Tables) (name : List ℕ) (o : Option Refusal) (r : Result Tables Refusal) → Keeps t name r → Keeps t name (unless o r)
keeps_unless t name None r keeps = keeps
keeps_unless t name (Some e) r keeps = refl

keeps_of_table : (t : Tables) (name : List ℕ) (o : Option PlainTable) (f : PlainTable → Result Tables Refusal) → ((table : PlainTable) → Keeps t name (f table)) → Keeps t name (of_table o f)
keeps_of_table t name None f keeps = refl
keeps_of_table t name (Some table) f keeps = keeps table

keeps_of_meaning : (t : Tables) (name : List ℕ) (r : Result PlainTable Fault) (f : PlainTable → Result Tables Refusal) → ((table : PlainTable) → Keeps t name (f table)) → Keeps t name (of_meaning r f)
keeps_of_meaning t name (Err fault) f keeps = refl
keeps_of_meaning t name (Ok table) f keeps = keeps table

keeps_of_query : (t : Tables) (name : List ℕ) (r : Result PlainTable queries.SelectionRefusal) (f : PlainTable → Result Tables Refusal) → ((table : PlainTable) → Keeps t name (f table)) → Keeps t name (of_query r f)
keeps_of_query t name (Err refusal) f keeps = refl
keeps_of_query t name (Ok table) f keeps = keeps table

module _ (t : Tables) (name : List ℕ) where
  keeps_made : (own : List ℕ) (table : PlainTable) → name ≢ own → Keeps t name (made t own table)
  keeps_made own table apart =
      keeps_unless t name (first_some (bad_name own ∷ name_taken t own ∷ too_many_tables t own ∷ [])) (Ok (with_table t own table)) (found_elsewhere t own table name apart)

  keeps_put : (own : List ℕ) (table : PlainTable) → name ≢ own → Keeps t name (put t own table)
  keeps_put own table apart = keeps_unless t name (too_many_tables t own) (Ok (with_table t own table)) (found_elsewhere t own table name apart)

  keeps_appended : (own : List ℕ) (rows : List (List Cell)) (table : PlainTable) → name ≢ own → Keeps t name (appended t own rows table)
  keeps_appended own rows table apart =
      keeps_unless t name (first_some (unfit_row table.schema rows ∷ too_heavy table.schema (table.rows ++ rows) ∷ [])) (Ok (with_table t own (joined table rows))) (found_elsewhere t own (joined table rows) name apart)

  keeps_appended_table : (own : List ℕ) (table new : PlainTable) → name ≢ own → Keeps t name (appended_table t own table new)
  keeps_appended_table own table new apart = keeps_unless t name (other_shape table.schema new.schema) (appended t own new.rows table) (keeps_appended own new.rows table apart)

  keeps_appended_stream : (own bytes : List ℕ) (table : PlainTable) → name ≢ own → Keeps t name (appended_stream t own bytes table)
  keeps_appended_stream own bytes table apart =
      keeps_unless t name (too_many_bytes bytes) (of_meaning (meaning supported_codes bytes) (appended_table t own table))
      (keeps_of_meaning t name (meaning supported_codes bytes) (appended_table t own table) (λ new. keeps_appended_table own table new apart))

  keeps_renamed : (from to : List ℕ) (table : PlainTable) → name ≢ from → name ≢ to → Keeps t name (renamed t from to table)
  keeps_renamed from to table not_from not_to =
      keeps_unless t name (first_some (bad_name to ∷ name_taken t to ∷ [])) (Ok (with_table (without_table t from) to table))
      (found_elsewhere (without_table t from) to table name not_to ∙ gone_elsewhere t from name not_from)

  -- the name is not one of these
  apart_one : (own : List ℕ) → ¬ Contains (own ∷ []) name → name ≢ own
  apart_one own lacks e = lacks (0, omega arith, sym e)

-- one command and then others
keeps_in_turn : (t u : Tables) (name : List ℕ) (rest : Result Tables Refusal) → table_at u name ≡ table_at t name → Keeps u name rest → Keeps t name rest
keeps_in_turn t u name (Ok new) same keeps = keeps ∙ same
keeps_in_turn t u name (Err e) same keeps = refl

keeps_by_first : (t : Tables) (name : List ℕ) (r : Result Tables Refusal) (cs : PlainCommands) → Keeps t name r → ((u : Tables) → Keeps u name (verdict_in_turn u cs))
    → Keeps t name (elim r [ Err e ↦ Err e | Ok u ↦ verdict_in_turn u cs ])
keeps_by_first t name (Err e) cs keeps others = refl
keeps_by_first t name (Ok u) cs keeps others = keeps_in_turn t u name (verdict_in_turn u cs) keeps (others u)

mutual
  unfolding verdict

  pub others_keep : (t : Tables) (name : List ℕ) (c : PlainCommand) → ¬ Contains (changed_names c) name → Keeps t name (verdict t c)
  others_keep t name (create own schema) lacks = keeps_made t name own (empty_table schema) (apart_one t name own lacks)
  others_keep t name (import_stream own bytes) lacks =
      keeps_unless t name (first_some (bad_name own ∷ too_many_bytes bytes ∷ [])) (of_meaning (meaning supported_codes bytes) (put t own))
      (keeps_of_meaning t name (meaning supported_codes bytes) (put t own) (λ new. keeps_put t name own new (apart_one t name own lacks)))
  others_keep t name (append_stream own bytes) lacks =
      keeps_of_table t name (table_at t own) (appended_stream t own bytes) (λ table. keeps_appended_stream t name own bytes table (apart_one t name own lacks))
  others_keep t name (append_rows own rows) lacks =
      keeps_of_table t name (table_at t own) (appended t own rows) (λ table. keeps_appended t name own rows table (apart_one t name own lacks))
  others_keep t name (save_as from to query) lacks =
      keeps_of_table t name (table_at t from) (saved t to query)
      (λ table. keeps_of_query t name (selection table query) (made t to) (λ new. keeps_made t name to new (apart_one t name to lacks)))
  others_keep t name (rename from to) lacks =
      keeps_of_table t name (table_at t from) (renamed t from to)
      (λ table. keeps_renamed t name from to table (λ e. lacks (0, omega arith, sym e)) (λ e. lacks (1, omega arith, sym e)))
  others_keep t name (drop_table own) lacks =
      keeps_of_table t name (table_at t own) (dropped t own) (λ table. gone_elsewhere t own name (apart_one t name own lacks))
  others_keep t name (all_of cs) lacks = others_keep_in_turn t name cs lacks

  others_keep_in_turn : (t : Tables) (name : List ℕ) (cs : PlainCommands) → ¬ Contains (changed_by_each cs) name → Keeps t name (verdict_in_turn t cs)
  others_keep_in_turn t name no_command lacks = refl
  others_keep_in_turn t name (and_command c cs) lacks =
      keeps_by_first t name (verdict t c) cs (others_keep t name c (λ among. lacks (Contains-append_left (changed_names c) (changed_by_each cs) name among)))
      (λ u. others_keep_in_turn u name cs (λ among. lacks (Contains-append_right (changed_names c) (changed_by_each cs) name among)))

-- ---- refusals that the tables decide

abbrev TestsTables : Option Refusal → Type 0
TestsTables o = IfSome o (λ r. origin_of r ≡ by_tables)

abbrev TellsTables : Result Tables Refusal → Type 0
TellsTables r = IfErr r (λ e. origin_of e ≡ by_tables)

tests_when : (b : Bool) (r : Refusal) → origin_of r ≡ by_tables → TestsTables (when b r)
tests_when true r is = is
tests_when false r is = tt

tests_both : (o : Option Refusal) (os : List (Option Refusal)) → TestsTables o → TestsTables (first_some os) → TestsTables (first_some (o ∷ os))
tests_both None os one others = others
tests_both (Some r) os one others = one

tests_unfit : (o : Option ℕ) → TestsTables (elim o [ None ↦ None | Some i ↦ Some (RowUnfit i) ])
tests_unfit None = tt
tests_unfit (Some i) = refl

tells_unless : (o : Option Refusal) (r : Result Tables Refusal) → TestsTables o → TellsTables r → TellsTables (unless o r)
tells_unless None r test tells = tells
tells_unless (Some e) r test tells = test

tells_of_table : (o : Option PlainTable) (f : PlainTable → Result Tables Refusal) → ((table : PlainTable) → TellsTables (f table)) → TellsTables (of_table o f)
tells_of_table None f tells = refl
tells_of_table (Some table) f tells = tells table

tells_of_meaning : (r : Result PlainTable Fault) (f : PlainTable → Result Tables Refusal) → ((table : PlainTable) → TellsTables (f table)) → TellsTables (of_meaning r f)
tells_of_meaning (Err fault) f tells = refl
tells_of_meaning (Ok table) f tells = tells table

tells_of_query : (r : Result PlainTable queries.SelectionRefusal) (f : PlainTable → Result Tables Refusal) → ((table : PlainTable) → TellsTables (f table)) → TellsTables (of_query r f)
tells_of_query (Err queries.unknown_column) f tells = refl
tells_of_query (Err queries.bad_condition) f tells = refl
tells_of_query (Err queries.not_comparable) f tells = refl
tells_of_query (Ok table) f tells = tells table

tests_free : (t : Tables) (name : List ℕ) → TestsTables (first_some (bad_name name ∷ name_taken t name ∷ too_many_tables t name ∷ []))
tests_free t name =
    tests_both (bad_name name) (name_taken t name ∷ too_many_tables t name ∷ []) (tests_when (not (is_name name)) BadName refl)
    (tests_both (name_taken t name) (too_many_tables t name ∷ []) (tests_when (has_table t name) NameTaken refl)
    (tests_both (too_many_tables t name) [] (tests_when (not (has_table t name) && nat_le MAX_TABLES (table_count t)) (TooMany limits.Tables) refl) tt))

tests_bytes : (bytes : List ℕ) → TestsTables (too_many_bytes bytes)
tests_bytes bytes = tests_when (nat_lt MAX_IMPORT_BYTES (length bytes)) (TooMany limits.Bytes) refl

tests_rows : (table : PlainTable) (rows : List (List Cell)) → TestsTables (first_some (unfit_row table.schema rows ∷ too_heavy table.schema (table.rows ++ rows) ∷ []))
tests_rows table rows =
    tests_both (unfit_row table.schema rows) (too_heavy table.schema (table.rows ++ rows) ∷ []) (tests_unfit (first_unfit table.schema rows))
    (tests_both (too_heavy table.schema (table.rows ++ rows)) [] (tests_when (not (nat_le (table_weight table.schema (table.rows ++ rows)) MAX_TABLE_WEIGHT)) (TooMany limits.Weight) refl) tt)

module _ (t : Tables) where
  tells_made : (name : List ℕ) (table : PlainTable) → TellsTables (made t name table)
  tells_made name table = tells_unless (first_some (bad_name name ∷ name_taken t name ∷ too_many_tables t name ∷ [])) (Ok (with_table t name table)) (tests_free t name) tt

  tells_put : (name : List ℕ) (table : PlainTable) → TellsTables (put t name table)
  tells_put name table =
      tells_unless (too_many_tables t name) (Ok (with_table t name table)) (tests_when (not (has_table t name) && nat_le MAX_TABLES (table_count t)) (TooMany limits.Tables) refl) tt

  tells_appended : (name : List ℕ) (rows : List (List Cell)) (table : PlainTable) → TellsTables (appended t name rows table)
  tells_appended name rows table =
      tells_unless (first_some (unfit_row table.schema rows ∷ too_heavy table.schema (table.rows ++ rows) ∷ [])) (Ok (with_table t name (joined table rows))) (tests_rows table rows) tt

  tells_appended_table : (name : List ℕ) (table new : PlainTable) → TellsTables (appended_table t name table new)
  tells_appended_table name table new =
      tells_unless (other_shape table.schema new.schema) (appended t name new.rows table) (tests_when (not (have_one_shape table.schema new.schema)) SchemaMismatch refl) (tells_appended name new.rows table)

  tells_appended_stream : (name bytes : List ℕ) (table : PlainTable) → TellsTables (appended_stream t name bytes table)
  tells_appended_stream name bytes table =
      tells_unless (too_many_bytes bytes) (of_meaning (meaning supported_codes bytes) (appended_table t name table)) (tests_bytes bytes)
      (tells_of_meaning (meaning supported_codes bytes) (appended_table t name table) (tells_appended_table name table))

  tells_renamed : (from to : List ℕ) (table : PlainTable) → TellsTables (renamed t from to table)
  tells_renamed from to table =
      tells_unless (first_some (bad_name to ∷ name_taken t to ∷ [])) (Ok (with_table (without_table t from) to table))
      (tests_both (bad_name to) (name_taken t to ∷ []) (tests_when (not (is_name to)) BadName refl) (tests_both (name_taken t to) [] (tests_when (has_table t to) NameTaken refl) tt)) tt

tells_by_first : (r : Result Tables Refusal) (cs : PlainCommands) → TellsTables r → ((u : Tables) → TellsTables (verdict_in_turn u cs))
    → TellsTables (elim r [ Err e ↦ Err e | Ok u ↦ verdict_in_turn u cs ])
tells_by_first (Err e) cs tells others = tells
tells_by_first (Ok u) cs tells others = others u

mutual
  unfolding verdict

  tells_each : (t : Tables) (c : PlainCommand) → TellsTables (verdict t c)
  tells_each t (create name schema) = tells_made t name (empty_table schema)
  tells_each t (import_stream name bytes) =
      tells_unless (first_some (bad_name name ∷ too_many_bytes bytes ∷ [])) (of_meaning (meaning supported_codes bytes) (put t name))
      (tests_both (bad_name name) (too_many_bytes bytes ∷ []) (tests_when (not (is_name name)) BadName refl) (tests_both (too_many_bytes bytes) [] (tests_bytes bytes) tt))
      (tells_of_meaning (meaning supported_codes bytes) (put t name) (tells_put t name))
  tells_each t (append_stream name bytes) = tells_of_table (table_at t name) (appended_stream t name bytes) (tells_appended_stream t name bytes)
  tells_each t (append_rows name rows) = tells_of_table (table_at t name) (appended t name rows) (tells_appended t name rows)
  tells_each t (save_as from to query) = tells_of_table (table_at t from) (saved t to query) (λ table. tells_of_query (selection table query) (made t to) (tells_made t to))
  tells_each t (rename from to) = tells_of_table (table_at t from) (renamed t from to) (tells_renamed t from to)
  tells_each t (drop_table name) = tells_of_table (table_at t name) (dropped t name) (λ table. tt)
  tells_each t (all_of cs) = tells_in_turn t cs

  tells_in_turn : (t : Tables) (cs : PlainCommands) → TellsTables (verdict_in_turn t cs)
  tells_in_turn t no_command = tt
  tells_in_turn t (and_command c cs) = tells_by_first (verdict t c) cs (tells_each t c) (λ u. tells_in_turn u cs)

pub told_by_tables : (t : Tables) (c : PlainCommand) (r : Refusal) → verdict t c ≡ Err r → origin_of r ≡ by_tables
told_by_tables t c r is = subst (λ (x : Result Tables Refusal). TellsTables x) is (tells_each t c)

-- ---- lists of commands

-- the others, if the first command is accepted
abbrev then_others : PlainCommands → Result Tables Refusal → Result Tables Refusal
then_others cs (Err e) = Err e
then_others cs (Ok u) = verdict_in_turn u cs

abbrev then_refused : (place : ℕ) → PlainCommands → Result Tables Refusal → Option (ℕ × Refusal)
then_refused place cs (Err e) = Some (place, e)
then_refused place cs (Ok u) = refused_in_turn (place + 1) u cs

-- an accepted list leaves the tables after its commands
after_first : (t u : Tables) (c : PlainCommand) (cs : List PlainCommand) (v : Result Tables Refusal) → verdict t c ≡ v → then_others (commands_of cs) v ≡ Ok u
    → ((w : Tables) → verdict_in_turn w (commands_of cs) ≡ Ok u → u ≡ after w cs) → u ≡ after (step t c) cs
after_first t u c cs (Err e) first is others = absurd (cc is)
after_first t u c cs (Ok w) first is others = others w is ∙ ap (λ (x : Tables). after x cs) (sym (accepted t w c first))

pub in_turn_is_after : (t u : Tables) (cs : List PlainCommand) → verdict_in_turn t (commands_of cs) ≡ Ok u → u ≡ after t cs
unfolding verdict after
in_turn_is_after t u [] is = let same : t ≡ u = cc is in sym same
in_turn_is_after t u (c ∷ cs) is = after_first t u c cs (verdict t c) refl is (λ w later. in_turn_is_after w u cs later)

-- a list is refused exactly if one of its commands is, and then with its refusal
refused_first : (place n : ℕ) (r : Refusal) (cs : PlainCommands) (v : Result Tables Refusal) → then_refused place cs v ≡ Some (n, r)
    → ((u : Tables) → refused_in_turn (place + 1) u cs ≡ Some (n, r) → verdict_in_turn u cs ≡ Err r) → then_others cs v ≡ Err r
refused_first place n r cs (Err e) is others = let both : ◌≡◌ {A = ℕ × Refusal} (place, e) (n, r) = cc is in ap (λ (p : ℕ × Refusal). Err p.1) both
refused_first place n r cs (Ok u) is others = others u is

pub refused_is_refused : (place : ℕ) (t : Tables) (cs : PlainCommands) (n : ℕ) (r : Refusal) → refused_in_turn place t cs ≡ Some (n, r) → verdict_in_turn t cs ≡ Err r
unfolding verdict
refused_is_refused place t no_command n r is = absurd (cc is)
refused_is_refused place t (and_command c cs) n r is = refused_first place n r cs (verdict t c) is (λ u later. refused_is_refused (place + 1) u cs n r later)

line_first : (place : ℕ) (r : Refusal) (cs : PlainCommands) (v : Result Tables Refusal) → then_others cs v ≡ Err r
    → ((u : Tables) → verdict_in_turn u cs ≡ Err r → (n : ℕ) × (refused_in_turn (place + 1) u cs ≡ Some (n, r))) → (n : ℕ) × (then_refused place cs v ≡ Some (n, r))
line_first place r cs (Err e) is others = let same : e ≡ r = cc is in (place, ap (λ (x : Refusal). Some (place, x)) same)
line_first place r cs (Ok u) is others = others u is

pub refused_has_line : (place : ℕ) (t : Tables) (cs : PlainCommands) (r : Refusal) → verdict_in_turn t cs ≡ Err r → (n : ℕ) × (refused_in_turn place t cs ≡ Some (n, r))
unfolding verdict
refused_has_line place t no_command r is = absurd (cc is)
refused_has_line place t (and_command c cs) r is = line_first place r cs (verdict t c) is (λ u later. refused_has_line (place + 1) u cs r later)

-- the refused command is the one at that place, on the tables after those before it
pub record IsAt (place : ℕ) (t : Tables) (cs : List PlainCommand) (n : ℕ) (r : Refusal) : Type 0 where
  pub index : ℕ
  pub counted : n ≡ place + index
  pub command : PlainCommand
  pub at : slice_get cs index ≡ Some command
  pub refused : verdict (after t (take index cs)) command ≡ Err r

at_first : (place : ℕ) (t : Tables) (c : PlainCommand) (cs : List PlainCommand) (n : ℕ) (r : Refusal) (v : Result Tables Refusal) → verdict t c ≡ v → then_refused place (commands_of cs) v ≡ Some (n, r)
    → ((u : Tables) → refused_in_turn (place + 1) u (commands_of cs) ≡ Some (n, r) → IsAt (place + 1) u cs n r) → IsAt place t (c ∷ cs) n r
unfolding after
at_first place t c cs n r (Err e) first is others =
    let both : ◌≡◌ {A = ℕ × Refusal} (place, e) (n, r) = cc is in
    let here : place ≡ n = ap (λ (p : ℕ × Refusal). p.0) both in
    record { index = 0; counted = omega (arith, here); command = c; at = refl; refused = first ∙ ap (λ (p : ℕ × Refusal). Err p.1) both }
at_first place t c cs n r (Ok u) first is others =
    let rest = others u is in
    let count = rest.counted in
    record {
      index = suc rest.index;
      counted = omega (arith, count);
      command = rest.command;
      at = rest.at;
      refused = ap (λ (w : Tables). verdict (after w (take rest.index cs)) rest.command) (accepted t u c first) ∙ rest.refused;
    }

pub refused_is_at : (place : ℕ) (t : Tables) (cs : List PlainCommand) (n : ℕ) (r : Refusal) → refused_in_turn place t (commands_of cs) ≡ Some (n, r) → IsAt place t cs n r
refused_is_at place t [] n r is = absurd (cc is)
refused_is_at place t (c ∷ cs) n r is = at_first place t c cs n r (verdict t c) refl is (λ u later. refused_is_at (place + 1) u cs n r later)

-- ---- effects

-- the value of a step whose tests passed
pub passed : {A : Type 0} (o : Option Refusal) (x u : A) → unless o (Ok x) ≡ Ok u → u ≡ x
passed None x u is = cc
passed (Some e) x u is = absurd (cc is)
