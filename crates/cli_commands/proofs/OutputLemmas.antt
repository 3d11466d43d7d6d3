-- What is printed before an output fails.
use Rattle.std.specs.Prelude.{Option, Some, None, option_map, unwrap_or, Result, Ok, Err, IfErr, OnErr}
use Rattle.std.proofs.Common.{◌≡◌, ◌∙◌, ◌++◌, ℕ, List, [], append-nil, append_assoc, refl, ap, sym, subst}
use Rattle.arrow_schema.specs.Column.{PlainSchema}
use Rattle.catalogue.specs.Entries.{PlainEntry}
use Rattle.query.specs.declared.errors.QueryError.{QueryError}
use Rattle.query.specs.declared.errors.QueryError.TheVariants as queries
use Rattle.cli_reports.specs.Output.{AppendsFront, IfOutput}
use Rattle.cli_reports.specs.Refusals.{query_refusal}
use Rattle.cli_reports.specs.declared.refusal.Refusal.{Refusal}
use Rattle.cli_reports.specs.declared.refusal.Refusal.TheVariants.{Io}
use Rattle.cli_reports.specs.declared.refusal.Side.TheVariants.{Output}
use Rattle.cli_commands.specs.Printed.{schema_text}

if_io : (P : Type 0) (e : Refusal) → P → IfOutput P e
if_io P (Io Output) p = p
if_io P _ p = tt

-- what follows of each failed output
pub if_failed : (P Q : Type 0) (r : Result (Unit {0}) Refusal) → (P → Q) → OnErr r P → IfErr r (IfOutput Q)
if_failed P Q (Ok done) f p = tt
if_failed P Q (Err e) f p = if_io Q e (f p)

-- a refused query is no failed output
pub not_io : (P : Type 0) (e : QueryError) → IfOutput P (query_refusal e)
not_io P queries.UnknownColumn = tt
not_io P queries.BadCondition = tt
not_io P queries.NotComparable = tt
not_io P queries.OutOfMemory = tt

-- a front of the lines of the schema of a table
pub schema_front : (found : Option PlainEntry) (s : PlainSchema) (text : List ℕ) (old new : Option (List ℕ))
    → option_map (λ e. e.schema) found ≡ Some s → text ≡ schema_text s.columns → AppendsFront old new text
    → (e : PlainEntry) × (found ≡ Some e) × AppendsFront old new (schema_text e.schema.columns)
schema_front None s text old new is lines front = absurd cc
schema_front (Some e) s text old new is lines front =
    let schema : e.schema ≡ s = ap (λ o. unwrap_or o s) is in
    (e, refl, subst (AppendsFront old new) (lines ∙ ap (λ (t : PlainSchema). schema_text t.columns) (sym schema)) front)

-- five texts more, appended at once
pub five_more : (text new lines a b c d e : List ℕ) → text ++ [] ≡ lines → new ≡ text ++ (a ++ (b ++ (c ++ (d ++ e)))) → new ≡ lines ++ a ++ b ++ c ++ d ++ e
five_more text new lines a b c d e all more =
    more ∙ ap (λ (t : List ℕ). t ++ (a ++ (b ++ (c ++ (d ++ e))))) (sym (append-nil text) ∙ all) ∙ simp append_assoc
