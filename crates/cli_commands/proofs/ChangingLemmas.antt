-- What the program answers once a command is done.
use Rattle.std.specs.Prelude.{◌≡◌, ◌↔◌, Option, Some, None, option_map, unwrap_or, Result, Ok, Err, IfErr}
use Rattle.std.proofs.Common.{ap, sym, subst, inr, refl}
use Rattle.arrow_schema.specs.Column.{PlainSchema}
use Rattle.catalogue.specs.Entries.{PlainEntry}
use Rattle.tables.specs.declared.refusal.Refusal as tables
use Rattle.cli_reports.specs.declared.refusal.Refusal.{Refusal}
use Rattle.cli_reports.specs.declared.refusal.Refusal.TheVariants.{Io, Store}
use Rattle.cli_reports.specs.declared.refusal.Side.TheVariants.{Output}
use Rattle.cli_commands.specs.Changing.{Answered, Follows, HandsSchema}

pub follows_write : (done : Unit {0}) (result : Result (Unit {0}) Refusal) → IfErr result (λ e. e ≡ Io Output) → Follows (Ok done) result
follows_write done (Ok unit) io = tt
follows_write done (Err e) io = io

pub follows_refusal : (e : tables.Refusal) (result : Result (Unit {0}) Refusal) (refusal : Refusal) → result ≡ Err refusal → refusal ≡ Store e → Follows (Err e) result
follows_refusal e result refusal is same = subst (Follows (Err e)) (sym is) same

-- the schema is that of the entry that is found
pub hands_schema : (found : Option PlainEntry) (P : PlainSchema → Result (Unit {0}) tables.Refusal → Type 0) (Q : Refusal → Type 0) (s : PlainSchema) (result : Result (Unit {0}) Refusal)
    → option_map (λ e. e.schema) found ≡ Some s → Answered (P s) result → HandsSchema found P Q result
hands_schema None P Q s result is answered = absurd cc
hands_schema (Some e) P Q s result is answered =
    let schema : s ≡ e.schema = sym (ap (λ o. unwrap_or o s) is) in
    inr (e, refl, subst (λ (x : PlainSchema). Answered (P x) result) schema answered)

-- the answer that is a refusal
abbrev refused_by : tables.Refusal → Result (Unit {0}) tables.Refusal
refused_by e = Err e

module _ (e r : tables.Refusal) (H : Type 0) where
  pub answers_just : (e ≡ r) ↔ H → (refused_by e ≡ Err r) ↔ H
  answers_just both = (λ (is : refused_by e ≡ Err r). both.0 (cc is), λ (h : H). ap refused_by (both.1 h))

  pub just_answers : H ↔ (e ≡ r) → H ↔ (refused_by e ≡ Err r)
  just_answers both = (λ (h : H). ap refused_by (both.0 h), λ (is : refused_by e ≡ Err r). both.1 (cc is))
