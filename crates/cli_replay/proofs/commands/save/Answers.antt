use Rattle.std.proofs.Common.{◌≡◌, ℕ, List, Some, Bor, rules, ap, subst}
use Rattle.std.specs.Option.{option_copied}
use Rattle.civil_days.specs.declared.date_form.DateForm.TheVariants.{Numbers}
use Rattle.facts.specs.Texts.{text_list}
use Rattle.query.specs.View.{query_in}
use Rattle.cli_commands.specs.Selecting.{stated_query}
use Rattle.cli_replay.proofs.Texts.{words_right}
use Rattle.cli_replay.proofs.commands.save.Goals as goal

pub returns : goal.returns
returns c =
    let rows = c.args.rows.now in
    let stated =
    subst (λ (ts : List (Bor (List ℕ))). stated_query (text_list ts) (option_copied rows.columns) rows.limit Numbers ≡ Some (query_in c.in-Ok.query)) c.deref.ensures.value c.in-Ok.ensures.stated in
    (query_in c.in-Ok.query, stated, search rules)

pub unreachable-requires : goal.unreachable-requires
unreachable-requires c =
    let rows = c.args.rows.now in
    let e = c.in-Err-Query in
    words_right (text_list rows.conditions.items) (text_list c.deref.result.now) (option_copied rows.columns) rows.limit e.field-0 e.field-0-0 (ap text_list c.deref.ensures.value) c.requires e.field-0-is
    e.ensures.refused
