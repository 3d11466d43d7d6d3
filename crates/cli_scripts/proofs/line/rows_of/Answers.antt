use Rattle.std.proofs.Common.{◌∙◌, ℕ, List, option_map, ap, sym}
use Rattle.std.specs.Option.{option_copied}
use Rattle.facts.specs.Texts.{text_list}
use Rattle.cli_scripts.proofs.Tests.{made, rows_found}
use Rattle.cli_scripts.proofs.line.rows_of.Goals as goal

pub returns : goal.returns
returns c =
    let first = c.option_at.result in
    let limit = c.option_at-2.result in
    let columns = c.option_or_at.result in
    ap (option_map (made (option_copied columns.0) (text_list c.in_ok-conditions.conditions.items))) (sym c.in-Some.is)
    ∙ ap (λ (conditions : List (List ℕ)). option_map (made (option_copied columns.0) conditions) c.limit_of.result)
    (ap text_list c.in_ok-conditions.ensures.items ∙ c.after_dashes.ensures)
    ∙ rows_found (option_copied first.0, text_list first.1.now) (option_copied limit.0, text_list limit.1.now) (option_copied columns.0, text_list columns.1.now) c.limit_of.result
    (text_list c.args.words.now) c.option_at.ensures c.option_at-2.ensures c.option_or_at.ensures c.limit_of.ensures
