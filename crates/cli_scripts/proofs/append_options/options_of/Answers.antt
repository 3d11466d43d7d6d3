use Rattle.std.proofs.Common.{ℕ, List, length, arith}
use Rattle.std.proofs.lemmas.List.{length-map}
use Rattle.std.specs.Borrow.{Bor}
use Rattle.facts.specs.Texts.{text_list}
use Rattle.cli_scripts.proofs.Options.{no_options_of}
use Rattle.cli_scripts.proofs.append_options.options_of.Goals as goal

pub returns-in-len7-up : goal.returns-in-len7-up
returns-in-len7-up c =
    let count = length-map c.args.words.now (λ (t : Bor (List ℕ)). t.now) in
    no_options_of (text_list c.args.words.now) (λ n few is. omega (arith, few, is, c.in-len7-up.len_at_least, count))
