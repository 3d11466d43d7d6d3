use Rattle.std.proofs.Common.{◌∙◌, sym}
use Rattle.cli_scripts.specs.Plain.{plain_options}
use Rattle.cli_scripts.proofs.Options.{no_option}
use Rattle.cli_scripts.proofs.append_options.with_option.Goals as goal

pub returns-else-eq-3 : goal.returns-else-eq-3
returns-else-eq-3 c =
    no_option c.args.option.now c.args.value.now (plain_options c.args.others) (sym c.eq.ensures ∙ c.if-eq.false) (sym c.eq-else-eq.ensures ∙ c.if-eq-2.false)
    (sym c.eq-else-eq-2.ensures ∙ c.if-eq-3.false)
