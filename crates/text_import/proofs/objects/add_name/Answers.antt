use Rattle.std.proofs.Common.{◌∙◌, ap}
use Rattle.std.specs.Prelude.{not}
use Rattle.text_import.proofs.ObjectLemmas.{among_texts}
use Rattle.text_import.proofs.objects.add_name.Goals as goal

pub returns-clause-added : goal.returns-clause-added
returns-clause-added c = c.in_ok-added.ensures.added ∙ ap not (among_texts c.args.name c.args.names.now.keys)
