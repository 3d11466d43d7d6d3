use Rattle.std.proofs.Common.{◌++◌, ◌∷◌, []}
use Rattle.tables.specs.View.{command_of}
use Rattle.test_store.proofs.transactions.tells_schemas.Goals as goal

pub loop-step-preserved : goal.loop-step-preserved
loop-step-preserved g c =
    let was = c.loop-step.invariant.begun in
    record {
      begun = record {
        first = was.first;
        commands = was.commands ++ command_of c.in_ok-command_of.field-0 ∷ [];
        drafts = c.in-Ok-add.ensures.drafts was.first was.commands was.drafts;
      };
    }
