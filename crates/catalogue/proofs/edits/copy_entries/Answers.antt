use Rattle.std.proofs.Common.{◌∙◌, List, map, ap, arith}
use Rattle.std.proofs.lemmas.List.{take_all}
use Rattle.catalogue.specs.declared.entry.TableEntry.{TableEntry}
use Rattle.catalogue.specs.Entries.{plain_entry}
use Rattle.catalogue.proofs.Rows.{next_made}
use Rattle.catalogue.proofs.edits.copy_entries.Goals as goal

pub loop-entry-preserved : goal.loop-entry-preserved
loop-entry-preserved c =
    next_made plain_entry plain_entry c.args.entries.now c.loop-entry.entry-index c.entry-item.result _ _ c.in_ok-copy.field-0 c.loop-entry-test.true c.entry-item.is c.in_ok-push.ensures.items c.in_ok-copy.ensures c.loop-entry.invariant

pub returns : goal.returns
returns c = c.loop-entry.invariant ∙ ap (λ (es : List TableEntry). map plain_entry es) (take_all c.loop-entry.entry-index c.args.entries.now (omega arith))
