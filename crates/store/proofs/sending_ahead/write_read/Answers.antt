use Rattle.std.specs.Prelude.{is_some}
use Rattle.std.proofs.Common.{◌∙◌, List, ℕ, Some, sym, ap, subst}
use Rattle.std.proofs.lemmas.Result.{on_ok_weaker, IfErr-weaker}
use Rattle.sha2.specs.Sha256.{sha256}
use Rattle.arrow_schema.specs.Limits.{IsWithinLimits}
use Rattle.ipc_write.specs.Written.{schema_message}
use Rattle.catalogue.specs.Entries.{is_entry, plain_entry}
use Rattle.catalogue.specs.View.{catalogue_of}
use Rattle.catalogue.specs.laws.Changed.{found_passes}
use Rattle.catalogue.specs.laws.Kept.{entry_is}
use Rattle.store_runs.specs.Held.{rows_in_bytes}
use Rattle.store.specs.inner.Sending.{plain_item}
use Rattle.store.proofs.SentAhead.{sent_of, quiet_sending}
use Rattle.store.proofs.Streamed.{streams}
use Rattle.store.proofs.sending_ahead.write_read.Goals as goal

pub encode_schema-requires : goal.encode_schema-requires
encode_schema-requires g c =
    let e = plain_entry c.in-Some.entry.now in
    let sound = found_passes is_entry (catalogue_of c.args.list.now) _ e c.in-Some.ensures.kept.entries (sym c.in-Some.ensures.entry) in
    subst IsWithinLimits (sym c.schema.ensures) (entry_is e sound).schema

pub write_member-requires : goal.write_member-requires
write_member-requires g c = c.is_listed.ensures c.if-not-is_listed.false ∙ ap sha256 c.deref.ensures.value

pub returns-in-Ok-true-clause-sent : goal.returns-in-Ok-true-clause-sent
returns-in-Ok-true-clause-sent g c =
    let bytes = c.args.bytes.items in
    let segment = c.args.segment in
    let e = plain_entry c.in-Some.entry.now in
    let digest = c.is_listed.ensures c.if-not-is_listed.false ∙ ap sha256 c.deref.ensures.value in
    let message = c.deref-3.ensures.value ∙ c.in-Ok.ensures.message ∙ ap schema_message c.schema.ensures in
    let same = c.in_ok-copy.ensures.copy ∙ c.deref-2.ensures.value in
    let means = sym c.in-Ok-true.field-0-test ∙ c.in-Ok-true.ensures.means e.schema message ∙ ap (λ (b : List ℕ). is_some (rows_in_bytes e.schema segment.rows (Some b))) same in
    on_ok_weaker c.write_member.result (λ written. λ tells image copy.
    sent_of tells image (catalogue_of c.args.list.now) (plain_item c.args.item.now) segment e bytes c.requires.named (sym c.in-Some.ensures.entry)
    (streams tells image e.schema segment bytes c.args.item.now.digest (record { count = copy.count; held = copy.held }) copy.undamaged digest means))
    c.write_member.ensures.written

pub returns-in-Ok-true-clause-quiet : goal.returns-in-Ok-true-clause-quiet
returns-in-Ok-true-clause-quiet g c = IfErr-weaker c.write_member.result _ _ quiet_sending c.write_member.ensures.fails
