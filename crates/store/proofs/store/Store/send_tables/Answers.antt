use Rattle.std.proofs.Common.{◌∙◌, List, map, ap, subst}
use Rattle.std.specs.Prelude.{flat_map}
use Rattle.std.specs.Io.KnownBytes.{Appends}
use Rattle.std.proofs.lemmas.Result.{on_ok_weaker}
use Rattle.sector_dev.specs.Disk.{now, shown_image}
use Rattle.table_archive.specs.Archive.{lacked_by, segment_member}
use Rattle.store.specs.declared.sending.Item.{Item}
use Rattle.store.specs.Fits.{listed_in}
use Rattle.store.specs.Sending.{Located, AreSent}
use Rattle.store.specs.inner.Sending.{plain_item}
use Rattle.store.proofs.Sent.{whole_written}
use Rattle.store.proofs.store.Store.send_tables.Goals as goal

pub returns-clause-sent : goal.returns-clause-sent
returns-clause-sent g c =
    let D = g.D.SectorDevice in
    let W = g.W.Write in
    let first = c.args.self.now in
    let had = c.args.had.now in
    let sent = c.in_ok-send_items.ensures.sent in
    let items =
    ap (map plain_item) c.deref-3.ensures.value ∙ c.in_ok-items.ensures.lacked
    ∙ ap (λ (xs : List Item). lacked_by (λ (x : Located). x.digest) had (map plain_item xs)) c.deref.ensures.value
    ∙ ap (lacked_by (λ (x : Located). x.digest) had) c.in_ok-items_of.ensures.items in
    on_ok_weaker c.write_last.result (λ last. (
      sent.0,
      subst (λ (xs : List Located). AreSent D.tells (shown_image (now (D.story first.device))) (listed_in first) xs sent.0) items sent.1,
      whole_written (W.contents c.args.writer.now) (W.contents c.write_bytes.new.writer) (W.contents c.send_items.new.writer)
          (W.contents c.write_last.new.writer) _
          (flat_map segment_member sent.0) _
          (subst (Appends (W.contents c.args.writer.now) (W.contents c.write_bytes.new.writer)) (c.deref-2.ensures.value ∙ c.in_ok-frame.ensures.front)
          c.in_ok-write_bytes.ensures.written) sent.2
          (subst (Appends (W.contents c.send_items.new.writer) (W.contents c.write_last.new.writer)) (c.deref-4.ensures.value ∙ c.in_ok-frame.ensures.end) last),
    )) c.write_last.ensures.written
