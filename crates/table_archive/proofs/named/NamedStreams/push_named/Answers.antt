use Rattle.table_archive.proofs.NamedLemmas.{contents_more}
use Rattle.table_archive.proofs.named.NamedStreams.push_named.Goals as goal

pub returns : goal.returns
returns c = (
  c.in_ok-push.ensures.items,
  contents_more c.args.self.now.streams.items c.push-2.new.self.items c.args.stream c.in_ok-push-2.ensures.items,
)
