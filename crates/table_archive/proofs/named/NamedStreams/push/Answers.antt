use Rattle.std.proofs.Common.{sym}
use Rattle.std.proofs.lemmas.List.{append-nil}
use Rattle.table_archive.specs.inner.Named.{contents}
use Rattle.table_archive.proofs.named.NamedStreams.push.Goals as goal

pub returns-in-Some : goal.returns-in-Some
returns-in-Some c = rw c.in-Some.is c.push_named.ensures

pub returns-in-None : goal.returns-in-None
returns-in-None c =
    rw c.in-None.is (sym (append-nil c.args.self.now.names.items), sym (append-nil (contents c.args.self.now.streams.items)))
