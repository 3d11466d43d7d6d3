use Rattle.std.proofs.Common.{true≢false, sym}
use Rattle.std.proofs.lemmas.Result.{on_ok_weaker}
use Rattle.table_archive.proofs.named.NamedStreams.push_at.Goals as goal

pub returns-in-Some : goal.returns-in-Some
returns-in-Some c =
    on_ok_weaker c.push.result (λ both. ((c.in-Some.digest.now, c.in-Some.found.now), c.in-Some.ensures.entry, both.0, both.1)) c.push.ensures

pub returns-in-None : goal.returns-in-None
returns-in-None c = absurd (true≢false (sym (c.in-None.ensures.found.1 c.requires)))
