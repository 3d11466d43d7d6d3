use Rattle.std.proofs.Common.{◌∙◌, sym}
use Rattle.std.proofs.lemmas.Bool.{not-false}
use Rattle.table_archive.proofs.KnownLemmas.{known_more, known_still}
use Rattle.table_archive.proofs.wanted.WantedDigests.take.Goals as goal

pub returns-in-Ok-clause-known : goal.returns-in-Ok-clause-known
returns-in-Ok-clause-known c = λ had knows q. known_more c.args.self.now.known.keys c.insert.new.self.keys had c.args.digest c.in-Ok.ensures.keys knows q

pub returns-in-Ok-clause-still : goal.returns-in-Ok-clause-still
returns-in-Ok-clause-still c = λ known had knows q.
    known_still c.args.self.now.known.keys c.insert.new.self.keys had c.args.digest c.in-Ok.ensures.keys
    (not-false _ (sym c.in-Ok.ensures.added ∙ known)) knows q
