use Rattle.std.proofs.Common.{sym, subst}
use Rattle.store.specs.Places.{reply_in}
use Rattle.store.specs.Answering.{AnswersCall}
use Rattle.store.proofs.running.answer.Goals as goal

pub returns-in-Open : goal.returns-in-Open
returns-in-Open g c =
    let D = g.D.SectorDevice in
    let r = c.answer_open.result in
    subst (λ p. AnswersCall {g = D} D.size D.story D.failed D.tells g.R.Read.remaining p c.args.call (reply_in r.1) r.0) (sym c.in-Open.is) c.answer_open.ensures

pub returns-in-Shut : goal.returns-in-Shut
returns-in-Shut g c =
    let D = g.D.SectorDevice in
    let r = c.answer_shut.result in
    subst (λ p. AnswersCall {g = D} D.size D.story D.failed D.tells g.R.Read.remaining p c.args.call (reply_in r.1) r.0) (sym c.in-Shut.is) c.answer_shut.ensures
