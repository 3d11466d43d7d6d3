use Rattle.store.specs.Places.{replies_of}
use Rattle.store.proofs.Answered.{lives}
use Rattle.store.proofs.running.run.Goals as goal

pub returns-in-Ok-clause-lives : goal.returns-in-Ok-clause-lives
returns-in-Ok-clause-lives g c =
    let D = g.D.SectorDevice in
    let a = c.in-Ok.ensures.ok in (
      a.plains,
      a.are,
      a.answers,
      λ told base m fits. lives D.size D.story D.failed base m a.plains (replies_of c.in-Ok.answered.1.items) c.args.place c.in-Ok.answered.0 fits (a.runs told base m fits),
    )
