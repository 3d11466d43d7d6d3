use Rattle.store.proofs.Answered.{plain_of, refused_place}
use Rattle.store.proofs.Replied.{refuses_shut}
use Rattle.store.proofs.running.refuse.Goals as goal

pub returns : goal.returns
returns g c =
    let D = g.D.SectorDevice in
    let p = plain_of g.R.Read.remaining c.args.call c.requires in
    record {
      plain = p.0;
      is = p.1;
      goes = λ told base m fits. refused_place D.size D.story D.failed base m p.0 c.args.device p.2 fits;
      answers = refuses_shut D.size D.story D.failed D.tells c.args.device p.0 p.2;
    }
