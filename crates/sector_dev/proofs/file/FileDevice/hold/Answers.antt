use Rattle.sector_dev.proofs.Steps.{appended_contents, appended_within}
use Rattle.sector_dev.proofs.file.FileDevice.hold.Goals as goal

pub invariant_of-self : goal.invariant_of-self
invariant_of-self g c =
    let d = c.args.self.now in
    record {
      within = appended_within c.append.result d.writes.start c.append.new.self.start c.args.start d.writes.contents.items c.append.new.self.contents.items c.args.contents.now (g.F.SectorFile.size d.file) d.within c.requires.inside c.append.ensures.ends c.append.ensures.same c.append.ensures.place c.append.ensures.start;
      contents = appended_contents c.append.result d.writes.contents.items c.append.new.self.contents.items c.args.contents.now c.append.ensures.items c.append.ensures.same d.contents c.have_bytes.ensures;
      sound = d.sound;
      reads = d.reads;
    }
