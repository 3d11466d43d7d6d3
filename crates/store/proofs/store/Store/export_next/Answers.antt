use Rattle.std.specs.Prelude.{option_map}
use Rattle.store.proofs.ExportSteps.{gives_goes, refuses_goes}
use Rattle.store.proofs.store.Store.export_next.Goals as goal

pub returns-in-Ok-clause-goes : goal.returns-in-Ok-clause-goes
returns-in-Ok-clause-goes g c = λ told base m fits.
    let D = g.D.SectorDevice in
    gives_goes D.size D.story D.failed base m D.tells told c.args.self.now c.give_piece.new.self fits c.args.id (option_map (λ v. v.items) c.in-Ok.piece) c.in-Ok.ensures.given c.in-Ok.ensures.counted c.in-Ok.ensures.reads

pub returns-in-Err-clause-refused : goal.returns-in-Err-clause-refused
returns-in-Err-clause-refused g c = λ told base m fits.
    let D = g.D.SectorDevice in
    let reads = c.in-Err.ensures.reads in
    refuses_goes D.size D.story D.failed base m D.tells told c.args.self.now c.give_piece.new.self fits c.args.id c.in-Err.refusal c.in-Err.ensures.told
    (record { device = reads.device; kept = reads.kept; book = c.in-Err.ensures.kept; halts = reads.halts })
