use Rattle.std.proofs.Common.{◌≡◌, ◌++◌, ◌∷◌, [], map}
use Rattle.std.proofs.lemmas.Result.{err_from_is_err_and}
use Rattle.std.proofs.lemmas.List.{map_push}
use Rattle.catalogue.specs.Entries.{plain_entry}
use Rattle.catalogue.specs.Reading.{many_at, entry_at}
use Rattle.catalogue.proofs.Parts.{goes_on, ends, is_done}
use Rattle.catalogue.proofs.decoding.entries_at.Goals as goal

pub returns-in_err-entry : goal.returns-in_err-entry
returns-in_err-entry c =
    let p = err_from_is_err_and c.from_residual.result c.from_residual.ensures.1 in
    rw (p.1, p.2) (ends (entry_at c.args.form) c.in_err-entry.field-0.0 (map plain_entry c.loop.entries.items) c.args.count c.loop.counter c.loop.rest.now (many_at (entry_at c.args.form) c.args.count c.args.bytes.now) c.loop-test.true c.in_err-entry.ensures c.loop.invariant)

pub loop-preserved : goal.loop-preserved
loop-preserved c =
    let n = c.in_ok-entry.entry in
    let e : map plain_entry c.push.new.self.items ≡ map plain_entry c.loop.entries.items ++ plain_entry n ∷ [] = rw c.in_ok-push.ensures.items (map_push _ c.loop.entries.items n) in
    rw e (goes_on (entry_at c.args.form) (map plain_entry c.loop.entries.items) c.args.count c.loop.counter c.loop.rest.now (plain_entry n) c.in_ok-entry.after.now (many_at (entry_at c.args.form) c.args.count c.args.bytes.now) c.loop-test.true c.in_ok-entry.ensures c.loop.invariant)

pub returns : goal.returns
returns c = is_done (entry_at c.args.form) (map plain_entry c.loop.entries.items) c.args.count c.loop.counter c.loop.rest.now (many_at (entry_at c.args.form) c.args.count c.args.bytes.now) c.loop-test.false c.loop.invariant
