use Rattle.std.proofs.Common.{◌∙◌, Ok, Result, map, refl, sym, subst, arith}
use Rattle.std.specs.Prelude.{vec_len}
use Rattle.std.proofs.lemmas.Bool.{eqb-true, eqb-false}
use Rattle.table_archive.specs.Manifest.{plain_listed}
use Rattle.tables.specs.View.{command_of}
use Rattle.store.specs.declared.receiving.ReceiveRefusal.{ReceiveRefusal}
use Rattle.store.specs.Receiving.{EndsAll}
use Rattle.store.proofs.Received.{ends_all, ends_none, receives, received_ok, received_err}
use Rattle.store.proofs.store.Store.receive.Goals as goal

pub returns-then-is_empty-clause-received : goal.returns-then-is_empty-clause-received
returns-then-is_empty-clause-received g c =
    let D = g.D.SectorDevice in
    let commands = c.in-Ok.commands in
    let none = eqb-true (vec_len commands) 0 (sym c.is_empty.ensures ∙ c.if-is_empty.true) in
    let mid = c.commands_for.new.self in
    receives D.size D.story D.failed D.tells c.args.self.now mid mid (map plain_listed c.args.archive.now.tables.items) c.args.delete commands.items
    c.in-Ok.ensures.reads c.in-Ok.ensures.commands (Ok tt)
    (ends_none D.size D.story D.failed D.tells mid mid commands.items (omega (arith, commands.ok.0, none)) refl)

pub returns-clause-received : goal.returns-clause-received
returns-clause-received g c =
    let D = g.D.SectorDevice in
    let store = c.args.self.now in
    let commands = c.in-Ok.commands in
    let some = eqb-false (vec_len commands) 0 (sym c.is_empty.ensures ∙ c.if-is_empty.false) in
    let mid = c.commands_for.new.self in
    let new = c.apply_all.new.self in
    let ts = map plain_listed c.args.archive.now.tables.items in
    let all = c.apply_all.ensures in
    received_ok D.size D.story D.failed D.tells store new ts c.args.delete c.received_by.result
    (receives D.size D.story D.failed D.tells store mid new ts c.args.delete commands.items c.in-Ok.ensures.reads c.in-Ok.ensures.commands c.received_by.result
    (subst (λ (r : Result (Unit {0}) ReceiveRefusal). EndsAll D.size D.story D.failed D.tells mid (map command_of commands.items) r new)
    (sym c.received_by.ensures)
    (ends_all D.size D.story D.failed D.tells mid new commands.items c.apply_all.result (λ none. some (omega (arith, commands.ok.0, none)))
    (record { goes = all.goes; applies = all.applies; line = all.line; same = all.size; count = all.count }))))

pub returns-clause-refused : goal.returns-clause-refused
returns-clause-refused g c =
    let D = g.D.SectorDevice in
    let store = c.args.self.now in
    let commands = c.in-Ok.commands in
    let some = eqb-false (vec_len commands) 0 (sym c.is_empty.ensures ∙ c.if-is_empty.false) in
    let mid = c.commands_for.new.self in
    let new = c.apply_all.new.self in
    let ts = map plain_listed c.args.archive.now.tables.items in
    let all = c.apply_all.ensures in
    received_err D.size D.story D.failed D.tells store new ts c.args.delete c.received_by.result
    (receives D.size D.story D.failed D.tells store mid new ts c.args.delete commands.items c.in-Ok.ensures.reads c.in-Ok.ensures.commands c.received_by.result
    (subst (λ (r : Result (Unit {0}) ReceiveRefusal). EndsAll D.size D.story D.failed D.tells mid (map command_of commands.items) r new)
    (sym c.received_by.ensures)
    (ends_all D.size D.story D.failed D.tells mid new commands.items c.apply_all.result (λ none. some (omega (arith, commands.ok.0, none)))
    (record { goes = all.goes; applies = all.applies; line = all.line; same = all.size; count = all.count }))))
