use Rattle.std.proofs.Common.{◌∙◌, Bool, refl, sym, ap}
use Rattle.std.specs.Prelude.{◌||◌}
use Rattle.segments.specs.laws.Usages.{or_false}
use Rattle.tables.specs.View.{command_of}
use Rattle.store_runs.specs.Calls.{is_device_reply, refused}
use Rattle.store.proofs.Applied.{single_command}
use Rattle.store.proofs.Begun.{shown_first, shows_old, from_old, placed_old, old_on, drafts_more, ends_behind, refuses_next}
use Rattle.store.proofs.StillSound.{still_sound, all_placed}
use Rattle.store.proofs.store.Store.add.Goals as goal

pub add_line-requires-clause-draft : goal.add_line-requires-clause-draft
add_line-requires-clause-draft g c = c.requires.drafts.draft

pub add_line-requires-clause-begins : goal.add_line-requires-clause-begins
add_line-requires-clause-begins g c =
    let D = g.D.SectorDevice in let begun = c.requires in from_old D.size D.story D.failed D.tells begun.first c.args.self.now c.args.transaction begun.commands begun.drafts

pub add_line-requires-clause-placed : goal.add_line-requires-clause-placed
add_line-requires-clause-placed g c =
    let D = g.D.SectorDevice in let begun = c.requires in placed_old D.size D.story D.failed D.tells begun.first c.args.self.now c.args.transaction begun.commands begun.drafts (all_placed begun.first)

pub add_line-requires-clause-weighed : goal.add_line-requires-clause-weighed
add_line-requires-clause-weighed g c =
    let D = g.D.SectorDevice in
    let begun = c.requires in (
      shown_first D.size D.story D.failed D.tells begun.first c.args.self.now c.args.transaction begun.commands begun.drafts,
      shows_old D.size D.story D.failed D.tells begun.first c.args.self.now c.args.transaction begun.commands begun.drafts,
      begun.drafts.weighed,
    )

-- ---- it was only read

pub returns-in-Ok-clause-reads : goal.returns-in-Ok-clause-reads
returns-in-Ok-clause-reads g c = record { device = c.in-Ok.ensures.reads; kept = refl; book = refl; halts = sym (or_false c.args.self.now.halted) }

pub returns-in-Err-clause-reads : goal.returns-in-Err-clause-reads
returns-in-Err-clause-reads g c =
    let D = g.D.SectorDevice in
    let begun = c.requires in
    let on = old_on D.size D.story D.failed D.tells begun.first c.args.self.now c.args.transaction begun.commands begun.drafts in
    record { device = c.in-Err.ensures.reads; kept = refl; book = refl; halts = c.fails-self.ensures ∙ sym (ap (λ (b : Bool). b || is_device_reply (refused c.in-Err.refusal)) on) }

-- ---- one more

pub returns-in-Ok-clause-drafts : goal.returns-in-Ok-clause-drafts
returns-in-Ok-clause-drafts g c = λ first commands begun.
    let D = g.D.SectorDevice in
    let old = c.args.self.now in
    let t = c.args.transaction in
    let does = c.in-Ok.ensures in
    drafts_more D.size D.story D.failed D.tells first old t commands begun (command_of c.args.command) _ (record { draft = c.in-Ok.draft; weighed = c.add_line.new.weighed }) (single_command c.args.command) c.commands_bring_tables.ensures
    (returns-in-Ok-clause-reads g c) (λ plain. ap D.story (does.still plain)) does.draft does.same
    (does.steps (shown_first D.size D.story D.failed D.tells first old t commands begun) (shows_old D.size D.story D.failed D.tells first old t commands begun))
    (does.weighed (shown_first D.size D.story D.failed D.tells first old t commands begun) (shows_old D.size D.story D.failed D.tells first old t commands begun))

-- ---- refused

pub returns-in-Err-clause-told : goal.returns-in-Err-clause-told
returns-in-Err-clause-told g c = λ first commands begun.
    let D = g.D.SectorDevice in
    let old = c.args.self.now in
    let t = c.args.transaction in
    ends_behind D.size D.story D.failed D.tells first old t commands begun (command_of c.args.command) c.in-Err.refusal
    (c.in-Err.ensures.ends (shown_first D.size D.story D.failed D.tells first old t commands begun) (shows_old D.size D.story D.failed D.tells first old t commands begun))

pub returns-in-Err-clause-refused : goal.returns-in-Err-clause-refused
returns-in-Err-clause-refused g c = λ first commands begun.
    let D = g.D.SectorDevice in
    let old = c.args.self.now in
    let t = c.args.transaction in
    let does = c.in-Err.ensures in
    refuses_next D.size D.story D.failed D.tells first old t commands begun c.decisions_are_verdicts.ensures.at_line (command_of c.args.command) c.in-Err.refusal _ (single_command c.args.command) c.commands_bring_tables.ensures
    does.not_halted (returns-in-Err-clause-told g c first commands begun) (returns-in-Err-clause-reads g c) (λ plain. ap D.story (does.still plain))

-- ---- the device keeps its size

pub invariant_of-self : goal.invariant_of-self
invariant_of-self g c = assumption (still_sound c.args.self.now _ _ c.add_line.ensures.reads.same refl)
