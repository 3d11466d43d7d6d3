use Rattle.std.specs.Prelude.{◌||◌}
use Rattle.std.proofs.Common.{◌∙◌, Bool, inl, refl, sym, ap}
use Rattle.std.proofs.lemmas.Bool.{true≢false}
use Rattle.tables.specs.Commands.{append_rows}
use Rattle.store_runs.specs.Calls.{is_device_reply, refused}
use Rattle.store.proofs.Begun.{shown_first, shows_old, from_old, placed_old, old_on, ends_behind, refuses_next}
use Rattle.store.proofs.StillSound.{still_sound, all_placed}
use Rattle.store.proofs.store.Store.refuse_heavy_rows_in.Goals as goal

pub heavy_line-refusal-requires-clause-draft : goal.heavy_line-refusal-requires-clause-draft
heavy_line-refusal-requires-clause-draft g c = c.requires.drafts.draft

pub heavy_line-refusal-requires-clause-begins : goal.heavy_line-refusal-requires-clause-begins
heavy_line-refusal-requires-clause-begins g c =
    let D = g.D.SectorDevice in let begun = c.requires in from_old D.size D.story D.failed D.tells begun.first c.args.self.now c.args.transaction begun.commands begun.drafts

pub heavy_line-refusal-requires-clause-placed : goal.heavy_line-refusal-requires-clause-placed
heavy_line-refusal-requires-clause-placed g c =
    let D = g.D.SectorDevice in let begun = c.requires in placed_old D.size D.story D.failed D.tells begun.first c.args.self.now c.args.transaction begun.commands begun.drafts (all_placed begun.first)

pub returns-clause-reads : goal.returns-clause-reads
returns-clause-reads g c =
    let D = g.D.SectorDevice in
    let begun = c.requires in
    let on = old_on D.size D.story D.failed D.tells begun.first c.args.self.now c.args.transaction begun.commands begun.drafts in
    record { device = c.heavy_line-refusal.ensures.reads; kept = refl; book = refl; halts = c.fails-self.ensures ∙ sym (ap (λ (b : Bool). b || is_device_reply (refused c.heavy_line-refusal.result)) on) }

pub returns-clause-refused : goal.returns-clause-refused
returns-clause-refused g c = λ first commands begun rows heavy.
    let D = g.D.SectorDevice in
    let old = c.args.self.now in
    let t = c.args.transaction in
    let does = c.heavy_line-refusal.ensures in
    let ends = ends_behind D.size D.story D.failed D.tells first old t commands begun (append_rows c.args.name.now rows) c.heavy_line-refusal.result
    (inl (does.answers (shown_first D.size D.story D.failed D.tells first old t commands begun) (shows_old D.size D.story D.failed D.tells first old t commands begun) rows heavy)) in
    refuses_next D.size D.story D.failed D.tells first old t commands begun c.decisions_are_verdicts.ensures.at_line (append_rows c.args.name.now rows) c.heavy_line-refusal.result _ tt tt
    does.not_halted ends (returns-clause-reads g c) (λ plain. absurd (true≢false plain))

-- ---- the device keeps its size

pub invariant_of-self : goal.invariant_of-self
invariant_of-self g c = assumption (still_sound c.args.self.now _ _ c.heavy_line-refusal.ensures.reads.same refl)
