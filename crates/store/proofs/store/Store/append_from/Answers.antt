use Rattle.std.proofs.Common.{ℕ, List, inl, inr, refl, sym, ap, ◌∙◌, string_bytes}
use Rattle.std.proofs.lemmas.Bool.{true≢false}
use Rattle.tables.specs.Commands.{append_stream}
use Rattle.tables.specs.declared.refusal.Refusal.TheVariants as refusals
use Rattle.store_changes.specs.laws.Tested.{entry_none, entry_some}
use Rattle.store.proofs.Taken.{no_tables_there, heavy_appends, takes_halted, takes_first, takes_refused, takes_whole}
use Rattle.store.proofs.store.Store.append_from.Goals as goal

pub returns-then-self-clause-takes : goal.returns-then-self-clause-takes
returns-then-self-clause-takes g c =
    let D = g.D.SectorDevice in takes_halted D.size D.story D.failed D.tells (g.R.Read.remaining c.args.reader.now) (append_stream c.args.name.now) c.args.self.now c.if-self.true

pub returns-then-not-has_table-clause-takes : goal.returns-then-not-has_table-clause-takes
returns-then-not-has_table-clause-takes g c =
    let D = g.D.SectorDevice in
    takes_first D.size D.story D.failed D.tells (g.R.Read.remaining c.args.reader.now) (append_stream c.args.name.now) c.args.self.now refusals.NoTable c.if-self.false refl (λ is. cc is)
    (λ bytes. no_tables_there D.story D.tells c.args.self.now c.args.name.now bytes (entry_none _ (sym c.has_table.ensures.has ∙ c.if-not-has_table.true)))

pub returns-in-Err-clause-takes : goal.returns-in-Err-clause-takes
returns-in-Err-clause-takes g c =
    let D = g.D.SectorDevice in
    let there = entry_some _ (sym c.has_table.ensures.has ∙ c.if-not-has_table.false) in
    takes_refused D.size D.story D.failed D.tells (g.R.Read.remaining c.args.reader.now) (append_stream c.args.name.now) c.args.self.now (g.R.Read.remaining c.named_input.new.reader) c.in-Err.refusal c.if-self.false c.in-Err.ensures.told
    (heavy_appends D.story D.tells c.args.self.now c.args.name.now there.0 there.1)

pub returns-in-Ok-clause-takes : goal.returns-in-Ok-clause-takes
returns-in-Ok-clause-takes g c =
    let D = g.D.SectorDevice in
    let e = c.apply.ensures in
    takes_whole D.size D.story D.failed D.tells (g.R.Read.remaining c.args.reader.now) (append_stream c.args.name.now) c.args.self.now c.apply.new.self c.in-Ok.bytes.items c.apply.result c.in-Ok.ensures.all
    (append_stream (string_bytes c.in-Ok.name) c.in-Ok.bytes.items) (ap (λ (name : List ℕ). append_stream name c.in-Ok.bytes.items) c.in-Ok.ensures.name) e.goes
    (record { applied = e.applied; refused = e.refused; quiet = e.quiet; reads = e.reads; halted = e.halted; still = e.still; halts = e.halts; writes = e.writes; written = e.written; book = e.book })

pub returns-then-self-clause-reads : goal.returns-then-self-clause-reads
returns-then-self-clause-reads g c = record { closed = λ off. (refl, refl, refl); first = λ on. absurd (true≢false (sym c.if-self.true ∙ on)); reads = λ on. absurd (true≢false (sym c.if-self.true ∙ on)) }

pub returns-then-not-has_table-clause-reads : goal.returns-then-not-has_table-clause-reads
returns-then-not-has_table-clause-reads g c =
    let fails = sym c.has_table.ensures.has ∙ c.if-not-has_table.true in
    record { closed = λ off. absurd (true≢false (sym off ∙ c.if-self.false)); first = λ on none. (refl, refl, refl); reads = λ on passes. absurd (true≢false (sym passes ∙ fails)) }

pub returns-in-Err-clause-reads : goal.returns-in-Err-clause-reads
returns-in-Err-clause-reads g c =
    let passes = sym c.has_table.ensures.has ∙ c.if-not-has_table.false in
    record { closed = λ off. absurd (true≢false (sym off ∙ c.if-self.false)); first = λ on fails. absurd (true≢false (sym passes ∙ fails)); reads = λ on there. inr (c.in-Err.ensures.told, refl) }

pub returns-in-Ok-clause-reads : goal.returns-in-Ok-clause-reads
returns-in-Ok-clause-reads g c =
    let passes = sym c.has_table.ensures.has ∙ c.if-not-has_table.false in
    record { closed = λ off. absurd (true≢false (sym off ∙ c.if-self.false)); first = λ on fails. absurd (true≢false (sym passes ∙ fails)); reads = λ on there. inl (c.in-Ok.ensures.end, c.in-Ok.ensures.few) }
