use Rattle.std.proofs.Common.{◌≡◌, true, Err, refl, subst}
use Rattle.std.proofs.lemmas.Bool.{true≢false}
use Rattle.catalogue.specs.Edits.{entry_of}
use Rattle.tables.specs.declared.refusal.Refusal.TheVariants.{Halted, Device}
use Rattle.tables.specs.Commands.{append_rows}
use Rattle.tables.specs.View.{command_of}
use Rattle.store.specs.Fits.{listed_in, is_halted}
use Rattle.cli_commands.specs.inner.TextRows.{AppendsRows}
use Rattle.cli_commands.proofs.ChangingLemmas.{answers_just, just_answers}
use Rattle.cli_commands.proofs.TextLemmas.{heavy_for}
use Rattle.cli_commands.proofs.text_rows.append_or_refuse.Goals as goal

pub returns-in-Some-clause-goes : goal.returns-in-Some-clause-goes
returns-in-Some-clause-goes g c = λ s rows there appends tells base m fits.
    let is : command_of c.in-Some.command ≡ append_rows c.args.name.now rows = subst (AppendsRows c.args.name.now s rows) c.in-Some.is appends in
    rw (← is) (c.apply_command.ensures.goes tells base m fits)

pub returns-in-Some-clause-told : goal.returns-in-Some-clause-told
returns-in-Some-clause-told g c = λ s rows there appends.
    let is : command_of c.in-Some.command ≡ append_rows c.args.name.now rows = subst (AppendsRows c.args.name.now s rows) c.in-Some.is appends in
    rw (← is) c.apply_command.ensures.told

pub returns-in-None-clause-goes : goal.returns-in-None-clause-goes
returns-in-None-clause-goes g c = λ s rows there appends tells base m fits.
    let heavy = heavy_for (entry_of (listed_in c.args.store.now) c.args.name.now) s rows there (subst (AppendsRows c.args.name.now s rows) c.in-None.is appends) in
    (Err c.refuse_heavy_rows.result, c.refuse_heavy_rows.ensures.goes tells base m fits rows heavy, refl)

pub returns-in-None-clause-told : goal.returns-in-None-clause-told
returns-in-None-clause-told g c = λ s rows there appends.
    let heavy = heavy_for (entry_of (listed_in c.args.store.now) c.args.name.now) s rows there (subst (AppendsRows c.args.name.now s rows) c.in-None.is appends) in
    let e = c.refuse_heavy_rows.ensures in
    let refusal = c.refuse_heavy_rows.result in (
      Err refusal,
      record {
        applied = λ on. e.applied on rows heavy;
        kept = e.kept;
        quiet = λ other plain. absurd (true≢false plain);
        reads = e.reads;
        halted = answers_just refusal Halted (is_halted c.args.store.now ≡ true) e.halted;
        still = e.still;
        halts = λ on. just_answers refusal Device (is_halted c.refuse_heavy_rows.new.self ≡ true) (e.halts on);
        writes = λ on told stands. e.writes on told stands rows;
        written = tt;
        size_kept = e.size;
        count = e.count;
        book = e.book;
      },
      refl,
    )
