use Rattle.std.specs.Vec.Iter.{into_iter_items}
use Rattle.std.proofs.Common.{◌≡◌, ◌++◌, ◌∷◌, [], ◌∙◌, List, length, Ok, Err, inr, refl, sym, ap, subst, arith, append_assoc}
use Rattle.std.proofs.lemmas.List.{length-append, length_push}
use Rattle.std.proofs.lemmas.Result.{err_from_is_err_and}
use Rattle.sector_dev.specs.Disk.{now, shown_image}
use Rattle.store.specs.declared.applying_all.ListRefusal.TheVariants.{Whole}
use Rattle.store_runs.specs.Calls.{counted, refused}
use Rattle.store.specs.Fits.{listed_in}
use Rattle.cli_reports.specs.declared.refusal.Refusal.TheVariants.{Store}
use Rattle.cli_commands.specs.declared.applying.ListedCommand.{ListedCommand}
use Rattle.cli_commands.proofs.ListLemmas.{no_lines, lines_more, line_told, line_goes, all_answered, none_answered, gives_whole, follows_done, lines_all, never_halted}
use Rattle.cli_commands.proofs.applying.apply_listed.Goals as goal

-- ---- they are not begun

pub returns-in_err-transaction-clause-goes : goal.returns-in_err-transaction-clause-goes
returns-in_err-transaction-clause-goes g c = λ told base m fits.
    let D = g.D.SectorDevice in
    let store = c.args.store.now in
    let p = err_from_is_err_and c.from_residual.result c.from_residual.ensures.1 in
    rw (p.1, p.2) (inr (none_answered D.tells (shown_image (now (D.story store.device))) (listed_in store) c.args.commands.items _ _ store.halted c.in_err-transaction.field-0.0 c.in_err-transaction.ensures.told
    ((c.in_err-transaction.ensures.refused []).goes told base m fits)))

pub returns-in_err-transaction-clause-told : goal.returns-in_err-transaction-clause-told
returns-in_err-transaction-clause-told g c =
    let D = g.D.SectorDevice in
    let store = c.args.store.now in
    let no = c.in_err-transaction.ensures.refused [] in
    let p = err_from_is_err_and c.from_residual.result c.from_residual.ensures.1 in
    rw (p.1, p.2) (inr (none_answered D.tells (shown_image (now (D.story store.device))) (listed_in store) c.args.commands.items _ _ store.halted c.in_err-transaction.field-0.0 c.in_err-transaction.ensures.told
    (record { applies = no.applies; line = no.line; size_kept = no.same; count = no.count })))

pub loop-command-init : goal.loop-command-init
loop-command-init g c =
    let D = g.D.SectorDevice in
    record {
      next = tt;
      ends = tt;
      has = no_lines D.size D.story D.failed D.tells c.args.store.now c.args.store.now c.in_ok-transaction.transaction c.in_ok-transaction.ensures.drafts;
      number = refl;
      parts = c.into_iter-command-iterator.ensures.into_iter_gives.0;
    }

-- ---- one line more

pub add_listed-requires : goal.add_listed-requires
add_listed-requires g c =
    let has = c.loop-command.invariant.has in record { first = c.args.store.now; commands = has.given; drafts = has.drafts }

pub overflow_add-number : goal.overflow_add-number
overflow_add-number g c =
    let here = c.loop-command.invariant.number in
    let front = c.loop-command.yielded in
    let parts = ap (λ (ls : List ListedCommand). front ++ ls) (sym c.in-Some.ensures.steps.0) ∙ c.loop-command.invariant.parts in
    let sum = length-append front (c.in-Some.command ∷ into_iter_items c.next.new.self) in
    let same = ap (λ (ls : List ListedCommand). length ls) parts in
    let count = c.args.commands.ok.0 in
    let most = c.args.commands.ok.1 in
    omega (arith, here, sum, same, count, most)

pub loop-command-preserved : goal.loop-command-preserved
loop-command-preserved g c =
    let D = g.D.SectorDevice in
    let was = c.loop-command.invariant in
    let so_far = c.loop-command.yielded in
    let line = c.in-Some.command in
    record {
      next = tt;
      ends = tt;
      has = lines_more D.size D.story D.failed D.tells c.args.store.now c.loop-command.store c.loop-command.transaction so_far was.has line c.in-Ok.next c.add_listed.new.store
          (c.in-Ok.ensures.adds c.args.store.now was.has.given was.has.drafts);
      number = let here = was.number in let more = length_push so_far line in omega (arith, here, more);
      parts = append_assoc so_far (line ∷ []) (into_iter_items c.next.new.self) ∙ ap (λ (ls : List ListedCommand). so_far ++ ls) (sym c.in-Some.ensures.steps.0) ∙ was.parts;
    }

-- ---- one is refused

pub returns-in-Err-clause-goes : goal.returns-in-Err-clause-goes
returns-in-Err-clause-goes g c = λ told base m fits.
    let D = g.D.SectorDevice in
    let was = c.loop-command.invariant in
    let so_far = c.loop-command.yielded in
    let line = c.in-Some.command in
    let rest = into_iter_items c.next.new.self in
    let parts = ap (λ (ls : List ListedCommand). so_far ++ ls) (sym c.in-Some.ensures.steps.0) ∙ was.parts in
    let here = was.number in
    rw c.at_line.ensures
    (line_goes D.size D.story D.failed D.tells c.args.store.now c.loop-command.store c.add_listed.new.store c.loop-command.transaction so_far was.has line rest c.args.commands.items parts _ (omega (arith, here))
    told base m fits c.in-Err.refusal (c.in-Err.ensures.ends c.args.store.now was.has.given was.has.drafts))

pub returns-in-Err-clause-told : goal.returns-in-Err-clause-told
returns-in-Err-clause-told g c =
    let D = g.D.SectorDevice in
    let was = c.loop-command.invariant in
    let so_far = c.loop-command.yielded in
    let line = c.in-Some.command in
    let rest = into_iter_items c.next.new.self in
    let parts = ap (λ (ls : List ListedCommand). so_far ++ ls) (sym c.in-Some.ensures.steps.0) ∙ was.parts in
    let here = was.number in
    rw c.at_line.ensures
    (line_told D.size D.story D.failed D.tells c.args.store.now c.loop-command.store c.add_listed.new.store c.loop-command.transaction so_far was.has line rest c.args.commands.items parts _ (omega (arith, here))
    _ refl c.in-Err.refusal (c.in-Err.ensures.ends c.args.store.now was.has.given was.has.drafts))

-- ---- all are accepted

pub returns-in_err-commit-clause-goes : goal.returns-in_err-commit-clause-goes
returns-in_err-commit-clause-goes g c = λ told base m fits.
    let D = g.D.SectorDevice in
    let first = c.args.store.now in
    let was = c.loop-command.invariant in
    let left = c.loop-command.command-iterator in
    let has = lines_all D.size D.story D.failed D.tells first c.loop-command.store c.loop-command.transaction c.loop-command.yielded was.has (into_iter_items left) c.args.commands.items was.parts (sym left.rest.ok.0 ∙ c.in-None.ensures.steps.0) in
    let r = c.in_err-commit.field-0.0 in
    let p = err_from_is_err_and c.from_residual-in_err-commit.result c.from_residual-in_err-commit.ensures.1 in
    rw (p.1, p.2) (inr (all_answered D.size D.story D.failed D.tells first c.loop-command.store c.loop-command.transaction c.args.commands.items has _ _ (Err (Whole r)) (Err (Store r))
    (gives_whole _ _ r (never_halted D.size D.story D.failed D.tells first c.loop-command.store c.loop-command.transaction c.args.commands.items has _ r c.commit.new.self (c.in_err-commit.ensures.applies first has.given has.drafts)))
    (c.in_err-commit.ensures.goes first has.given has.drafts told base m fits) refl))

pub returns-in_err-commit-clause-told : goal.returns-in_err-commit-clause-told
returns-in_err-commit-clause-told g c =
    let D = g.D.SectorDevice in
    let first = c.args.store.now in
    let was = c.loop-command.invariant in
    let left = c.loop-command.command-iterator in
    let has = lines_all D.size D.story D.failed D.tells first c.loop-command.store c.loop-command.transaction c.loop-command.yielded was.has (into_iter_items left) c.args.commands.items was.parts (sym left.rest.ok.0 ∙ c.in-None.ensures.steps.0) in
    let r = c.in_err-commit.field-0.0 in
    let applies = c.in_err-commit.ensures.applies first has.given has.drafts in
    let p = err_from_is_err_and c.from_residual-in_err-commit.result c.from_residual-in_err-commit.ensures.1 in
    rw (p.1, p.2) (inr (all_answered D.size D.story D.failed D.tells first c.loop-command.store c.loop-command.transaction c.args.commands.items has _ _ (Err (Whole r)) (Err (Store r))
    (gives_whole _ _ r (never_halted D.size D.story D.failed D.tells first c.loop-command.store c.loop-command.transaction c.args.commands.items has _ r c.commit.new.self applies))
    (record { applies = applies; line = tt; size_kept = c.in_err-commit.ensures.size ∙ has.drafts.reads.device.same; count = c.in_err-commit.ensures.count ∙ ap (counted (refused r)) has.drafts.reads.device.count }) refl))

pub returns-clause-goes : goal.returns-clause-goes
returns-clause-goes g c = λ told base m fits.
    let D = g.D.SectorDevice in
    let first = c.args.store.now in
    let was = c.loop-command.invariant in
    let left = c.loop-command.command-iterator in
    let has = lines_all D.size D.story D.failed D.tells first c.loop-command.store c.loop-command.transaction c.loop-command.yielded was.has (into_iter_items left) c.args.commands.items was.parts (sym left.rest.ok.0 ∙ c.in-None.ensures.steps.0) in
    inr (all_answered D.size D.story D.failed D.tells first c.loop-command.store c.loop-command.transaction c.args.commands.items has _ _ (Ok tt) c.write_whole.result refl
    (c.in_ok-commit.ensures.goes first has.given has.drafts told base m fits) (follows_done tt c.write_whole.result c.write_whole.ensures.io))

pub returns-clause-told : goal.returns-clause-told
returns-clause-told g c =
    let D = g.D.SectorDevice in
    let first = c.args.store.now in
    let was = c.loop-command.invariant in
    let left = c.loop-command.command-iterator in
    let has = lines_all D.size D.story D.failed D.tells first c.loop-command.store c.loop-command.transaction c.loop-command.yielded was.has (into_iter_items left) c.args.commands.items was.parts (sym left.rest.ok.0 ∙ c.in-None.ensures.steps.0) in
    inr (all_answered D.size D.story D.failed D.tells first c.loop-command.store c.loop-command.transaction c.args.commands.items has _ _ (Ok tt) c.write_whole.result refl
    (record {
      applies = c.in_ok-commit.ensures.applies first has.given has.drafts;
      line = tt;
      size_kept = c.in_ok-commit.ensures.size ∙ has.drafts.reads.device.same;
      count = c.in_ok-commit.ensures.count ∙ has.drafts.reads.device.count;
    }) (follows_done tt c.write_whole.result c.write_whole.ensures.io))
