use Rattle.std.proofs.Common.{◌≡◌, ◌≤◌, ◌<◌, ◌++◌, ◌∙◌, List, length, get_or, subst, map, ap, arith}
use Rattle.std.proofs.lemmas.List.{take_all}
use Rattle.catalogue.specs.declared.entry.TableEntry.{TableEntry}
use Rattle.catalogue.specs.Entries.{plain_entry, runs_in, runs_of}
use Rattle.catalogue.proofs.Rows.{more_runs}
use Rattle.catalogue.proofs.catalogue.Catalogue.runs.Goals as goal

pub loop-entry-preserved : goal.loop-entry-preserved
loop-entry-preserved c =
    let es = c.args.self.now.entries.items in
    let same = c.deref-entry-items.ensures.value in
    let lt = subst (λ (xs : List TableEntry). c.loop-entry.entry-index < length xs) same c.loop-entry-test.true in
    let is = subst (λ (xs : List TableEntry). c.entry-item.result ≡ get_or xs c.loop-entry.entry-index c.entry-item.result) same c.entry-item.is in
    c.in_ok-put_entry_runs.ensures
    ∙ (λ i. c.loop-entry.invariant i ++ runs_in (plain_entry c.entry-item.result))
    ∙ more_runs es c.loop-entry.entry-index c.entry-item.result lt is

pub returns : goal.returns
returns c =
    let past = subst (λ (xs : List TableEntry). length xs ≤ c.loop-entry.entry-index) c.deref-entry-items.ensures.value (omega arith) in
    c.loop-entry.invariant ∙ ap (λ (es : List TableEntry). runs_of (map plain_entry es)) (take_all c.loop-entry.entry-index c.args.self.now.entries.items past)
