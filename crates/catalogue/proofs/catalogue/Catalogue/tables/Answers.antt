use Rattle.std.proofs.Common.{◌≡◌, ◌≤◌, ◌<◌, ◌+◌, ◌∙◌, ℕ, List, length, get_or, take, map, sym, ap, subst, arith}
use Rattle.std.proofs.lemmas.List.{take_all}
use Rattle.std.specs.Prelude.{string_bytes}
use Rattle.facts.specs.laws.Lists.{map_map}
use Rattle.catalogue.specs.declared.entry.TableEntry.{TableEntry}
use Rattle.catalogue.specs.Edits.{tables_of}
use Rattle.catalogue.specs.Entries.{PlainEntry, plain_entry, row_count}
use Rattle.catalogue.proofs.Rows.{rows_fit, next_made}
use Rattle.catalogue.proofs.catalogue.Catalogue.tables.Goals as goal

pub rows-requires : goal.rows-requires
rows-requires c =
    let es = c.args.self.now.entries.items in
    let same = c.deref-entry-items.ensures.value in
    let lt = subst (λ (xs : List TableEntry). c.loop-entry.entry-index < length xs) same c.loop-entry-test.true in
    let is = subst (λ (xs : List TableEntry). c.entry-item.result ≡ get_or xs c.loop-entry.entry-index c.entry-item.result) same c.entry-item.is in
    rows_fit es c.loop-entry.entry-index c.entry-item.result c.args.self.now.kept lt is

pub loop-entry-preserved : goal.loop-entry-preserved
loop-entry-preserved c =
    let es = c.args.self.now.entries.items in
    let i = c.loop-entry.entry-index in
    let x = c.entry-item.result in
    let same = c.deref-entry-items.ensures.value in
    let lt = subst (λ (xs : List TableEntry). c.loop-entry.entry-index < length xs) same c.loop-entry-test.true in
    let is = subst (λ (xs : List TableEntry). c.entry-item.result ≡ get_or xs c.loop-entry.entry-index c.entry-item.result) same c.entry-item.is in
    let row : PlainEntry → List ℕ × ℕ = λ e. (e.name, row_count e) in
    let named = c.in_ok-name.ensures.ok ∙ c.name.ensures in
    let made : (string_bytes c.in_ok-name.name, c.rows.result) ≡ row (plain_entry x) = λ k. (named k, c.rows.ensures k) in
    next_made (λ (e : TableEntry). row (plain_entry e)) _ es i x _ _ (c.in_ok-name.name, c.rows.result) lt is c.in_ok-push.ensures.items made (c.loop-entry.invariant ∙ map_map row plain_entry (take i es))
    ∙ sym (map_map row plain_entry (take (i + 1) es))

pub returns : goal.returns
returns c =
    let past = subst (λ (xs : List TableEntry). length xs ≤ c.loop-entry.entry-index) c.deref-entry-items.ensures.value (omega arith) in
    c.loop-entry.invariant ∙ ap (λ (es : List TableEntry). tables_of (map plain_entry es)) (take_all c.loop-entry.entry-index c.args.self.now.entries.items past)
