use Rattle.std.proofs.Common.{◌≡◌, ◌∙◌, true, false, List, ℕ, Some, None, map, length, arith, sym, ap, subst}
use Rattle.std.specs.Prelude.{string_bytes, option_map, drop, Option}
use Rattle.std.proofs.lemmas.Bool.{cond-true, cond-false}
use Rattle.std.proofs.lemmas.List.{length-map}
use Rattle.arrow_schema.specs.View.{schema_of}
use Rattle.catalogue.specs.Edits.{entry_of}
use Rattle.table_archive.specs.declared.manifest.ListedSegment.{ListedSegment}
use Rattle.table_archive.specs.Manifest.{plain_listed}
use Rattle.store.specs.declared.segment_streams.SegmentInfo.{SegmentInfo}
use Rattle.store.specs.Fits.{listed_in}
use Rattle.store.specs.Receiving.{begin_with}
use Rattle.store.proofs.Received.{left_same, begin_within}
use Rattle.store.proofs.store.Store.begun.Goals as goal

pub returns-then-begin_with-clause-within : goal.returns-then-begin_with-clause-within
returns-then-begin_with-clause-within g c =
    let infos = c.in_ok-infos.infos in
    let ls = c.args.table.now.segments.items in
    let raw = sym c.begin_with.ensures ∙ c.if-begin_with.true in
    let begins = rw (c.deref.ensures.value, c.deref-2.ensures.value) at raw in
    let fits = begin_within (map (λ (i : SegmentInfo). i.digest) infos.items) ls begins in
    let count = length-map infos.items (λ (i : SegmentInfo). i.digest) in
    omega (arith, fits, count, infos.ok.0, c.len.ensures)

pub returns-then-begin_with-clause-left : goal.returns-then-begin_with-clause-left
returns-then-begin_with-clause-left g c =
    let list = listed_in c.args.self.now in
    let t = plain_listed c.args.table.now in
    let infos = c.in_ok-infos.infos in
    let s = schema_of c.in-Ok.schema in
    let begins = rw (c.deref.ensures.value, c.deref-2.ensures.value) at (sym c.begin_with.ensures ∙ c.if-begin_with.true) in
    let found = rw c.as_str-name.ensures.value at c.in-Ok.ensures.found.1 in
    let also = rw c.as_str-name.ensures.value at c.in_ok-infos.ensures.1 in
    let same = sym c.in_ok-same.ensures ∙ c.if-not-same.false in
    let whole = left_same (entry_of list (string_bytes c.args.table.now.name)) t s found infos.items also same in
    ap (λ (n : ℕ). Some (drop n t.segments)) (omega (arith, infos.ok.0, c.len.ensures)) ∙ sym (whole ∙ cond-true _ _ _ begins)

pub returns-clause-left : goal.returns-clause-left
returns-clause-left g c =
    let list = listed_in c.args.self.now in
    let t = plain_listed c.args.table.now in
    let infos = c.in_ok-infos.infos in
    let s = schema_of c.in-Ok.schema in
    let begins = rw (c.deref.ensures.value, c.deref-2.ensures.value) at (sym c.begin_with.ensures ∙ c.if-begin_with.false) in
    let found = rw c.as_str-name.ensures.value at c.in-Ok.ensures.found.1 in
    let also = rw c.as_str-name.ensures.value at c.in_ok-infos.ensures.1 in
    let same = sym c.in_ok-same.ensures ∙ c.if-not-same.false in
    let whole = left_same (entry_of list (string_bytes c.args.table.now.name)) t s found infos.items also same in
    sym (whole ∙ cond-false _ _ _ begins)
