use Rattle.std.proofs.Common.{◌≡◌, ◌<◌, ◌+◌, ◌++◌, ◌∙◌, ℕ, List, [], length, get_or, take, map, sym, ap, arith}
use Rattle.std.proofs.lemmas.List.{length-map, take_all}
use Rattle.std.specs.List.{flat_map}
use Rattle.byteorder.specs.Endian.{little_bytes}
use Rattle.facts.specs.laws.Lists.{flat_map-push}
use Rattle.catalogue.specs.declared.entry.TableEntry.{TableEntry}
use Rattle.catalogue.specs.Entries.{is_catalogue, plain_entry}
use Rattle.catalogue.specs.Text.{entry_text, list_text}
use Rattle.catalogue.proofs.Rows.{stands_at, next_put, map-item}
use Rattle.catalogue.proofs.encoding.encode.Goals as goal

pub put_entry-requires-clause-sound : goal.put_entry-requires-clause-sound
put_entry-requires-clause-sound c =
    (stands_at c.entries-entries.result.now c.loop-entry.entry-index c.entry-item.result (ap is_catalogue c.entries-entries.ensures.entries ∙ c.args.catalogue.now.kept) c.loop-entry-test.true c.entry-item.is).sound

pub put_entry-requires-clause-segments : goal.put_entry-requires-clause-segments
put_entry-requires-clause-segments c =
    let few = (stands_at c.entries-entries.result.now c.loop-entry.entry-index c.entry-item.result (ap is_catalogue c.entries-entries.ensures.entries ∙ c.args.catalogue.now.kept) c.loop-entry-test.true c.entry-item.is).few in
    omega (arith, few)

-- the texts of the entries so far, and of the next one
more_texts : (es : List TableEntry) (i : ℕ) (x : TableEntry) → i < length es → x ≡ get_or es i x
    → flat_map entry_text (map plain_entry (take (i + 1) es)) ≡ flat_map entry_text (map plain_entry (take i es)) ++ entry_text (plain_entry x)
more_texts es i x lt is = ap (flat_map entry_text) (map-item plain_entry es i x lt is) ∙ flat_map-push entry_text (map plain_entry (take i es)) (plain_entry x)

pub loop-entry-preserved : goal.loop-entry-preserved
loop-entry-preserved c =
    let es = c.entries-entries.result.now in
    next_put [] (little_bytes 4 (length es)) _ _ (entry_text (plain_entry c.entry-item.result)) _ _ c.in_ok-put_entry.ensures c.loop-entry.invariant
    (more_texts es c.loop-entry.entry-index c.entry-item.result c.loop-entry-test.true c.entry-item.is)

pub returns : goal.returns
returns c =
    let es = c.entries-entries.result.now in
    let texts : List ℕ = flat_map entry_text (map plain_entry es) in
    record {
      text = c.loop-entry.invariant
          ∙ ap (λ (seen : List TableEntry). little_bytes 4 (length es) ++ flat_map entry_text (map plain_entry seen)) (take_all c.loop-entry.entry-index es (omega arith))
          ∙ ap (λ (n : ℕ). little_bytes 4 n ++ texts) (sym (length-map es plain_entry))
          ∙ ap list_text c.entries-entries.ensures.entries;
    }
