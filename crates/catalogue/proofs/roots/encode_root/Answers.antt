use Rattle.std.proofs.Common.{◌≡◌, ◌<◌, ◌+◌, ◌^◌, ◌++◌, ◌∙◌, ℕ, zero, suc, true, List, [], ◌∷◌, length, get_or, take, map, sym, ap, arith}
use Rattle.std.proofs.lemmas.List.{length-map, map-append, take_more, take_all}
use Rattle.std.proofs.lemmas.Bool.{and_parts}
use Rattle.std.specs.List.{flat_map, list_all}
use Rattle.byteorder.specs.Endian.{little_bytes}
use Rattle.facts.specs.laws.Lists.{flat_map-push}
use Rattle.catalogue.specs.declared.entry.RootEntry.{RootEntry}
use Rattle.catalogue.specs.Entries.{plain_root, is_name, is_filled, is_root_entry}
use Rattle.catalogue.specs.Text.{root_entry_text}
use Rattle.catalogue.proofs.Again.{name_short}
use Rattle.catalogue.proofs.Rows.{next_put}
use Rattle.catalogue.proofs.roots.encode_root.Goals as goal

passes_at : (es : List RootEntry) (i : ℕ) (d : RootEntry) → list_all is_root_entry (map plain_root es) ≡ true → i < length es → is_root_entry (plain_root (get_or es i d)) ≡ true
passes_at [] i d all lt = absurd (omega (arith, lt))
passes_at (e ∷ es) zero d all lt = (and_parts (is_root_entry (plain_root e)) (list_all is_root_entry (map plain_root es)) all).0
passes_at (e ∷ es) (suc i) d all lt = passes_at es i d (and_parts (is_root_entry (plain_root e)) (list_all is_root_entry (map plain_root es)) all).1 (omega (arith, lt))

pub put_count-requires : goal.put_count-requires
put_count-requires c = let few = c.requires.tables in omega (arith, few, length-map c.args.entries.now plain_root)

short_at : (es : List RootEntry) (i : ℕ) (d : RootEntry) → list_all is_root_entry (map plain_root es) ≡ true → i < length es → length (plain_root (get_or es i d)).name < 2 ^ 32
short_at es i d all lt =
    let r = plain_root (get_or es i d) in name_short r.name (and_parts (is_name r.name) (is_filled 8 r.page) (passes_at es i d all lt)).0

pub put_root_entry-requires : goal.put_root_entry-requires
put_root_entry-requires c = short_at c.args.entries.now c.loop-entry.entry-index _ c.requires.entries c.loop-entry-test.true

-- the texts of the entries so far, and of the next one
more_texts : (es : List RootEntry) (i : ℕ) (d : RootEntry) → i < length es
    → flat_map root_entry_text (map plain_root (take (i + 1) es)) ≡ flat_map root_entry_text (map plain_root (take i es)) ++ root_entry_text (plain_root (get_or es i d))
more_texts es i d lt =
    ap (λ (rs : List RootEntry). flat_map root_entry_text (map plain_root rs)) (take_more es i d lt)
    ∙ ap (flat_map root_entry_text) (map-append plain_root (take i es) (get_or es i d ∷ []))
    ∙ flat_map-push root_entry_text (map plain_root (take i es)) (plain_root (get_or es i d))

pub loop-entry-preserved : goal.loop-entry-preserved
loop-entry-preserved c =
    next_put [] (little_bytes 4 (length c.args.entries.now)) _ _ _ _ _ c.in_ok-put_root_entry.ensures c.loop-entry.invariant
    (more_texts c.args.entries.now c.loop-entry.entry-index _ c.loop-entry-test.true)

pub returns : goal.returns
returns c =
    let es = c.args.entries.now in
    let texts : List ℕ = flat_map root_entry_text (map plain_root es) in
    record {
      text = c.loop-entry.invariant
          ∙ ap (λ (seen : List RootEntry). little_bytes 4 (length es) ++ flat_map root_entry_text (map plain_root seen)) (take_all c.loop-entry.entry-index es (omega arith))
          ∙ ap (λ (n : ℕ). little_bytes 4 n ++ texts) (sym (length-map es plain_root));
    }
