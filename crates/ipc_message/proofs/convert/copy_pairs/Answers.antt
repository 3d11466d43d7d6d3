use Rattle.std.specs.Global.{Global}
use Rattle.std.specs.Prelude.{String}
use Rattle.std.proofs.Common.{◌≡◌, ◌<◌, ◌+◌, ℕ, List, [], ◌∷◌, ◌++◌, true, ◌&&◌, map, length, drop, get_or, append_assoc, string_bytes, ap, ◌∙◌, arith}
use Rattle.std.specs.List.{list_all}
use Rattle.std.specs.Str.{is_utf8}
use Rattle.std.proofs.lemmas.Bool.{and_parts}
use Rattle.std.proofs.lemmas.List.{drop_more, map_push}
use Rattle.arrow_schema.specs.Column.{Pair}
use Rattle.arrow_schema.specs.View.{pair_of}
use Rattle.ipc_message.specs.declared.raw_header.KeyValue.{KeyValue}
use Rattle.ipc_message.specs.Checks.{texts_of_pairs}
use Rattle.ipc_message.specs.View.{key_value}
use Rattle.ipc_message.proofs.convert.copy_pairs.Goals as goal

-- the texts of the next pair are UTF-8, and so are those of the pairs after it
pair_utf8 : (pairs : List KeyValue) (i : ℕ) (d : KeyValue) → i < length pairs → list_all is_utf8 (texts_of_pairs (map key_value (drop i pairs))) ≡ true
    → (is_utf8 (get_or pairs i d).key.now ≡ true) × (is_utf8 (get_or pairs i d).value.now ≡ true) × (list_all is_utf8 (texts_of_pairs (map key_value (drop (i + 1) pairs))) ≡ true)
pair_utf8 pairs i d lt h =
    let p = get_or pairs i d in
    let left : (is_utf8 p.key.now && (is_utf8 p.value.now && list_all is_utf8 (texts_of_pairs (map key_value (drop (i + 1) pairs))))) ≡ true = rw (drop_more pairs i d lt) at h in
    let both = and_parts _ _ left in
    let others = and_parts _ _ both.1 in
    (both.0, others.0, others.1)

copied_next : (copies new : List (String Global × String Global)) (pairs : List KeyValue) (i : ℕ) (d : KeyValue) (key value : String Global) (whole : List Pair) → i < length pairs → new ≡ copies ++ (key, value) ∷ []
    → string_bytes key ≡ (get_or pairs i d).key.now → string_bytes value ≡ (get_or pairs i d).value.now → map pair_of copies ++ map key_value (drop i pairs) ≡ whole → map pair_of new ++ map key_value (drop (i + 1) pairs) ≡ whole
copied_next copies new pairs i d key value whole lt pushed keys values h =
    let p = get_or pairs i d in
    let rest = map key_value (drop (i + 1) pairs) in
    let old = map pair_of copies in
    let one : pair_of (key, value) ≡ key_value p = ap (λ (k : List ℕ). (k, string_bytes value)) keys ∙ ap (λ (v : List ℕ). (p.key.now, v)) values in
    let all : map pair_of new ≡ old ++ key_value p ∷ [] = ap (map pair_of) pushed ∙ map_push pair_of copies (key, value) ∙ ap (λ (x : Pair). old ++ x ∷ []) one in
    let left : old ++ (key_value p ∷ rest) ≡ whole = rw (drop_more pairs i d lt) at h in
    rw all (append_assoc old (key_value p ∷ []) rest ∙ left)

pub copy_text-requires : goal.copy_text-requires
copy_text-requires c = (pair_utf8 c.args.pairs.now c.loop-pair.pair-index _ (omega arith) c.loop-pair.invariant.utf8).0

pub copy_text-requires-in-loop-pair : goal.copy_text-requires-in-loop-pair
copy_text-requires-in-loop-pair c = (pair_utf8 c.args.pairs.now c.loop-pair.pair-index _ (omega arith) c.loop-pair.invariant.utf8).1

pub loop-pair-preserved : goal.loop-pair-preserved
loop-pair-preserved c = record {
  copied = copied_next c.loop-pair.copies.items c.push.new.self.items c.args.pairs.now c.loop-pair.pair-index _ c.in_ok-key.key c.in_ok-value.value _ (omega arith) c.in_ok-push.ensures.items c.in_ok-key.ensures c.in_ok-value.ensures c.loop-pair.invariant.copied;
  utf8 = (pair_utf8 c.args.pairs.now c.loop-pair.pair-index (record { key = record { ref_ptr = (0, 0); now = [] }; value = record { ref_ptr = (0, 0); now = [] } }) (omega arith) c.loop-pair.invariant.utf8).2;
}
