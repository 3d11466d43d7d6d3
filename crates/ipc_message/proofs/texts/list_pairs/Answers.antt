use Rattle.std.proofs.Common.{◌≡◌, ◌<◌, ◌+◌, ◌∙◌, ◌∷◌, [], ◌++◌, ℕ, List, Bor, length, drop, get_or, map, ap, arith}
use Rattle.std.proofs.lemmas.List.{map_push, drop_more}
use Rattle.facts.specs.Texts.{text_list}
use Rattle.ipc_message.specs.declared.raw_header.KeyValue.{KeyValue}
use Rattle.ipc_message.specs.Checks.{texts_of_pairs}
use Rattle.ipc_message.specs.View.{key_value}
use Rattle.ipc_message.proofs.Opened.{two_listed}
use Rattle.ipc_message.proofs.texts.list_pairs.Goals as goal

next_listed : (old one two : List (Bor (List ℕ))) (pairs : List KeyValue) (i : ℕ) (d : KeyValue) (whole : List (List ℕ)) → i < length pairs → one ≡ old ++ (get_or pairs i d).key ∷ [] → two ≡ one ++ (get_or pairs i d).value ∷ []
    → text_list old ++ texts_of_pairs (map key_value (drop i pairs)) ≡ whole → text_list two ++ texts_of_pairs (map key_value (drop (i + 1) pairs)) ≡ whole
next_listed old one two pairs i d whole lt first second h =
    two_listed (text_list old) (text_list one) (text_list two) (get_or pairs i d).key.now (get_or pairs i d).value.now (texts_of_pairs (map key_value (drop (i + 1) pairs)))
    (ap text_list first ∙ map_push (λ (t : Bor (List ℕ)). t.now) old (get_or pairs i d).key) (ap text_list second ∙ map_push (λ (t : Bor (List ℕ)). t.now) one (get_or pairs i d).value)
    ∙ (rw (drop_more pairs i d lt) at h)

pub loop-pair-preserved : goal.loop-pair-preserved
loop-pair-preserved c =
    next_listed c.loop-pair.texts.items c.push.new.self.items c.push-in-loop-pair.new.self.items c.args.pairs.now c.loop-pair.pair-index _ _ (omega arith) c.in_ok-push.ensures.items c.in_ok-push-2.ensures.items c.loop-pair.invariant
