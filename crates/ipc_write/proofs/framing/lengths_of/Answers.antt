use Rattle.std.proofs.Common.{◌≡◌, ◌+◌, ◌<◌, ℕ, List, [], ◌∷◌, ◌++◌, Bor, get_or, length, map, take, take_all, ap, arith, sym, ◌∙◌}
use Rattle.std.proofs.lemmas.List.{map_push, take_more}
use Rattle.ipc_write.proofs.framing.lengths_of.Goals as goal

-- one length more
lengths_more : (bs : List (Bor (List ℕ))) (i : ℕ) (d : Bor (List ℕ)) (old new : List ℕ) → i < length bs → new ≡ old ++ length (get_or bs i d).now ∷ []
    → old ≡ map length (map (λ b. b.now) (take i bs)) → new ≡ map length (map (λ b. b.now) (take (i + 1) bs))
lengths_more bs i d old new lt added was =
    let now : Bor (List ℕ) → List ℕ = λ b. b.now in
    let one : Bor (List ℕ) = get_or bs i d in
    let more : map now (take (i + 1) bs) ≡ map now (take i bs) ++ one.now ∷ [] = ap (λ (xs : List (Bor (List ℕ))). map now xs) (take_more bs i d lt) ∙ map_push now (take i bs) one in
    added ∙ ap (λ (ns : List ℕ). ns ++ length one.now ∷ []) was
    ∙ sym (ap (λ (xs : List (List ℕ)). map length xs) more ∙ map_push (λ (xs : List ℕ). length xs) (map now (take i bs)) one.now)

pub push_reserved-requires : goal.push_reserved-requires
push_reserved-requires c = omega (arith, c.loop-buffer-test.true, c.loop-buffer.invariant.len, c.loop-buffer.invariant.room)

pub loop-buffer-preserved : goal.loop-buffer-preserved
loop-buffer-preserved c = record {
  lengths = lengths_more c.args.buffers.now c.loop-buffer.buffer-index _ c.loop-buffer.lengths.items c.push_reserved.new.self.items c.loop-buffer-test.true c.push_reserved.ensures.items
      c.loop-buffer.invariant.lengths;
  len = omega (arith, c.push_reserved.ensures.len, c.loop-buffer.invariant.len);
  room = omega (arith, c.push_reserved.ensures.capacity, c.loop-buffer.invariant.room);
}

pub returns : goal.returns
returns c =
    c.loop-buffer.invariant.lengths
    ∙ ap (λ (bs : List (Bor (List ℕ))). map length (map (λ (b : Bor (List ℕ)). b.now) bs)) (take_all c.loop-buffer.buffer-index c.args.buffers.now c.loop-buffer-test.false)
