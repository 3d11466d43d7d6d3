use Rattle.std.proofs.Common.{◌≡◌, ◌∙◌, ◌++◌, ℕ, List, [], ◌∷◌, ap, append_assoc, arith}
use Rattle.std.proofs.lemmas.List.{drop_more}
use Rattle.hex.specs.Hex.{encode_lower, encode_with}
use Rattle.query.proofs.line.push_hex.Goals as goal

-- two digits more
two_more : (out rest : List ℕ) (a b x y : ℕ) (one two : List ℕ) → one ≡ out ++ x ∷ [] → two ≡ one ++ y ∷ [] → x ≡ a → y ≡ b → two ++ rest ≡ out ++ a ∷ b ∷ rest
two_more out rest a b x y one two first second high low = rw (second, first, high, low) (append_assoc (out ++ a ∷ []) (b ∷ []) rest ∙ append_assoc out (a ∷ []) (b ∷ rest))

pub loop-byte-init : goal.loop-byte-init
loop-byte-init c = record {
  digits = ap (λ (out : List ℕ). out ++ encode_lower c.args.bytes.now) c.in_ok-reserve.ensures.items;
  room = omega (arith, c.in_ok-reserve.ensures.ok);
}

pub push_reserved-requires : goal.push_reserved-requires
push_reserved-requires c =
    let room = rw (drop_more c.args.bytes.now c.loop-byte.byte-index 0 c.loop-byte-test.true) at c.loop-byte.invariant.room in
    omega (arith, room)

pub push_reserved-requires-in-loop-byte : goal.push_reserved-requires-in-loop-byte
push_reserved-requires-in-loop-byte c =
    let room = rw (drop_more c.args.bytes.now c.loop-byte.byte-index 0 c.loop-byte-test.true) at c.loop-byte.invariant.room in
    omega (arith, c.push_reserved.ensures.len, c.push_reserved.ensures.capacity, room)

pub loop-byte-preserved : goal.loop-byte-preserved
unfolding encode_with
loop-byte-preserved c =
    let more = drop_more c.args.bytes.now c.loop-byte.byte-index 0 c.loop-byte-test.true in
    let kept = rw more at c.loop-byte.invariant.digits in
    let room = rw more at c.loop-byte.invariant.room in
    record {
      digits = two_more _ _ _ _ _ _ _ _ c.push_reserved.ensures.items c.push_reserved-in-loop-byte.ensures.items c.digit.ensures c.digit-in-loop-byte.ensures ∙ kept;
      room = omega (arith, c.push_reserved.ensures.len, c.push_reserved.ensures.capacity, c.push_reserved-in-loop-byte.ensures.len, c.push_reserved-in-loop-byte.ensures.capacity, room);
    }
