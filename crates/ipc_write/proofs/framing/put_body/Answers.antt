use Rattle.std.proofs.Common.{◌≡◌, ◌+◌, ◌++◌, ◌<◌, ◌∙◌, ℕ, List, Bor, map, length, get_or, drop, take, sym, ap, append_assoc, append-nil, arith}
use Rattle.std.proofs.lemmas.Grind.{common_steps}
use Rattle.std.proofs.lemmas.List.{drop_more, drop_all}
use Rattle.ipc_write.specs.Written.{body, padded}
use Rattle.ipc_write.proofs.framing.put_body.Goals as goal

-- one buffer more is written, and those behind it are left
put_more : (out new all : List ℕ) (bs : List (Bor (List ℕ))) (i : ℕ) (d : Bor (List ℕ)) → i < length bs → new ≡ out ++ padded (get_or bs i d).now → out ++ body (map (λ b. b.now) (drop i bs)) ≡ all
    → new ++ body (map (λ b. b.now) (drop (i + 1) bs)) ≡ all
put_more out new all bs i d within put was =
    let rest : List ℕ = body (map (λ (b : Bor (List ℕ)). b.now) (drop (i + 1) bs)) in
    ap (λ (xs : List ℕ). xs ++ rest) put
    ∙ append_assoc out (padded (get_or bs i d).now) rest
    ∙ sym (ap (λ (left : List (Bor (List ℕ))). out ++ body (map (λ (b : Bor (List ℕ)). b.now) left)) (drop_more bs i d within))
    ∙ was

begins_more : (first out new : List ℕ) → take (length first) out ≡ first → take (length out) new ≡ out → take (length first) new ≡ first
begins_more first out new h g = grind (arith, common_steps)

pub loop-buffer-preserved : goal.loop-buffer-preserved
loop-buffer-preserved c = (
  put_more c.loop-buffer.out.items c.put_padded.new.out.items _ c.args.buffers.now c.loop-buffer.buffer-index _ c.loop-buffer-test.true c.in_ok-put_padded.ensures.appended c.loop-buffer.invariant.0,
  begins_more _ c.loop-buffer.out.items c.put_padded.new.out.items c.loop-buffer.invariant.1 c.put_padded.ensures.begins,
)

pub returns-clause-appended : goal.returns-clause-appended
returns-clause-appended c =
    let written = rw (drop_all c.loop-buffer.buffer-index c.args.buffers.now c.loop-buffer-test.false) at c.loop-buffer.invariant.0 in
    sym (append-nil c.loop-buffer.out.items) ∙ written

pub returns-in_err-put_padded-clause-begins : goal.returns-in_err-put_padded-clause-begins
returns-in_err-put_padded-clause-begins c = begins_more _ c.loop-buffer.out.items c.put_padded.new.out.items c.loop-buffer.invariant.1 c.put_padded.ensures.begins
