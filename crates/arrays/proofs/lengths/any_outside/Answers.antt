use Rattle.std.proofs.Common.{◌≡◌, ℕ, true, false, List, arith, sym, ◌∙◌}
use Rattle.ipc_message.specs.Raw.{buffers_in}
use Rattle.arrays.specs.Checks.{is_outside}
use Rattle.arrays.proofs.Raws.{any_here, any_later, any_end, buffer_at, next_buffer, count_buffers}
use Rattle.arrays.proofs.lengths.any_outside.Goals as goal

-- the test of the buffer that was read
tested : (body bytes : List ℕ) (i a b : ℕ) → a ≡ (buffer_at bytes i).offset → b ≡ (buffer_at bytes i).length
    → is_outside body (buffer_at bytes i) ≡ is_outside body (record { offset = a; length = b })
tested body bytes i a b first second = sym (λ j. is_outside body (record { offset = first j; length = second j }))

pub returns-then-is_outside : goal.returns-then-is_outside
returns-then-is_outside c =
    let body : List ℕ = c.args.body.now in
    let bytes : List ℕ = c.args.buffers.now in
    let here : is_outside body (buffer_at bytes c.loop-i.i) ≡ true =
    tested body bytes c.loop-i.i _ _ c.pair_at-offset.ensures.first c.pair_at-offset.ensures.second ∙ sym c.is_outside.ensures ∙ c.if-is_outside.true in
    sym (any_here (is_outside body) (buffers_in bytes) c.loop-i.i (buffer_at bytes c.loop-i.i) (next_buffer bytes c.loop-i.i (omega arith)) here) ∙ c.loop-i.invariant

pub loop-i-preserved : goal.loop-i-preserved
loop-i-preserved c =
    let body : List ℕ = c.args.body.now in
    let bytes : List ℕ = c.args.buffers.now in
    let here : is_outside body (buffer_at bytes c.loop-i.i) ≡ false =
    tested body bytes c.loop-i.i _ _ c.pair_at-offset.ensures.first c.pair_at-offset.ensures.second ∙ sym c.is_outside.ensures ∙ c.if-is_outside.false in
    any_later (is_outside body) (buffers_in bytes) c.loop-i.i (buffer_at bytes c.loop-i.i) (next_buffer bytes c.loop-i.i (omega arith)) here ∙ c.loop-i.invariant

pub returns : goal.returns
returns c = sym (any_end (is_outside c.args.body.now) (buffers_in c.args.buffers.now) c.loop-i.i (omega (arith, count_buffers c.args.buffers.now))) ∙ c.loop-i.invariant
