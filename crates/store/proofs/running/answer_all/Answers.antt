use Rattle.std.proofs.Common.{ap, sym, ◌∙◌, subst, true, ◌≡◌, ◌+◌, ◌++◌, ◌∷◌, [], if◌then◌else◌, Bool, arith, List, ℕ, vec_len, is_ok}
use Rattle.std.proofs.lemmas.List.{length_push}
use Rattle.store.specs.declared.call.Reply.{Reply}
use Rattle.store_runs.specs.Calls.{PlainReply}
use Rattle.store.specs.Places.{reply_in, replies_of}
use Rattle.store.specs.Answering.{AnswersCalls}
use Rattle.store.proofs.Answered.{replies_more}
use Rattle.store.proofs.Replied.{calls_none, calls_more}
use Rattle.store.proofs.running.answer_all.Goals as goal

pub loop-call-init : goal.loop-call-init
loop-call-init g c =
    let D = g.D.SectorDevice in
    let remaining = g.R.Read.remaining in
    record {
      next = tt;
      ends = tt;
      room = omega (arith, c.in-Ok.ensures.exact, c.len.ensures);
      count = c.in-Ok.ensures.len;
      calls =
          subst (λ (rs : List Reply). AnswersCalls {g = D} D.size D.story D.failed D.tells remaining c.args.place [] (replies_of rs) c.args.place) (sym c.in-Ok.ensures.items)
          (calls_none D.size D.story D.failed D.tells remaining c.args.place);
    }

pub loop-call-preserved : goal.loop-call-preserved
loop-call-preserved g c =
    let D = g.D.SectorDevice in
    let remaining = g.R.Read.remaining in
    let ok : is_ok c.push.result ≡ true = ap is_ok c.unwrap.ensures in
    let items = c.push.ensures.items ∙ ap (λ (b : Bool). if b then c.loop-call.replies.items ++ c.answer-next.result.1 ∷ [] else c.loop-call.replies.items) ok in
    let replied = sym (ap replies_of items ∙ replies_more c.loop-call.replies.items c.answer-next.result.1) in
    record {
      next = tt;
      ends = tt;
      room = omega (arith, c.push.ensures.capacity, c.loop-call.invariant.room);
      count = c.push.ensures.len ∙ ap (λ (b : Bool). if b then vec_len c.loop-call.replies + 1 else vec_len c.loop-call.replies) ok ∙ ap (λ (k : ℕ). k + 1) c.loop-call.invariant.count ∙ sym (length_push c.loop-call.yielded c.in-Some.call);
      calls =
          subst (λ (rs : List PlainReply). AnswersCalls {g = D} D.size D.story D.failed D.tells remaining c.args.place (c.loop-call.yielded ++ c.in-Some.call ∷ []) rs c.answer-next.result.0) replied
          (calls_more D.size D.story D.failed D.tells remaining c.loop-call.yielded (replies_of c.loop-call.replies.items) c.in-Some.call (reply_in c.answer-next.result.1) c.args.place c.loop-call.place c.answer-next.result.0
          c.loop-call.invariant.calls c.answer-next.ensures);
    }
