use Rattle.std.proofs.Common.{[], List, sym, subst}
use Rattle.sector_dev.specs.contracts.model.calls.ModelDeviceSectorDevice.TheImpl.{ghosts}
use Rattle.store.specs.declared.call.Reply.{Reply}
use Rattle.store.specs.Places.{replies_of}
use Rattle.cli_replay.specs.Playing.{Plays}
use Rattle.cli_replay.proofs.Plays.{plays_none, played_some, played_none, over, none_left}
use Rattle.cli_replay.proofs.playing.play.Goals as goal

pub loop-call-init : goal.loop-call-init
loop-call-init c = record {
  next = tt;
  ends = tt;
  plays =
      subst (λ (rs : List Reply). Plays ghosts over none_left c.args.place [] (replies_of rs) c.args.place) (sym c.in_ok-replies.ensures.items)
      (plays_none ghosts over none_left c.args.place);
}

pub loop-call-preserved-in-Continue-branch-2 : goal.loop-call-preserved-in-Continue-branch-2
loop-call-preserved-in-Continue-branch-2 c = record {
  next = tt;
  ends = tt;
  plays =
      played_some ghosts over none_left c.loop-call.yielded c.in-Some.call c.loop-call.replies.items c.push.new.self.items c.in-Some-reply.reply c.play_line-next.result.1 c.args.place c.loop-call.place
      c.play_line-next.result.0 c.loop-call.invariant.plays c.in-Some-reply.is c.play_line-next.ensures c.in_ok-push.ensures.items;
}

pub loop-call-preserved : goal.loop-call-preserved
loop-call-preserved c = record {
  next = tt;
  ends = tt;
  plays =
      played_none ghosts over none_left c.loop-call.yielded c.in-Some.call c.loop-call.replies.items c.play_line-next.result.1 c.args.place c.loop-call.place c.play_line-next.result.0
      c.loop-call.invariant.plays c.in_default.is c.play_line-next.ensures;
}
