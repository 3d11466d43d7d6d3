use Rattle.std.specs.Prelude.{string_bytes}
use Rattle.std.proofs.lemmas.Result.{IfOk-weaker}
use Rattle.store.specs.Places.{reply_in}
use Rattle.cli_replay.specs.Playing.{FoundText}
use Rattle.cli_replay.proofs.Opening.{listing_answers}
use Rattle.cli_replay.proofs.device.found_on.Goals as goal

pub found_text-requires : goal.found_text-requires
found_text-requires c =
    let opened = c.answer-place in
    let listed = c.answer-place-2 in
    listing_answers c.args.device opened.result.1 opened.result.0 opened.ensures listed.result.1 listed.result.0 listed.ensures

pub returns-clause-found : goal.returns-clause-found
returns-clause-found c =
    let opened = c.answer-place in
    let listed = c.answer-place-2 in
    IfOk-weaker c.found_text.result (λ text. FoundText (reply_in opened.result.1) (reply_in listed.result.1) (string_bytes text)) _ (λ text printed. record {
      opened = reply_in opened.result.1;
      found = opened.result.0;
      opens = opened.ensures;
      listing = reply_in listed.result.1;
      after = listed.result.0;
      lists = listed.ensures;
      printed = printed;
    }) c.found_text.ensures.found
