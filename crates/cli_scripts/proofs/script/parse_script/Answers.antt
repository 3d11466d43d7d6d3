use Rattle.std.proofs.Common.{Option, inl, refl, ap}
use Rattle.std.specs.Prelude.{option_map}
use Rattle.cli_scripts.specs.Plain.{plain_grouping}
use Rattle.cli_scripts.specs.declared.items.Grouping.{Grouping}
use Rattle.cli_scripts.proofs.Grouped.{words_read, words_refused}
use Rattle.cli_scripts.proofs.script.parse_script.Goals as goal

pub loop-place-preserved : goal.loop-place-preserved
loop-place-preserved c =
    let item = c.index-words-place in
    words_read c.args.words.now c.loop-place.place item.result (plain_grouping c.loop-place.grouping) (plain_grouping c.in-Some.longer) _ _ refl c.loop-place-test.true item.is c.in_ok-longer.ensures.added
    (ap (λ (o : Option Grouping). option_map plain_grouping o) c.in-Some.is) c.loop-place.invariant

pub returns-in-None : goal.returns-in-None
returns-in-None c =
    let item = c.index-words-place in
    inl (words_refused c.args.words.now c.loop-place.place item.result (plain_grouping c.loop-place.grouping) _ _ refl c.loop-place-test.true item.is c.in_ok-longer.ensures.added
    (ap (λ (o : Option Grouping). option_map plain_grouping o) c.in-None.is) c.loop-place.invariant)
