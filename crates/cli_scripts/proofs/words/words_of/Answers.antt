use Rattle.std.proofs.Common.{map, sym, rules}
use Rattle.std.specs.Prelude.{string_bytes}
use Rattle.cli_scripts.proofs.Reading.{none_read, none_left, stepped, to_next, to_end, next_shorter}
use Rattle.cli_scripts.proofs.words.words_of.Goals as goal

pub words-init : goal.words-init
words-init c = record { read = rw c.new-words.ensures.items (none_read c.args.text.now); utf8 = search rules }

pub returns-in_default : goal.returns-in_default
returns-in_default c =
    let none = rw c.in_default.is at c.in_ok-word.ensures in
    none_left c.args.text.now (map string_bytes c.words.words.items) c.words.rest.now c.words.invariant.read (sym none)

pub words-smaller : goal.words-smaller
words-smaller c =
    let here = rw c.in-Some.is at c.in_ok-word.ensures in
    next_shorter c.words.rest.now (string_bytes c.in-Some.word) c.in-Some.after c.in-Some-after.next here c.in-Some-after.is

pub words-preserved : goal.words-preserved
words-preserved c =
    let here = rw c.in-Some.is at c.in_ok-word.ensures in
    let read =
    stepped c.args.text.now c.words.words.items c.push.new.self.items c.in-Some.word c.in-Some.after c.words.rest.now c.words.invariant.read here c.in_ok-push.ensures.items in
    record { read = to_next c.args.text.now (map string_bytes c.push.new.self.items) c.in-Some.after c.in-Some-after.next read c.in-Some-after.is; utf8 = search rules }

pub returns-in-None : goal.returns-in-None
returns-in-None c =
    let here = rw c.in-Some.is at c.in_ok-word.ensures in
    to_end c.args.text.now (map string_bytes c.push.new.self.items) c.in-Some.after
    (stepped c.args.text.now c.words.words.items c.push.new.self.items c.in-Some.word c.in-Some.after c.words.rest.now c.words.invariant.read here c.in_ok-push.ensures.items)
    c.in-None.is
