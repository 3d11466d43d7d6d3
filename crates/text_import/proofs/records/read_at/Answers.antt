use Rattle.std.proofs.Common.{◌≡◌, ◌+◌, drop, suc, arith}
use Rattle.std.proofs.lemmas.Bool.{false≢true}
use Rattle.csv.specs.Records.{fields_of}
use Rattle.text_import.specs.laws.Behind.{taken_none, taken_some}
use Rattle.text_import.proofs.PartLemmas.{at_here, behind_here, none_at}
use Rattle.text_import.proofs.records.read_at.Goals as goal

pub loop-i-preserved : goal.loop-i-preserved
loop-i-preserved c = λ records has.
    let i = c.loop-i._i in
    let read = c.in_ok-read_next.ensures (drop i records) (c.loop-i.invariant records has) in
    let (others, whole, left) = taken_some (drop i records) c.in_ok-read_next.field-0 (fields_of c.read_next.new.row) c.read_next.new.reader read c.if-not-branch.false in
    let one : i + 1 ≡ suc i = omega arith in
    rw (one, behind_here records i (fields_of c.read_next.new.row) others whole) left

pub returns-then-not-branch : goal.returns-then-not-branch
returns-then-not-branch c = λ records has.
    let i = c.loop-i._i in
    let read = c.in_ok-read_next.ensures (drop i records) (c.loop-i.invariant records has) in
    let none = taken_none (drop i records) c.in_ok-read_next.field-0 (fields_of c.read_next.new.row) c.read_next.new.reader read c.if-not-branch.true in
    (λ e. absurd (false≢true e), λ _. none_at records i c.args.place none (omega arith))

pub returns : goal.returns
returns c = λ records has.
    let i = c.loop-i._i in
    let read = c.in_ok-found.ensures (drop i records) (c.loop-i.invariant records has) in
    let end : i ≡ c.args.place = omega arith in (
      λ e.
          let (others, whole, left) = taken_some (drop i records) c.in_ok-found.found (fields_of c.read_next-2.new.row) c.read_next-2.new.reader read e in
          rw end at (at_here records i (fields_of c.read_next-2.new.row) others whole),
      λ e. none_at records i c.args.place (taken_none (drop i records) c.in_ok-found.found (fields_of c.read_next-2.new.row) c.read_next-2.new.reader read e) (omega arith),
    )
