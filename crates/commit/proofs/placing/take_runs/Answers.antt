use Rattle.std.proofs.Common.{◌≡◌, ◌∙◌, ◌+◌, ◌++◌, ◌∷◌, [], ℕ, List, take, drop, get_or, take_all, is_ok, true, ap, sym, subst, arith, Err, None, ◌⊎◌, inl, inr}
use Rattle.std.proofs.lemmas.List.{take_more, drop_more, take-append-drop}
use Rattle.std.proofs.lemmas.Bool.{cond-true}
use Rattle.segments.specs.declared.run.Run.{Run}
use Rattle.segments.specs.declared.errors.TakeError.{TakeError}
use Rattle.segments.specs.declared.errors.TakeError.TheVariants.{NoRoom, OutOfMemory}
use Rattle.segments.specs.Usages.{IsUsedIn, Space, GivesAll}
use Rattle.commit.specs.Placing.{Takes}
use Rattle.commit.specs.laws.Taking.{TookAll, took_none, took_one_more, took_takes, took_fails, all_given_back, lowest_of}
use Rattle.commit.proofs.placing.take_runs.Goals as goal

pub loop-count-init : goal.loop-count-init
loop-count-init c = record {
  len = c.in_ok-runs.ensures.len;
  room = omega (arith, c.in_ok-runs.ensures.exact);
  taken = subst (TookAll c.args.map.now c.args.map.now []) (sym c.in_ok-runs.ensures.items) (took_none c.args.map.now);
  searched = c.nothing-searched.ensures.searched c.args.map.now;
}

pub loop-count-preserved : goal.loop-count-preserved
loop-count-preserved c =
    let i = c.loop-count.count-index in
    let counts = c.args.counts.now in
    let here = take_more counts i 0 c.loop-count-test.true in
    let pushed : is_ok c.push.result ≡ true = ap is_ok c.unwrap.ensures in
    let items = c.push.ensures.items ∙ cond-true (is_ok c.push.result) _ _ pushed in
    record {
      len = c.push.ensures.len ∙ cond-true (is_ok c.push.result) _ _ pushed ∙ ap (λ n. n + 1) c.loop-count.invariant.len;
      room = omega (arith, c.loop-count.invariant.room, c.push.ensures.capacity);
      taken =
          subst (λ (rs : List Run). TookAll c.args.map.now c.take_onward.new.self (take (i + 1) counts) rs) (sym items)
          (subst (λ (ns : List ℕ). TookAll c.args.map.now c.take_onward.new.self ns (c.loop-count.runs.items ++ c.in-Ok.run' ∷ [])) (sym here)
          (took_one_more c.args.map.now c.loop-count.map c.take_onward.new.self (take i counts) c.loop-count.runs.items (get_or counts i 0) c.in-Ok.run' (c.requires.some i c.loop-count-test.true) c.loop-count.invariant.taken c.in-Ok.ensures.lowest c.in-Ok.ensures.changes));
      searched = c.in-Ok.ensures.searched;
    }

pub returns-clause-ok : goal.returns-clause-ok
returns-clause-ok c =
    let all = take_all c.loop-count.count-index c.args.counts.now c.loop-count-test.false in
    took_takes c.args.map.now.size (IsUsedIn c.args.map.now.entries) c.args.counts.now c.loop-count.runs.items (subst (λ (ns : List ℕ). TookAll c.args.map.now c.loop-count.map ns c.loop-count.runs.items) all c.loop-count.invariant.taken).took

pub returns-clause-taken : goal.returns-clause-taken
returns-clause-taken c =
    subst (λ (ns : List ℕ). TookAll c.args.map.now c.loop-count.map ns c.loop-count.runs.items) (take_all c.loop-count.count-index c.args.counts.now c.loop-count-test.false) c.loop-count.invariant.taken

pub returns-in-Err-clause-err : goal.returns-in-Err-clause-err
returns-in-Err-clause-err c =
    let given = subst (GivesAll c.take_onward.new.self c.give_each.new.self) c.deref.ensures.value c.give_each.ensures in
    all_given_back c.args.map.now c.loop-count.map c.give_each.new.self (take c.loop-count.count-index c.args.counts.now) c.loop-count.runs.items c.loop-count.invariant.taken
    (subst (λ (s : Space). GivesAll s c.give_each.new.self c.loop-count.runs.items) c.in-Err.ensures.err given)

-- the number that has no room is the one that was asked for
same_count : (count n : ℕ) (e : TakeError) → (e ≡ NoRoom count) ⊎ (e ≡ OutOfMemory) → e ≡ NoRoom n → (e ≡ NoRoom count) × (count ≡ n)
same_count count n e (inl is) told = (is, cc (is, told))
same_count count n e (inr is) told = absurd (cc (is, told))

pub returns-in-Err-clause-no_room : goal.returns-in-Err-clause-no_room
returns-in-Err-clause-no_room c = λ n told.
    let i = c.loop-count.count-index in
    let counts = c.args.counts.now in
    let old = c.args.map.now in
    let count = get_or counts i 0 in
    let same = same_count count n c.in-Err.error c.in-Err.ensures.errors told in
    let none = c.take_onward.ensures.no_room.0 (c.in-Err.is ∙ ap Err same.0) in
    let fails = took_fails old.size (IsUsedIn old.entries) (take i counts) c.loop-count.runs.items count (drop (i + 1) counts) c.loop-count.invariant.taken.took
    (lowest_of old c.loop-count.map (take i counts) c.loop-count.runs.items c.loop-count.invariant.taken count None none) in
    let whole : take i counts ++ count ∷ drop (i + 1) counts ≡ counts = ap (λ (ns : List ℕ). take i counts ++ ns) (sym (drop_more counts i 0 c.loop-count-test.true)) ∙ take-append-drop i counts in
    subst (λ (m : ℕ). Takes old.size (IsUsedIn old.entries) counts (Err m)) same.1 (subst (λ (ns : List ℕ). Takes old.size (IsUsedIn old.entries) ns (Err count)) whole fails)

pub returns-in-Err-clause-size : goal.returns-in-Err-clause-size
returns-in-Err-clause-size c = c.give_each.ensures.size ∙ ap (λ (s : Space). s.size) c.in-Err.ensures.err ∙ c.loop-count.invariant.taken.size

pub returns-clause-size : goal.returns-clause-size
returns-clause-size c = c.loop-count.invariant.taken.size
