-- Commands of a list, one after another: where they lead, and what is answered where they end.
use Rattle.std.specs.Prelude.{◌≡◌, ◌+◌, ◌++◌, ℕ, zero, suc, Bool, List, [], ◌∷◌, take, drop, slice_get, Some, Result, Ok, Err, refl}
use Rattle.std.proofs.Common.{inl, inr, sym, ap, ◌∙◌, subst, arith}
use Rattle.sector_dev.specs.Disk.{Image}
use Rattle.catalogue.specs.Entries.{PlainCatalogue, runs_of}
use Rattle.tables.specs.declared.refusal.Refusal.{Refusal}
use Rattle.tables.specs.declared.refusal.Refusal.TheVariants as refusals
use Rattle.tables.specs.Commands.{PlainCommand, PlainCommands, all_of, no_command, and_command, commands_of}
use Rattle.store_runs.specs.Changes.{PlainChange}
use Rattle.store_runs.specs.Deciding.{AreBefore, Leaves, IsWhole, IsDecided, IsDecidedInTurn, StopsInTurn, IsAnswered}
use Rattle.store_changes.specs.Verdicts.{LeadsThrough, EndsAtLine, IsRefusedAt}

-- the first commands, and then the others
abbrev pub in_front : List PlainCommand → PlainCommands → PlainCommands
in_front [] rest = rest
in_front (x ∷ xs) rest = and_command x (in_front xs rest)

in_front_of_none : (xs : List PlainCommand) → in_front xs no_command ≡ commands_of xs
in_front_of_none [] = refl
in_front_of_none (x ∷ xs) = ap (and_command x) (in_front_of_none xs)

-- a list around the command at a place
parted : (commands : List PlainCommand) (place : ℕ) (command : PlainCommand) → slice_get commands place ≡ Some command
    → in_front (take place commands) (and_command command (commands_of (drop (place + 1) commands))) ≡ commands_of commands
parted [] place command at = absurd (cc at)
parted (c ∷ cs) zero command at = let same : c ≡ command = cc at in ap (λ (x : PlainCommand). and_command x (commands_of cs)) (sym same)
parted (c ∷ cs) (suc place) command at =
    let count : suc place + 1 ≡ suc (place + 1) = omega arith in
    ap (λ (n : ℕ). and_command c (in_front (take place cs) (and_command command (commands_of (drop n (c ∷ cs)))))) count ∙ ap (and_command c) (parted cs place command at)

module _ (tells : Bool) where
  -- one command more
  pub leads_on : (next : ℕ) (image : Image) (c : PlainCatalogue) (xs : List PlainCommand) (mid : ℕ) (between : Image) (d : PlainCatalogue) (x : PlainCommand) (change : PlainChange) (next' : ℕ) (image' : Image) (c' : PlainCatalogue)
      → LeadsThrough tells next image c xs mid between d → IsDecided tells between d x (Ok change) → Leaves mid between d change next' image' c' → LeadsThrough tells next image c (xs ++ x ∷ []) next' image' c'
  leads_on next image c [] mid between d x change next' image' c' (at, shown, listed) decided leaves = (
    change,
    next',
    image',
    c',
    subst (λ (i : Image). IsDecided tells i c x (Ok change)) shown (subst (λ (e : PlainCatalogue). IsDecided tells between e x (Ok change)) listed decided),
    subst (λ (n : ℕ). Leaves n image c change next' image' c') at (subst (λ (i : Image). Leaves mid i c change next' image' c') shown (subst (λ (e : PlainCatalogue). Leaves mid between e change next' image' c') listed leaves)),
    (refl, refl, refl),
  )
  leads_on next image c (y ∷ ys) mid between d x change next' image' c' (first, m, b, e, decides, leaves, more) decided last =
      (first, m, b, e, decides, leaves, leads_on m b e ys mid between d x change next' image' c' more decided last)

  -- what is decided behind them is decided for all
  decided_behind : (from : ℕ) (old : PlainCatalogue) (next : ℕ) (image : Image) (c : PlainCatalogue) (xs : List PlainCommand) (next' : ℕ) (image' : Image) (c' : PlainCatalogue) (rest : PlainCommands) (r : Result PlainChange Refusal)
      → LeadsThrough tells next image c xs next' image' c' → IsDecidedInTurn tells from old next' image' c' rest r → IsDecidedInTurn tells from old next image c (in_front xs rest) r
  decided_behind from old next image c [] next' image' c' rest r (at, shown, listed) more =
      subst (λ (n : ℕ). IsDecidedInTurn tells from old n image c rest r) at (subst (λ (i : Image). IsDecidedInTurn tells from old next' i c rest r) shown (subst (λ (e : PlainCatalogue). IsDecidedInTurn tells from old next' image' e rest r) listed more))
  decided_behind from old next image c (x ∷ xs) next' image' c' rest r (first, m, b, e, decides, leaves, leads) more =
      (Ok first, decides, (m, b, e, leaves, decided_behind from old m b e xs next' image' c' rest r leads more))

  stops_behind : (next : ℕ) (image : Image) (c : PlainCatalogue) (xs : List PlainCommand) (next' : ℕ) (image' : Image) (c' : PlainCatalogue) (rest : PlainCommands) (r : Result PlainChange Refusal)
      → LeadsThrough tells next image c xs next' image' c' → StopsInTurn tells next' image' c' rest r → StopsInTurn tells next image c (in_front xs rest) r
  stops_behind next image c [] next' image' c' rest r (at, shown, listed) more =
      subst (λ (n : ℕ). StopsInTurn tells n image c rest r) at (subst (λ (i : Image). StopsInTurn tells next' i c rest r) shown (subst (λ (e : PlainCatalogue). StopsInTurn tells next' image' e rest r) listed more))
  stops_behind next image c (x ∷ xs) next' image' c' rest r (first, m, b, e, decides, leaves, leads) more =
      inr (first, decides, inr (m, b, e, leaves, stops_behind m b e xs next' image' c' rest r leads more))

  -- the change of all
  pub leads_to_change : (from : ℕ) (image : Image) (c : PlainCatalogue) (commands : List PlainCommand) (next : ℕ) (over : Image) (made : PlainCatalogue) (change : PlainChange) → AreBefore from (runs_of c)
      → LeadsThrough tells from image c commands next over made → IsWhole from c over made change → IsDecided tells image c (all_of (commands_of commands)) (Ok change)
  leads_to_change from image c commands next over made change before leads whole = (
    from,
    before,
    subst (λ (cs : PlainCommands). IsDecidedInTurn tells from c from image c cs (Ok change)) (in_front_of_none commands)
        (decided_behind from c from image c commands next over made no_command (Ok change) leads (change, whole, refl)),
  )

  -- a list that ends at a command is answered as a command
  pub refusal_answered : (image : Image) (c : PlainCatalogue) (commands : List PlainCommand) (place : ℕ) (r : Refusal) → IsRefusedAt tells image c commands place r → IsAnswered tells image c (all_of (commands_of commands)) (Err r)
  refusal_answered image c commands place r is = by_end is.ends
    where
      rest : PlainCommands
      rest = commands_of (drop (place + 1) commands)

      stops : StopsInTurn tells is.next is.over is.made (and_command is.command rest) (Err r) → IsAnswered tells image c (all_of (commands_of commands)) (Err r)
      stops at =
          inr (inl (
            is.from,
            is.before,
            subst (λ (cs : PlainCommands). StopsInTurn tells is.from image c cs (Err r)) (parted commands place is.command is.at)
                (stops_behind is.from image c (take place commands) is.next is.over is.made (and_command is.command rest) (Err r) is.leads at),
          ))

      by_end : EndsAtLine tells is.next is.over is.made is.command r → IsAnswered tells image c (all_of (commands_of commands)) (Err r)
      by_end (inl (inl memory)) = inl memory
      by_end (inl (inr (inl stopped))) = stops (inl stopped)
      by_end (inl (inr (inr decided))) =
          inr (inr (
            is.from,
            is.before,
            subst (λ (cs : PlainCommands). IsDecidedInTurn tells is.from c is.from image c cs (Err r)) (parted commands place is.command is.at)
                (decided_behind is.from c is.from image c (take place commands) is.next is.over is.made (and_command is.command rest) (Err r) is.leads (Err r, decided, refl)),
          ))
      by_end (inr (many, (change, decided, exceeds))) = stops (inr (change, decided, inl (ap Err many, exceeds)))
