-- Where a list of commands ends: at the first command that the tables refuse, or at one that they accept.
use Rattle.std.specs.Prelude.{◌⊎◌, IsOk, slice_get}
use Rattle.std.specs.List.{AllByRecursion}
use Rattle.std.proofs.Common.{◌≡◌, ℕ, zero, suc, ◌+◌, List, [], ◌∷◌, take, Option, Some, Result, Ok, Err, inl, inr, refl, sym, ap, ◌∙◌, subst, true, arith}
use Rattle.tables.specs.Refusals.{Origin, origin_of}
use Rattle.tables.specs.laws.Steps.{told_by_tables}
use Rattle.sector_dev.specs.Disk.{Image}
use Rattle.catalogue.specs.Entries.{PlainCatalogue, IsCatalogue}
use Rattle.tables.specs.declared.refusal.Refusal.{Refusal}
use Rattle.tables.specs.declared.refusal.Refusal.TheVariants as refusals
use Rattle.tables.specs.declared.refusal.Limit.TheVariants as limits
use Rattle.tables.specs.Commands.{PlainCommand, all_of, PlainCommands, no_command, and_command, commands_of, BringsTables, EachBringsTables}
use Rattle.tables.specs.Tables.{Tables}
use Rattle.tables.specs.Verdict.{verdict, verdict_in_turn, refused_in_turn, first_commands}
use Rattle.store_runs.specs.Changes.{PlainChange}
use Rattle.store_runs.specs.Held.{tables_held}
use Rattle.store_runs.specs.Steps.{IsNoList, RefusesLine}
use Rattle.store_runs.specs.Deciding.{ExceedsSegments, IsDecided}
use Rattle.store_changes.specs.LawsBelow.{LawsBelow}
use Rattle.store_changes.specs.Verdicts.{IsVerdict, IsUndecided, LeadsThrough, EndsAtLine, IsRefusedAt}
use Rattle.store_changes.specs.laws.InTurn.{stepped}
use Rattle.store_changes.proofs.Verdicts.{decided_held, answered}

-- ---- the verdicts on the commands before it

-- they are accepted, and the image holds the tables after them
record Led (t : Tables) (image : Image) (c : PlainCatalogue) (commands : List PlainCommand) : Type 0 where
  tables : Tables
  says : verdict_in_turn t (commands_of commands) ≡ Ok tables
  held : tables_held image c ≡ Some tables
  stands : IsCatalogue c

-- the others, after the verdict on the first one
abbrev Then : PlainCommands → Result Tables Refusal → Result Tables Refusal
Then cs (Err r) = Err r
Then cs (Ok u) = verdict_in_turn u cs

then_ok : (t u w : Tables) (c : PlainCommand) (cs : PlainCommands) → verdict t c ≡ Ok u → verdict_in_turn u cs ≡ Ok w → verdict_in_turn t (and_command c cs) ≡ Ok w
unfolding verdict
then_ok t u w c cs first later = ap (Then cs) first ∙ later

led : LawsBelow → (t : Tables) (next : ℕ) (image : Image) (c : PlainCatalogue) (commands : List PlainCommand) (next' : ℕ) (image' : Image) (c' : PlainCatalogue) → IsCatalogue c → tables_held image c ≡ Some t
    → EachBringsTables (commands_of commands) → LeadsThrough true next image c commands next' image' c' → Led t image' c' commands
unfolding verdict
led laws t next image c [] next' image' c' k held brings (at, shown, listed) = record {
  tables = t;
  says = refl;
  held = ap (λ (i : Image). tables_held i c') shown ∙ ap (tables_held image) listed ∙ held;
  stands = subst IsCatalogue (sym listed) k;
}
led laws t next image c (x ∷ xs) next' image' c' k held brings (change, mid, between, d, decides, leaves, more) =
    let says = decided_held laws image c t x (Ok change) k held brings.0 decides in
    let later = led laws says.0 mid between d xs next' image' c' leaves.stands (stepped next c t next image c t change says.0 mid between d (omega arith) k says.2 leaves held) brings.1 more in
    record { tables = later.tables; says = then_ok t says.0 later.tables x (commands_of xs) says.1 later.says; held = later.held; stands = later.stands }

-- ---- the place

first_is : (n : ℕ) (cs : List PlainCommand) → first_commands n (commands_of cs) ≡ commands_of (take n cs)
first_is zero [] = refl
first_is zero (c ∷ cs) = refl
first_is (suc n) [] = refl
first_is (suc n) (c ∷ cs) = ap (and_command c) (first_is n cs)

abbrev at : ℕ → Refusal → Option (ℕ × Refusal)
at place r = Some (place, r)

abbrev ThenLine : ℕ → PlainCommands → Result Tables Refusal → Option (ℕ × Refusal)
ThenLine place cs (Err r) = Some (place, r)
ThenLine place cs (Ok u) = refused_in_turn (place + 1) u cs

-- the first commands are accepted, and the next one is refused
by_first : (place n : ℕ) (v : Result Tables Refusal) (front cs : PlainCommands) (u : Tables) (r : Refusal) → Then front v ≡ Ok u → ((w : Tables) → verdict_in_turn w front ≡ Ok u → refused_in_turn (place + 1) w cs ≡ at (place + 1 + n) r)
    → ThenLine place cs v ≡ at (place + suc n) r
by_first place n (Err e) front cs u r accepted later = absurd (cc accepted)
by_first place n (Ok w) front cs u r accepted later = let sum : place + 1 + n ≡ place + suc n = omega arith in later w accepted ∙ ap (λ (p : ℕ). at p r) sum

line_is : (place : ℕ) (t : Tables) (cs : List PlainCommand) (n : ℕ) (c : PlainCommand) (u : Tables) (r : Refusal) → slice_get cs n ≡ Some c → verdict_in_turn t (commands_of (take n cs)) ≡ Ok u → verdict u c ≡ Err r
    → refused_in_turn place t (commands_of cs) ≡ at (place + n) r
unfolding verdict
line_is place t [] n c u r here accepted refused = absurd (cc here)
line_is place t (x ∷ xs) zero c u r here accepted refused =
    let same : x ≡ c = cc here in
    let tables : t ≡ u = cc accepted in
    let sum : place ≡ place + 0 = omega arith in
    ap (ThenLine place (commands_of xs)) (ap (verdict t) same ∙ ap (λ (w : Tables). verdict w c) tables ∙ refused) ∙ ap (λ (p : ℕ). at p r) sum
line_is place t (x ∷ xs) (suc n) c u r here accepted refused =
    by_first place n (verdict t x) (commands_of (take n xs)) (commands_of xs) u r accepted (λ w one. line_is (place + 1) w xs n c u r here one refused)

-- the first commands and the next one are accepted
more_is : (t u w : Tables) (cs : List PlainCommand) (n : ℕ) (c : PlainCommand) → slice_get cs n ≡ Some c → verdict_in_turn t (commands_of (take n cs)) ≡ Ok u → verdict u c ≡ Ok w
    → verdict_in_turn t (commands_of (take (n + 1) cs)) ≡ Ok w
unfolding verdict
more_is t u w [] n c here one other = absurd (cc here)
more_is t u w (x ∷ xs) zero c here one other =
    let same : x ≡ c = cc here in
    let tables : t ≡ u = cc one in
    then_ok t w w x no_command (ap (verdict t) same ∙ ap (λ (v : Tables). verdict v c) tables ∙ other) refl
more_is t u w (x ∷ xs) (suc n) c here one other =
    let count : suc n + 1 ≡ suc (n + 1) = omega arith in
    subst (λ (k : ℕ). verdict_in_turn t (commands_of (take k (x ∷ xs))) ≡ Ok w) (sym count) (by_verdict (verdict t x) refl one (λ v then. more_is v u w xs n c here then other))
  where
    by_verdict : (v : Result Tables Refusal) → verdict t x ≡ v → Then (commands_of (take n xs)) v ≡ Ok u → ((v : Tables) → verdict_in_turn v (commands_of (take n xs)) ≡ Ok u → verdict_in_turn v (commands_of (take (n + 1) xs)) ≡ Ok w)
        → verdict_in_turn t (and_command x (commands_of (take (n + 1) xs))) ≡ Ok w
    by_verdict (Err e) is then later = absurd (cc then)
    by_verdict (Ok v) is then later = then_ok t v w x (commands_of (take (n + 1) xs)) is (later v then)

-- ---- the law

brings_front : (n : ℕ) (cs : List PlainCommand) → EachBringsTables (commands_of cs) → EachBringsTables (commands_of (take n cs))
brings_front zero cs brings = tt
brings_front (suc n) [] brings = tt
brings_front (suc n) (c ∷ cs) brings = (brings.0, brings_front n cs brings.1)

brings_at : (n : ℕ) (cs : List PlainCommand) (c : PlainCommand) → slice_get cs n ≡ Some c → EachBringsTables (commands_of cs) → BringsTables c
brings_at n [] c here brings = absurd (cc here)
brings_at zero (x ∷ xs) c here brings = let same : x ≡ c = cc here in subst BringsTables same brings.0
brings_at (suc n) (x ∷ xs) c here brings = brings_at n xs c here brings.1

single_at : (n : ℕ) (cs : List PlainCommand) (c : PlainCommand) → slice_get cs n ≡ Some c → AllByRecursion IsNoList cs → IsNoList c
single_at n [] c here singles = absurd (cc here)
single_at zero (x ∷ xs) c here singles = let same : x ≡ c = cc here in subst IsNoList same singles.0
single_at (suc n) (x ∷ xs) c here singles = single_at n xs c here singles.1

module _ (laws : LawsBelow) (image : Image) (c : PlainCatalogue) (t : Tables) (commands : List PlainCommand) (place : ℕ) (r : Refusal) (k : IsCatalogue c) (held : tables_held image c ≡ Some t)
    (brings : EachBringsTables (commands_of commands)) (singles : AllByRecursion IsNoList commands) (is : IsRefusedAt true image c commands place r) where
  abbrev cs : PlainCommands
  cs = commands_of commands

  abbrev front : List PlainCommand
  front = take place commands

  so_far : Led t is.over is.made front
  so_far = led laws t is.from image c front is.next is.over is.made k held (brings_front place commands brings) is.leads

  abbrev Tells : Type 0
  Tells = (r ≡ refusals.OutOfMemory) ⊎ (r ≡ refusals.Device) ⊎ RefusesLine (origin_of r) t (all_of cs) place r

  by_verdict : verdict so_far.tables is.command ≡ Err r → Tells
  by_verdict says =
      let sum : 0 + place ≡ place = omega arith in
      inr (inr (subst (λ (o : Origin). RefusesLine o t (all_of cs) place r) (sym (told_by_tables so_far.tables is.command r says))
      (line_is 0 t commands place is.command so_far.tables r is.at so_far.says says ∙ ap (λ (p : ℕ). at p r) sum)))

  by_answer : IsUndecided is.command (Err r) ⊎ IsVerdict so_far.tables is.command (Err r) → Tells
  by_answer (inl (inl memory)) = inl (cc memory)
  by_answer (inl (inr fails)) = inr (inl (let device = fails.0 in cc device))
  by_answer (inr says) = by_verdict says

  by_room : (r ≡ refusals.TooMany limits.Segments) × ((change : PlainChange) × IsDecided true is.over is.made is.command (Ok change) × ExceedsSegments is.next is.made change) → Tells
  by_room (same, (change, decided, exceeds)) =
      let says = decided_held laws is.over is.made so_far.tables is.command (Ok change) so_far.stands so_far.held (brings_at place commands is.command is.at brings) decided in
      let through = more_is t so_far.tables says.0 commands place is.command is.at so_far.says says.1 in
      inr (inr (subst (λ (q : Refusal). RefusesLine (origin_of q) t (all_of cs) place q) (sym same)
      (refl, subst (λ (v : Result Tables Refusal). IsOk v) (sym (ap (verdict_in_turn t) (first_is (place + 1) commands) ∙ through)) refl)))

  by_end : EndsAtLine true is.next is.over is.made is.command r → Tells
  by_end (inl answer) =
      by_answer (answered laws is.over is.made so_far.tables is.command (Err r) (single_at place commands is.command is.at singles) so_far.stands so_far.held (brings_at place commands is.command is.at brings) answer)
  by_end (inr many) = by_room many

  pub at_line : Tells
  at_line = by_end is.ends
