-- What is listed after the crash keeps what was acknowledged.
use Rattle.std.proofs.Common.{◌≡◌, ◌⊎◌, inl, inr, ◌++◌, ◌∙◌, ◌∷◌, [], ℕ, Bool, true, List, take, length, append-nil, Option, Some, None, refl, sym, ap, subst}
use Rattle.sector_dev.specs.Disk.{Story, now}
use Rattle.sector_dev.specs.declared.device.SectorDevice.{Ghosts}
use Rattle.tables.specs.Tables.{Tables, no_tables, row_counts}
use Rattle.tables.specs.Commands.{PlainCommand}
use Rattle.tables.specs.Verdict.{after}
use Rattle.store.specs.declared.call.Call.{Call}
use Rattle.store.specs.declared.call.Call.TheVariants as calls_in
use Rattle.store.specs.declared.call.StoreOrDevice.{StoreOrDevice}
use Rattle.store.specs.declared.call.StoreOrDevice.TheVariants as places
use Rattle.store.specs.Answering.{AnswersCall}
use Rattle.store.specs.Beginning.{IsLeftOf}
use Rattle.store_runs.specs.Calls.{PlainCall, open_call, tables_call, PlainReply, done, counts}
use Rattle.store.specs.Fits.{setting_of, DeviceFits, resumed}
use Rattle.store_runs.specs.History.{InOrder, in_doubt, acknowledged, begun, Settles}
use Rattle.store_runs.specs.Machine.{Setting, Machine, has_written, with_doubt, opened, shut_down}
use Rattle.store.specs.Places.{AreCallsOf, device_in, ShutFits, PlaceFits}
use Rattle.store_runs.specs.Runs.{Run}
use Rattle.store_runs.specs.Steps.{Step}
use Rattle.cli_replay.specs.Playing.{Plays}
use Rattle.cli_replay.specs.Replay.{IsKept}
use Rattle.cli_replay.proofs.Runs.{played_run}

-- ---- commands in order

front_in_order : (xs ys zs : List PlainCommand) → InOrder (xs ++ ys) zs → InOrder xs zs
front_in_order [] ys zs among = tt
front_in_order (x ∷ xs) ys [] among = absurd among
front_in_order (x ∷ xs) ys (z ∷ zs) (inl first) = inl (first.0, front_in_order xs ys zs first.1)
front_in_order (x ∷ xs) ys (z ∷ zs) (inr later) = inr (front_in_order (x ∷ xs) ys zs later)

in_order_before : (xs ys zs : List PlainCommand) → InOrder xs ys → InOrder xs (ys ++ zs)
in_order_before [] ys zs among = tt
in_order_before (x ∷ xs) [] zs among = absurd among
in_order_before (x ∷ xs) (y ∷ ys) zs (inl first) = inl (first.0, in_order_before xs ys zs first.1)
in_order_before (x ∷ xs) (y ∷ ys) zs (inr later) = inr (in_order_before (x ∷ xs) ys zs later)

doubted : (settled : List PlainCommand) (doubt : Option PlainCommand) → settled ++ in_doubt doubt ≡ with_doubt settled doubt
doubted settled None = append-nil settled
doubted settled (Some c) = refl

-- ---- machines

either_way : {A : Type 0} → A ⊎ A → A
either_way (inl a) = a
either_way (inr a) = a

-- an opening of an empty store begins with nothing settled and nothing in doubt
begins : (s : Setting) (plain : PlainCall) (wrote : Bool) (next : Machine) → plain ≡ open_call → Step s resumed plain done wrote next → next ≡ opened []
unfolding Step
begins s plain wrote next is step = let step_open = subst (λ (p : PlainCall). Step s resumed p done wrote next) is step in either_way step_open.1

-- an opening settles what was in doubt, or drops it
found_settled : (s : Setting) (m : Machine) (plain : PlainCall) (wrote : Bool) (next : Machine) → plain ≡ open_call → Step s (shut_down m) plain done wrote next
    → (next ≡ opened m.settled) ⊎ (next ≡ opened (with_doubt m.settled m.doubt))
unfolding Step
found_settled s m plain wrote next is step = let step_open = subst (λ (p : PlainCall). Step s (shut_down m) p done wrote next) is step in step_open.1

-- the tables that are listed
listed_tables : (s : Setting) (m : Machine) (plain : PlainCall) (listed : List (List ℕ × ℕ)) (wrote : Bool) (next : Machine) → plain ≡ tables_call → Step s m plain (counts listed) wrote next
    → listed ≡ row_counts (after s.base m.settled)
unfolding Step
listed_tables s m plain listed wrote next is step = let step_tables = subst (λ (p : PlainCall). Step s m p (counts listed) wrote next) is step in step_tables.1

-- the law of settled commands, of one run
abbrev pub SettlesRuns : Type 0
SettlesRuns =
    (s : Setting) (calls : List PlainCall) (replies : List PlainReply) (m : Machine) (old : Story) (failed : ℕ) (m' : Machine) (new : Story) (failed' : ℕ)
    → Run s calls replies m old failed m' new failed' → Settles m.settled m'.settled m.doubt m'.doubt (acknowledged calls replies) (begun calls replies)

-- what is listed is of these commands, with the one in doubt or without
listed_kept : {R : Type 0} (remaining : R → Option (List ℕ)) (lines : List (Call R)) (replies : List PlainReply) (plains : List PlainCall) (settled : List PlainCommand) (doubt : Option PlainCommand)
    (listed : List (List ℕ × ℕ)) (next : Machine) → AreCallsOf remaining (take (length replies) lines) plains
    → Settles [] settled None doubt (acknowledged plains replies) (begun plains replies) → listed ≡ row_counts (after no_tables next.settled)
    → (next ≡ opened settled) ⊎ (next ≡ opened (with_doubt settled doubt)) → IsKept remaining lines replies listed
listed_kept remaining lines replies plains settled doubt listed next are settles tables (inl is) = record {
  plains = plains;
  are = are;
  settled = settled;
  tables = tables ∙ ap (λ (m : Machine). row_counts (after no_tables m.settled)) is;
  kept = subst (λ (cs : List PlainCommand). InOrder (acknowledged plains replies) cs) (sym settles.grew) settles.kept;
  only =
      subst (λ (cs : List PlainCommand). InOrder cs (begun plains replies)) (sym settles.grew)
      (front_in_order settles.more (in_doubt doubt) (begun plains replies) settles.only);
}
listed_kept remaining lines replies plains settled doubt listed next are settles tables (inr is) =
    let all : settles.more ++ in_doubt doubt ≡ with_doubt settled doubt = ap (λ (cs : List PlainCommand). cs ++ in_doubt doubt) (sym settles.grew) ∙ doubted settled doubt in
    record {
      plains = plains;
      are = are;
      settled = with_doubt settled doubt;
      tables = tables ∙ ap (λ (m : Machine). row_counts (after no_tables m.settled)) is;
      kept =
          subst (λ (cs : List PlainCommand). InOrder (acknowledged plains replies) cs) all
          (in_order_before (acknowledged plains replies) settles.more (in_doubt doubt) settles.kept);
      only = subst (λ (cs : List PlainCommand). InOrder cs (begun plains replies)) all settles.only;
    }

-- ---- a replay

module _ {D : Type 0} (g : Ghosts D) {R : Type 0} (is_over : D → Bool) (remaining : R → Option (List ℕ)) (tells : g.tells ≡ true) where
  place_device : (base : Tables) (m : Machine) (place : StoreOrDevice D g) → PlaceFits g.size g.story base m place → DeviceFits g.size g.story base m (device_in place)
  place_device base m (places.Open store) fits = fits.device
  place_device base m (places.Shut device) fits = fits.fits

  pub replay_keeps : SettlesRuns → (device : D) → ShutFits g.size g.story no_tables resumed device → (begin : StoreOrDevice D g)
      → AnswersCall g.size g.story g.failed g.tells remaining (places.Shut device) calls_in.Open done begin → (lines : List (Call R)) (replies : List PlainReply) (end : StoreOrDevice D g)
      → Plays g is_over remaining begin lines replies end → (left : D)
      → ((base : Tables) (m : Machine) → DeviceFits g.size g.story base m (device_in end) → IsLeftOf g.size g.story (device_in end) left → ShutFits g.size g.story base (shut_down m) left)
      → IsLeftOf g.size g.story (device_in end) left → (reply : PlainReply) (found : StoreOrDevice D g)
      → AnswersCall g.size g.story g.failed g.tells remaining (places.Shut left) calls_in.Open reply found → (listing : PlainReply) (last : StoreOrDevice D g)
      → AnswersCall g.size g.story g.failed g.tells remaining found calls_in.Tables listing last → reply ≡ done → (listed : List (List ℕ × ℕ)) → listing ≡ counts listed
      → IsKept remaining lines replies listed
  replay_keeps settles device stands begin opening lines replies end plays left goes_on crash reply found opens listing last lists is_done listed is_counts =
      let began = opening.goes tells no_tables resumed stands in
      let from = begins (setting_of (g.size device) no_tables) opening.plain _ began.next opening.is began.goes.step in
      let played = played_run g is_over remaining tells no_tables lines began.next replies begin end plays began.fits in
      let settled =
      subst (λ (m : Machine). Settles m.settled played.runs.next.settled m.doubt played.runs.next.doubt (acknowledged played.plains replies) (begun played.plains replies)) from
      (settles (setting_of (g.size (device_in begin)) no_tables) played.plains replies began.next (g.story (device_in begin)) (g.failed (device_in begin)) played.runs.next (g.story (device_in end))
      (g.failed (device_in end)) played.runs.run) in
      let shut = goes_on no_tables played.runs.next (place_device no_tables played.runs.next end played.runs.fits) crash in
      let went = opens.goes tells no_tables (shut_down played.runs.next) shut in
      let lists_goes = lists.goes tells no_tables went.next went.fits in
      let either =
      found_settled (setting_of (g.size left) no_tables) played.runs.next opens.plain _ went.next opens.is
      (subst (λ (r : PlainReply). Step (setting_of (g.size left) no_tables) (shut_down played.runs.next) opens.plain r (has_written (now (g.story left)) (now (g.story (device_in found)))) went.next) is_done went.goes.step) in
      let tables =
      listed_tables (setting_of (g.size (device_in found)) no_tables) went.next lists.plain listed _ lists_goes.next lists.is
      (subst (λ (r : PlainReply). Step (setting_of (g.size (device_in found)) no_tables) went.next lists.plain r (has_written (now (g.story (device_in found))) (now (g.story (device_in last)))) lists_goes.next) is_counts lists_goes.goes.step) in
      listed_kept remaining lines replies played.plains played.runs.next.settled played.runs.next.doubt listed went.next played.are settled tables either
