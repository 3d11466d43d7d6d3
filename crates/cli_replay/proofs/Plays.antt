-- Lines that are played one after another.
use Rattle.std.proofs.Common.{◌≡◌, ◌++◌, ◌∙◌, ◌∷◌, [], ℕ, Bool, true, false, List, Option, Some, None, refl, sym, ap, subst, true≢false}
use Rattle.sector_dev.specs.View.{faults_of}
use Rattle.sector_dev.specs.declared.device.SectorDevice.{Ghosts}
use Rattle.sector_dev.specs.declared.model.ModelDevice.{ModelDevice}
use Rattle.store.specs.declared.call.Call.{Call}
use Rattle.store.specs.declared.call.StoreOrDevice.{StoreOrDevice}
use Rattle.store_runs.specs.Calls.{PlainReply}
use Rattle.store.specs.Places.{device_in, reply_in, replies_of}
use Rattle.store.specs.declared.call.Reply.{Reply}
use Rattle.std.proofs.lemmas.List.{map-append}
use Rattle.std.specs.declared.io.impls.Empty.{Empty}
use Rattle.store.specs.Answering.{AnswersCall}
use Rattle.cli_replay.specs.Playing.{PlaysLine, Plays, IsPlayedLine}

-- the play is over
abbrev pub over : ModelDevice → Bool
over d = (faults_of d).stopped

-- no call reads
abbrev pub none_left : Empty → Option (List ℕ)
none_left reader = Some []

module _ {D : Type 0} (g : Ghosts D) {R : Type 0} (is_over : D → Bool) (remaining : R → Option (List ℕ)) where
  pub plays_none : (place : StoreOrDevice D g) → Plays g is_over remaining place [] [] place
  unfolding Plays
  plays_none place = (refl, refl)

  -- what holds of the others is changed
  line_others : (P Q : StoreOrDevice D g → List PlainReply → Type 0) → ((next : StoreOrDevice D g) (others : List PlainReply) → P next others → Q next others) → (b : Bool) (old : StoreOrDevice D g) (call : Call R)
      (replies : List PlainReply) (new : StoreOrDevice D g) → PlaysLine g b remaining old call replies new P → PlaysLine g b remaining old call replies new Q
  line_others P Q f true old call replies new ends = ends
  line_others P Q f false old call replies new played = record {
    reply = played.reply;
    others = played.others;
    are = played.are;
    next = played.next;
    one = played.one;
    rest = f played.next played.others played.rest;
  }

  -- the first line, where it is known whether the device has stopped
  first_line : (P : StoreOrDevice D g → List PlainReply → Type 0) (b : Bool) (old mid : StoreOrDevice D g) (call : Call R) (replies : List PlainReply) (new : StoreOrDevice D g) → mid ≡ old → is_over (device_in mid) ≡ b
      → PlaysLine g b remaining old call replies new P → PlaysLine g (is_over (device_in old)) remaining old call replies new P
  first_line P b old mid call replies new same is line =
      subst (λ (x : Bool). PlaysLine g x remaining old call replies new P) (sym (ap (λ (p : StoreOrDevice D g). is_over (device_in p)) (sym same) ∙ is)) line

  -- a line after others is not played where the device has stopped
  pub plays_over : (calls : List (Call R)) (call : Call R) (replies : List PlainReply) (old mid : StoreOrDevice D g) → Plays g is_over remaining old calls replies mid → is_over (device_in mid) ≡ true
      → Plays g is_over remaining old (calls ++ call ∷ []) replies mid
  unfolding Plays
  plays_over [] call replies old mid plays stopped =
      first_line (λ (next : StoreOrDevice D g) (others : List PlainReply). Plays g is_over remaining next [] others mid) true old mid call replies mid plays.1 stopped plays
  plays_over (c ∷ calls) call replies old mid plays stopped =
      line_others (λ (next : StoreOrDevice D g) (others : List PlainReply). Plays g is_over remaining next calls others mid)
      (λ (next : StoreOrDevice D g) (others : List PlainReply). Plays g is_over remaining next (calls ++ call ∷ []) others mid)
      (λ (next : StoreOrDevice D g) (others : List PlainReply) rest. plays_over calls call others next mid rest stopped) (is_over (device_in old)) old c replies mid plays

  -- one more line
  line_more : (P Q : StoreOrDevice D g → List PlainReply → Type 0) (b : Bool) (old mid new : StoreOrDevice D g) (call : Call R) (replies : List PlainReply) (reply : PlainReply) → is_over (device_in old) ≡ b
      → ((next : StoreOrDevice D g) (others : List PlainReply) → P next others → Q next (others ++ reply ∷ [])) → is_over (device_in mid) ≡ false
      → PlaysLine g b remaining old call replies mid P → PlaysLine g b remaining old call (replies ++ reply ∷ []) new Q
  line_more P Q true old mid new call replies reply is f on ends =
      absurd (true≢false (sym is ∙ ap (λ (p : StoreOrDevice D g). is_over (device_in p)) (sym ends.1) ∙ on))
  line_more P Q false old mid new call replies reply is f on played = record {
    reply = played.reply;
    others = played.others ++ reply ∷ [];
    are = ap (λ (rs : List PlainReply). rs ++ reply ∷ []) played.are;
    next = played.next;
    one = played.one;
    rest = f played.next played.others played.rest;
  }

  pub plays_more : (calls : List (Call R)) (call : Call R) (replies : List PlainReply) (reply : PlainReply) (old mid new : StoreOrDevice D g) → Plays g is_over remaining old calls replies mid
      → is_over (device_in mid) ≡ false → AnswersCall g.size g.story g.failed g.tells remaining mid call reply new → Plays g is_over remaining old (calls ++ call ∷ []) (replies ++ reply ∷ []) new
  unfolding Plays
  plays_more [] call replies reply old mid new plays on one =
      first_line (λ (next : StoreOrDevice D g) (others : List PlainReply). Plays g is_over remaining next [] others new) false old mid call (replies ++ reply ∷ []) new plays.1 on (record {
        reply = reply;
        others = [];
        are = ap (λ (rs : List PlainReply). rs ++ reply ∷ []) plays.0;
        next = new;
        one = subst (λ (p : StoreOrDevice D g). AnswersCall g.size g.story g.failed g.tells remaining p call reply new) plays.1 one;
        rest = (refl, refl);
      })
  plays_more (c ∷ calls) call replies reply old mid new plays on one =
      line_more (λ (next : StoreOrDevice D g) (others : List PlainReply). Plays g is_over remaining next calls others mid)
      (λ (next : StoreOrDevice D g) (others : List PlainReply). Plays g is_over remaining next (calls ++ call ∷ []) others new) (is_over (device_in old)) old mid new c replies reply refl
      (λ (next : StoreOrDevice D g) (others : List PlainReply) rest. plays_more calls call others reply next mid new rest on one) on plays

  -- a line of the code after others, and its reply after theirs
  pub played_some : (calls : List (Call R)) (call : Call R) (replies pushed : List Reply) (reply : Reply) (found : Option Reply) (old mid new : StoreOrDevice D g)
      → Plays g is_over remaining old calls (replies_of replies) mid → found ≡ Some reply → IsPlayedLine g is_over remaining mid call found new → pushed ≡ replies ++ reply ∷ []
      → Plays g is_over remaining old (calls ++ call ∷ []) (replies_of pushed) new
  played_some calls call replies pushed reply found old mid new plays is line more =
      let answered = subst (λ (o : Option Reply). IsPlayedLine g is_over remaining mid call o new) is line in
      subst (λ (rs : List PlainReply). Plays g is_over remaining old (calls ++ call ∷ []) rs new) (sym (ap replies_of more ∙ map-append reply_in replies (reply ∷ [])))
      (plays_more calls call (replies_of replies) (reply_in reply) old mid new plays answered.0 answered.1)

  pub played_none : (calls : List (Call R)) (call : Call R) (replies : List Reply) (found : Option Reply) (old mid new : StoreOrDevice D g) → Plays g is_over remaining old calls (replies_of replies) mid
      → found ≡ None → IsPlayedLine g is_over remaining mid call found new → Plays g is_over remaining old (calls ++ call ∷ []) (replies_of replies) new
  played_none calls call replies found old mid new plays is line =
      let over = subst (λ (o : Option Reply). IsPlayedLine g is_over remaining mid call o new) is line in
      subst (λ (p : StoreOrDevice D g). Plays g is_over remaining old (calls ++ call ∷ []) (replies_of replies) p) (sym over.1) (plays_over calls call (replies_of replies) old mid plays over.0)
