-- Bytes that a writer takes one part after another.
use Rattle.std.specs.Prelude.{Option}
use Rattle.std.specs.Io.KnownBytes.{Keeps, Appends}
use Rattle.std.proofs.Common.{◌≡◌, ℕ, ◌+◌, ◌-◌, List, ◌++◌, length, take, drop, sym, ap, ◌∙◌, subst, arith}
use Rattle.std.proofs.KnownBytes.{Appends-trans, Appends-kept}
use Rattle.std.proofs.Math.Seq.{take-add}
use Rattle.std.proofs.lemmas.List.{take-append-drop, take_all, length-drop}
use Rattle.cli_reports.specs.Output.{AppendsFront}

module _ (a b c : Option (List ℕ)) (bytes : List ℕ) (n : ℕ) (so_far : Appends a b (take n bytes)) where
  pub front_taken : Keeps b c → AppendsFront a c bytes
  front_taken kept = (take n bytes, drop n bytes, sym (take-append-drop n bytes), Appends-kept a b c (take n bytes) so_far kept)

  -- the next m bytes of the rest
  pub more_taken : (m : ℕ) → Appends b c (take m (take (length bytes - n) (drop n bytes))) → Appends a c (take (n + m) bytes)
  more_taken m more = subst (Appends a c) (sym joined) (Appends-trans a b c (take n bytes) (take m (take (length bytes - n) (drop n bytes))) so_far more)
    where
      joined : take (n + m) bytes ≡ take n bytes ++ take m (take (length bytes - n) (drop n bytes))
      joined = take-add n m bytes ∙ ap (λ (rest : List ℕ). take n bytes ++ take m rest) (sym (take_all (length bytes - n) (drop n bytes) (omega (arith, length-drop n bytes))))
