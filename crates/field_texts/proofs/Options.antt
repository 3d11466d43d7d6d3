-- What is said of the value in an option, step by step.
use Rattle.std.proofs.Common.{◌≡◌, Bool, true, false, refl, cond, subst}
use Rattle.std.specs.Prelude.{Option, None, Some, option_map, IfSome}
use Rattle.std.specs.Option.{option_and_then, option_or}
use Rattle.std.proofs.lemmas.Option.{same_Some}

pub some_map : {X Y : Type 0} (f : X → Y) (o : Option X) (P : X → Type 0) (Q : Y → Type 0) → IfSome o P → ((x : X) → P x → Q (f x)) → IfSome (option_map f o) Q
some_map f None P Q h step = tt
some_map f (Some x) P Q h step = step x h

pub some_then : {X Y : Type 0} (f : X → Option Y) (o : Option X) (P : X → Type 0) (Q : Y → Type 0) → IfSome o P → ((x : X) → P x → IfSome (f x) Q) → IfSome (option_and_then f o) Q
some_then f None P Q h step = tt
some_then f (Some x) P Q h step = step x h

pub some_or : {X : Type 0} (o p : Option X) (Q : X → Type 0) → IfSome o Q → IfSome p Q → IfSome (option_or o p) Q
some_or None p Q h k = k
some_or (Some x) p Q h k = h

pub some_if : {X : Type 0} (b : Bool) (x : X) (Q : X → Type 0) → (b ≡ true → Q x) → IfSome (cond b (Some x) None) Q
some_if true x Q h = h refl
some_if false x Q h = tt

pub some_at : {X : Type 0} (o : Option X) (x : X) (Q : X → Type 0) → IfSome o Q → o ≡ Some x → Q x
some_at None x Q h e = cc
some_at (Some y) x Q h e = subst Q (same_Some y x e) h
