use Rattle.std.proofs.Common.{◌≡◌, ◌<◌, Bool, true, false, List, length, ℕ, refl, ap, arith, inl, inr}
use Rattle.std.specs.Prelude.{Some, EachIndex, slice_index, IsUtf8}
use Rattle.std.specs.Str.{is_utf8, IsAscii}
use Rattle.std.proofs.lemmas.Bool.{cases_lt}
use Rattle.std.proofs.lemmas.List.{get_or_past}
use Rattle.std.proofs.lemmas.Str.{IsUtf8-from_ascii, IsUtf8-from_is_utf8, is_utf8-from_IsUtf8}
use Rattle.text_import.proofs.texts.text_of.Goals as goal

not_utf8 : (bs : List ℕ) (b : Bool) → is_utf8 bs ≡ b → (IsUtf8 bs → ⊥) → b ≡ false
not_utf8 bs true e h = absurd (h (IsUtf8-from_is_utf8 bs e))
not_utf8 bs false e h = refl

-- past the end of a list a byte counts as 0
ascii_from : (bs : List ℕ) → EachIndex bs (λ k. slice_index bs k < 128) → IsAscii bs
ascii_from bs each i =
    elim (cases_lt i (length bs)) [
      | inl lt ↦ each i lt
      | inr past ↦ rw (get_or_past bs i 0 past) (omega arith)
    ]

pub from_utf8_unchecked-requires : goal.from_utf8_unchecked-requires
from_utf8_unchecked-requires c = IsUtf8-from_ascii c.args.bytes.now (ascii_from c.args.bytes.now (c.are_ascii.ensures.0 c.if-are_ascii.true))

pub returns-then-are_ascii : goal.returns-then-are_ascii
returns-then-are_ascii c =
    let utf8 = IsUtf8-from_ascii c.args.bytes.now (ascii_from c.args.bytes.now (c.are_ascii.ensures.0 c.if-are_ascii.true)) in
    rw (is_utf8-from_IsUtf8 c.args.bytes.now utf8) (ap Some c.from_utf8_unchecked.ensures)

pub returns-in-Ok : goal.returns-in-Ok
returns-in-Ok c = rw (is_utf8-from_IsUtf8 c.args.bytes.now c.in-Ok.ensures.1) (ap Some c.in-Ok.ensures.0)

pub returns-in-Err : goal.returns-in-Err
returns-in-Err c = rw (not_utf8 c.args.bytes.now (is_utf8 c.args.bytes.now) refl c.in-Err.ensures) refl
