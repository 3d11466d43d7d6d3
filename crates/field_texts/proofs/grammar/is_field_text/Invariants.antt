use Rattle.std.proofs.Common.{◌↔◌, length}
use Rattle.std.specs.Prelude.{reverse}
use denote.Shadow.{shadow}
use denote.Text.{Utf8}
use Rattle.field_texts.specs.Typed.{IsFieldText}
use Rattle.field_texts.specs.inner.Standing.{Stands}
use Rattle.field_texts.proofs.Shorter.{weight}
use Rattle.field_texts.proofs.grammar.is_field_text.Given as goal

abbrev pub decreases-steps : goal.decreases-steps
decreases-steps l = weight l.place (length l.rest)

abbrev pub invariant-steps : goal.invariant-steps
invariant-steps l = record {
  same : Stands l.limited l.place (reverse l.around.items) l.rest ↔ IsFieldText l.limited l.text;
  text : shadow (Utf8 l.rest);
}
