-- What soundness implies for one array by itself.
use Rattle.std.specs.Prelude.{not, ◌&&◌}
use Rattle.std.proofs.Common.{◌≡◌, true, false, subst}
use Rattle.std.proofs.lemmas.Bool.{and_parts, not-true}
use Rattle.arrow_schema.specs.Column.{Kind}
use Rattle.columns.specs.Array.{Array}
use Rattle.columns.specs.Tests.{has_short_validity, has_short_buffer, has_bad_offsets}
use Rattle.columns.specs.Sound.{is_kind_sound, has_sound_children}

pub sound_validity : (k : Kind) (a : Array) → is_kind_sound k a ≡ true → has_short_validity a ≡ false
sound_validity k a h = not-true _ (and_parts (not (has_short_validity a)) _ h).0

rest_1 : (k : Kind) (a : Array) → is_kind_sound k a ≡ true → (not (has_short_buffer k a) && (not (has_bad_offsets k a) && has_sound_children k a)) ≡ true
rest_1 k a h = (and_parts (not (has_short_validity a)) _ h).1

rest_2 : (k : Kind) (a : Array) → is_kind_sound k a ≡ true → (not (has_bad_offsets k a) && has_sound_children k a) ≡ true
rest_2 k a h = (and_parts (not (has_short_buffer k a)) _ (rest_1 k a h)).1

pub sound_buffer : (k : Kind) (a : Array) → is_kind_sound k a ≡ true → has_short_buffer k a ≡ false
sound_buffer k a h = not-true _ (and_parts (not (has_short_buffer k a)) _ (rest_1 k a h)).0

pub sound_offsets : (k : Kind) (a : Array) → is_kind_sound k a ≡ true → has_bad_offsets k a ≡ false
sound_offsets k a h = not-true _ (and_parts (not (has_bad_offsets k a)) _ (rest_2 k a h)).0

pub sound_children : (k : Kind) (a : Array) → is_kind_sound k a ≡ true → has_sound_children k a ≡ true
sound_children k a h = (and_parts (not (has_bad_offsets k a)) _ (rest_2 k a h)).1

-- for a kind that equals another
pub sound_parts : (k kind : Kind) (a : Array) → k ≡ kind → is_kind_sound k a ≡ true → (has_short_buffer kind a ≡ false) × (has_bad_offsets kind a ≡ false) × (has_sound_children kind a ≡ true)
sound_parts k kind a is sound =
    let own : is_kind_sound kind a ≡ true = subst (λ (x : Kind). is_kind_sound x a ≡ true) is sound in
    (sound_buffer kind a own, sound_offsets kind a own, sound_children kind a own)
