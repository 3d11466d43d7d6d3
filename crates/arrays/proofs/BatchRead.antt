-- What is answered of a record batch, and what its arrays are where their own checks found nothing.
use Rattle.std.specs.Prelude.{not, ◌==◌}
use Rattle.std.specs.List.{list_any, list_all, zip}
use Rattle.std.proofs.Common.{◌≡◌, ℕ, Bool, true, false, List, ◌∷◌, map, Option, Some, None, Ok, Err, refl, sym, ap, ◌∙◌}
use Rattle.std.proofs.lemmas.Bool.{or_parts}
use Rattle.facts.specs.Checks.{when, first_some, unless}
use Rattle.facts.specs.laws.Checks.{unless_passed, first_some-after, first_some-before}
use Rattle.arrow_schema.specs.Column.{Column, Columns, columns_of, PlainSchema}
use Rattle.ipc_message.specs.declared.fault.Fault.{Fault}
use Rattle.ipc_message.specs.declared.error.ImportError.{ImportError}
use Rattle.ipc_message.specs.declared.error.ImportError.TheVariants as errors
use Rattle.ipc_message.specs.Outcome.{Fails}
use Rattle.ipc_message.specs.Raw.{RawBatch}
use Rattle.columns.specs.Array.{Array, Arrays, array_list, slots_in}
use Rattle.columns.specs.Buffers.{dictionaries_of}
use Rattle.columns.specs.Sound.{are_sound}
use Rattle.columns.specs.Tests.{every_array}
use Rattle.columns.specs.Visible.{Slot, visible_in}
use Rattle.columns.specs.laws.Sounds.{AreClean, is_typed_sound, all_sound}
use Rattle.columns.specs.laws.Rows.{none_shorter}
use Rattle.arrays.specs.Entries.{has_bad_entry}
use Rattle.arrays.specs.Checks.{plain_node, buffer_bytes, batch_arrays, array_checks, arrays_read, slot_checks, batch_read, batch_checks, has_other_layout, has_bad_length, is_bad_length, is_outside, is_miscounted, typed_is_short, typed_is_unordered}

pub unless_failed : {A E : Type 0} (o : Option E) (x : A) (e : E) → unless o (Ok x) ≡ Err e → o ≡ Some e
unless_failed None x e h = absurd cc
unless_failed (Some f) x e h = cc

pub arrays_fail : (s : PlainSchema) (before : ℕ) (b : RawBatch) (body : List ℕ) (ds : List (List Array)) (f : Fault) → arrays_read (columns_of s.columns) b body ds ≡ Err f
    → batch_read s before b body ds ≡ Err f
unfolding arrays_read batch_read batch_checks
arrays_fail s before b body ds f h =
    let cs : Columns = columns_of s.columns in
    let arrays : Arrays = batch_arrays cs b body ds in
    let found = unless_failed (first_some (array_checks cs b body arrays)) arrays f h in
    let first = first_some-before (array_checks cs b body arrays) (slot_checks s before b.length arrays) f found in
    ap (λ (o : Option Fault). unless o (Ok arrays)) first

pub fails_too : (s : PlainSchema) (before : ℕ) (b : RawBatch) (body : List ℕ) (ds : List (List Array)) (e : ImportError) → Fails {Y = Arrays} e (arrays_read (columns_of s.columns) b body ds)
    → Fails {Y = Arrays} e (batch_read s before b body ds)
fails_too s before b body ds errors.OutOfMemory h = h
fails_too s before b body ds (errors.Fault f) h = arrays_fail s before b body ds f h

-- where the checks of the arrays found nothing, those of the visible slots decide
after_arrays : (s : PlainSchema) (before : ℕ) (b : RawBatch) (body : List ℕ) (ds : List (List Array)) (arrays : Arrays) → arrays_read (columns_of s.columns) b body ds ≡ Ok arrays
    → batch_read s before b body ds ≡ unless (first_some (slot_checks s before b.length arrays)) (Ok arrays)
unfolding arrays_read batch_read batch_checks
after_arrays s before b body ds arrays h =
    let cs : Columns = columns_of s.columns in
    let own : Arrays = batch_arrays cs b body ds in
    let passed = unless_passed (first_some (array_checks cs b body own)) (Ok own) arrays h in
    let same : own ≡ arrays = cc in
    let after = first_some-after (array_checks cs b body own) (slot_checks s before b.length own) passed.0 in
    ap (λ (o : Option Fault). unless o (Ok own)) after ∙ ap (λ (a : Arrays). unless (first_some (slot_checks s before b.length a)) (Ok a)) same

pub slots_fail : (s : PlainSchema) (before : ℕ) (b : RawBatch) (body : List ℕ) (ds : List (List Array)) (arrays : Arrays) (f : Fault) → arrays_read (columns_of s.columns) b body ds ≡ Ok arrays
    → Some f ≡ first_some (slot_checks s before b.length arrays) → batch_read s before b body ds ≡ Err f
slots_fail s before b body ds arrays f h found = after_arrays s before b body ds arrays h ∙ ap (λ (o : Option Fault). unless o (Ok arrays)) (sym found)

pub slots_pass : (s : PlainSchema) (before : ℕ) (b : RawBatch) (body : List ℕ) (ds : List (List Array)) (arrays : Arrays) → arrays_read (columns_of s.columns) b body ds ≡ Ok arrays
    → None ≡ first_some (slot_checks s before b.length arrays) → batch_read s before b body ds ≡ Ok arrays
slots_pass s before b body ds arrays h found = after_arrays s before b body ds arrays h ∙ ap (λ (o : Option Fault). unless o (Ok arrays)) (sym found)

-- ---- the arrays are sound

pub passed : (t : Bool) (f : Fault) (rest : List (Option Fault)) → first_some (when t f ∷ rest) ≡ None → (t ≡ false) × (first_some rest ≡ None)
passed true f rest h = absurd cc
passed false f rest h = (refl, h)

-- each array has as many slots as the batch has rows
pub read_lengths : (cs : Columns) (b : RawBatch) (body : List ℕ) (ds : List (List Array)) → first_some (array_checks cs b body (batch_arrays cs b body ds)) ≡ None
    → list_any (λ a. not (slots_in a == b.length)) (array_list (batch_arrays cs b body ds)) ≡ false
read_lengths cs b body ds found =
    let own : Arrays = batch_arrays cs b body ds in
    let one = passed b.compressed _ _ found in
    let two = passed (has_other_layout cs b) _ _ one.1 in
    let three = passed (has_bad_length cs b own) _ _ two.1 in
    let lengths = or_parts (is_bad_length b.length) _ three.0 in
    let nodes = or_parts (list_any (λ n. is_bad_length n.length) b.nodes) _ lengths.1 in
    (or_parts (list_any (λ a. not (slots_in a == b.length)) (array_list own)) _ nodes.1).0

pub read_sound : (cs : Columns) (b : RawBatch) (body : List ℕ) (ds : List (List Array)) (arrays : Arrays) → arrays_read cs b body ds ≡ Ok arrays
    → list_all is_typed_sound (dictionaries_of cs (batch_arrays cs b body ds)) ≡ true → are_sound cs b.length arrays ≡ true
unfolding arrays_read
read_sound cs b body ds arrays h dictionaries =
    let own : Arrays = batch_arrays cs b body ds in
    let found = unless_passed (first_some (array_checks cs b body own)) (Ok own) arrays h in
    let same : own ≡ arrays = cc in
    let one = passed b.compressed _ _ found.0 in
    let two = passed (has_other_layout cs b) _ _ one.1 in
    let three = passed (has_bad_length cs b own) _ _ two.1 in
    let four = passed (list_any (is_outside body) b.buffers) _ _ three.1 in
    let five = passed (list_any typed_is_short (every_array cs own)) _ _ four.1 in
    let six = passed (list_any is_miscounted (zip b.nodes (every_array cs own))) _ _ five.1 in
    let seven = passed (list_any typed_is_unordered (every_array cs own)) _ _ six.1 in
    let lengths = or_parts (is_bad_length b.length) _ three.0 in
    let nodes = or_parts (list_any (λ n. is_bad_length n.length) b.nodes) _ lengths.1 in
    let others = or_parts (list_any (λ a. not (slots_in a == b.length)) (array_list own)) _ nodes.1 in
    let clean : AreClean (every_array cs own) = record { long = five.0; ordered = seven.0; children = others.1; dictionaries = dictionaries } in
    let sound : are_sound cs b.length own ≡ true = all_sound cs b.length (map plain_node b.nodes) (map (buffer_bytes body) b.buffers) ds clean (none_shorter b.length (array_list own) others.0) in
    ap (λ (a : Arrays). are_sound cs b.length a) (sym same) ∙ sound

-- ---- a test of what is visible, by the columns of a schema

pub same_columns : (p : Slot → Bool) (s : PlainSchema) (arrays : Arrays) (rows : ℕ) (cs : List Column) → s.columns ≡ cs
    → list_any p (visible_in (columns_of cs) arrays rows) ≡ list_any p (visible_in (columns_of s.columns) arrays rows)
same_columns p s arrays rows cs same = ap (λ (ds : List Column). list_any p (visible_in (columns_of ds) arrays rows)) (sym same)

-- of the arrays that were read
pub read_entries : (cs : Columns) (b : RawBatch) (body : List ℕ) (ds : List (List Array)) (arrays : Arrays) → arrays_read cs b body ds ≡ Ok arrays
    → list_any has_bad_entry (every_array cs (batch_arrays cs b body ds)) ≡ false → list_any has_bad_entry (every_array cs arrays) ≡ false
unfolding arrays_read
read_entries cs b body ds arrays h entries =
    let own : Arrays = batch_arrays cs b body ds in
    let found = unless_passed (first_some (array_checks cs b body own)) (Ok own) arrays h in
    let same : own ≡ arrays = cc in
    ap (λ (a : Arrays). list_any has_bad_entry (every_array cs a)) (sym same) ∙ entries
