use Rattle.std.proofs.Common.{◌≡◌, drop}
use Rattle.columns.specs.View.{fields_of}
use Rattle.ipc_encode.specs.inner.Encoding.{encodings}
use Rattle.ipc_encode.proofs.same_encoding.+encoding.Given as goal

-- where those that are left have one encoding, all have
abbrev pub invariant-have_same_encodings-loop-i : goal.invariant-have_same_encodings-loop-i
invariant-have_same_encodings-loop-i l = encodings (fields_of (drop l.i l.fields)) ≡ encodings (fields_of (drop l.i l.others)) → encodings (fields_of l.fields) ≡ encodings (fields_of l.others)
