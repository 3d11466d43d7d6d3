-- Arrays that are added to a batch one after another.
use Rattle.std.proofs.Common.{◌≡◌, List, [], ◌++◌, map, append_assoc, ap, sym, ◌∙◌}
use Rattle.std.specs.List.{flat_map}
use Rattle.std.proofs.lemmas.List.{append-nil, map-append}
use Rattle.std.proofs.lemmas.List.Concat.{flat_map-append}
use Rattle.columns.specs.Buffers.{node_of, column_buffers, typed_dictionaries}
use Rattle.columns.specs.Tests.{Typed}
use Rattle.batch_build.specs.Batch.{PlainBatch, dictionary_of, with_arrays}

pub no_arrays : (p : PlainBatch) → with_arrays p [] ≡ p
unfolding with_arrays
no_arrays p = λ i. record {
  nodes = append-nil p.nodes i;
  buffers = append-nil p.buffers i;
  dictionaries = append-nil p.dictionaries i;
}

more_mapped : {A B : Type 0} (f : A → B) (xs : List B) (ts us : List A) → (xs ++ map f ts) ++ map f us ≡ xs ++ map f (ts ++ us)
more_mapped f xs ts us = append_assoc xs (map f ts) (map f us) ∙ ap (λ ys. xs ++ ys) (sym (map-append f ts us))

more_flat : {A B : Type 0} (f : A → List B) (xs : List B) (ts us : List A) → (xs ++ flat_map f ts) ++ flat_map f us ≡ xs ++ flat_map f (ts ++ us)
more_flat f xs ts us = append_assoc xs (flat_map f ts) (flat_map f us) ∙ ap (λ ys. xs ++ ys) (sym (flat_map-append f ts us))

-- arrays, and then more of them, are all of these together
pub more_arrays : (p : PlainBatch) (ts us : List Typed) → with_arrays (with_arrays p ts) us ≡ with_arrays p (ts ++ us)
unfolding with_arrays
more_arrays p ts us = λ i. record {
  nodes = more_mapped node_of p.nodes ts us i;
  buffers = more_flat (λ t. column_buffers t.column t.array) p.buffers ts us i;
  dictionaries = (more_mapped dictionary_of p.dictionaries (flat_map typed_dictionaries ts) (flat_map typed_dictionaries us)
      ∙ ap (λ ds. p.dictionaries ++ map dictionary_of ds) (sym (flat_map-append typed_dictionaries ts us))) i;
}
