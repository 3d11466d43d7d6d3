-- What is left of a batch after n nodes, buffers and dictionaries.
use Rattle.std.proofs.Common.{◌≡◌, ℕ, map, drop, sym, ap, ◌∙◌}
use Rattle.std.proofs.lemmas.List.{drop-map}
use Rattle.ipc_message.specs.Raw.{nodes_in, buffers_in}
use Rattle.columns.specs.Places.{within}
use Rattle.columns.specs.View.{arrays_in}
use Rattle.arrays.specs.declared.rest.Rest.{Rest}
use Rattle.arrays.specs.Checks.{plain_node, buffer_bytes}
use Rattle.arrays.specs.inner.Rest.{rest_known, IsLeft}

pub is_left : (r left : Rest) (n b d : ℕ) → left.body ≡ r.body → left.bytes.now ≡ r.bytes.now → left.dictionaries.now ≡ r.dictionaries.now
    → nodes_in left.nodes.now ≡ drop n (nodes_in r.nodes.now) → buffers_in left.buffers.now ≡ drop b (buffers_in r.buffers.now) → left.parts.now ≡ drop d r.parts.now → IsLeft r left n b d
is_left r left n b d body bytes dictionaries nodes buffers parts = record {
  same_body = body;
  same_bytes = bytes;
  same_dictionaries = dictionaries;
  nodes_left = ap (map plain_node) nodes ∙ sym (drop-map plain_node n (nodes_in r.nodes.now));
  buffers_left =
      (λ j. map (buffer_bytes (within (bytes j) (body j))) (buffers j)) ∙ sym (drop-map (buffer_bytes (within r.bytes.now r.body)) b (buffers_in r.buffers.now));
  parts_left = parts;
  dictionaries_left = (λ j. map (arrays_in (bytes j) (dictionaries j)) (parts j)) ∙ sym (drop-map (rest_known r) d r.parts.now);
}
