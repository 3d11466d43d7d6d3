use Rattle.std.proofs.Common.{◌∙◌, ℕ, List, length, map, sym, ap}
use Rattle.std.specs.Borrow.{Bor}
use Rattle.std.proofs.lemmas.List.{length-map}
use Rattle.sha2.specs.Sha256.{sha256}
use Rattle.table_archive.specs.Found.{streams_in}
use Rattle.table_archive.proofs.NamedLemmas.{kept_where_same, digests_of_contents, as_many}
use Rattle.table_archive.proofs.named.check_digests.Goals as goal

pub first_other-requires : goal.first_other-requires
first_other-requires c =
    let entries = c.args.streams.now.entries in
    let names = c.deref-2.ensures.value ∙ c.in_ok-named.ensures.names in
    let found =
    c.deref-3.ensures.value ∙ c.in_ok-found.ensures ∙ ap (map (λ (s : Bor (List ℕ)). sha256 s.now)) c.deref.ensures.value
    ∙ digests_of_contents c.in_ok-named.named.streams.items ∙ ap (map sha256) c.in_ok-named.ensures.streams in
    ap length names ∙ as_many entries ∙ sym (length-map (streams_in entries) sha256) ∙ sym (ap length found)

pub returns : goal.returns
returns c =
    let names = c.deref-2.ensures.value ∙ c.in_ok-named.ensures.names in
    let found =
    c.deref-3.ensures.value ∙ c.in_ok-found.ensures ∙ ap (map (λ (s : Bor (List ℕ)). sha256 s.now)) c.deref.ensures.value
    ∙ digests_of_contents c.in_ok-named.named.streams.items ∙ ap (map sha256) c.in_ok-named.ensures.streams in
    kept_where_same c.args.streams.now.entries (sym names ∙ c.in-None.ensures ∙ found)
