use Rattle.std.specs.Prelude.{codes}
use Rattle.std.proofs.Common.{◌≡◌, ◌∙◌, ◌++◌, ℕ, List, [], append_assoc, get_or, string_bytes}
use Rattle.std.proofs.lemmas.List.{drop_more}
use Rattle.hex.specs.Hex.{encode_lower}
use Rattle.cli_commands.proofs.archives.lines_of_digests.Goals as goal

-- two texts more
two_more : (old one two a b rest : List ℕ) → one ≡ old ++ a → two ≡ one ++ b → two ++ rest ≡ old ++ (a ++ b ++ rest)
two_more old one two a b rest first second = rw (second, first) (simp append_assoc)

pub loop-digest-preserved : goal.loop-digest-preserved
loop-digest-preserved c =
    let digests = c.args.digests.now in
    let place = c.loop-digest.digest-index in
    let left = rw (drop_more digests place [] c.loop-digest-test.true) at c.loop-digest.invariant in
    two_more (string_bytes c.loop-digest.text) _ _ (encode_lower (get_or digests place [])) (codes "\n") _
    (rw (c.as_str.ensures.value ∙ c.in_ok-encode.ensures) at c.in_ok-push_str.ensures.bytes) c.in_ok-push_str-2.ensures.bytes
    ∙ left
