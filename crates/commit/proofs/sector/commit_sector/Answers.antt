use Rattle.std.proofs.Common.{ℕ, List, [], ◌++◌, refl, ap, ◌∙◌, w32}
use Rattle.byteorder.specs.Endian.{little_bytes}
use Rattle.std.specs.Int.{to_le_bytes}
use Rattle.commit.specs.Sector.{letters, version_number, kind_number, commit_text}
use Rattle.commit.proofs.Texts.{with_field}
use Rattle.commit.proofs.sector.commit_sector.Goals as goal

pub returns : goal.returns
unfolding commit_text
returns c =
    let k = c.args.commit in
    let f2 : List ℕ = letters ++ little_bytes 8 k.epoch in
    let f3 : List ℕ = f2 ++ little_bytes 8 k.catalogue.run.start in
    let f4 : List ℕ = f3 ++ little_bytes 8 k.catalogue.run.count in
    let f5 : List ℕ = f4 ++ little_bytes 8 k.catalogue.bytes in
    let f6 : List ℕ = f5 ++ little_bytes 8 k.device_sectors in
    let f7 : List ℕ = f6 ++ little_bytes 4 (version_number k.version) in
    let s1 = c.put.ensures [] refl refl in
    let s2 = with_field letters _ (little_bytes 8 k.epoch) _ (c.put-2.ensures letters refl s1) c.to_le_bytes.ensures in
    let s3 = with_field f2 _ (little_bytes 8 k.catalogue.run.start) _ (c.put-3.ensures f2 refl s2) c.to_le_bytes-2.ensures in
    let s4 = with_field f3 _ (little_bytes 8 k.catalogue.run.count) _ (c.put-4.ensures f3 refl s3) c.to_le_bytes-3.ensures in
    let s5 = with_field f4 _ (little_bytes 8 k.catalogue.bytes) _ (c.put-5.ensures f4 refl s4) c.to_le_bytes-4.ensures in
    let s6 = with_field f5 _ (little_bytes 8 k.device_sectors) _ (c.put-6.ensures f5 refl s5) c.to_le_bytes-5.ensures in
    let s7 = with_field f6 _ (little_bytes 4 (version_number k.version)) _ (c.put-7.ensures f6 refl s6) (c.to_le_bytes-6.ensures ∙ ap (to_le_bytes w32) c.number.ensures) in
    with_field f7 _ (little_bytes 4 (kind_number k.kind)) _ (c.put-8.ensures f7 refl s7) (c.to_le_bytes-7.ensures ∙ ap (to_le_bytes w32) c.number-2.ensures)
