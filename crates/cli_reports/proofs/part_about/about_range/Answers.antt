use Rattle.std.proofs.Common.{◌++◌, append_assoc}
use Rattle.std.specs.Prelude.{codes, string_bytes}
use Rattle.cli_reports.proofs.part_about.about_range.Goals as goal

pub returns-in_ok-range-in-Some : goal.returns-in_ok-range-in-Some
returns-in_ok-range-in-Some c =
    let text = c.args.text.now in
    let range = string_bytes c.in_ok-range-in-Some.range in
    let outer = append_assoc (text ++ codes "` holds ") range (codes ". ") in
    let inner = append_assoc text (codes "` holds ") (range ++ codes ". ") in
    rw (c.in-Some.is, ← c.in_ok-range-in-Some.ensures, outer, inner) c.format.ensures.ok
