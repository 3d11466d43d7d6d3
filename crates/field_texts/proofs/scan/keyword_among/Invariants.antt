use Rattle.std.proofs.Common.{◌≡◌, drop}
use Rattle.field_texts.specs.inner.Scan.{keyword_in}
use Rattle.field_texts.proofs.scan.keyword_among.Given as goal

abbrev pub invariant-loop-keyword : goal.invariant-loop-keyword
invariant-loop-keyword l = keyword_in (drop l.keyword-index l.keywords) l.text ≡ keyword_in l.keywords l.text
