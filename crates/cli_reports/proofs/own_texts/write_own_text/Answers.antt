use Rattle.std.proofs.Common.{◌∙◌, sym}
use Rattle.cli_reports.proofs.TextLemmas.{own_version}
use Rattle.cli_reports.proofs.own_texts.write_own_text.Goals as goal

pub returns-then-asks_version-clause-written : goal.returns-then-asks_version-clause-written
returns-then-asks_version-clause-written g c = rw (← own_version _ (sym c.asks_version.ensures ∙ c.if-asks_version.true), ← c.as_bytes.ensures.value) c.write_whole.ensures.written
