use Rattle.std.proofs.Common.{Some, ◌∙◌}
use Rattle.store.specs.Salvaging.{plain_left}
use Rattle.cli_reports.specs.Warnings.{both_notes}
use Rattle.arrowstore.proofs.FileLemmas.{has_reported}
use Rattle.arrowstore.proofs.with_files.serve_and_report.Goals as goal

pub returns-in-Some-clause-serves : goal.returns-in-Some-clause-serves
returns-in-Some-clause-serves g c = let e = c.end_whole_or_partly.ensures in record {
  remarks = c.serve-done.new.remarks;
  left = plain_left c.serve-done.new.left_out.items;
  result = c.serve-done.result;
  serves = rw c.new-left_out.ensures.items at c.serve-done.ensures.serves;
  ends = rw (← c.deref-left.ensures.value) e.ends;
  known = c.known_of-known.result;
  changing = c.known_of-known.ensures.changes;
  hints = rw c.known_of-known.ensures.hint c.in-Some.ensures;
  warning = c.warning_of-warning.result;
  told = rw (← c.deref-left.ensures.value, ← c.audience_after_output-audience.ensures) (has_reported _ _ _ _ (both_notes c.serve-done.new.remarks.note c.warning_of-warning.result) _ _ _ _ _ _ c.serve-done.result c.end_whole_or_partly.result e.ends c.serve-done.ensures.silent c.tell_if_done.ensures.done c.tell_if_done.ensures.silent e.silent e.lines e.line);
}

pub returns-clause-serves : goal.returns-clause-serves
returns-clause-serves g c = let e = c.end_of_request.ensures in record {
  remarks = c.serve-done.new.remarks;
  left = plain_left c.serve-done.new.left_out.items;
  result = c.serve-done.result;
  serves = rw c.new-left_out.ensures.items at c.serve-done.ensures.serves;
  ends = rw (← c.deref-left.ensures.value) e.ends;
  known = e.line.0;
  changing = e.line.1;
  hints = e.line.2 ∙ c.in-None.ensures;
  warning = c.warning_of-warning.result;
  told = rw (← c.deref-left.ensures.value, ← c.audience_after_output-audience.ensures) (has_reported _ _ _ _ (both_notes c.serve-done.new.remarks.note c.warning_of-warning.result) _ _ _ _ _ _ c.serve-done.result c.end_of_request.result e.ends c.serve-done.ensures.silent c.tell_if_done.ensures.done c.tell_if_done.ensures.silent e.silent e.lines e.line.3);
}
