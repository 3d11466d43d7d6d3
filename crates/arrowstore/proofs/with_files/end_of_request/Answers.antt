use Rattle.arrowstore.proofs.with_files.end_of_request.Goals as goal

pub returns-clause-line : goal.returns-clause-line
returns-clause-line g c = (c.known_of-known.result, c.known_of-known.ensures.changes, rw c.known_of-known.ensures.hint c.found_hint.ensures, c.end_whole_or_partly.ensures.line)
