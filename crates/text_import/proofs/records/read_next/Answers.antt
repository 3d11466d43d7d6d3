use Rattle.csv.specs.Records.{fields_of}
use Rattle.text_import.proofs.RecordLemmas.{taken}
use Rattle.text_import.proofs.records.read_next.Goals as goal

pub returns : goal.returns
returns c =
    λ records has.
    taken records c.args.reader.now c.read_record.new.reader c.in_ok-found.found (fields_of c.read_record.new.row) has (λ s xs stands. c.in_ok-found.ensures.next s xs stands)
