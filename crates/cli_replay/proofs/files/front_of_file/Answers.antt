use Rattle.cli_replay.proofs.Inputs.{front_read}
use Rattle.cli_replay.proofs.files.front_of_file.Goals as goal

pub returns-in-Ok-read_to_end-clause-front : goal.returns-in-Ok-read_to_end-clause-front
returns-in-Ok-read_to_end-clause-front g c = (
  c.in-Ok.file,
  front_read g.F.Read.remaining 2147483648 c.in-Ok.file c.take-front.result.inner c.take-front.result.limit c.new-bytes.result.items c.read_to_end.new.buf.items c.take-front.ensures.limit
      c.take-front.ensures.inner c.new-bytes.ensures.items c.in-Ok-read_to_end.ensures.bytes,
)
