use Rattle.std.proofs.Common.{◌∙◌}
use Rattle.civil_days.proofs.TimeLaws.{time_shown, time_in-exact}
use Rattle.civil_days.proofs.read_time.parse_time.Goals as goal

pub returns-clause-shown : goal.returns-clause-shown
returns-clause-shown c = time_shown c.args.places c.args.text.now c.read_time.result c.read_time.ensures

pub returns-clause-exact : goal.returns-clause-exact
returns-clause-exact c day second units zone year h = c.read_time.ensures ∙ time_in-exact c.args.places c.args.text.now day second units zone year h
