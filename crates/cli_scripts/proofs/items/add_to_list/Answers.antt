use Rattle.cli_scripts.proofs.Grouped.{list_ended}
use Rattle.cli_scripts.proofs.items.add_to_list.Goals as goal

pub returns-in-Commit : goal.returns-in-Commit
returns-in-Commit c = λ lines grouped at. list_ended c.args.items.items c.push.new.self.items c.args.list c.args.line lines c.in-Commit.is c.in_ok-push.ensures.items grouped
