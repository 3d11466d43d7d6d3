use Rattle.export_book.specs.laws.Ids.{new_id, opened_at, ids_go_up, never_again}
use Rattle.export_book.proofs.laws.ids_are_given_once.Goals as goal

pub returns : goal.returns
returns c = record { new = new_id; opened = opened_at; up = ids_go_up; once = λ b later id steps lower none. never_again id b later steps lower none }
