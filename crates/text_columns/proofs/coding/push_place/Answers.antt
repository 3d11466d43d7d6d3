use Rattle.text_columns.proofs.coding.push_place.Goals as goal

pub returns : goal.returns
returns c = λ done. record { place = c.in-Some.place; placed = rw c.in-Some.is at c.in_ok-place.ensures; more = c.in_ok-push_index.ensures.ok }
