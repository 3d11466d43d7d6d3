use Rattle.ipc_message.specs.Header.{supported_codes}
use Rattle.tables.specs.laws.Stay.{stay, all_stay}
use Rattle.tables.proofs.laws.tables_stay_tables.Goals as goal

pub returns-clause-one : goal.returns-clause-one
returns-clause-one c = λ t command are brings.
    stay (λ bytes table of_bytes is. c.meaning_is_a_table.ensures supported_codes bytes table of_bytes is) (λ s rows table within is. (c.accepted_rows_are_a_table.ensures.kept s rows table within is).1)
    c.tables_are_joined_and_cut.ensures.joined c.selection_is_a_table.ensures t are command brings

pub returns-clause-all : goal.returns-clause-all
returns-clause-all c = λ t commands are bring.
    all_stay (λ bytes table of_bytes is. c.meaning_is_a_table.ensures supported_codes bytes table of_bytes is) (λ s rows table within is. (c.accepted_rows_are_a_table.ensures.kept s rows table within is).1)
    c.tables_are_joined_and_cut.ensures.joined c.selection_is_a_table.ensures t commands are bring
