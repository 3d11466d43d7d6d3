use Rattle.std.specs.Prelude.{Option}
use Rattle.std.proofs.Common.{ℕ, subst, sym}
use Rattle.dictionary_codes.proofs.Codes.{none_coded}
use Rattle.dictionary_codes.proofs.run_codes.code_at.Goals as goal
use Rattle.dictionary_codes.specs.inner.Codes.{IsNumber}
use Rattle.dictionary_codes.specs.Named.{named_cells, seen_cells}

pub returns-in-None-clause-code : goal.returns-in-None-clause-code
returns-in-None-clause-code c = λ cell is.
    none_coded (named_cells c.args.entries.now) cell (sym (subst (λ (o : Option ℕ). IsNumber (seen_cells c.args.entries.now) o cell) c.in-None.is is))
