use Rattle.std.proofs.Common.{refl, sym, subst}
use Rattle.store_runs.specs.Calls.{format_call, open_call}
use Rattle.store.specs.Places.{IsCallOf}
use Rattle.store.proofs.running.answer_shut.Goals as goal

pub returns-in-Format : goal.returns-in-Format
returns-in-Format g c =
    let e = c.format_place.ensures in
    record {
      plain = format_call;
      is = subst (λ k. IsCallOf g.R.Read.remaining k format_call) (sym c.in-Format.is) refl;
      goes = λ told base m fits. e.goes told base m fits.fits;
      answers = record { answers = e.answers; same = e.same; count = e.count };
    }

pub returns-in-Open : goal.returns-in-Open
returns-in-Open g c =
    let e = c.open_place.ensures in
    record {
      plain = open_call;
      is = subst (λ k. IsCallOf g.R.Read.remaining k open_call) (sym c.in-Open.is) refl;
      goes = λ told base m fits. e.goes told base m fits.fits;
      answers = record { answers = e.answers; same = e.same; count = e.count };
    }
