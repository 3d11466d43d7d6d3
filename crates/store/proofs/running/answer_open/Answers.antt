use Rattle.std.proofs.Common.{refl, sym, ap, ◌∙◌, subst}
use Rattle.tables.specs.Commands.{import_stream, append_stream}
use Rattle.tables.specs.View.{command_of, list_of}
use Rattle.store.specs.declared.call.StoreOrDevice.TheVariants as places
use Rattle.store_runs.specs.Calls.{apply_call, format_call, open_call, close_call, tables_call, schema_call, read_call, export_call, open_export_call, export_next_call, close_export_call, compact_call, upgrade_call, done, counted}
use Rattle.store.specs.Fits.{DeviceFits}
use Rattle.store.specs.Places.{IsStreamOf, reply_in, PlaceGoes}
use Rattle.store.specs.Answering.{AnswersFormatting, AnswersOpening}
use Rattle.store.proofs.Answered.{closed}
use Rattle.store.proofs.running.answer_open.Goals as goal

pub returns-in-Apply : goal.returns-in-Apply
returns-in-Apply g c =
    record { plain = apply_call (command_of c.in-Apply.command); is = rw c.in-Apply.is refl; goes = c.apply_in.ensures.goes; answers = c.apply_in.ensures.answers }

pub returns-in-ApplyAll : goal.returns-in-ApplyAll
returns-in-ApplyAll g c =
    record { plain = apply_call (list_of c.in-ApplyAll.commands.items); is = rw c.in-ApplyAll.is refl; goes = c.apply_all_in.ensures.goes; answers = c.apply_all_in.ensures.answers }

pub returns-in-ImportFrom : goal.returns-in-ImportFrom
returns-in-ImportFrom g c =
    let e = c.import_in.ensures in
    record {
      plain = e.plain;
      is = rw c.in-ImportFrom.is (subst (λ name. IsStreamOf (g.R.Read.remaining c.in-ImportFrom.reader) (import_stream name) e.plain) c.deref.ensures e.is);
      goes = e.goes;
      answers = e.answers;
    }

pub returns-in-AppendFrom : goal.returns-in-AppendFrom
returns-in-AppendFrom g c =
    let e = c.append_in.ensures in
    record {
      plain = e.plain;
      is = rw c.in-AppendFrom.is (subst (λ name. IsStreamOf (g.R.Read.remaining c.in-AppendFrom.reader) (append_stream name) e.plain) c.deref-in-AppendFrom.ensures e.is);
      goes = e.goes;
      answers = e.answers;
    }

pub returns-in-Format : goal.returns-in-Format
returns-in-Format g c =
    let D = g.D.SectorDevice in
    let e = c.format_place.ensures in
    let new = c.format_place.result.0 in
    let reply = reply_in c.format_place.result.1 in
    record {
      plain = format_call;
      is = rw c.in-Format.is refl;
      goes = λ told base m fits.
          let here = subst (λ d. DeviceFits D.size D.story base m d) (sym c.close.ensures) fits.device in
          subst (λ d. PlaceGoes {g = D} D.size D.story D.failed base m format_call reply d new) c.close.ensures (e.goes told base m here);
      answers = record {
        answers = subst (λ d. AnswersFormatting {g = D} D.size D.story D.tells d reply new) c.close.ensures e.answers;
        same = e.same ∙ ap D.size c.close.ensures;
        count = e.count ∙ ap (λ d. counted reply (D.failed d)) c.close.ensures;
      };
    }

pub returns-in-Open : goal.returns-in-Open
returns-in-Open g c =
    let D = g.D.SectorDevice in
    let e = c.open_place.ensures in
    let new = c.open_place.result.0 in
    let reply = reply_in c.open_place.result.1 in
    record {
      plain = open_call;
      is = rw c.in-Open.is refl;
      goes = λ told base m fits.
          let here = subst (λ d. DeviceFits D.size D.story base m d) (sym c.close-in-Open.ensures) fits.device in
          subst (λ d. PlaceGoes {g = D} D.size D.story D.failed base m open_call reply d new) c.close-in-Open.ensures (e.goes told base m here);
      answers = record {
        answers = subst (λ d. AnswersOpening {g = D} D.size D.story D.tells d reply new) c.close-in-Open.ensures e.answers;
        same = e.same ∙ ap D.size c.close-in-Open.ensures;
        count = e.count ∙ ap (λ d. counted reply (D.failed d)) c.close-in-Open.ensures;
      };
    }

pub returns-in-Close : goal.returns-in-Close
returns-in-Close g c =
    let D = g.D.SectorDevice in
    let given = c.close-in-Close.ensures in
    record {
      plain = close_call;
      is = rw c.in-Close.is refl;
      goes = λ told base m fits.
          subst (λ d. PlaceGoes {g = D} D.size D.story D.failed base m close_call done c.args.store.device (places.Shut d)) (sym given) (closed D.size D.story D.failed base m c.args.store fits);
      answers = record { answers = (refl, λ i. places.Shut (given i)); same = ap D.size given; count = ap D.failed given };
    }

pub returns-in-Tables : goal.returns-in-Tables
returns-in-Tables g c =
    record { plain = tables_call; is = rw c.in-Tables.is refl; goes = c.list_in.ensures.goes; answers = c.list_in.ensures.answers }

pub returns-in-Schema : goal.returns-in-Schema
returns-in-Schema g c =
    record { plain = schema_call c.deref-in-Schema.result.now; is = rw c.in-Schema.is (ap schema_call c.deref-in-Schema.ensures); goes = c.schema_in.ensures.goes; answers = c.schema_in.ensures.answers }

pub returns-in-Read : goal.returns-in-Read
returns-in-Read g c =
    record { plain = read_call c.deref-in-Read.result.now; is = rw c.in-Read.is (ap read_call c.deref-in-Read.ensures); goes = c.read_in.ensures.goes; answers = c.read_in.ensures.answers }

pub returns-in-Export : goal.returns-in-Export
returns-in-Export g c =
    record { plain = export_call c.deref-in-Export.result.now; is = rw c.in-Export.is (ap export_call c.deref-in-Export.ensures); goes = c.export_in.ensures.goes; answers = c.export_in.ensures.answers }

pub returns-in-OpenExport : goal.returns-in-OpenExport
returns-in-OpenExport g c =
    record { plain = open_export_call c.deref-in-OpenExport.result.now; is = rw c.in-OpenExport.is (ap open_export_call c.deref-in-OpenExport.ensures); goes = c.open_export_in.ensures.goes; answers = c.open_export_in.ensures.answers }

pub returns-in-ExportNext : goal.returns-in-ExportNext
returns-in-ExportNext g c =
    record { plain = export_next_call c.in-ExportNext.id; is = rw c.in-ExportNext.is refl; goes = c.export_next_in.ensures.goes; answers = c.export_next_in.ensures.answers }

pub returns-in-CloseExport : goal.returns-in-CloseExport
returns-in-CloseExport g c =
    record { plain = close_export_call c.in-CloseExport.id; is = rw c.in-CloseExport.is refl; goes = c.close_export_in.ensures.goes; answers = c.close_export_in.ensures.answers }

pub returns-in-Compact : goal.returns-in-Compact
returns-in-Compact g c =
    record { plain = compact_call; is = rw c.in-Compact.is refl; goes = c.compact_in.ensures.goes; answers = c.compact_in.ensures.answers }

pub returns-in-Upgrade : goal.returns-in-Upgrade
returns-in-Upgrade g c =
    record { plain = upgrade_call; is = rw c.in-Upgrade.is refl; goes = c.upgrade_in.ensures.goes; answers = c.upgrade_in.ensures.answers }
