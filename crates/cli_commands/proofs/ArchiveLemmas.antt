-- Stores that list digests or send an archive.
use Rattle.std.proofs.Common.{◌≡◌, ℕ, Bool, true, false, List, refl, subst}
use Rattle.std.specs.Prelude.{Result, Ok, Err, IfErr}
use Rattle.sector_dev.specs.Disk.{Image}
use Rattle.catalogue.specs.Entries.{PlainCatalogue}
use Rattle.tables.specs.declared.refusal.Refusal as tables
use Rattle.tables.specs.declared.refusal.Refusal.TheVariants.{Write}
use Rattle.store.specs.Sending.{HasDigestsAt, SaysHalted}
use Rattle.cli_reports.specs.declared.refusal.Refusal.{Refusal}
use Rattle.cli_reports.specs.declared.refusal.Refusal.TheVariants.{Io}
use Rattle.cli_reports.specs.declared.refusal.Side.TheVariants.{Output}
use Rattle.cli_commands.specs.Archives.{ReportsReceiving}

-- a store that lists digests is not halted
pub digests_of_open : (halted tells : Bool) (image : Image) (c : PlainCatalogue) (digests : List (List ℕ)) → HasDigestsAt halted tells image c digests → halted ≡ false
digests_of_open true tells image c digests has = absurd has
digests_of_open false tells image c digests has = refl

-- nor is one whose writer has failed
pub open_by_write : (halted : Bool) (r : tables.Refusal) → r ≡ Write → SaysHalted halted r → halted ≡ false
open_by_write halted r is says = subst (SaysHalted halted) is says

-- tables that were received are reported, or the output failed
pub reports_done : (r : Result (Unit {0}) Refusal) → IfErr r (λ e. e ≡ Io Output) → ReportsReceiving (Ok tt) r
reports_done (Ok x) io = tt
reports_done (Err e) io = io
