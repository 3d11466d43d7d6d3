use Rattle.std.proofs.Common.{◌≡◌, ◌≤◌, ◌<◌, ◌-◌, ℕ, List, length, refl, sym, subst, arith}
use Rattle.std.specs.Io.KnownBytes.{Appends}
use Rattle.cli_reports.specs.Escaped.{control_length}
use Rattle.cli_reports.proofs.EscapeLemmas.{control_fits, escaped_first, shown_front}
use Rattle.cli_reports.proofs.escaping.ShownOutput.write_shown.Goals as goal

pub returns-then-plain-gt0-clause-shown : goal.returns-then-plain-gt0-clause-shown
returns-then-plain-gt0-clause-shown g c =
    shown_front c.write.result c.args.buf.now c.plain_length-plain.result _ _ c.plain_length-plain.ensures.within c.plain_length-plain.ensures.plain
    c.write.ensures.bound c.write.ensures.bytes

pub bounds-buf-taken : goal.bounds-buf-taken
bounds-buf-taken g c =
    let fits = control_fits c.args.buf.now in
    let is = c.control_length.ensures in
    omega (arith, fits, is, c)

pub returns-in_ok-write_all-in_default-clause-bound : goal.returns-in_ok-write_all-in_default-clause-bound
returns-in_ok-write_all-in_default-clause-bound g c = subst (λ (n : ℕ). n ≤ length c.args.buf.now) (sym c.control_length.ensures) (control_fits c.args.buf.now)

pub returns-in_ok-write_all-in_default-clause-shown : goal.returns-in_ok-write_all-in_default-clause-shown
returns-in_ok-write_all-in_default-clause-shown g c =
    let is = c.control_length.ensures in
    let some : 0 < c.control_length.result = omega (arith, c) in
    let bytes = c.in_ok-write_all-in_default.ensures.bytes in (
      _,
      escaped_first c.args.buf.now c.control_length.result (sym is) some,
      subst (λ (xs : List ℕ). Appends (g.W.Write.contents c.args.self.now.output) (g.W.Write.contents c.write_all.new.self) xs) c.escape_of.ensures bytes,
    )
