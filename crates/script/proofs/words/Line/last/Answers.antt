use Rattle.std.proofs.Common.{Ok, refl, ap}
use Rattle.std.proofs.lemmas.Result.{err_from_is_err_and}
use Rattle.script.specs.Words.{then_end}
use Rattle.script.proofs.words.Line.last.Goals as goal

pub returns-in_err-value : goal.returns-in_err-value
returns-in_err-value g c =
    let p = err_from_is_err_and c.from_residual.result c.from_residual.ensures.1 in
    (c.read.result, c.read.new.arg2, record { shown = _; shows = refl; left = _; met = c.read.ensures; leaves = refl }, rw (c.in_err-value.was, p.1, p.2) refl)

pub returns-in_err-end : goal.returns-in_err-end
returns-in_err-end g c =
    let p = err_from_is_err_and c.from_residual-in_err-end.result c.from_residual-in_err-end.ensures.1 in
    (c.read.result, c.read.new.arg2, record { shown = _; shows = refl; left = _; met = c.read.ensures; leaves = refl }, rw (c.in_ok-value.was, p.1, p.2) (ap (then_end (Ok c.in_ok-value.value)) c.in_err-end.ensures))

pub returns : goal.returns
returns g c =
    (c.read.result, c.read.new.arg2, record { shown = _; shows = refl; left = _; met = c.read.ensures; leaves = refl }, rw c.in_ok-value.was (ap (then_end (Ok c.in_ok-value.value)) c.in_ok-end.ensures))
