use Rattle.std.proofs.Common.{length, ap, arith}
use Rattle.script.proofs.LineTurns.{lines_split}
use Rattle.script.proofs.lines.LinesIterator.next.Goals as goal

pub returns-clause-steps : goal.returns-clause-steps
returns-clause-steps c = lines_split _ _ _ c.if-is_empty.ensures c.cut_line.ensures.line c.cut_line.ensures.rest

pub returns-clause-goes : goal.returns-clause-goes
returns-clause-goes c =
    let cut = lines_split _ _ _ c.if-is_empty.ensures c.cut_line.ensures.line c.cut_line.ensures.rest in
    record { on = λ _. (tt, tt, omega (arith, ap length cut)); keeps = tt; rests = λ _. tt }
