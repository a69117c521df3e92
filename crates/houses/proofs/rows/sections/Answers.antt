use Rattle.std.proofs.Common.{arith}
use Rattle.houses.proofs.Counting.{count_row}
use Rattle.houses.proofs.rows.sections.Goals as goal

pub loop-row-preserved : goal.loop-row-preserved
loop-row-preserved g c = (
  omega (arith, c.loop-row.invariant.0, c.begun-sections.ensures.value, count_row c.args.rows.now c.loop-row.row-index c.row-item.result c.loop-row.last (omega arith) c.row-item.is),
  omega (arith, c.loop-row.invariant.1, c.begun-sections.ensures.few),
)
