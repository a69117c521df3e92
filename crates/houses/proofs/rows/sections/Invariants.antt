use Rattle.std.proofs.Common.{◌≡◌, ◌+◌, ◌≤◌, drop, None}
use Rattle.houses.specs.Rows.{sections_behind}
use Rattle.houses.proofs.rows.sections.Given as goal

abbrev pub invariant-loop-row : goal.invariant-loop-row
invariant-loop-row g l = (l.sections + sections_behind l.last (drop l.row-index l.rows) ≡ sections_behind None l.rows) × (l.sections ≤ l.row-index)
