use Rattle.std.proofs.Common.{◌≡◌, ◌+◌, ◌-◌, ◌≤◌, length, vec_items, vec_len}
use Rattle.script.specs.Calls.{sections_at, sections_by}
use Rattle.script.specs.Words.{left}
use Rattle.script.proofs.SectionTurns.{adding}
use Rattle.script.proofs.reading.sections.Given as goal

abbrev pub invariant-loop-line : goal.invariant-loop-line
invariant-loop-line l =
    (length (left l.line) + vec_len l.sections ≤ length (left l.initial.line)) × (adding (vec_items l.sections) (sections_by (length (left l.initial.line) - vec_len l.sections) (left l.line)) ≡ sections_at (left l.initial.line))

abbrev pub decreases-loop-line : goal.decreases-loop-line
decreases-loop-line l = length (left l.line)
