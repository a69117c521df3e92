use Rattle.std.proofs.Common.{◌≡◌, ◌+◌, ◌≤◌, length}
use Rattle.script.specs.Draft.{drafted, start}
use Rattle.script.specs.Lines.{lines}
use Rattle.script.specs.Parsed.{lines_taken}
use Rattle.script.proofs.parse.Given as goal

abbrev pub invariant-loop-i : goal.invariant-loop-i
invariant-loop-i l =
    let left = lines l.i-iterator.iter.rest.now in
    let n = l.i-iterator.count in
    (goal.iterator-loop-i).can_next l.i-iterator × (goal.iterator-loop-i).is_finite l.i-iterator × (n + length left ≤ length l.text) × (lines_taken (drafted l.draft) n left ≡ lines_taken start 0 (lines l.text))
