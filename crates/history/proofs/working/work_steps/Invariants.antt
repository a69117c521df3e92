use Rattle.std.proofs.Common.{◌≡◌, drop}
use Rattle.history.specs.Logs.{state_of}
use Rattle.history.proofs.Noting.{Noting}
use Rattle.history.proofs.working.work_steps.Given as goal

abbrev pub invariant-loop-place : goal.invariant-loop-place
invariant-loop-place g l =
    (l.rest ≡ drop l.place-index l.steps)
    × Noting g.V.Item.bytes g.V.Item.decoded g.V.Item.greatest (state_of g.S.Storage.standing l.initial.log) l.steps l.initial.buffer l.initial.notes l.place-index (state_of g.S.Storage.standing l.log) l.buffer l.notes
