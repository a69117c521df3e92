-- What a line of a history file asks of a history.
use Rattle.std.specs.Prelude.{ℕ, Some, None, Option}
use Rattle.script.specs.declared.steps.Call.{Call}
use Rattle.script.specs.declared.steps.Call.TheVariants as call
use Rattle.history.specs.declared.steps.Step.{Step}
use Rattle.history.specs.declared.steps.Step.TheVariants as step

-- the step's own length, else the file's, else the one that every call takes
abbrev pub work_of : Option ℕ → Option ℕ → ℕ → ℕ
work_of (Some own) file most = own
work_of None (Some each) most = each
work_of None None most = most

-- the step of a call, lent a work buffer of a length if it takes one
abbrev pub step_of : Call → ℕ → Step
step_of call.Open work = step.Open
step_of (call.InitAtMost n end) work = step.InitAtMost n end work
step_of call.Close work = step.Close
step_of (call.Lose n keep) work = step.Lose n keep
step_of (call.Append n item) work = step.Append n item work
step_of (call.Sync ns) work = step.Sync ns
step_of (call.Get n offset) work = step.Get n offset work
step_of (call.Size n) work = step.Size n
step_of (call.SectionsFrom n) work = step.SectionsFrom n
step_of (call.Prune least) work = step.Prune least
step_of (call.Replay n offset) work = step.Replay n offset
step_of call.Next work = step.Next work
step_of call.Finish work = step.Finish
