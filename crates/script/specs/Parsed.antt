-- The script that a text holds, or its first mistake.
use Rattle.std.specs.Prelude.{ℕ, ◌+◌, List, [], ◌∷◌, Ok, Err, Result}
use Rattle.script.specs.Draft.{Drafted, Whole, finished, line_taken, start, whole}
use Rattle.script.specs.Lines.{lines}
use Rattle.script.specs.Told.{Tells, mistaken}
use Rattle.script.specs.declared.problems.Failure.{Failure}
use Rattle.script.specs.declared.problems.Mistake.{Mistake}
use Rattle.script.specs.declared.problems.Problem.{Problem}
use Rattle.script.specs.declared.steps.Script.{Script}

-- goes on after line n, or stops there
abbrev pub go_on : ℕ → Result Drafted Problem → (Drafted → Result Drafted Mistake) → Result Drafted Mistake
go_on n (Ok d) next = next d
go_on n (Err p) next = Err (mistaken n p)

-- n lines have been read, and gave d
abbrev pub lines_taken : Drafted → ℕ → List (List ℕ) → Result Drafted Mistake
lines_taken d n [] = Ok d
lines_taken d n (l ∷ ls) = go_on (n + 1) (line_taken d (n + 1) l) (λ e. lines_taken e (n + 1) ls)

-- the settings that are missing are filled in at the end
abbrev pub closed : Result Drafted Mistake → Result Whole Mistake
closed (Ok d) = Ok (finished d)
closed (Err m) = Err m

-- every line in its order, from the first
abbrev pub script_of : List ℕ → Result Whole Mistake
script_of text = closed (lines_taken start 0 (lines text))

-- r answers s; nothing is said where memory ran out
abbrev pub Parses : Result Script (Failure Mistake) → Result Whole Mistake → Type 0
Parses r s = Tells whole r s
