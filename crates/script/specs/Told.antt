-- How an answer of the code stands for an answer of these definitions, which never run out of memory.
use Rattle.std.specs.Prelude.{◌≡◌, ℕ, Ok, Err, Result}
use Rattle.script.specs.declared.problems.Failure.{Failure}
use Rattle.script.specs.declared.problems.Failure.TheVariants as failure
use Rattle.script.specs.declared.problems.Mistake.{Mistake}
use Rattle.script.specs.declared.problems.Problem.{Problem}

-- r answers s, where f says what a value stands for; nothing is said where memory ran out
abbrev pub Tells : {X Y M : Type 0} → (X → Y) → Result X (Failure M) → Result Y M → Type 0
Tells f (Ok x) s = s ≡ Ok (f x)
Tells f (Err (failure.Mistake m)) s = s ≡ Err m
Tells f (Err failure.Memory) s = Unit {0}

-- the same of an answer that takes no memory
abbrev pub told : {X Y : Type 0} → (X → Y) → Result X Problem → Result Y Problem
told f (Ok x) = Ok (f x)
told f (Err p) = Err p

-- the parts put together
abbrev pub mistaken : ℕ → Problem → Mistake
mistaken n p = record { line = n; problem = p }

-- the same failure, told with its line
abbrev pub failure_at : ℕ → Failure Problem → Failure Mistake
failure_at n (failure.Mistake p) = failure.Mistake (mistaken n p)
failure_at n failure.Memory = failure.Memory
