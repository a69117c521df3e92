-- The number that decimal digits write, and what reading a number answers.
use Rattle.std.specs.Prelude.{ℕ, ◌+◌, ◌-◌, ◌*◌, ◌^◌, Bool, cond, ◌&&◌, List, length, Ok, Err, Result, nat_lt}
use Rattle.std.specs.List.{fold, list_all}
use Rattle.script.specs.Bytes.{is_digit}
use Rattle.script.specs.declared.problems.Problem.{Problem}
use Rattle.script.specs.declared.problems.Problem.TheVariants.{NotANumber, NumberTooLarge}

-- the number that digits write
abbrev pub decimal : List ℕ → ℕ
decimal bs = fold (λ n b. n * 10 + (b - 48)) 0 bs

-- one or more digits, and nothing else
abbrev pub numeral : List ℕ → Bool
numeral bs = nat_lt 0 (length bs) && list_all is_digit bs

-- leading zeros do not matter: only the value has to fit 64 bits
abbrev pub number_of : List ℕ → Result ℕ Problem
number_of bs = cond (numeral bs) (cond (nat_lt (decimal bs) (2 ^ 64)) (Ok (decimal bs)) (Err NumberTooLarge)) (Err NotANumber)
