-- Two numbers that end the line.
use Rattle.std.proofs.Common.{◌≡◌, ℕ, List, Ok, Err, OnOk, Result, ap}
use Rattle.script.specs.Words.{after_word, ended, last_pair_at, pair_at, then_end}
use Rattle.script.specs.declared.problems.Problem.{Problem}

pub pair_last : (bs rest shown seen : List ℕ) (r : Result (ℕ × ℕ) Problem) → shown ≡ bs → seen ≡ rest → r ≡ pair_at shown → OnOk r (seen ≡ after_word (after_word shown)) → then_end r (ended rest) ≡ last_pair_at bs
pair_last bs rest shown seen (Ok p) same left is after =
    rw (← same, ← left, after) (ap (λ q. then_end q (ended (after_word (after_word shown)))) is)
pair_last bs rest shown seen (Err p) same left is after =
    rw (← same) (ap (λ q. then_end q (ended (after_word (after_word shown)))) is)
