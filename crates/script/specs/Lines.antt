-- The lines of a text: what stands before each line's end, with one carriage return dropped.
use Rattle.std.specs.Prelude.{ℕ, ◌+◌, ◌-◌, cond, List, [], ◌∷◌, map, length, take, drop, ◌==◌, slice_index}
use Rattle.std.specs.List.{prefix_len}
use Rattle.script.specs.Bytes.{of_line}

-- a line without the carriage return at its end
abbrev pub without_return : List ℕ → List ℕ
without_return bs = cond (slice_index bs (length bs - 1) == 13) (take (length bs - 1) bs) bs

-- the first line of a text
abbrev pub line_at : List ℕ → List ℕ
line_at bs = without_return (take (prefix_len of_line bs) bs)

-- what follows the first line
abbrev pub after_line : List ℕ → List ℕ
after_line bs = drop (prefix_len of_line bs + 1) bs

-- a byte before the first of the lines
abbrev pub in_front : ℕ → List (List ℕ) → List (List ℕ)
in_front b [] = (b ∷ []) ∷ []
in_front b (l ∷ ls) = (b ∷ l) ∷ ls

-- each line as it stands; a text that ends in a line's end has no empty line after it
abbrev pub pieces : List ℕ → List (List ℕ)
pieces [] = []
pieces (b ∷ bs) = cond (of_line b) (in_front b (pieces bs)) ([] ∷ pieces bs)

-- the lines without their carriage returns
abbrev pub lines : List ℕ → List (List ℕ)
lines bs = map without_return (pieces bs)
