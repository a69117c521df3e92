-- A quoted text, and what follows it.
use Rattle.std.specs.Prelude.{ℕ, ◌+◌, cond, List, length, take, drop, Ok, Err, Result, nat_lt}
use Rattle.std.specs.Borrow.{Bor}
use Rattle.std.specs.List.{list_all, prefix_len}
use Rattle.script.specs.Bytes.{first_is, is_printable, of_quote, of_word}
use Rattle.script.specs.declared.problems.Problem.{Problem}
use Rattle.script.specs.declared.problems.Problem.TheVariants.{QuoteNotClosed, Unprintable, GluedToQuote}

-- how many bytes stand before the closing quote, or all of them where there is none
abbrev pub inside : List ℕ → ℕ
inside bs = prefix_len of_quote bs

-- the text, and what follows the closing quote, if nothing is wrong with them
abbrev pub checked : List ℕ → List ℕ → Result (List ℕ × List ℕ) Problem
checked text after = cond (list_all is_printable text) (cond (first_is of_word after) (Err GluedToQuote) (Ok (text, after))) (Err Unprintable)

-- the text and the rest of a line whose opening quote has been cut off
abbrev pub quoted_of : List ℕ → Result (List ℕ × List ℕ) Problem
quoted_of bs =
    cond (nat_lt (inside bs) (length bs)) (checked (take (inside bs) bs) (drop (inside bs + 1) bs)) (Err QuoteNotClosed)

-- what a pair of slices holds
abbrev pub parts : (Bor (List ℕ) × Bor (List ℕ)) → (List ℕ × List ℕ)
parts p = (p.0.now, p.1.now)
