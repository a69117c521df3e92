-- How words, numbers and items are cut off the front of a line; blanks before one are passed over.
use Rattle.std.specs.Prelude.{ℕ, Bool, cond, List, [], length, take, drop, Ok, Err, codes, Result, ◌==◌}
use Rattle.std.specs.List.{prefix_len}
use Rattle.std.specs.Str.{bytes_eq}
use Rattle.script.specs.Bytes.{first_is, is_blank, of_word}
use Rattle.script.specs.Decimal.{number_of}
use Rattle.script.specs.Hex.{hex_of}
use Rattle.script.specs.Quotes.{quoted_of}
use Rattle.script.specs.Told.{told}
use Rattle.script.specs.declared.problems.Problem.{Problem}
use Rattle.script.specs.declared.problems.Problem.TheVariants.{NumberMissing, ItemMissing, WordTooMany}
use Rattle.script.specs.declared.words.Line.{Line}

-- what is left of the line
abbrev pub left : Line → List ℕ
left line = line.rest.now

-- without the blanks and tabs at the front
abbrev pub skip : List ℕ → List ℕ
skip bs = drop (prefix_len is_blank bs) bs

-- the longest run without a blank, a tab or `#`
abbrev pub word_at : List ℕ → List ℕ
word_at bs = take (prefix_len of_word (skip bs)) (skip bs)

-- what follows that word
abbrev pub after_word : List ℕ → List ℕ
after_word bs = drop (prefix_len of_word (skip bs)) (skip bs)

-- there is nothing
abbrev pub empty : List ℕ → Bool
empty bs = length bs == 0

-- a word that has to be a number
abbrev pub wanted_number : List ℕ → Result ℕ Problem
wanted_number w = cond (empty w) (Err NumberMissing) (number_of w)

-- the next word as a number
abbrev pub number_at : List ℕ → Result ℕ Problem
number_at bs = wanted_number (word_at bs)

-- two numbers, or the first problem
abbrev pub both : Result ℕ Problem → Result ℕ Problem → Result (ℕ × ℕ) Problem
both (Err p) second = Err p
both (Ok m) (Err p) = Err p
both (Ok m) (Ok n) = Ok (m, n)

-- the next two words as numbers
abbrev pub pair_at : List ℕ → Result (ℕ × ℕ) Problem
pair_at bs = both (number_at bs) (number_at (after_word bs))

-- the bytes of a word that has to be an item; `-` stands for none
abbrev pub plain_of : List ℕ → Result (List ℕ) Problem
plain_of w = cond (bytes_eq w []) (Err ItemMissing) (cond (bytes_eq w (codes "-")) (Ok []) (hex_of w))

-- a quote stands at the front
abbrev pub quote_first : List ℕ → Bool
quote_first bs = first_is (λ b. b == 34) bs

-- an answer, with what is left of the line
abbrev pub leaving : {X : Type 0} → List ℕ → Result X Problem → Result (X × List ℕ) Problem
leaving rest r = told (λ x. (x, rest)) r

-- an item and what follows it: quoted, or else a word
abbrev pub item_at : List ℕ → Result (List ℕ × List ℕ) Problem
item_at bs = cond (quote_first (skip bs)) (quoted_of (drop 1 (skip bs))) (leaving (after_word bs) (plain_of (word_at bs)))

-- nothing but blanks and a comment is left
abbrev pub ended : List ℕ → Result (Unit {0}) Problem
ended bs = cond (empty (word_at bs)) (Ok tt) (Err WordTooMany)

-- an answer that has to end the line
abbrev pub then_end : {X : Type 0} → Result X Problem → Result (Unit {0}) Problem → Result X Problem
then_end (Err p) end = Err p
then_end (Ok x) (Err p) = Err p
then_end (Ok x) (Ok u) = Ok x

-- a number that ends the line
abbrev pub last_number_at : List ℕ → Result ℕ Problem
last_number_at bs = then_end (number_at bs) (ended (after_word bs))

-- two numbers that end the line
abbrev pub last_pair_at : List ℕ → Result (ℕ × ℕ) Problem
last_pair_at bs = then_end (pair_at bs) (ended (after_word (after_word bs)))
