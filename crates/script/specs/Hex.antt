-- The bytes that pairs of hexadecimal digits write.
use Rattle.std.specs.Prelude.{ℕ, ◌+◌, ◌-◌, ◌*◌, cond, ◌&&◌, List, [], ◌∷◌, Some, None, Ok, Err, Option, Result, nat_le}
use Rattle.script.specs.declared.problems.Problem.{Problem}
use Rattle.script.specs.declared.problems.Problem.TheVariants.{NotHex, OddDigits}

-- `0` is 48, `a` is 97 and `A` is 65
abbrev pub hex_digit : ℕ → Option ℕ
hex_digit b =
    cond (nat_le 48 b && nat_le b 57) (Some (b - 48)) (cond (nat_le 97 b && nat_le b 102) (Some (b - 97 + 10)) (cond (nat_le 65 b && nat_le b 70) (Some (b - 65 + 10)) None))

-- two digits are one byte
abbrev pub pair_of : Option ℕ → Option ℕ → Option ℕ
pair_of None low = None
pair_of (Some h) None = None
pair_of (Some h) (Some l) = Some (h * 16 + l)

-- the byte of two digits
abbrev pub hex_byte : ℕ → ℕ → Option ℕ
hex_byte high low = pair_of (hex_digit high) (hex_digit low)

-- a byte, where there is one, before the bytes that follow
abbrev pub before : Option ℕ → Result (List ℕ) Problem → Result (List ℕ) Problem
before None rest = Err NotHex
before (Some b) (Ok bs) = Ok (b ∷ bs)
before (Some b) (Err p) = Err p

-- the bytes of a word, or what is wrong with its first bad pair
abbrev pub hex_of : List ℕ → Result (List ℕ) Problem
hex_of [] = Ok []
hex_of (a ∷ []) = Err OddDigits
hex_of (a ∷ b ∷ rest) = before (hex_byte a b) (hex_of rest)
