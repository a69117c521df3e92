-- What is printed for bytes.
use Rattle.std.specs.Prelude.{ℕ, ◌/◌, ◌%◌, false, cond, List, [], ◌∷◌, length, codes, ◌==◌}
use Rattle.std.specs.List.{flat_map}
use Rattle.std.specs.Fmt.{digit_glyph}

-- a byte in two hexadecimal digits, in lower case
abbrev pub pair_text : ℕ → List ℕ
pair_text b = digit_glyph false (b / 16) ∷ digit_glyph false (b % 16) ∷ []

-- the pairs of all bytes, `-` for none
abbrev pub digits_text : List ℕ → List ℕ
digits_text bs = cond (length bs == 0) (codes "-") (flat_map pair_text bs)
