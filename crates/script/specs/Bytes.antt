-- Which bytes words, lines and texts are made of.
use Rattle.std.specs.Prelude.{◌≡◌, ℕ, Bool, false, List, [], ◌∷◌, not, ◌&&◌, ◌||◌, ◌==◌, nat_le}

-- any byte but a line's end, 10
abbrev pub of_line : ℕ → Bool
of_line b = not (b == 10)

-- a blank is 32, a tab 9
abbrev pub is_blank : ℕ → Bool
is_blank b = b == 32 || b == 9

-- any byte but a blank, a tab and `#`, 35
abbrev pub of_word : ℕ → Bool
of_word b = not (is_blank b) && not (b == 35)

-- the digits are 48 to 57
abbrev pub is_digit : ℕ → Bool
is_digit b = nat_le 48 b && nat_le b 57

-- any byte but a quote, 34
abbrev pub of_quote : ℕ → Bool
of_quote b = not (b == 34)

-- a blank is the first of them
abbrev pub is_printable : ℕ → Bool
is_printable b = nat_le 32 b && nat_le b 126

-- there is a first byte, and it passes
abbrev pub first_is : (ℕ → Bool) → List ℕ → Bool
first_is p [] = false
first_is p (b ∷ bs) = p b

-- each answer about a byte is what p says of it
abbrev pub Agrees : (ℕ → Bool → Type 0) → (ℕ → Bool) → Type 0
Agrees answers p = (b : ℕ) (r : Bool) → answers b r → r ≡ p b
