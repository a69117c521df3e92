-- The digits of a number, in the words of the library.
use Rattle.std.proofs.Common.{◌≡◌, ℕ, ◌+◌, ◌-◌, ◌*◌, ◌<◌, ◌^◌, true, nat_lt, length, List, Ok, Err, Result, sym, ap, ◌∙◌, arith, rules}
use Rattle.std.specs.List.{fold, list_all}
use Rattle.std.specs.Result.{MatchResult}
use Rattle.std.specs.Str.{IsAscii}
use Rattle.std.specs.Str.Parse.{ParsesUnsigned}
use Rattle.std.proofs.lemmas.Bool.{and_parts, cond-true, cond-false, le-ltb, lt-ltb, ltb-true}
use Rattle.std.proofs.lemmas.Fmt.{IsAscii-from_digits}
use Rattle.std.proofs.lemmas.Str.Parse.{IsNumeralModel, numerals_by_fold, parse_digits}
use Rattle.script.specs.Bytes.{is_digit}
use Rattle.script.specs.Decimal.{decimal, number_of, numeral}
use Rattle.script.specs.declared.problems.Problem.{Problem}
use Rattle.script.specs.declared.problems.Problem.TheVariants.{NumberTooLarge}

digits : IsNumeralModel (λ ds. list_all is_digit ds ≡ true) decimal
digits = numerals_by_fold _ (search rules) (λ n ds. fold (λ m b. m * 10 + (b - 48)) n ds) (search rules)

digits_of : (w : List ℕ) → true ≡ numeral w → list_all is_digit w ≡ true
digits_of w is = (and_parts _ _ (sym is)).1

pub numeral_ascii : (w : List ℕ) → true ≡ numeral w → IsAscii w
numeral_ascii w is = IsAscii-from_digits w (digits.to w (digits_of w is))

pub number_read : {E : Type 0} (w text : List ℕ) (r : Result ℕ E) (t : Result ℕ Problem) → text ≡ w → true ≡ numeral w → ParsesUnsigned 64 10 text r → MatchResult r (λ n. t ≡ Ok n) (λ _. t ≡ Err NumberTooLarge) → t ≡ number_of w
number_read {E} w text (Ok n) t same is parsed told =
    let fits = parse_digits digits {E = E} 64 w (Ok n) (rw same at parsed) (digits_of w is) in
    told ∙ ap Ok fits.1 ∙ sym (cond-true (numeral w) _ _ (sym is) ∙ cond-true (nat_lt (decimal w) (2 ^ 64)) _ _ (lt-ltb (decimal w) (2 ^ 64) fits.0.1))
number_read w text (Err e) t same is parsed told =
    let fits = parse_digits digits 64 w (Err e) (rw same at parsed) (digits_of w is) in
    let some : 0 < length w = ltb-true 0 (length w) (and_parts _ _ (sym is)).0 in
    let large : decimal w < 2 ^ 64 → ⊥ = λ small. fits (some, small) in
    told ∙ sym (cond-true (numeral w) _ _ (sym is) ∙ cond-false (nat_lt (decimal w) (2 ^ 64)) _ _ (le-ltb (decimal w) (2 ^ 64) (omega arith)))
