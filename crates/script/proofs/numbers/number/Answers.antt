use Rattle.std.proofs.Common.{◌≡◌, Ok, Err, rules}
use Rattle.std.specs.Result.{MatchResult}
use Rattle.std.proofs.lemmas.Str.{IsUtf8-from_ascii}
use Rattle.script.proofs.Decimals.{number_read, numeral_ascii}
use Rattle.script.specs.declared.problems.Problem.TheVariants.{NumberTooLarge}
use Rattle.script.proofs.numbers.number.Goals as goal

pub unwrap-digits-requires : goal.unwrap-digits-requires
unwrap-digits-requires c =
    let utf8 = IsUtf8-from_ascii c.args.word.now (numeral_ascii c.args.word.now c.if-not-is_numeral.ensures) in
    let h = c.from_utf8.ensures.cases in
    search rules

pub returns : goal.returns
returns c =
    let same = rw c.unwrap-digits.ensures at c.from_utf8.ensures.cases in
    let told : MatchResult c.parse.result (λ x. c.map_err.result ≡ Ok x) (λ _. c.map_err.result ≡ Err NumberTooLarge) = search rules in
    number_read c.args.word.now c.unwrap-digits.result.now c.parse.result c.map_err.result same.0 c.if-not-is_numeral.ensures c.parse.ensures.value.0 told
