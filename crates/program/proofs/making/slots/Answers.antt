use Rattle.std.proofs.Common.{◌≡◌, Ok, rules}
use Rattle.std.specs.Result.{IsErr, MatchResult}
use Rattle.program.specs.Making.{MadeSlots}
use Rattle.program.proofs.Makes.{made}
use Rattle.program.proofs.making.slots.Goals as goal

pub returns : goal.returns
returns c =
    let passed : MatchResult c.new.result (λ x. c.map_err.result ≡ Ok x) (λ _. IsErr c.map_err.result) = search rules in
    made _ (MadeSlots c.args.area c.args.wish) _ (λ x new. record { zeros = _; blank = search rules; new = new }) c.new.result c.map_err.result c.new.ensures passed
