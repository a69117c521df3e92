use Rattle.std.proofs.Common.{◌≡◌, rules}
use Rattle.script.specs.Quotes.{inside}
use Rattle.script.proofs.Cuts.{behind_quote}
use Rattle.script.proofs.items.quoted.Goals as goal

pub returns-then-goes_on : goal.returns-then-goes_on
returns-then-goes_on c =
    let count : c.run.result ≡ inside c.args.bytes.now = search rules in
    let after = behind_quote c.args.bytes.now c.split_at.result.1.now c.run.result count c.split_at.ensures.back in
    search rules

pub returns : goal.returns
returns c =
    let count : c.run.result ≡ inside c.args.bytes.now = search rules in
    let after = behind_quote c.args.bytes.now c.split_at.result.1.now c.run.result count c.split_at.ensures.back in
    search rules
