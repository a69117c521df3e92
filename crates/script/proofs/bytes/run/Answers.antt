use Rattle.std.proofs.Common.{rules, tests, ◌∙◌}
use Rattle.std.proofs.lemmas.Iterator.{YieldsList-from_slice}
use Rattle.std.proofs.lemmas.Iterator.Consumers.{count_from_yields_List}
use Rattle.std.proofs.lemmas.Iterator.Search.{YieldsList-from_take_while}
use Rattle.std.proofs.lemmas.List.Folds.{length-prefix_len}
use Rattle.script.proofs.bytes.run.Goals as goal

pub returns-clause-count : goal.returns-clause-count
returns-clause-count g c p computes =
    count_from_yields_List c.take_while.result _ c.count.ensures.ran
    (YieldsList-from_take_while {s = c.take_while.result} _ p (YieldsList-from_slice c.args.bytes.now cc) c.take_while.ensures.closure c.take_while.ensures.done (λ x b q k. search (rules, tests, computes)))
    ∙ length-prefix_len p c.args.bytes.now
