use Rattle.std.proofs.Common.{rules, tests, ap, ◌∙◌}
use Rattle.std.specs.Option.{ok_or}
use Rattle.std.specs.Str.{bytes_eq}
use Rattle.std.proofs.lemmas.Iterator.{YieldsList-from_slice}
use Rattle.std.proofs.lemmas.Iterator.Search.{find_from_yields_List}
use Rattle.script.specs.Verbs.{verb_word, verbs}
use Rattle.script.specs.declared.problems.Problem.TheVariants.{UnknownWord}
use Rattle.script.proofs.steps.VerbTryFromRefSliceU8.try_from.Goals as goal

pub returns : goal.returns
returns c =
    let found = find_from_yields_List (λ v. bytes_eq c.args.word.now (verb_word v)) _ _ c.find.result c.find.ensures.ran (YieldsList-from_slice verbs c.iter.ensures.rest) (λ x b q k. search (rules, tests)) in
    c.ok_or.ensures.value ∙ ap (λ o. ok_or o UnknownWord) (c.copied.ensures ∙ found)
