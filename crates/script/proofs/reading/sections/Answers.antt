use Rattle.std.proofs.Common.{◌≡◌, suc, ◌+◌, ◌-◌, [], ◌∷◌, ◌++◌, length, vec_items, vec_len, ap, arith, rules}
use Rattle.std.proofs.lemmas.Result.{err_from_is_err_and}
use Rattle.script.specs.Words.{left}
use Rattle.script.proofs.SectionTurns.{section_fails, section_shortens, section_turn, sections_done}
use Rattle.script.proofs.reading.sections.Goals as goal

pub returns-in_err-section : goal.returns-in_err-section
returns-in_err-section c =
    let p = err_from_is_err_and c.from_residual.result c.from_residual.ensures.1 in
    let bs = left c.loop-line.line in
    let all = length (left c.args.line.now) in
    let n = vec_len c.loop-line.sections in
    let more = c.loop-line-test.ensures in
    let fuel : all - n ≡ suc (all - n - 1) = omega (arith, section_shortens bs more) in
    rw (p.1, p.2) (section_fails _ bs (vec_items c.loop-line.sections) (all - n) (all - n - 1) _ more fuel c.in_err-section.ensures.value c.loop-line.invariant.1)

pub loop-line-preserved : goal.loop-line-preserved
loop-line-preserved c =
    let bs = left c.loop-line.line in
    let all = length (left c.args.line.now) in
    let n = vec_len c.loop-line.sections in
    let m = vec_len c.push.new.self in
    let more = c.loop-line-test.ensures in
    let one : m ≡ n + 1 = c.in_ok-push.ensures.len in
    let pushed : vec_items c.push.new.self ≡ vec_items c.loop-line.sections ++ c.in_ok-section.section ∷ [] = search rules in
    let fuel : all - n ≡ suc (all - m) = omega (arith, section_shortens bs more) in (
      omega (arith, section_shortens bs more, ap length c.number.ensures.after),
      section_turn _ bs (left c.number.new.self) (vec_items c.loop-line.sections) (vec_items c.push.new.self) (all - n) (all - m) c.in_ok-section.section more fuel c.in_ok-section.ensures.value c.number.ensures.after pushed c.loop-line.invariant.1,
    )

pub returns : goal.returns
returns c =
    sections_done _ (left c.loop-line.line) (vec_items c.loop-line.sections) _ c.loop-line-test.ensures c.loop-line.invariant.1
