use Rattle.std.proofs.Common.{◌≡◌, inl, ap, arith}
use Rattle.script.specs.Lines.{lines}
use Rattle.script.specs.Parsed.{lines_taken}
use Rattle.script.proofs.LineTurns.{few_lines}
use Rattle.script.proofs.parse.Goals as goal

pub loop-i-init : goal.loop-i-init
loop-i-init c =
    let text : c.into_iter-i-iterator.result.iter.rest.now ≡ c.args.text.now = cc in
    let none : c.into_iter-i-iterator.result.count ≡ 0 = cc in
    rw (text, none) ((tt, tt, inl (omega (arith, few_lines c.args.text.now))), tt, omega (arith, few_lines c.args.text.now), ap (λ d. lines_taken d 0 (lines c.args.text.now)) c.new-draft.ensures)
