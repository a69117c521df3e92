use Rattle.std.proofs.Common.{length, ap, ◌∙◌, arith, length-drop}
use Rattle.std.proofs.lemmas.List.{set-get_or}
use Rattle.history.specs.Logs.{state_of}
use Rattle.history.proofs.Noting.{first_left, noting_more, noted_all}
use Rattle.history.proofs.working.work_steps.Goals as goal

pub loop-place-preserved : goal.loop-place-preserved
loop-place-preserved g c =
    let f = first_left c.args.steps.now c.loop-place.rest.now c.in-Some.later.now c.loop-place.place-index c.in-Some.step.now c.loop-place.invariant.0 c.in-Some.ensures.cases.0 in (
      f.1,
      noting_more g.V.Item.bytes g.V.Item.decoded g.V.Item.greatest (state_of g.S.Storage.standing c.args.log) c.args.steps.now c.args.buffer.now c.args.notes.now c.loop-place.place-index (state_of g.S.Storage.standing c.loop-place.log) (state_of g.S.Storage.standing c.work_step-next.result.log) c.loop-place.buffer c.work_step-next.new.buffer c.loop-place.notes c.in-Some.step.now c.work_step-next.result.note
          f.2 c.loop-place-test.true f.0 c.work_step-next.ensures c.loop-place.invariant.1,
    )

pub returns-after-loop-place : goal.returns-after-loop-place
returns-after-loop-place g c =
    noted_all g.V.Item.bytes g.V.Item.decoded g.V.Item.greatest (state_of g.S.Storage.standing c.args.log) c.args.steps.now c.args.buffer.now c.args.notes.now c.loop-place.place-index (state_of g.S.Storage.standing c.loop-place.log) c.loop-place.buffer c.loop-place.notes
    (omega (arith, c.loop-place-test.false, c.loop-place.auto.place-index-end, c.loop-place.invariant.1.within)) c.loop-place.invariant.1

pub returns-in_default : goal.returns-in_default
returns-in_default g c =
    let same = set-get_or c.loop-place.notes c.loop-place.place-index c.place-item.result in
    let none = ap length c.loop-place.invariant.0 in
    let k = noted_all g.V.Item.bytes g.V.Item.decoded g.V.Item.greatest (state_of g.S.Storage.standing c.args.log) c.args.steps.now c.args.buffer.now c.args.notes.now c.loop-place.place-index (state_of g.S.Storage.standing c.loop-place.log) c.loop-place.buffer c.loop-place.notes
    (omega (arith, c.loop-place-test.true, c.in_default.ensures.cases, none, length-drop c.loop-place.place-index c.args.steps.now, c.loop-place.invariant.1.within)) c.loop-place.invariant.1 in
    record { left_is = k.left_is; after_is = k.after_is; written_is = same ∙ k.written_is }
