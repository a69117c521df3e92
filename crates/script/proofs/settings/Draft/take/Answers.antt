use Rattle.std.proofs.Common.{◌≡◌, codes, vec_items, refl, ap, ◌∙◌, arith, rules}
use Rattle.std.proofs.lemmas.Result.{err_from_is_err_and}
use Rattle.std.proofs.lemmas.Slice.Eq.{text_from_reads}
use Rattle.script.specs.Calls.{step_at}
use Rattle.script.specs.Draft.{drafted, drafting, step_taken, words_taken}
use Rattle.script.specs.Words.{left}
use Rattle.script.proofs.StepLines.{line_words, setting_line, step_fails, step_line}
use Rattle.script.proofs.settings.Draft.take.Goals as goal

pub returns-in_err-self-in-kind : goal.returns-in_err-self-in-kind
returns-in_err-self-in-kind c =
    let d = drafted c.args.self.now in
    let after = left c.word-word.new.self in
    let opened = line_words d c.args.number c.args.bytes.now _ c.word-word.result.now after c.new-line.ensures c.word-word.ensures.value c.word-word.ensures.after c.if-is_empty.ensures in
    let word : c.word-word.result.now ≡ codes "kind" = text_from_reads _ _ (omega arith) (search rules) in
    let p = err_from_is_err_and c.from_residual.result c.from_residual.ensures.1 in
    rw (p.1, p.2) (opened ∙ ap (λ w. words_taken d c.args.number w after) word ∙ setting_line d d.kind (λ k. drafting k d.medium d.work d.turns) c.read_kind.result _ c.setting.result _ c.setting.ensures c.read_kind.ensures c.in_err-self-in-kind.was)

pub returns-in_ok-self-in-kind : goal.returns-in_ok-self-in-kind
returns-in_ok-self-in-kind c =
    let d = drafted c.args.self.now in
    let after = left c.word-word.new.self in
    let opened = line_words d c.args.number c.args.bytes.now _ c.word-word.result.now after c.new-line.ensures c.word-word.ensures.value c.word-word.ensures.after c.if-is_empty.ensures in
    let word : c.word-word.result.now ≡ codes "kind" = text_from_reads _ _ (omega arith) (search rules) in
    opened ∙ ap (λ w. words_taken d c.args.number w after) word ∙ setting_line d d.kind (λ k. drafting k d.medium d.work d.turns) c.read_kind.result _ c.setting.result _ c.setting.ensures c.read_kind.ensures c.in_ok-self-in-kind.was

pub returns-in_err-self-in-storage : goal.returns-in_err-self-in-storage
returns-in_err-self-in-storage c =
    let d = drafted c.args.self.now in
    let after = left c.word-word.new.self in
    let opened = line_words d c.args.number c.args.bytes.now _ c.word-word.result.now after c.new-line.ensures c.word-word.ensures.value c.word-word.ensures.after c.if-is_empty.ensures in
    let word : c.word-word.result.now ≡ codes "storage" = text_from_reads _ _ (omega arith) (search rules) in
    let p = err_from_is_err_and c.from_residual-in_err-self-in-storage.result c.from_residual-in_err-self-in-storage.ensures.1 in
    rw (p.1, p.2) (opened ∙ ap (λ w. words_taken d c.args.number w after) word ∙ setting_line d d.medium (λ k. drafting d.kind k d.work d.turns) c.read_medium.result _ c.setting-in-storage.result _ c.setting-in-storage.ensures c.read_medium.ensures c.in_err-self-in-storage.was)

pub returns-in_ok-self-in-storage : goal.returns-in_ok-self-in-storage
returns-in_ok-self-in-storage c =
    let d = drafted c.args.self.now in
    let after = left c.word-word.new.self in
    let opened = line_words d c.args.number c.args.bytes.now _ c.word-word.result.now after c.new-line.ensures c.word-word.ensures.value c.word-word.ensures.after c.if-is_empty.ensures in
    let word : c.word-word.result.now ≡ codes "storage" = text_from_reads _ _ (omega arith) (search rules) in
    opened ∙ ap (λ w. words_taken d c.args.number w after) word ∙ setting_line d d.medium (λ k. drafting d.kind k d.work d.turns) c.read_medium.result _ c.setting-in-storage.result _ c.setting-in-storage.ensures c.read_medium.ensures c.in_ok-self-in-storage.was

pub returns-in_err-self-in-work : goal.returns-in_err-self-in-work
returns-in_err-self-in-work c =
    let d = drafted c.args.self.now in
    let after = left c.word-word.new.self in
    let opened = line_words d c.args.number c.args.bytes.now _ c.word-word.result.now after c.new-line.ensures c.word-word.ensures.value c.word-word.ensures.after c.if-is_empty.ensures in
    let word : c.word-word.result.now ≡ codes "work" = text_from_reads _ _ (omega arith) (search rules) in
    let p = err_from_is_err_and c.from_residual-in_err-self-in-work.result c.from_residual-in_err-self-in-work.ensures.1 in
    rw (p.1, p.2) (opened ∙ ap (λ w. words_taken d c.args.number w after) word ∙ setting_line d d.work (λ k. drafting d.kind d.medium k d.turns) c.last.result _ c.setting-in-work.result _ c.setting-in-work.ensures (search rules) c.in_err-self-in-work.was)

pub returns-in_err-step-in_default : goal.returns-in_err-step-in_default
returns-in_err-step-in_default c =
    let d = drafted c.args.self.now in
    let after = left c.word-word.new.self in
    let opened = line_words d c.args.number c.args.bytes.now _ c.word-word.result.now after c.new-line.ensures c.word-word.ensures.value c.word-word.ensures.after c.if-is_empty.ensures in
    let other : words_taken d c.args.number c.word-word.result.now after ≡ step_taken d (step_at c.args.number c.word-word.result.now after) = search rules in
    let p = err_from_is_err_and c.from_residual-in_err-step-in_default.result c.from_residual-in_err-step-in_default.ensures.1 in
    rw (p.1, p.2, opened ∙ other) (step_fails {X = Unit {0}} (λ _. d) d _ _ c.in_err-step-in_default.ensures)

pub returns-in_ok-push-in_default : goal.returns-in_ok-push-in_default
returns-in_ok-push-in_default c =
    let d = drafted c.args.self.now in
    let after = left c.word-word.new.self in
    let opened = line_words d c.args.number c.args.bytes.now _ c.word-word.result.now after c.new-line.ensures c.word-word.ensures.value c.word-word.ensures.after c.if-is_empty.ensures in
    let other : words_taken d c.args.number c.word-word.result.now after ≡ step_taken d (step_at c.args.number c.word-word.result.now after) = search rules in
    opened ∙ other ∙ step_line d c.in_ok-step-in_default.field-0 _ (vec_items c.args.self.now.steps) (vec_items c.push.new.self) c.in_ok-step-in_default.ensures refl c.in_ok-push-in_default.ensures.items
