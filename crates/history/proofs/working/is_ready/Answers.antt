use Rattle.std.proofs.Common.{◌+◌, ◌&&◌, leb, length, is_some, sym, ap, ◌∙◌}
use Rattle.history.proofs.Noting.{new_none}
use Rattle.history.proofs.working.is_ready.Goals as goal

pub returns-then-is_none : goal.returns-then-is_none
returns-then-is_none g c =
    let new = new_none (g.S.Storage.standing c.args.storage.now).sections (ap is_some (sym c.next_section.ensures) ∙ c.if-is_none.ensures) in
    ap (λ k. leb (k + 5) (length c.args.buffer.now)) c.greatest_len.ensures ∙ ap (λ b. b && leb (g.V.Item.greatest + 5) (length c.args.buffer.now)) (sym new)
