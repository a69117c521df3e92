-- What stands behind a closing quote.
use Rattle.std.proofs.Common.{◌≡◌, ℕ, ◌+◌, ◌-◌, List, length, take, drop, ap, ◌∙◌}
use Rattle.std.proofs.lemmas.List.{drop-drop, take_rest}
use Rattle.script.specs.Quotes.{inside}

pub behind_quote : (bs rest : List ℕ) (n : ℕ) → n ≡ inside bs → rest ≡ drop n bs → take (length rest - 1) (drop 1 rest) ≡ drop (inside bs + 1) bs
behind_quote bs rest n count back =
    take_rest rest 1 ∙ ap (drop 1) back ∙ drop-drop 1 n bs ∙ ap (λ k. drop (k + 1) bs) count
