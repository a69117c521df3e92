-- Sections counted row by row.
use Rattle.std.proofs.Common.{◌≡◌, ℕ, ◌+◌, ◌<◌, List, length, get_or, drop, Some, Option, sym, ap, ◌∙◌}
use Rattle.std.proofs.lemmas.List.{at_drop_more}
use Rattle.journal.specs.declared.row.Row.{Row}
use Rattle.houses.specs.Rows.{begun, sections_behind}

module _ {V : Type 0} where
  pub count_row : (rows : List (Row V)) (i : ℕ) (r : Row V) (last : Option ℕ) → i < length rows → r ≡ get_or rows i r → sections_behind last (drop i rows) ≡ begun last r.handed.section + sections_behind (Some r.handed.section) (drop (i + 1) rows)
  count_row rows i r last lt e = at_drop_more (sections_behind last) rows i r lt ∙ ap (λ q. begun last q.handed.section + sections_behind (Some q.handed.section) (drop (i + 1) rows)) (sym e)
