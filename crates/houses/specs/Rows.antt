-- What the last line of a read-out counts, and when two read-outs are equal.
use Rattle.std.specs.Prelude.{ℕ, ◌+◌, Bool, cond, ◌&&◌, List, [], ◌∷◌, Some, None, Option, ◌==◌}
use Rattle.std.specs.Cmp.Lexicographic.{pointwise}
use Rattle.journal.specs.declared.row.Row.{Row}

-- 1 for a row that begins a section, behind a row of the last one
abbrev pub begun : Option ℕ → ℕ → ℕ
begun (Some last) n = cond (last == n) 0 1
begun None n = 1

-- how many rows begin a section
abbrev pub sections_behind : {V : Type 0} → Option ℕ → List (Row V) → ℕ
sections_behind last [] = 0
sections_behind last (r ∷ rows) = begun last r.handed.section + sections_behind (Some r.handed.section) rows

-- items of one place that the kind calls equal
abbrev pub same_row : {V : Type 0} → (V → V → Bool) → Row V → Row V → Bool
same_row equal r s =
    (r.handed.section == s.handed.section && (r.handed.offset == s.handed.offset && r.handed.size == s.handed.size)) && equal r.item s.item

-- as many rows, and the same ones in their order
abbrev pub same_rows : {V : Type 0} → (V → V → Bool) → List (Row V) → List (Row V) → Bool
same_rows equal rows others = pointwise (same_row equal) rows others
