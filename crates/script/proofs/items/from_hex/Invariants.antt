use Rattle.std.proofs.Common.{◌≡◌, ◌*◌, drop, vec_items}
use Rattle.script.specs.Hex.{hex_of}
use Rattle.script.proofs.Hexes.{onto}
use Rattle.script.proofs.items.from_hex.Given as goal

abbrev pub invariant-loop-high : goal.invariant-loop-high
invariant-loop-high l = onto (vec_items l.bytes) (hex_of (drop (l.high-index * 2) l.word)) ≡ hex_of l.word
