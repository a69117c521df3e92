use Rattle.std.proofs.Common.{◌≡◌, Err, vec_items, arith, rules}
use Rattle.script.proofs.Hexes.{pair_goes, pair_stops, pairs_end}
use Rattle.script.specs.Hex.{hex_of}
use Rattle.script.specs.declared.problems.Problem.TheVariants.{NotHex}
use Rattle.script.proofs.items.from_hex.Goals as goal

pub returns-in_err-byte : goal.returns-in_err-byte
returns-in_err-byte c =
    let chunks = c.as_chunks.ensures in
    let stops : hex_of c.args.word.now ≡ Err NotHex = pair_stops _ c.args.word.now (vec_items c.loop-high.bytes) c.as_chunks.result.0.now c.loop-high.high-index c.hex_byte.result (omega arith) chunks.front chunks.front_len c.hex_byte.ensures c.loop-high.invariant c.in_err-byte.ensures.ok_part in
    search rules

pub loop-high-preserved : goal.loop-high-preserved
loop-high-preserved c =
    let chunks = c.as_chunks.ensures in
    pair_goes _ c.args.word.now (vec_items c.loop-high.bytes) c.as_chunks.result.0.now c.loop-high.high-index c.hex_byte.result (omega arith) chunks.front chunks.front_len c.hex_byte.ensures c.loop-high.invariant (vec_items c.push.new.self) c.in_ok-byte.byte c.in_ok-byte.ensures.ok_part c.in_ok-push.ensures.items

pub returns-else-is_empty : goal.returns-else-is_empty
returns-else-is_empty c =
    let end = pairs_end _ c.args.word.now (vec_items c.loop-high.bytes) c.as_chunks.result.1.now c.loop-high.high-index (omega (arith, c.as_chunks.ensures.front_len)) c.as_chunks.ensures.back c.loop-high.invariant in
    search rules
