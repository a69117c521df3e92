use Rattle.std.proofs.Common.{◌≡◌, ◌+◌, false, [], ◌++◌, take, get_or, sym, ap, ◌∙◌, arith, rules}
use Rattle.std.proofs.Output.{has_written_append, has_written_of_eq}
use Rattle.std.specs.Fmt.{HasWritten}
use Rattle.std.specs.List.{flat_map}
use Rattle.program.specs.Digits.{pair_text}
use Rattle.std.proofs.lemmas.Fmt.{hex_byte}
use Rattle.std.proofs.lemmas.List.{flat_map_more, take_more}
use Rattle.program.proofs.digits.write_pairs.Goals as goal

pub loop-byte-preserved : goal.loop-byte-preserved
loop-byte-preserved g c p =
    let bs = c.args.bytes.now in
    let i = c.loop-byte.byte-index in
    let b = get_or bs i 0 in
    let pair : HasWritten g.W.Write.write_str_gives c.loop-byte.f (pair_text b) c.write.new.self = has_written_of_eq _ _ _ _ _ (hex_byte false b (omega (arith, c.type_inv.bytes i))) (search rules) in
    let more : flat_map pair_text (take i bs) ++ pair_text b ≡ flat_map pair_text (take (i + 1) bs) = flat_map_more pair_text [] (take i bs) b ∙ ap (flat_map pair_text) (sym (take_more bs i 0 (omega arith))) in
    has_written_of_eq _ _ _ _ _ more (has_written_append _ _ _ _ _ _ (c.loop-byte.invariant p) pair)
