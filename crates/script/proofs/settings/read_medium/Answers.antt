use Rattle.std.proofs.Common.{◌≡◌, codes, arith, ap, ◌∙◌, rules}
use Rattle.std.proofs.lemmas.Slice.Eq.{text_from_reads}
use Rattle.script.proofs.Pairs.{pair_last}
use Rattle.script.specs.Draft.{slots}
use Rattle.script.specs.Told.{told}
use Rattle.script.specs.Words.{last_pair_at, left}
use Rattle.script.proofs.settings.read_medium.Goals as goal

pub returns-in-slots : goal.returns-in-slots
returns-in-slots c =
    let word : c.word.result.now ≡ codes "slots" = text_from_reads _ _ (omega arith) (search rules) in
    let last : c.last.result ≡ last_pair_at (left c.word.new.self) =
    let e = c.last.ensures in e.3 ∙ pair_last _ _ _ _ _ (ap left e.2.shows) (ap left e.2.leaves) e.2.met.0 e.2.met.1 in
    let made : c.map.result ≡ told slots c.last.result = search rules in
    rw (← c.word.ensures.value, word, ← c.word.ensures.after, ← last) made
