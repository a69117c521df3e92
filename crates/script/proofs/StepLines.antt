-- What a setting's line and a step's line add.
use Rattle.std.proofs.Common.{◌≡◌, ℕ, false, List, [], ◌∷◌, ◌++◌, map, Some, Ok, Err, Option, Result, sym, ap, ◌∙◌}
use Rattle.std.proofs.lemmas.List.{map_push}
use Rattle.std.proofs.lemmas.Bool.{cond-false}
use Rattle.script.specs.Words.{after_word, empty, word_at}
use Rattle.script.specs.Asked.{Turn, turn}
use Rattle.script.specs.Draft.{Drafted, drafting, line_taken, may_set, setting_taken, step_taken, where_allowed, words_taken}
use Rattle.script.specs.Told.{Tells, told}
use Rattle.script.specs.declared.problems.Failure.{Failure}
use Rattle.script.specs.declared.problems.Failure.TheVariants as failure
use Rattle.script.specs.declared.problems.Problem.{Problem}
use Rattle.script.specs.declared.steps.Step.{Step}

pub setting_line : {X : Type 0} (d : Drafted) (given : Option X) (put : Option X → Drafted) (read at : Result X Problem) (r s : Result (Option X) Problem) → r ≡ where_allowed (may_set d given) (told Some read) → read ≡ at → r ≡ s → setting_taken d given at put ≡ told put s
setting_line d given put read at r s is same was =
    ap (λ q. told put (where_allowed (may_set d given) (told Some q))) (sym same) ∙ ap (told put) (sym is ∙ was)

pub step_line : (d : Drafted) (s : Step) (r : Result Turn Problem) (old new : List Step) → r ≡ Ok (turn s) → d.turns ≡ map turn old → new ≡ old ++ s ∷ [] → step_taken d r ≡ Ok (drafting d.kind d.medium d.work (map turn new))
step_line d s r old new read was pushed =
    ap (step_taken d) read ∙ ap (λ l. Ok (drafting d.kind d.medium d.work l)) (ap (λ l. l ++ turn s ∷ []) was ∙ sym (map_push turn old s) ∙ ap (map turn) (sym pushed))

pub step_fails : {X : Type 0} (f : X → Drafted) (d : Drafted) (e : Failure Problem) (s : Result Turn Problem) → Tells turn (Err e) s → Tells f (Err e) (step_taken d s)
step_fails f d (failure.Mistake p) s read = ap (step_taken d) read
step_fails f d failure.Memory s read = tt

-- shown holds the line, and w and rest were cut off it
pub line_words : (d : Drafted) (n : ℕ) (bs shown w rest : List ℕ) → shown ≡ bs → w ≡ word_at shown → rest ≡ after_word shown → false ≡ empty w → line_taken d n bs ≡ words_taken d n w rest
line_words d n bs shown w rest whole word after some =
    ap (λ l. line_taken d n l) (sym whole) ∙ cond-false (empty (word_at shown)) _ _ (sym (ap empty word) ∙ sym some) ∙ ap (λ l. words_taken d n l (after_word shown)) (sym word) ∙ ap (words_taken d n w) (sym after)
