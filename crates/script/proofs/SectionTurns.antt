-- What one turn of the loop over a step's sections keeps.
use Rattle.std.proofs.Common.{◌≡◌, ℕ, zero, suc, ◌+◌, ◌<◌, ◌≤◌, true, false, List, [], ◌∷◌, ◌++◌, length, Ok, Err, codes, Result, sym, refl, ap, ◌∙◌, append_assoc, append-nil, arith, length-append, length-drop, take-append-drop}
use Rattle.std.specs.List.{prefix_len}
use Rattle.std.specs.Str.{bytes_eq}
use Rattle.std.proofs.lemmas.Bool.{cond-true, cond-false, eqb-false, not-true, or_parts}
use Rattle.script.specs.Bytes.{is_blank, of_word}
use Rattle.script.specs.Calls.{more_sections, one_more, sections_by}
use Rattle.script.specs.Words.{after_word, empty, number_at, skip, word_at}
use Rattle.script.specs.declared.problems.Problem.{Problem}

-- the answer for the whole line, where xs has been read and the rest is still to come
abbrev pub adding : List ℕ → Result (List ℕ × List ℕ) Problem → Result (List ℕ × List ℕ) Problem
adding xs (Ok (ns, rest)) = Ok (xs ++ ns, rest)
adding xs (Err p) = Err p

adding_one : (xs : List ℕ) (n : ℕ) (r : Result (List ℕ × List ℕ) Problem) → adding (xs ++ n ∷ []) r ≡ adding xs (one_more (Ok n) r)
adding_one xs n (Ok (ns, rest)) = ap (λ l. Ok (l, rest)) (append_assoc xs (n ∷ []) ns)
adding_one xs n (Err p) = refl

word_shortens : (bs : List ℕ) → length (word_at bs) + length (after_word bs) ≤ length bs
word_shortens bs =
    omega (arith, simp length-append at (ap length (take-append-drop (prefix_len of_word (skip bs)) (skip bs))), length-drop (prefix_len is_blank bs) bs)

-- where a section comes next, the line is shorter after it
pub section_shortens : (bs : List ℕ) → true ≡ more_sections bs → length (after_word bs) < length bs
section_shortens bs more =
    let some = or_parts (empty (word_at bs)) (bytes_eq (word_at bs) (codes "with")) (not-true _ (sym more)) in
    let long : length (word_at bs) ≡ 0 → ⊥ = eqb-false (length (word_at bs)) 0 some.0 in
    omega (arith, word_shortens bs, long)

by_more : (k : ℕ) (bs : List ℕ) → true ≡ more_sections bs → sections_by (suc k) bs ≡ one_more (number_at bs) (sections_by k (after_word bs))
by_more k bs more = cond-true (more_sections bs) _ _ (sym more)

by_none : (k : ℕ) (bs : List ℕ) → false ≡ more_sections bs → sections_by k bs ≡ Ok ([], bs)
by_none zero bs none = refl
by_none (suc k) bs none = cond-false (more_sections bs) _ _ (sym none)

pub section_turn : (whole : Result (List ℕ × List ℕ) Problem) (bs after xs ys : List ℕ) (k m n : ℕ) → true ≡ more_sections bs → k ≡ suc m → Ok n ≡ number_at bs → after ≡ after_word bs → ys ≡ xs ++ n ∷ [] → adding xs (sections_by k bs) ≡ whole → adding ys (sections_by m after) ≡ whole
section_turn whole bs after xs ys k m n more fuel read rest pushed inv =
    ap (λ l. adding l (sections_by m after)) pushed ∙ ap (λ l. adding (xs ++ n ∷ []) (sections_by m l)) rest ∙ adding_one xs n (sections_by m (after_word bs)) ∙ ap (λ r. adding xs (one_more r (sections_by m (after_word bs)))) read ∙ ap (adding xs) (sym (by_more m bs more)) ∙ ap (λ f. adding xs (sections_by f bs)) (sym fuel) ∙ inv

pub section_fails : (whole : Result (List ℕ × List ℕ) Problem) (bs xs : List ℕ) (k m : ℕ) (p : Problem) → true ≡ more_sections bs → k ≡ suc m → Err p ≡ number_at bs → adding xs (sections_by k bs) ≡ whole → whole ≡ Err p
section_fails whole bs xs k m p more fuel read inv =
    sym inv ∙ ap (λ f. adding xs (sections_by f bs)) fuel ∙ ap (adding xs) (by_more m bs more) ∙ ap (λ r. adding xs (one_more r (sections_by m (after_word bs)))) (sym read)

pub sections_done : (whole : Result (List ℕ × List ℕ) Problem) (bs xs : List ℕ) (k : ℕ) → false ≡ more_sections bs → adding xs (sections_by k bs) ≡ whole → whole ≡ Ok (xs, bs)
sections_done whole bs xs k none inv = sym inv ∙ ap (adding xs) (by_none k bs none) ∙ ap (λ l. Ok (l, bs)) (append-nil xs)
