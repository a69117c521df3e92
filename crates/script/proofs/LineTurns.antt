-- Lines cut off one by one, and how many there are.
use Rattle.std.proofs.Common.{◌≡◌, ℕ, suc, ◌+◌, ◌<◌, ◌≤◌, true, false, List, [], ◌∷◌, map, length, take, drop, ◌==◌, sym, refl, ap, ◌∙◌, ⊎_elim, one-add, arith}
use Rattle.std.specs.List.{prefix_len}
use Rattle.std.proofs.lemmas.List.{length-drop, length-map}
use Rattle.std.proofs.lemmas.Bool.{cases_Bool, cond-true, cond-false, eqb-false}
use Rattle.script.specs.Bytes.{of_line}
use Rattle.script.specs.Lines.{after_line, in_front, line_at, lines, pieces, without_return}

abbrev front : List ℕ → List ℕ
front bs = take (prefix_len of_line bs) bs

leading_in : (b : ℕ) (bs : List ℕ) → of_line b ≡ true → prefix_len of_line (b ∷ bs) ≡ suc (prefix_len of_line bs)
leading_in b bs e = cond-true (of_line b) _ _ e ∙ one-add (prefix_len of_line bs)

leading_end : (b : ℕ) (bs : List ℕ) → of_line b ≡ false → prefix_len of_line (b ∷ bs) ≡ 0
leading_end b bs e = cond-false (of_line b) _ _ e

after_in : (b : ℕ) (bs : List ℕ) → of_line b ≡ true → after_line (b ∷ bs) ≡ after_line bs
after_in b bs e =
    let n = prefix_len of_line bs in
    let more : suc n + 1 ≡ suc (n + 1) = omega arith in
    ap (λ k. drop (k + 1) (b ∷ bs)) (leading_in b bs e) ∙ ap (λ k. drop k (b ∷ bs)) more

inside : (b : ℕ) (bs : List ℕ) → of_line b ≡ true → in_front b (pieces bs) ≡ (b ∷ front bs) ∷ pieces (after_line bs) → pieces (b ∷ bs) ≡ front (b ∷ bs) ∷ pieces (after_line (b ∷ bs))
inside b bs e split =
    cond-true (of_line b) _ _ e ∙ split ∙ ap (λ k. take k (b ∷ bs) ∷ pieces (after_line bs)) (sym (leading_in b bs e)) ∙ ap (λ l. front (b ∷ bs) ∷ pieces l) (sym (after_in b bs e))

ends : (b : ℕ) (bs : List ℕ) → of_line b ≡ false → pieces (b ∷ bs) ≡ front (b ∷ bs) ∷ pieces (after_line (b ∷ bs))
ends b bs e = cond-false (of_line b) _ _ e ∙ ap (λ k. take k (b ∷ bs) ∷ pieces (drop (k + 1) (b ∷ bs))) (sym (leading_end b bs e))

-- the first of the pieces, and what is left
pieces_split : (b : ℕ) (bs : List ℕ) → pieces (b ∷ bs) ≡ front (b ∷ bs) ∷ pieces (after_line (b ∷ bs))
pieces_split b [] = ⊎_elim (λ e. inside b [] e refl) (λ e. ends b [] e) (cases_Bool (of_line b))
pieces_split b (x ∷ xs) = ⊎_elim (λ e. inside b (x ∷ xs) e (ap (in_front b) (pieces_split x xs))) (λ e. ends b (x ∷ xs) e) (cases_Bool (of_line b))

pub lines_split : (bs line rest : List ℕ) → false ≡ (length bs == 0) → line ≡ line_at bs → rest ≡ after_line bs → lines bs ≡ line ∷ lines rest
lines_split [] line rest some first left = absurd (omega (arith, eqb-false 0 0 (sym some) refl))
lines_split (b ∷ bs) line rest some first left = rw (first, left) (ap (map without_return) (pieces_split b bs))

pub line_shortens : (bs : List ℕ) → 0 < length bs → length (after_line bs) < length bs
line_shortens bs some = omega (arith, length-drop (prefix_len of_line bs + 1) bs)

length_front : (b : ℕ) (ls : List (List ℕ)) → length (in_front b ls) ≤ suc (length ls)
length_front b [] = omega arith
length_front b (l ∷ ls) = omega arith

-- a line takes a byte at least
few_pieces : (bs : List ℕ) → length (pieces bs) ≤ length bs
few_pieces [] = omega arith
few_pieces (b ∷ bs) = ⊎_elim (λ e. rw (cond-true (of_line b) (in_front b (pieces bs)) ([] ∷ pieces bs) e) (omega (arith, length_front b (pieces bs), few_pieces bs))) (λ e. rw (cond-false (of_line b) (in_front b (pieces bs)) ([] ∷ pieces bs) e) (omega (arith, few_pieces bs))) (cases_Bool (of_line b))

pub few_lines : (bs : List ℕ) → length (lines bs) ≤ length bs
few_lines bs = rw (length-map (pieces bs) without_return) (few_pieces bs)
