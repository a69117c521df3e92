-- What one turn of `from_hex` keeps.
use Rattle.std.proofs.Common.{◌≡◌, ℕ, zero, suc, ◌+◌, ◌*◌, ◌/◌, ◌<◌, ◌≤◌, List, [], ◌∷◌, ◌++◌, length, get_or, drop, Option, Some, None, Ok, Err, Result, cond, ◌==◌, sym, refl, ap, ◌∙◌, append_assoc, append-nil, length-drop, arith}
use Rattle.std.specs.Simd.{first_chunks}
use Rattle.script.specs.Hex.{before, hex_byte, hex_of}
use Rattle.script.specs.declared.problems.Problem.{Problem}
use Rattle.script.specs.declared.problems.Problem.TheVariants.{NotHex, OddDigits}

-- the answer for the whole, where xs has been read and the rest is still to come
abbrev pub onto : List ℕ → Result (List ℕ) Problem → Result (List ℕ) Problem
onto xs (Ok ys) = Ok (xs ++ ys)
onto xs (Err p) = Err p

onto_step : (xs : List ℕ) (b : ℕ) (r : Result (List ℕ) Problem) → onto (xs ++ b ∷ []) r ≡ onto xs (before (Some b) r)
onto_step xs b (Ok bs) = ap Ok (append_assoc xs (b ∷ []) bs)
onto_step xs b (Err p) = refl

-- the pair at place i, and the bytes behind it
pair_at : (n i : ℕ) (word p : List ℕ) → i < n → n * 2 ≤ length word → drop (i * 2) word ≡ get_or (get_or (first_chunks 2 n word) i p) 0 0 ∷ get_or (get_or (first_chunks 2 n word) i p) 1 0 ∷ drop ((i + 1) * 2) word
pair_at zero i word p below long = absurd (omega arith)
pair_at (suc n) i [] p below long = absurd (omega arith)
pair_at (suc n) i (a ∷ []) p below long = absurd (omega arith)
pair_at (suc n) zero (a ∷ b ∷ word) p below long = refl
pair_at (suc n) (suc i) (a ∷ b ∷ word) p below long =
    let here : suc i * 2 ≡ suc (suc (i * 2)) = omega arith in
    let next : (suc i + 1) * 2 ≡ suc (suc ((i + 1) * 2)) = omega arith in
    rw (here, next) (pair_at n i word p (omega arith) (omega arith))

-- the pair at place i decides, where the bytes before it gave xs
module _ (whole : Result (List ℕ) Problem) (word xs : List ℕ) (pairs : List (List ℕ)) (i : ℕ) (o : Option ℕ) (below : i < length pairs) (are : pairs ≡ first_chunks 2 (length word / 2) word) (long : length pairs ≡ length word / 2) (read : o ≡ hex_byte (get_or (get_or pairs i []) 0 0) (get_or (get_or pairs i []) 1 0)) (inv : onto xs (hex_of (drop (i * 2) word)) ≡ whole) where
  turn : onto xs (before o (hex_of (drop ((i + 1) * 2) word))) ≡ whole
  turn =
      rw (read, are) (ap (λ l. onto xs (hex_of l)) (sym (pair_at (length word / 2) i word [] (omega arith) (omega arith))) ∙ inv)

  pub pair_goes : (ys : List ℕ) (b : ℕ) → o ≡ Some b → ys ≡ xs ++ b ∷ [] → onto ys (hex_of (drop ((i + 1) * 2) word)) ≡ whole
  pair_goes ys b some pushed =
      rw pushed (onto_step xs b _ ∙ ap (λ p. onto xs (before p (hex_of (drop ((i + 1) * 2) word)))) (sym some) ∙ turn)

  pub pair_stops : o ≡ None → whole ≡ Err NotHex
  pair_stops none = sym turn ∙ ap (λ p. onto xs (before p (hex_of (drop ((i + 1) * 2) word)))) none

-- what stands behind the pairs is one byte at most
pub pairs_end : (whole : Result (List ℕ) Problem) (word xs odd : List ℕ) (i : ℕ) → i ≡ length word / 2 → odd ≡ drop (length word / 2 * 2) word → onto xs (hex_of (drop (i * 2) word)) ≡ whole → whole ≡ cond (length odd == 0) (Ok xs) (Err OddDigits)
pairs_end whole word xs [] i all is inv = sym inv ∙ rw (all, ← is) (ap Ok (append-nil xs))
pairs_end whole word xs (a ∷ []) i all is inv = sym inv ∙ rw (all, ← is) refl
pairs_end whole word xs (a ∷ b ∷ more) i all is inv = absurd (omega (arith, length-drop (length word / 2 * 2) word, ap length is))
