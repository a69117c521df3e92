-- The step that a line holds, from its first word and what follows it.
use Rattle.std.specs.Prelude.{ℕ, zero, suc, Bool, cond, not, ◌||◌, List, [], ◌∷◌, length, Some, None, Ok, Err, codes, Option, Result}
use Rattle.std.specs.Str.{bytes_eq}
use Rattle.script.specs.Asked.{Asked, asking, Turn, turning}
use Rattle.script.specs.Told.{told}
use Rattle.script.specs.Verbs.{verb_named}
use Rattle.script.specs.Words.{after_word, empty, item_at, last_number_at, number_at, pair_at, word_at}
use Rattle.script.specs.declared.problems.Problem.{Problem}
use Rattle.script.specs.declared.problems.Problem.TheVariants.{WordTooMany}
use Rattle.script.specs.declared.steps.Verb.{Verb}
use Rattle.script.specs.declared.steps.Verb.TheVariants.{Open, InitAtMost, Close, Lose, Append, Sync, Get, Size, SectionsFrom, Prune, Replay, Next, Finish}

-- what a step asks for, and what it leaves of the line
abbrev pub Read : Type 0
Read = Result (Asked × List ℕ) Problem

-- a step with one number
abbrev pub with_one : Verb → List ℕ → Result ℕ Problem → Read
with_one v rest r = told (λ n. (asking v (n ∷ []) [], rest)) r

-- a step with two numbers
abbrev pub with_two : Verb → List ℕ → Result (ℕ × ℕ) Problem → Read
with_two v rest r = told (λ p. (asking v (p.0 ∷ p.1 ∷ []) [], rest)) r

-- an append, of a section and an item
abbrev pub with_item : Result ℕ Problem → Result (List ℕ × List ℕ) Problem → Read
with_item (Err p) item = Err p
with_item (Ok n) (Err p) = Err p
with_item (Ok n) (Ok (item, rest)) = Ok (asking Append (n ∷ []) item, rest)

-- a section, and the item after it
abbrev pub append_at : List ℕ → Read
append_at bs = with_item (number_at bs) (item_at (after_word bs))

-- a section comes next, and not the end or the work buffer
abbrev pub more_sections : List ℕ → Bool
more_sections bs = not (empty (word_at bs) || bytes_eq (word_at bs) (codes "with"))

-- one section before the others
abbrev pub one_more : Result ℕ Problem → Result (List ℕ × List ℕ) Problem → Result (List ℕ × List ℕ) Problem
one_more (Err p) others = Err p
one_more (Ok n) (Err p) = Err p
one_more (Ok n) (Ok (ns, rest)) = Ok (n ∷ ns, rest)

-- the sections of a line that has at most so many
abbrev pub sections_by : ℕ → List ℕ → Result (List ℕ × List ℕ) Problem
sections_by zero bs = Ok ([], bs)
sections_by (suc k) bs = cond (more_sections bs) (one_more (number_at bs) (sections_by k (after_word bs))) (Ok ([], bs))

-- a line has no more words than bytes
abbrev pub sections_at : List ℕ → Result (List ℕ × List ℕ) Problem
sections_at bs = sections_by (length bs) bs

-- a sync of these sections
abbrev pub with_sections : Result (List ℕ × List ℕ) Problem → Read
with_sections r = told (λ p. (asking Sync p.0 [], p.1)) r

-- all the sections that follow
abbrev pub sync_at : List ℕ → Read
sync_at bs = with_sections (sections_at bs)

-- bs is what follows the verb's word
abbrev pub call_at : Verb → List ℕ → Read
call_at Open bs = Ok (asking Open [] [], bs)
call_at InitAtMost bs = with_two InitAtMost (after_word (after_word bs)) (pair_at bs)
call_at Close bs = Ok (asking Close [] [], bs)
call_at Lose bs = with_two Lose (after_word (after_word bs)) (pair_at bs)
call_at Append bs = append_at bs
call_at Sync bs = sync_at bs
call_at Get bs = with_two Get (after_word (after_word bs)) (pair_at bs)
call_at Size bs = with_one Size (after_word bs) (number_at bs)
call_at SectionsFrom bs = with_one SectionsFrom (after_word bs) (number_at bs)
call_at Prune bs = with_one Prune (after_word bs) (number_at bs)
call_at Replay bs = with_two Replay (after_word (after_word bs)) (pair_at bs)
call_at Next bs = Ok (asking Next [] [], bs)
call_at Finish bs = Ok (asking Finish [] [], bs)

-- a word that names no verb is no step
abbrev pub verb_then : Result Verb Problem → List ℕ → Read
verb_then (Ok v) bs = call_at v bs
verb_then (Err p) bs = Err p

-- the work buffer that ends a step's line, where there is one
abbrev pub work_at : List ℕ → Result (Option ℕ) Problem
work_at bs =
    cond (empty (word_at bs)) (Ok None) (cond (bytes_eq (word_at bs) (codes "with")) (told Some (last_number_at (after_word bs))) (Err WordTooMany))

-- a step with its work buffer and its line
abbrev pub with_work : ℕ → Asked → Result (Option ℕ) Problem → Result Turn Problem
with_work line a r = told (λ work. turning a work line) r

-- the work buffer stands after what the step asks for
abbrev pub step_of : ℕ → Read → Result Turn Problem
step_of line (Ok (a, rest)) = with_work line a (work_at rest)
step_of line (Err p) = Err p

-- the step of a line whose first word is w
abbrev pub step_at : ℕ → List ℕ → List ℕ → Result Turn Problem
step_at line w bs = step_of line (verb_then (verb_named w) bs)
