-- What a step asks for: its verb, its numbers and its item, with no memory behind them.
use Rattle.std.specs.Prelude.{ℕ, List, [], ◌∷◌, vec_items, Option}
use Rattle.script.specs.declared.steps.Call.{Call}
use Rattle.script.specs.declared.steps.Call.TheVariants.{Open, InitAtMost, Close, Lose, Append, Sync, Get, Size, SectionsFrom, Prune, Replay, Next, Finish}
use Rattle.script.specs.declared.steps.Step.{Step}
use Rattle.script.specs.declared.steps.Verb.{Verb}
use Rattle.script.specs.declared.steps.Verb.TheVariants as verb

-- the verb, the numbers in the order of the file, and the item's bytes
pub record Asked : Type 0 where
  pub verb : Verb
  pub numbers : List ℕ
  pub item : List ℕ

-- the parts put together
abbrev pub asking : Verb → List ℕ → List ℕ → Asked
asking v numbers item = record { verb = v; numbers = numbers; item = item }

-- the numbers stand in the order of the file
abbrev pub asked : Call → Asked
asked Open = asking verb.Open [] []
asked (InitAtMost section end) = asking verb.InitAtMost (section ∷ end ∷ []) []
asked Close = asking verb.Close [] []
asked (Lose section length) = asking verb.Lose (section ∷ length ∷ []) []
asked (Append section item) = asking verb.Append (section ∷ []) (vec_items item)
asked (Sync sections) = asking verb.Sync (vec_items sections) []
asked (Get section offset) = asking verb.Get (section ∷ offset ∷ []) []
asked (Size section) = asking verb.Size (section ∷ []) []
asked (SectionsFrom section) = asking verb.SectionsFrom (section ∷ []) []
asked (Prune min) = asking verb.Prune (min ∷ []) []
asked (Replay section offset) = asking verb.Replay (section ∷ offset ∷ []) []
asked Next = asking verb.Next [] []
asked Finish = asking verb.Finish [] []

-- the verb of a step
abbrev pub verb_in : Call → Verb
verb_in c = (asked c).verb

-- a step: what it asks for, the work buffer that it alone is lent, and its line
pub record Turn : Type 0 where
  pub asked : Asked
  pub work : Option ℕ
  pub line : ℕ

-- the parts put together
abbrev pub turning : Asked → Option ℕ → ℕ → Turn
turning asked work line = record { asked = asked; work = work; line = line }

-- what a step of the code stands for
abbrev pub turn : Step → Turn
turn s = turning (asked s.call) s.work s.line
