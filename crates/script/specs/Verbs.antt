-- The word of each verb.
use Rattle.std.specs.Prelude.{ℕ, List, [], ◌∷◌, codes, find, Result}
use Rattle.std.specs.Option.{ok_or}
use Rattle.std.specs.Str.{bytes_eq}
use Rattle.script.specs.declared.problems.Problem.{Problem}
use Rattle.script.specs.declared.problems.Problem.TheVariants.{UnknownWord}
use Rattle.script.specs.declared.steps.Verb.{Verb}
use Rattle.script.specs.declared.steps.Verb.TheVariants.{Open, InitAtMost, Close, Lose, Append, Sync, Get, Size, SectionsFrom, Prune, Replay, Next, Finish}

-- the first word of a step in the file
abbrev pub verb_word : Verb → List ℕ
verb_word Open = codes "open"
verb_word InitAtMost = codes "init_at_most"
verb_word Close = codes "close"
verb_word Lose = codes "lose"
verb_word Append = codes "append"
verb_word Sync = codes "sync"
verb_word Get = codes "get"
verb_word Size = codes "size"
verb_word SectionsFrom = codes "sections_from"
verb_word Prune = codes "prune"
verb_word Replay = codes "replay"
verb_word Next = codes "next"
verb_word Finish = codes "finish"

-- all of them
abbrev pub verbs : List Verb
verbs = Open ∷ InitAtMost ∷ Close ∷ Lose ∷ Append ∷ Sync ∷ Get ∷ Size ∷ SectionsFrom ∷ Prune ∷ Replay ∷ Next ∷ Finish ∷ []

-- the verb that a word names
abbrev pub verb_named : List ℕ → Result Verb Problem
verb_named w = ok_or (find (λ v. bytes_eq w (verb_word v)) verbs) UnknownWord
