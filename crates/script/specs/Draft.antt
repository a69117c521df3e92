-- What has been read of a history file so far, and what a line adds to it.
use Rattle.std.specs.Prelude.{ℕ, cond, List, [], ◌∷◌, ◌++◌, map, length, is_some, Some, None, Ok, Err, vec_items, codes, Option, Result, ◌==◌}
use Rattle.std.specs.Option.{unwrap_or}
use Rattle.std.specs.Str.{bytes_eq}
use Rattle.script.specs.Asked.{Turn, turn}
use Rattle.script.specs.Calls.{step_at}
use Rattle.script.specs.Told.{told}
use Rattle.script.specs.Words.{after_word, empty, ended, last_number_at, last_pair_at, then_end, word_at}
use Rattle.script.specs.declared.problems.Problem.{Problem}
use Rattle.script.specs.declared.problems.Problem.TheVariants.{KindMissing, UnknownKind, StorageMissing, UnknownStorage, SettingTwice, SettingAfterStep}
use Rattle.script.specs.declared.settings.Draft.{Draft}
use Rattle.script.specs.declared.steps.Kind.{Kind}
use Rattle.script.specs.declared.steps.Kind.TheVariants.{Mark, Line}
use Rattle.script.specs.declared.steps.Medium.{Medium}
use Rattle.script.specs.declared.steps.Medium.TheVariants.{Slots, Pages}
use Rattle.script.specs.declared.steps.Script.{Script}

-- the settings that have been given, and the steps so far
pub record Drafted : Type 0 where
  pub kind : Option Kind
  pub medium : Option Medium
  pub work : Option ℕ
  pub turns : List Turn

-- the parts put together
abbrev pub drafting : Option Kind → Option Medium → Option ℕ → List Turn → Drafted
drafting k m w turns = record { kind = k; medium = m; work = w; turns = turns }

-- what a draft of the code stands for
abbrev pub drafted : Draft → Drafted
drafted d = drafting d.kind d.medium d.work (map turn (vec_items d.steps))

-- nothing has been read
abbrev pub start : Drafted
start = drafting None None None []

-- the kinds by their words
abbrev pub kind_of : List ℕ → Result Kind Problem
kind_of w =
    cond (bytes_eq w (codes "mark")) (Ok Mark) (cond (bytes_eq w (codes "line")) (Ok Line) (cond (empty w) (Err KindMissing) (Err UnknownKind)))

-- a kind that ends the line
abbrev pub kind_at : List ℕ → Result Kind Problem
kind_at bs = then_end (kind_of (word_at bs)) (ended (after_word bs))

-- storage in slots, from its area and its wish
abbrev pub slots : (ℕ × ℕ) → Medium
slots p = Slots p.0 p.1

-- the storage by its word, and its numbers from what follows
abbrev pub medium_of : List ℕ → List ℕ → Result Medium Problem
medium_of w rest =
    cond (bytes_eq w (codes "slots")) (told slots (last_pair_at rest))
    (cond (bytes_eq w (codes "pages")) (told Pages (last_number_at rest)) (cond (empty w) (Err StorageMissing) (Err UnknownStorage)))

-- a storage that ends the line
abbrev pub medium_at : List ℕ → Result Medium Problem
medium_at bs = medium_of (word_at bs) (after_word bs)

-- a setting stands before every step, and at most once; given is what stands for it so far
abbrev pub may_set : {X : Type 0} → Drafted → Option X → Result (Unit {0}) Problem
may_set d given = cond (length d.turns == 0) (cond (is_some given) (Err SettingTwice) (Ok tt)) (Err SettingAfterStep)

-- an answer, unless the setting may not stand here
abbrev pub where_allowed : {Y : Type 0} → Result (Unit {0}) Problem → Result Y Problem → Result Y Problem
where_allowed (Ok u) r = r
where_allowed (Err p) r = Err p

-- a line that is a setting: what has been given so far, what the line gives, and where it goes
abbrev pub setting_taken : {X : Type 0} → Drafted → Option X → Result X Problem → (Option X → Drafted) → Result Drafted Problem
setting_taken d given read put = told put (where_allowed (may_set d given) (told Some read))

-- a line that is a step adds it at the end
abbrev pub step_taken : Drafted → Result Turn Problem → Result Drafted Problem
step_taken d r = told (λ t. drafting d.kind d.medium d.work (d.turns ++ t ∷ [])) r

-- the settings by their words; any other line is a step
abbrev pub words_taken : Drafted → ℕ → List ℕ → List ℕ → Result Drafted Problem
words_taken d n w rest =
    cond (bytes_eq w (codes "kind")) (setting_taken d d.kind (kind_at rest) (λ k. drafting k d.medium d.work d.turns))
    (cond (bytes_eq w (codes "storage")) (setting_taken d d.medium (medium_at rest) (λ m. drafting d.kind m d.work d.turns))
    (cond (bytes_eq w (codes "work")) (setting_taken d d.work (last_number_at rest) (λ n. drafting d.kind d.medium n d.turns))
    (step_taken d (step_at n w rest))))

-- what a line adds; a line without a word adds nothing
abbrev pub line_taken : Drafted → ℕ → List ℕ → Result Drafted Problem
line_taken d n bs = cond (empty (word_at bs)) (Ok d) (words_taken d n (word_at bs) (after_word bs))

-- a whole script
pub record Whole : Type 0 where
  pub kind : Kind
  pub medium : Medium
  pub work : Option ℕ
  pub turns : List Turn

-- the parts put together
abbrev pub wholly : Kind → Medium → Option ℕ → List Turn → Whole
wholly k m w turns = record { kind = k; medium = m; work = w; turns = turns }

-- what a script of the code stands for
abbrev pub whole : Script → Whole
whole s = wholly s.kind s.medium s.work (map turn (vec_items s.steps))

-- what stands for a setting that is missing
abbrev pub finished : Drafted → Whole
finished d = wholly (unwrap_or d.kind Line) (unwrap_or d.medium (Slots 4194304 64)) d.work d.turns
