-- A word that is no verb's.
use Rattle.std.proofs.Common.{◌≡◌, ℕ, false, List, [], ◌∷◌, None, Err, IsUtf8, refl, ap, ◌∙◌, ⊎_elim}
use Rattle.std.specs.Prelude.{find}
use Rattle.std.specs.Option.{ok_or}
use Rattle.std.specs.Str.{bytes_eq}
use lib.Utf8.{encode}
use Rattle.std.proofs.lemmas.Slice.Eq.{bytes_eq-Decides}
use Rattle.std.proofs.lemmas.Bool.{cond-false, cases_Bool}
use Rattle.script.specs.Verbs.{verb_named, verb_word, verbs}
use Rattle.script.specs.declared.problems.Problem.TheVariants.{UnknownWord}
use Rattle.script.specs.declared.steps.Verb.{Verb}
use Rattle.script.specs.declared.steps.Verb.TheVariants.{Open, InitAtMost, Close, Lose, Append, Sync, Get, Size, SectionsFrom, Prune, Replay, Next, Finish}

pub unlike : (w x : List ℕ) → (w ≡ x → ⊥) → bytes_eq w x ≡ false
unlike w x other = ⊎_elim (λ yes. absurd (other ((bytes_eq-Decides w x).0 yes))) (λ no. no) (cases_Bool (bytes_eq w x))

none_among : (vs : List Verb) (w : List ℕ) → ((v : Verb) → w ≡ verb_word v → ⊥) → find (λ v. bytes_eq w (verb_word v)) vs ≡ None
none_among [] w other = refl
none_among (v ∷ vs) w other = cond-false _ _ _ (unlike w (verb_word v) (other v)) ∙ none_among vs w other

pub no_verb : (w : List ℕ) → ((v : Verb) → w ≡ verb_word v → ⊥) → verb_named w ≡ Err UnknownWord
no_verb w other = ap (λ o. ok_or o UnknownWord) (none_among verbs w other)

-- every verb's word is ASCII
pub word_is_text : (v : Verb) → IsUtf8 (verb_word v)
unfolding encode
word_is_text Open = (verb_word Open, (refl, refl))
word_is_text InitAtMost = (verb_word InitAtMost, (refl, refl))
word_is_text Close = (verb_word Close, (refl, refl))
word_is_text Lose = (verb_word Lose, (refl, refl))
word_is_text Append = (verb_word Append, (refl, refl))
word_is_text Sync = (verb_word Sync, (refl, refl))
word_is_text Get = (verb_word Get, (refl, refl))
word_is_text Size = (verb_word Size, (refl, refl))
word_is_text SectionsFrom = (verb_word SectionsFrom, (refl, refl))
word_is_text Prune = (verb_word Prune, (refl, refl))
word_is_text Replay = (verb_word Replay, (refl, refl))
word_is_text Next = (verb_word Next, (refl, refl))
word_is_text Finish = (verb_word Finish, (refl, refl))
