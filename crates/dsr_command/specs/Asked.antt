-- What each list of words asks for; the words begin after the program's own name.
use Rattle.std.specs.Prelude.{◌&&◌, ◌||◌, Bool, false, true, List, [], ◌∷◌, ℕ, None, Some, codes, drop, if◌then◌else◌, is_some, not}
use Rattle.std.specs.Prelude.{nat_eq}
use Rattle.std.specs.List.{list_any, starts_with}
use Rattle.std.specs.Option.{option_map_or}
use Rattle.std.specs.Str.{bytes_eq, chars}
use Rattle.dsr_command.specs.Values.{actor_of, slot_of}
use Rattle.dsr_command.specs.declared.narrowing.Narrowing.{Narrowing}
use Rattle.dsr_command.specs.declared.Task.{Task}
use Rattle.dsr_command.specs.declared.Task.TheVariants.{Apply, Check, Explain, Play, Serve}

-- what words can ask for: a task, the program's version, the help, or nothing that the program knows
pub data Asked : Type 0 where
  task : Task → Asked
  version : Asked
  help : Asked
  unknown : Asked

-- the word is `--help`, or a hyphen followed by characters that begin with `h`
abbrev pub is_help : List ℕ → Bool
is_help word = bytes_eq word (codes "--help")
    || (starts_with nat_eq word (codes "-") && starts_with nat_eq (chars (drop 1 word)) (codes "h"))

-- whether one of the words is `--`
abbrev pub has_two_hyphens : List (List ℕ) → Bool
has_two_hyphens words = list_any (λ word. bytes_eq word (codes "--")) words

-- what a word that does not name a task asks for: the help, or nothing known
abbrev pub asked_by_other : List ℕ → Asked
asked_by_other word = if is_help word then help else unknown

-- what is asked for by a task's name and the words after it; the task itself takes no words
abbrev pub asked_after : Task → List (List ℕ) → Asked
asked_after named [] = task named
asked_after named (word ∷ rest) = asked_by_other word

-- what is asked for by `play` and the words after it, if earlier words gave these flags; each of the two may be given at most once
abbrev pub asked_after_play : Bool → Bool → List (List ℕ) → Asked
asked_after_play strict transcript [] = task (Play strict transcript)
asked_after_play strict transcript (word ∷ rest) =
    if bytes_eq word (codes "--strict") && not strict then asked_after_play true transcript rest
    else (if bytes_eq word (codes "--transcript") && not transcript then asked_after_play strict true rest
    else asked_by_other word)

-- the same for `serve`, which has only the second flag
abbrev pub asked_after_serve : Bool → List (List ℕ) → Asked
asked_after_serve transcript [] = task (Serve transcript)
asked_after_serve transcript (word ∷ rest) =
    if bytes_eq word (codes "--transcript") && not transcript then asked_after_serve true rest else asked_by_other word

-- all of a play is to be explained, in sentences
abbrev pub all_of_it : Narrowing
all_of_it = record { slot = None; actor = None; refused = false; as_data = false }

-- what the next word after `explain` must be: an option, or the value of one
pub data Next : Type 0 where
  an_option : Next
  a_slot : Next
  an_actor : Next

-- what is asked for by words after `explain`, if those before them have narrowed the explanation to `so_far`; each option may be given at most
-- once, and the value of an option is the word after it
abbrev pub asked_after_explain : Next → Narrowing → List (List ℕ) → Asked
asked_after_explain an_option so_far [] = task (Explain so_far)
asked_after_explain an_option so_far (word ∷ rest) =
    if bytes_eq word (codes "--slot") && not (is_some so_far.slot) then asked_after_explain a_slot so_far rest
    else (if bytes_eq word (codes "--actor") && not (is_some so_far.actor) then asked_after_explain an_actor so_far rest
    else (if bytes_eq word (codes "--refused") && not so_far.refused then asked_after_explain an_option (record so_far { refused = true }) rest
    else (if bytes_eq word (codes "--data") && not so_far.as_data then asked_after_explain an_option (record so_far { as_data = true }) rest
    else asked_by_other word)))
asked_after_explain a_slot so_far [] = unknown
asked_after_explain a_slot so_far (word ∷ rest) =
    option_map_or (λ slot. asked_after_explain an_option (record so_far { slot = Some slot }) rest) (slot_of word) unknown
asked_after_explain an_actor so_far [] = unknown
asked_after_explain an_actor so_far (word ∷ rest) =
    option_map_or (λ actor. asked_after_explain an_option (record so_far { actor = Some actor }) rest) (actor_of word) unknown

-- what is asked for by `--version` and the words after it: the version if no words follow, else nothing known
abbrev pub asked_after_version : List (List ℕ) → Asked
asked_after_version [] = version
asked_after_version (word ∷ rest) = unknown

-- what the words ask for; without any word it is `apply`
abbrev pub asked_of : List (List ℕ) → Asked
asked_of [] = task Apply
asked_of (word ∷ rest) =
    if bytes_eq word (codes "apply") then asked_after Apply rest
    else (if bytes_eq word (codes "play") then asked_after_play false false rest
    else (if bytes_eq word (codes "serve") then asked_after_serve false rest
    else (if bytes_eq word (codes "check") then asked_after Check rest
    else (if bytes_eq word (codes "explain") then asked_after_explain an_option all_of_it rest
    else (if bytes_eq word (codes "--version") then asked_after_version rest
    else asked_by_other word)))))
