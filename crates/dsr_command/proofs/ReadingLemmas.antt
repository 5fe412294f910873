-- From what the parse gave to what the words ask for.
use Rattle.std.proofs.Common.{◌≡◌, ◌≢◌, ◌∙◌, Bool, true, false, refl, sym, ap, subst, arith, inl, inr, List, [], ◌∷◌, codes, length, Option, None, Some, true≢false}
use Rattle.std.specs.Borrow.{Bor}
use Rattle.std.specs.List.{list_all}
use Rattle.std.specs.Option.{option_eq, option_map, option_map_or}
use Rattle.std.specs.Str.{bytes_eq}
use Rattle.clap.specs.Kinds.{HasKind, IsAmong, Kinds}
use Rattle.clap.specs.Values.{kind_of}
use Rattle.clap.specs.Walk.{Text, rows_of}
use Rattle.clap.specs.Faults.{fault_of, is_simple_and_free}
use Rattle.clap.specs.Matches.{first_value}
use Rattle.clap.specs.declared.parser.matches.Found.{Found}
use Rattle.clap.specs.Simple.{subcommand_of}
use Rattle.clap.specs.declared.error.Error.{Error}
use Rattle.clap.specs.declared.error.kind.ErrorKind.{ErrorKind}
use Rattle.clap.specs.declared.error.kind.ErrorKind.TheVariants.{DisplayHelp, OutOfMemory}
use Rattle.clap.proofs.WalkLemmas.{both, first_value-rows}
use Rattle.dsr_command.specs.Asked.{Asked, asked_of, has_two_hyphens, help, task, unknown, version}
use Rattle.dsr_command.specs.CommandLine.{command_line, is_given, task_entered}
use Rattle.dsr_command.specs.Wishes.{is_for_explain, is_for_version}
use Rattle.dsr_command.specs.Readings.{OnHelp, OnUsage}
use Rattle.dsr_command.specs.declared.Reading.{Reading}
use Rattle.dsr_command.specs.declared.Reading.TheVariants as reading
use Rattle.dsr_command.specs.declared.Task.{Task}
use Rattle.dsr_command.proofs.WordLemmas.{Comes, IsEntered, IsRefused, asked, entered_as_asked, is_other, is_refusal}

-- a statement about a help may be weakened
on_help : (r : Reading) (P Q : Type 0) → (P → Q) → OnHelp r P → OnHelp r Q
on_help (reading.Do t) P Q f h = h
on_help (reading.Version text) P Q f h = h
on_help (reading.Help text) P Q f h = f h
on_help (reading.Usage text) P Q f h = h
on_help reading.NoMemory P Q f h = h

-- the same for a usage fault
on_usage : (r : Reading) (P Q : Type 0) → (P → Q) → OnUsage r P → OnUsage r Q
on_usage (reading.Do t) P Q f h = h
on_usage (reading.Version text) P Q f h = h
on_usage (reading.Help text) P Q f h = h
on_usage (reading.Usage text) P Q f h = f h
on_usage reading.NoMemory P Q f h = h

-- the kinds of a call for help are not empty
call_is_some : (kinds : Kinds) → kinds ≡ DisplayHelp ∷ [] → kinds ≡ [] → ⊥
call_is_some kinds is none = let bad : length {A = ErrorKind} [] ≡ length (DisplayHelp ∷ []) = ap length (sym none ∙ is) in omega (arith, bad)

-- nor are those of a refusal
refused_is_some : (kinds : Kinds) → IsRefused kinds → kinds ≡ [] → ⊥
refused_is_some kinds h none = true≢false (sym h ∙ ap is_refusal none)

-- if the parse passes and no word is `--`, the words ask for the task that it entered
taken : (words : List Text) (a : Asked) (sep : Bool) (kinds : Kinds) → Comes a sep kinds → IsEntered words a → kinds ≡ [] → sep ≡ false
    → a ≡ task (task_entered (subcommand_of command_line words))
taken words (task named) sep kinds h entered none without = entered
taken words version sep kinds h entered none without = absurd h
taken words help sep kinds h entered none without = absurd (call_is_some kinds h none)
taken words unknown sep kinds (inl h) entered none without = absurd (refused_is_some kinds h none)
taken words unknown sep kinds (inr h) entered none without = absurd (true≢false (sym h.1 ∙ without))

-- if it passes and a word is `--`, they ask for nothing known
separator_taken : (a : Asked) (sep : Bool) (kinds : Kinds) → Comes a sep kinds → kinds ≡ [] → sep ≡ true → a ≡ unknown
separator_taken (task t) sep kinds h none with = absurd (true≢false (sym with ∙ h.1))
separator_taken version sep kinds h none with = absurd h
separator_taken help sep kinds h none with = absurd (call_is_some kinds h none)
separator_taken unknown sep kinds h none with = refl

-- an empty list of kinds has no kind
none_among : (k : ErrorKind) (kinds : Kinds) → kinds ≡ [] → IsAmong k kinds → ⊥
none_among k kinds none h = subst (λ (ks : Kinds). IsAmong k ks) none h

-- a kind that passes `is_other` is not that of the help
no_call : (k : ErrorKind) → is_other k ≡ true → DisplayHelp ≡ k → ⊥
no_call k other is = true≢false (sym other ∙ sym (ap is_other is))

-- the kind of the help is not among other kinds
none_of_them : (kinds : Kinds) → list_all is_other kinds ≡ true → IsAmong DisplayHelp kinds → ⊥
none_of_them [] h among = elim among [ ]
none_of_them (k ∷ ks) h (inl is) = no_call k (both (is_other k) (list_all is_other ks) h).0 is
none_of_them (k ∷ ks) h (inr among) = none_of_them ks (both (is_other k) (list_all is_other ks) h).1 among

-- the kind of the help is not among those of a refusal
refused_is_other : (kinds : Kinds) → IsRefused kinds → IsAmong DisplayHelp kinds → ⊥
refused_is_other [] h among = elim among [ ]
refused_is_other (k ∷ ks) h among = none_of_them (k ∷ ks) h among

-- if the parse shows the help, the words ask for the help
called : (a : Asked) (sep : Bool) (kinds : Kinds) → Comes a sep kinds → IsAmong DisplayHelp kinds → a ≡ help
called (task t) sep kinds h among = absurd (none_among _ kinds h.0 among)
called version sep kinds h among = absurd h
called help sep kinds h among = refl
called unknown sep kinds (inl h) among = absurd (refused_is_other kinds h among)
called unknown sep kinds (inr h) among = absurd (none_among _ kinds h.0 among)

-- if it fails otherwise, they ask for nothing known
faulted : (a : Asked) (sep : Bool) (kinds : Kinds) (k : ErrorKind) → Comes a sep kinds → IsAmong k kinds → k ≢ DisplayHelp → a ≡ unknown
faulted (task t) sep kinds k h among other = absurd (none_among _ kinds h.0 among)
faulted version sep kinds k h among other = absurd h
faulted help sep kinds k h among other = go (subst (λ (ks : Kinds). IsAmong k ks) h among)
  where
    go : IsAmong k (DisplayHelp ∷ []) → help ≡ unknown
    go (inl is) = absurd (other is)
    go (inr h) = elim h [ ]
faulted unknown sep kinds k h among other = refl

-- `clap` reads the words and takes them, and none of them is `--`
pub taken_is_task : (words : List Text) (named : Task) → is_for_explain words ≡ false → is_for_version words ≡ false → fault_of command_line words ≡ []
    → has_two_hyphens words ≡ false → named ≡ task_entered (subcommand_of command_line words) → asked_of words ≡ task named
taken_is_task words named no_explain apart none without is =
    taken words _ (has_two_hyphens words) (fault_of command_line words) (asked words no_explain apart) (entered_as_asked words no_explain) none without
    ∙ ap task (sym is)

-- `clap` takes the words, and one of them is `--`
pub separator_is_unknown : (words : List Text) → is_for_explain words ≡ false → is_for_version words ≡ false → fault_of command_line words ≡ []
    → has_two_hyphens words ≡ true → asked_of words ≡ unknown
separator_is_unknown words no_explain apart none with =
    separator_taken _ (has_two_hyphens words) (fault_of command_line words) (asked words no_explain apart) none with

-- what holds anyway holds of a usage fault
pub on_separator : (r : Reading) (P : Type 0) → P → OnUsage r P
on_separator (reading.Do t) P h = tt
on_separator (reading.Version text) P h = tt
on_separator (reading.Help text) P h = tt
on_separator (reading.Usage text) P h = h
on_separator reading.NoMemory P h = tt

-- `clap` fails with a call for help
pub call_is_help : (words : List Text) (e : Error) (r : Reading) → is_for_explain words ≡ false → is_for_version words ≡ false
    → HasKind (fault_of command_line words) e → OnHelp r (kind_of e ≡ DisplayHelp) → OnHelp r (asked_of words ≡ help)
call_is_help words e r no_explain apart has h = on_help r _ _ (go has) h
  where
    go : HasKind (fault_of command_line words) e → kind_of e ≡ DisplayHelp → asked_of words ≡ help
    go (inl memory) is = absurd (no_call OutOfMemory refl (sym is ∙ memory))
    go (inr among) is =
        called _ (has_two_hyphens words) (fault_of command_line words) (asked words no_explain apart)
        (subst (λ (k : ErrorKind). IsAmong k (fault_of command_line words)) is among)

-- `clap` fails otherwise
pub fault_is_unknown : (words : List Text) (e : Error) (r : Reading) → is_for_explain words ≡ false → is_for_version words ≡ false
    → HasKind (fault_of command_line words) e
    → OnUsage r ((kind_of e ≢ DisplayHelp) × (kind_of e ≢ OutOfMemory)) → OnUsage r (asked_of words ≡ unknown)
fault_is_unknown words e r no_explain apart has h = on_usage r _ _ (go has) h
  where
    go : HasKind (fault_of command_line words) e → (kind_of e ≢ DisplayHelp) × (kind_of e ≢ OutOfMemory) → asked_of words ≡ unknown
    go (inl memory) other = absurd (other.1 memory)
    go (inr among) other = faulted _ (has_two_hyphens words) (fault_of command_line words) (kind_of e) (asked words no_explain apart) among other.0

-- what the clauses of `read_by_clap` follow from
pub ruleset readings = (taken_is_task, separator_is_unknown, on_separator, call_is_help, fault_is_unknown)

-- ---- flags

-- the text is compared with that of a flag that is given
pub given_read : (f : Found) (name : Text) (text : Option (Bor Text)) (wanted : Bor Text) (same : Bool)
    → option_map (λ s. s.now) text ≡ first_value f name → wanted.now ≡ codes "true"
    → same ≡ option_eq (λ a b. bytes_eq a.now b.now) text (Some wanted) → same ≡ is_given name (rows_of f)
given_read f name text wanted same is given compared = compared ∙ go text ∙ ap by_text (is ∙ first_value-rows f name)
  where
    by_text : Option Text → Bool
    by_text text = option_map_or (λ given. bytes_eq given (codes "true")) text false

    go : (text : Option (Bor Text)) → option_eq (λ a b. bytes_eq a.now b.now) text (Some wanted)
        ≡ option_map_or (λ given. bytes_eq given (codes "true")) (option_map (λ s. s.now) text) false
    go None = refl
    go (Some t) = ap (λ (w : Text). bytes_eq t.now w) given

-- ---- the command

-- `clap`'s exact contracts hold for this command
pub command_line_is_simple : is_simple_and_free command_line ≡ true
command_line_is_simple = refl
