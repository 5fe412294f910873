-- The result of `clap` on the words that it reads is what `asked_of` says.
use Rattle.std.proofs.Common.{◌≡◌, ◌∙◌, ◌⊎◌, ◌||◌, ◌++◌, ℕ, Bool, true, false, refl, sym, ap, ap₂, subst, arith, inl, inr, List, [], ◌∷◌, Option, None, Some, codes, length, fold, is_some, not, take, true≢false}
use Rattle.std.specs.Prelude.{◌==◌, if◌then◌else◌}
use Rattle.std.specs.List.{before_first, list_all, list_any, prefix_len}
use Rattle.std.specs.Str.{bytes_eq, chars}
use Rattle.std.proofs.lemmas.Slice.Eq.{bytes_eq-Decides}
use Rattle.std.proofs.lemmas.List.{take_all}
use Rattle.std.proofs.lemmas.Bool.Decides.{Decides-eqb}
use Rattle.clap.specs.Kinds.{Kinds, or_else}
use Rattle.clap.specs.Lexer.{has_byte, long_of, name_and_value}
use Rattle.clap.specs.Faults.{check_fault, defaults_fault, entered_fault, fault_of, flag_word_fault, level_fault, long_fault, settle_fault, step_fault, turn_fault, walk_fault}
use Rattle.clap.specs.Simple.{App, Shape, built, entered, filled, filled_from, help_rule, names_of, subcommand_of, with_index}
use Rattle.clap.specs.Walk.{Held, Names, Row, Rule, Step, Text, Walk, after_flag, arg_by_long, finished, idle, long_met, long_or_other, nothing_held, settled, subcommand_met, value, walk_from, walked}
use Rattle.clap.specs.declared.error.kind.ErrorKind.{ErrorKind}
use Rattle.clap.specs.declared.error.kind.ErrorKind.TheVariants.{DisplayHelp}
use Rattle.clap.proofs.FaultLemmas.{stopped_fault}
use Rattle.clap.proofs.OnLiterals.{clap_on_literals}
use Rattle.clap.proofs.WalkLemmas.{walk_stopped}
use Rattle.dsr_command.specs.Asked.{Asked, asked_after, asked_after_play, asked_after_serve, asked_by_other, asked_of, has_two_hyphens, help, is_help, task, unknown, version}
use Rattle.dsr_command.specs.CommandLine.{command_line, flag_rule, task_entered}
use Rattle.dsr_command.specs.Wishes.{is_for_explain, is_for_version}
use Rattle.dsr_command.specs.declared.Task.{Task}
use Rattle.dsr_command.specs.declared.Task.TheVariants.{Apply, Check, Play, Serve}

-- the command as a parse builds it
abbrev app : App
app = built command_line

-- which flags a command takes beside the help: none, like the program itself; `--transcript`; or also `--strict`
data Takes : Type 0 where
  takes_none : Takes
  takes_one : Takes
  takes_both : Takes

-- its flags: `--help` and `-h` are among them
abbrev flags : Takes → List Rule
flags takes_none = app.top.rules
flags takes_one = filled_from 1 (flag_rule (codes "transcript") ∷ help_rule ∷ [])
flags takes_both = filled_from 1 (flag_rule (codes "strict") ∷ flag_rule (codes "transcript") ∷ help_rule ∷ [])

-- the shape of the program or of a subcommand; they differ only in these three
abbrev shape : Takes → Text → Bool → Shape
shape takes name is_leaf = record app.top { name = name; is_leaf = is_leaf; rules = flags takes }

-- these rows are held, and no argument waits for a value
abbrev held : List Row → Held
held rows = record { rows = rows; pending = None; skip = 0 }

-- the kind differs from that of a call for help
abbrev pub is_other : ErrorKind → Bool
is_other DisplayHelp = false
is_other _ = true

-- the kinds are those of a fault other than a call for help
abbrev pub is_refusal : Kinds → Bool
is_refusal [] = false
is_refusal (kind ∷ kinds) = list_all is_other (kind ∷ kinds)

-- the statement that the boolean is true
abbrev pub IsRefused : Kinds → Type 0
IsRefused kinds = is_refusal kinds ≡ true

-- ---- the flags

-- what the flags lead to for a word: the help, a fault, or nothing
abbrev FlagAs : Bool → Kinds → Step → Type 0
FlagAs true kinds step = kinds ≡ DisplayHelp ∷ []
FlagAs false kinds step = IsRefused kinds ⊎ ((kinds ≡ []) × (step ≡ value))

-- `FlagAs` holds of the word, after words that led to these rows
abbrev FlagWord : Takes → List Row → Text → Type 0
FlagWord takes rows word = FlagAs (is_help word) (flag_word_fault (flags takes) false (long_of word) word (held rows))
    (long_or_other (flags takes) idle word (long_of word) (held rows)).1

-- the word is one of the flags that are taken
abbrev is_flag : Takes → Text → Bool
is_flag takes_none word = false
is_flag takes_one word = bytes_eq word (codes "--transcript")
is_flag takes_both word = bytes_eq word (codes "--strict") || bytes_eq word (codes "--transcript")

-- the byte `=`
abbrev is_equals : ℕ → Bool
is_equals x = x == 61

-- in a text without `=`, all of the text is before the first one
whole_prefix : (t : Text) → list_any is_equals t ≡ false → prefix_len (λ x. not (is_equals x)) t ≡ length t
whole_prefix [] none = refl
whole_prefix (x ∷ xs) none = go (x == 61) refl (whole_prefix xs)
  where
    go : (b : Bool) → (x == 61) ≡ b → (list_any is_equals xs ≡ false → prefix_len (λ y. not (is_equals y)) xs ≡ length xs)
        → prefix_len (λ y. not (is_equals y)) (x ∷ xs) ≡ length (x ∷ xs)
    go true e before = absurd (true≢false (sym (ap (λ b. b || list_any is_equals xs) e) ∙ none))
    go false e before =
        let rest : list_any is_equals xs ≡ false = sym (ap (λ b. b || list_any is_equals xs) e) ∙ none in
        rw (e, before rest) (omega arith)

-- the same, about the text itself
without_equals : (t : Text) → list_any is_equals t ≡ false → before_first is_equals t ≡ t
without_equals t none = ap (λ n. take n t) (whole_prefix t none) ∙ take_all (length t) t (omega arith)

-- unequal both ways
flipped : (a b : ℕ) → (a == b) ≡ false → (b == a) ≡ false
flipped a b other = go (b == a) refl
  where
    go : (t : Bool) → (b == a) ≡ t → t ≡ false
    go false e = refl
    go true e = absurd (true≢false (sym ((Decides-eqb a b).1 (sym ((Decides-eqb b a).0 e))) ∙ other))

-- if the part before `=` of a text without `=` passes the test against a known name, the whole text is that name
name_is : (known t : Text) → bytes_eq known (before_first is_equals t) ≡ true → has_byte 61 t ≡ false → t ≡ known
name_is known t named valued = sym ((bytes_eq-Decides known (before_first is_equals t)).0 named ∙ without_equals t valued)

-- if neither of two holds, each of them is false
neither : (a b : Bool) → (a || b) ≡ false → (a ≡ false) × (b ≡ false)
neither false b e = (refl, e)
neither true b e = absurd (true≢false e)

-- what a word `--name`, with a value or without, leads to, if this is the flag with its name
abbrev LongAs : List Rule → Option Rule → List Row → ℕ → Text → Type 0
LongAs c found rows n ns =
    let met = long_met c found (name_and_value (n ∷ ns)).1 (held rows) in
    FlagAs (is_help (45 ∷ 45 ∷ n ∷ ns)) (long_fault c false found (name_and_value (n ∷ ns)).1 (held rows))
    (after_flag c idle (45 ∷ 45 ∷ n ∷ ns) met.0 met.1).1

-- the text is the name of the help
help_text : (n : ℕ) (ns : Text) → bytes_eq (n ∷ ns) (codes "help") ≡ true → n ∷ ns ≡ codes "help"
help_text n ns e = (bytes_eq-Decides (n ∷ ns) (codes "help")).0 e

-- the flag with the name, if the help is the only flag
help_long : (c : List Rule) (rows : List Row) (n : ℕ) (ns : Text) → LongAs c (arg_by_long (flags takes_none) (before_first is_equals (n ∷ ns))) rows n ns
unfolding clap_on_literals
help_long c rows n ns = go (bytes_eq (codes "help") (before_first is_equals (n ∷ ns))) (has_byte 61 (n ∷ ns)) (bytes_eq (n ∷ ns) (codes "help")) refl refl refl
  where
    go : (named valued same : Bool) → bytes_eq (codes "help") (before_first is_equals (n ∷ ns)) ≡ named → has_byte 61 (n ∷ ns) ≡ valued
        → bytes_eq (n ∷ ns) (codes "help") ≡ same → LongAs c (arg_by_long (flags takes_none) (before_first is_equals (n ∷ ns))) rows n ns
    go true false true named valued same = rw (named, valued, same) refl
    go true true false named valued same = rw (named, valued, same) (inl refl)
    go false v false named valued same = rw (named, same) (inl refl)
    go true true true named valued same = absurd (true≢false (sym valued ∙ ap (has_byte 61) (help_text n ns same)))
    go false v true named valued same = absurd (true≢false (sym (ap (λ t. bytes_eq (codes "help") (before_first is_equals t)) (help_text n ns same)) ∙ named))
    go true false false named valued same =
        absurd (true≢false (sym ((bytes_eq-Decides (n ∷ ns) (codes "help")).1 (name_is (codes "help") (n ∷ ns) named valued)) ∙ same))

-- with one more flag, which is not the word: if the word has the flag's name and a value, it is refused; else the other flags decide
flag_long : (c rest : List Rule) (name : Text) (rows : List Row) (n : ℕ) (ns : Text) → bytes_eq (n ∷ ns) name ≡ false
    → LongAs c (arg_by_long rest (before_first is_equals (n ∷ ns))) rows n ns
    → LongAs c (arg_by_long (with_index 1 (filled (flag_rule name)) ∷ rest) (before_first is_equals (n ∷ ns))) rows n ns
unfolding clap_on_literals
flag_long c rest name rows n ns other others = go (bytes_eq name (before_first is_equals (n ∷ ns))) (has_byte 61 (n ∷ ns)) (bytes_eq (n ∷ ns) (codes "help")) refl refl refl
  where
    go : (named valued same : Bool) → bytes_eq name (before_first is_equals (n ∷ ns)) ≡ named → has_byte 61 (n ∷ ns) ≡ valued
        → bytes_eq (n ∷ ns) (codes "help") ≡ same
        → LongAs c (arg_by_long (with_index 1 (filled (flag_rule name)) ∷ rest) (before_first is_equals (n ∷ ns))) rows n ns
    go false v same named valued is = rw named others
    go true true false named valued same = rw (named, valued, same) (inl refl)
    go true true true named valued same = absurd (true≢false (sym valued ∙ ap (has_byte 61) (help_text n ns same)))
    go true false s named valued same =
        absurd (true≢false (sym ((bytes_eq-Decides (n ∷ ns) name).1 (name_is name (n ∷ ns) named valued)) ∙ other))

-- `--name`, except the flags themselves
long_flag : (takes : Takes) (rows : List Row) (n : ℕ) (ns : Text) → is_flag takes (45 ∷ 45 ∷ n ∷ ns) ≡ false → FlagWord takes rows (45 ∷ 45 ∷ n ∷ ns)
unfolding clap_on_literals
long_flag takes_none rows n ns other = help_long (flags takes_none) rows n ns
long_flag takes_one rows n ns other =
    flag_long (flags takes_one) (flags takes_none) (codes "transcript") rows n ns other (help_long (flags takes_one) rows n ns)
long_flag takes_both rows n ns other =
    let none = neither (bytes_eq (n ∷ ns) (codes "strict")) (bytes_eq (n ∷ ns) (codes "transcript")) other in
    flag_long (flags takes_both) (flags takes_one) (codes "strict") rows n ns none.0
    (flag_long (flags takes_both) (flags takes_none) (codes "transcript") rows n ns none.1 (help_long (flags takes_both) rows n ns))

-- `-abc`
short_flag : (takes : Takes) (rows : List Row) (x : ℕ) (xs : Text) → (x == 45) ≡ false → FlagWord takes rows (45 ∷ x ∷ xs)
unfolding clap_on_literals
short_flag takes rows x xs other = go takes (chars (x ∷ xs)) refl
  where
    at : (takes : Takes) (c : ℕ) (cs : List ℕ) (b : Bool) → chars (x ∷ xs) ≡ c ∷ cs → (104 == c) ≡ b → FlagWord takes rows (45 ∷ x ∷ xs)
    at takes_none c cs true e h = simp (other, e, h) refl
    at takes_none c cs false e h = simp (other, e, h) (inl refl)
    at takes_one c cs true e h = simp (other, e, h) refl
    at takes_one c cs false e h = simp (other, e, h) (inl refl)
    at takes_both c cs true e h = simp (other, e, h) refl
    at takes_both c cs false e h = simp (other, e, h) (inl refl)

    go : (takes : Takes) (cs : List ℕ) → chars (x ∷ xs) ≡ cs → FlagWord takes rows (45 ∷ x ∷ xs)
    go takes_none [] e = simp (other, e) (inr (refl, refl))
    go takes_one [] e = simp (other, e) (inr (refl, refl))
    go takes_both [] e = simp (other, e) (inr (refl, refl))
    go takes (c ∷ cs) e = at takes c cs (104 == c) e refl

-- any word except `--` and the flags themselves
flag_word : (takes : Takes) (rows : List Row) (word : Text) → bytes_eq word (codes "--") ≡ false → is_flag takes word ≡ false → FlagWord takes rows word
unfolding clap_on_literals
flag_word takes rows [] other no_flag = inr (refl, refl)
flag_word takes rows (a ∷ rest) other no_flag = first (a == 45) refl
  where
    after : (rest : Text) → bytes_eq (45 ∷ rest) (codes "--") ≡ false → is_flag takes (45 ∷ rest) ≡ false → FlagWord takes rows (45 ∷ rest)
    after [] other no_flag = inr (refl, refl)
    after (x ∷ xs) other no_flag = second (x == 45) refl
      where
        third : (xs : Text) → bytes_eq (45 ∷ 45 ∷ xs) (codes "--") ≡ false → is_flag takes (45 ∷ 45 ∷ xs) ≡ false → FlagWord takes rows (45 ∷ 45 ∷ xs)
        third [] other no_flag = absurd (true≢false other)
        third (n ∷ ns) other no_flag = long_flag takes rows n ns no_flag

        second : (b : Bool) → (x == 45) ≡ b → FlagWord takes rows (45 ∷ x ∷ xs)
        second false e = short_flag takes rows x xs e
        second true e =
            let is : x ≡ 45 = (Decides-eqb x 45).0 e in
            subst (λ (y : ℕ). bytes_eq (45 ∷ y ∷ xs) (codes "--") ≡ false → is_flag takes (45 ∷ y ∷ xs) ≡ false → FlagWord takes rows (45 ∷ y ∷ xs))
            (sym is) (third xs) other no_flag

    first : (b : Bool) → (a == 45) ≡ b → FlagWord takes rows (a ∷ rest)
    first false e = let turned : (45 == a) ≡ false = flipped a 45 e in simp (e, turned) (inr (refl, refl))
    first true e =
        let is : a ≡ 45 = (Decides-eqb a 45).0 e in
        subst (λ (y : ℕ). bytes_eq (y ∷ rest) (codes "--") ≡ false → is_flag takes (y ∷ rest) ≡ false → FlagWord takes rows (y ∷ rest)) (sym is) (after rest) other no_flag

-- ---- a word that does not name a subcommand

-- what the turn of a word that does not name a subcommand leads to: the help, or a refusal
abbrev TurnAs : Bool → Kinds → Type 0
TurnAs true kinds = kinds ≡ DisplayHelp ∷ []
TurnAs false kinds = IsRefused kinds

-- if the first kinds refuse, so do they with any kinds after them
refused_first : (kinds more : Kinds) → IsRefused kinds → IsRefused (or_else kinds more)
refused_first [] more h = absurd (true≢false (sym h))
refused_first (k ∷ ks) more h = h

-- a word that no flag takes is refused as one too many
turn_of : (takes : Takes) (name : Text) (leaf b : Bool) (kinds : Kinds) (met : Held × Step) → FlagAs b kinds met.1
    → TurnAs b (or_else kinds (step_fault (shape takes name leaf) 1 met.0 met.1))
turn_of takes name leaf true kinds met h = rw h refl
turn_of takes name leaf false kinds met (inl h) = refused_first kinds _ h
turn_of takes_none name true false kinds met (inr h) = rw (h.0, h.1) refl
turn_of takes_none name false false kinds met (inr h) = rw (h.0, h.1) refl
turn_of takes_one name true false kinds met (inr h) = rw (h.0, h.1) refl
turn_of takes_one name false false kinds met (inr h) = rw (h.0, h.1) refl
turn_of takes_both name true false kinds met (inr h) = rw (h.0, h.1) refl
turn_of takes_both name false false kinds met (inr h) = rw (h.0, h.1) refl

-- the turn of such a word, in the program or in a subcommand
turn : (takes : Takes) (name : Text) (leaf : Bool) (rows : List Row) (names : Names) (word : Text) → subcommand_met names idle word ≡ None
    → bytes_eq word (codes "--") ≡ false → is_flag takes word ≡ false
    → TurnAs (is_help word) (turn_fault (shape takes name leaf) names (walk_from (held rows)) word)
turn takes name leaf rows names word unmet other no_flag =
    rw (unmet, other) (turn_of takes name leaf (is_help word) (flag_word_fault (flags takes) false (long_of word) word (held rows))
    (long_or_other (flags takes) idle word (long_of word) (held rows)) (flag_word takes rows word other no_flag))

-- ---- the words

-- what the kinds of a parse's fault say about what is asked for; `sep` is whether a word is `--`. No parse asks for the version.
abbrev pub Comes : Asked → Bool → Kinds → Type 0
Comes (task t) sep kinds = (kinds ≡ []) × (sep ≡ false)
Comes version sep kinds = ⊥
Comes help sep kinds = kinds ≡ DisplayHelp ∷ []
Comes unknown sep kinds = IsRefused kinds ⊎ ((kinds ≡ []) × (sep ≡ true))

-- the first word that asks for the help or is refused decides
by_turn : (b sep : Bool) (kinds more rest : Kinds) → TurnAs b kinds → Comes (if b then help else unknown) sep (or_else (or_else kinds more) rest)
by_turn true sep kinds more rest h = rw h refl
by_turn false sep kinds more rest h = inl (refused_first (or_else kinds more) rest (refused_first kinds more h))

-- a subcommand as a parse builds it
abbrev leaf : Takes → Text → Shape
leaf takes name = shape takes name true

-- the kinds of the parse, by those of its walk over the words and by the end of the walk
abbrev after_walk : Kinds → Walk → Kinds
after_walk failed end = or_else failed (or_else (entered_fault app end.stopped) (or_else (settle_fault (flags takes_none) false end.held)
    (or_else (defaults_fault (settled (flags takes_none) end.held).rows (flags takes_none)) (check_fault app.top (finished (flags takes_none) end.held) (is_some (entered app end.stopped))))))

-- nothing follows
or_else-nil : (kinds : Kinds) → or_else kinds [] ≡ kinds
or_else-nil [] = refl
or_else-nil (k ∷ ks) = refl

-- the kinds of the parse if its walk stops at a subcommand's name
abbrev stopped_kinds : Text → List Text → Kinds
stopped_kinds name rest = after_walk [] (record (walk_from nothing_held) { stopped = Some (name, rest) })

-- a walk that stopped at a name has met all words after it
after_name : (name : Text) (rest : List Text)
    → after_walk (walk_fault app.top (names_of app) (record (walk_from nothing_held) { stopped = Some (name, []) }) rest)
    (fold (walked (flags takes_none) (names_of app)) (record (walk_from nothing_held) { stopped = Some (name, []) }) rest)
    ≡ stopped_kinds name rest
after_name name rest = ap₂ after_walk (stopped_fault app.top (names_of app) (walk_from nothing_held) (name, []) rest)
    (sym (walk_stopped (flags takes_none) (names_of app) (walk_from nothing_held) name [] rest))

-- after `apply` the parse is that of `apply`
apply_fault : (rest : List Text) → fault_of command_line (codes "apply" ∷ rest) ≡ level_fault (leaf takes_none (codes "apply")) [] (held []) rest false []
unfolding clap_on_literals
apply_fault rest = after_name (codes "apply") rest ∙ or_else-nil (level_fault (leaf takes_none (codes "apply")) [] (held []) rest false [])

-- after `play` it is that of `play`
play_fault : (rest : List Text) → fault_of command_line (codes "play" ∷ rest) ≡ level_fault (leaf takes_both (codes "play")) [] (held []) rest false []
unfolding clap_on_literals
play_fault rest = after_name (codes "play") rest ∙ or_else-nil (level_fault (leaf takes_both (codes "play")) [] (held []) rest false [])

-- after `serve` it is that of `serve`
serve_fault : (rest : List Text) → fault_of command_line (codes "serve" ∷ rest) ≡ level_fault (leaf takes_one (codes "serve")) [] (held []) rest false []
unfolding clap_on_literals
serve_fault rest = after_name (codes "serve") rest ∙ or_else-nil (level_fault (leaf takes_one (codes "serve")) [] (held []) rest false [])

-- after `check` it is that of `check`
check_word_fault : (rest : List Text) → fault_of command_line (codes "check" ∷ rest) ≡ level_fault (leaf takes_none (codes "check")) [] (held []) rest false []
unfolding clap_on_literals
check_word_fault rest = after_name (codes "check") rest ∙ or_else-nil (level_fault (leaf takes_none (codes "check")) [] (held []) rest false [])

-- the rows after a flag that comes after these rows
abbrev rows_after : Takes → List Row → Text → List Row
rows_after takes rows word = (long_or_other (flags takes) idle word (long_of word) (held rows)).0.rows

-- the parse of these words, after a task's name and what led to these rows, leads to what is asked for
abbrev Says : Takes → Text → List Row → Asked → List Text → Type 0
Says takes name rows asked words = Comes asked (has_two_hyphens words) (level_fault (leaf takes name) [] (held rows) words false [])

-- a word that does not ask for a task decides
other_word : (takes : Takes) (name : Text) (rows : List Row) (word : Text) (rest : List Text) → bytes_eq word (codes "--") ≡ false → is_flag takes word ≡ false
    → Says takes name rows (asked_by_other word) (word ∷ rest)
unfolding clap_on_literals
other_word takes name rows word rest other no_flag =
    by_turn (is_help word) (has_two_hyphens (word ∷ rest)) (turn_fault (leaf takes name) [] (walk_from (held rows)) word) _ _
    (turn takes name true rows [] word refl other no_flag)

-- what holds for the empty list of words, and for a first word and others, holds for all lists
by_rest : (P : List Text → Type 0) → P [] → ((more : Text) (rest : List Text) → P (more ∷ rest)) → (words : List Text) → P words
by_rest P none some [] = none
by_rest P none some (more ∷ rest) = some more rest

-- what holds for a name, and for the word if it is not the name, holds for the word
by_name : (P : Text → Type 0) (name word : Text) → P name → (bytes_eq word name ≡ false → P word) → P word
by_name P name word is other = go (bytes_eq word name) refl
  where
    go : (b : Bool) → bytes_eq word name ≡ b → P word
    go true e = subst P (sym ((bytes_eq-Decides word name).0 e)) is
    go false e = other e

-- what the words after a task's name ask for, by cases: no words, a first word `--`, a flag, or any other word
words_by : (takes : Takes) (name : Text) (rows : List Row) (says : List Text → Asked) → Says takes name rows (says []) []
    → ((rest : List Text) → Says takes name rows (says (codes "--" ∷ rest)) (codes "--" ∷ rest))
    → ((word : Text) (rest : List Text) → is_flag takes word ≡ true → Says takes name rows (says (word ∷ rest)) (word ∷ rest))
    → ((word : Text) (rest : List Text) → is_flag takes word ≡ false → says (word ∷ rest) ≡ asked_by_other word)
    → (words : List Text) → Says takes name rows (says words) words
words_by takes name rows says alone apart flagged others [] = alone
words_by takes name rows says alone apart flagged others (word ∷ rest) = first (bytes_eq word (codes "--")) (is_flag takes word) refl refl
  where
    first : (separator flag : Bool) → bytes_eq word (codes "--") ≡ separator → is_flag takes word ≡ flag → Says takes name rows (says (word ∷ rest)) (word ∷ rest)
    first true flag e f = subst (λ (w : Text). Says takes name rows (says (w ∷ rest)) (w ∷ rest)) (sym ((bytes_eq-Decides word (codes "--")).0 e)) (apart rest)
    first false true e f = flagged word rest f
    first false false e f =
        subst (λ (a : Asked). Says takes name rows a (word ∷ rest)) (sym (others word rest f)) (other_word takes name rows word rest e f)

-- `--` right after these rows, and whatever follows it
abbrev IsApart : Takes → Text → List Row → List Text → Type 0
IsApart takes name rows rest = Says takes name rows unknown (codes "--" ∷ rest)

-- the words after the name of a task without flags
says_plain : (name : Text) (named : Task) (words : List Text) → Says takes_none name [] (asked_after named words) words
unfolding clap_on_literals
says_plain name named words =
    words_by takes_none name [] (asked_after named) (refl, refl) (by_rest (IsApart takes_none name []) (inr (refl, refl)) (λ more rest. inl refl))
    (λ word rest flag. absurd (true≢false (sym flag))) (λ word rest other. refl) words

-- the words after `serve` and what led to these rows, given the case that the first word is the flag
says_serve : (rows : List Row) (transcript : Bool) → Says takes_one (codes "serve") rows (task (Serve transcript)) []
    → ((rest : List Text) → IsApart takes_one (codes "serve") rows rest)
    → ((rest : List Text) → Says takes_one (codes "serve") rows (asked_after_serve transcript (codes "--transcript" ∷ rest)) (codes "--transcript" ∷ rest))
    → (words : List Text) → Says takes_one (codes "serve") rows (asked_after_serve transcript words) words
unfolding clap_on_literals
says_serve rows transcript alone apart given words =
    words_by takes_one (codes "serve") rows (asked_after_serve transcript) alone apart flagged (λ word rest other. rw other refl) words
  where
    flagged : (word : Text) (rest : List Text) → is_flag takes_one word ≡ true
        → Says takes_one (codes "serve") rows (asked_after_serve transcript (word ∷ rest)) (word ∷ rest)
    flagged word rest flag =
        subst (λ (w : Text). Says takes_one (codes "serve") rows (asked_after_serve transcript (w ∷ rest)) (w ∷ rest))
        (sym ((bytes_eq-Decides word (codes "--transcript")).0 flag)) (given rest)

-- after `serve` and the flag
serve_given : (words : List Text) → Says takes_one (codes "serve") (rows_after takes_one [] (codes "--transcript")) (asked_after_serve true words) words
unfolding clap_on_literals
serve_given words =
    let rows = rows_after takes_one [] (codes "--transcript") in
    says_serve rows true (refl, refl) (by_rest (IsApart takes_one (codes "serve") rows) (inr (refl, refl)) (λ more rest. inl refl)) (λ rest. inl refl) words

-- after `serve`
serve_words : (words : List Text) → Says takes_one (codes "serve") [] (asked_after_serve false words) words
unfolding clap_on_literals
serve_words words =
    says_serve [] false (refl, refl) (by_rest (IsApart takes_one (codes "serve") []) (inr (refl, refl)) (λ more rest. inl refl)) (λ rest. serve_given rest) words

-- the words after `play` and what led to these rows, given the cases that the first word is a flag
says_play : (rows : List Row) (strict transcript : Bool) → Says takes_both (codes "play") rows (task (Play strict transcript)) []
    → ((rest : List Text) → IsApart takes_both (codes "play") rows rest)
    → ((rest : List Text) → Says takes_both (codes "play") rows (asked_after_play strict transcript (codes "--strict" ∷ rest)) (codes "--strict" ∷ rest))
    → ((rest : List Text) → Says takes_both (codes "play") rows (asked_after_play strict transcript (codes "--transcript" ∷ rest)) (codes "--transcript" ∷ rest))
    → (words : List Text) → Says takes_both (codes "play") rows (asked_after_play strict transcript words) words
unfolding clap_on_literals
says_play rows strict transcript alone apart on_strict on_transcript words =
    words_by takes_both (codes "play") rows (asked_after_play strict transcript) alone apart flagged others words
  where
    neither_flag : (word : Text) → is_flag takes_both word ≡ true → bytes_eq word (codes "--strict") ≡ false → bytes_eq word (codes "--transcript") ≡ false → ⊥
    neither_flag word flag no_strict no_transcript =
        true≢false (sym flag ∙ (ap (λ b. b || bytes_eq word (codes "--transcript")) no_strict ∙ no_transcript))

    flagged : (word : Text) (rest : List Text) → is_flag takes_both word ≡ true
        → Says takes_both (codes "play") rows (asked_after_play strict transcript (word ∷ rest)) (word ∷ rest)
    flagged word rest flag =
        let at = λ (w : Text). Says takes_both (codes "play") rows (asked_after_play strict transcript (w ∷ rest)) (w ∷ rest) in
        by_name at (codes "--strict") word (on_strict rest) (λ no_strict.
        by_name at (codes "--transcript") word (on_transcript rest) (λ no_transcript. absurd (neither_flag word flag no_strict no_transcript)))

    others : (word : Text) (rest : List Text) → is_flag takes_both word ≡ false → asked_after_play strict transcript (word ∷ rest) ≡ asked_by_other word
    others word rest other = let none = neither (bytes_eq word (codes "--strict")) (bytes_eq word (codes "--transcript")) other in rw (none.0, none.1) refl

-- after `play` and both flags, in either order
abbrev strict_rows : List Row
strict_rows = rows_after takes_both [] (codes "--strict")

abbrev transcript_rows : List Row
transcript_rows = rows_after takes_both [] (codes "--transcript")

play_strict_transcript : (words : List Text)
    → Says takes_both (codes "play") (rows_after takes_both strict_rows (codes "--transcript")) (asked_after_play true true words) words
unfolding clap_on_literals
play_strict_transcript words =
    let rows = rows_after takes_both strict_rows (codes "--transcript") in
    says_play rows true true (refl, refl) (by_rest (IsApart takes_both (codes "play") rows) (inr (refl, refl)) (λ more rest. inl refl))
    (λ rest. inl refl) (λ rest. inl refl) words

play_transcript_strict : (words : List Text)
    → Says takes_both (codes "play") (rows_after takes_both transcript_rows (codes "--strict")) (asked_after_play true true words) words
unfolding clap_on_literals
play_transcript_strict words =
    let rows = rows_after takes_both transcript_rows (codes "--strict") in
    says_play rows true true (refl, refl) (by_rest (IsApart takes_both (codes "play") rows) (inr (refl, refl)) (λ more rest. inl refl))
    (λ rest. inl refl) (λ rest. inl refl) words

-- after `play` and one of them
play_strict : (words : List Text) → Says takes_both (codes "play") strict_rows (asked_after_play true false words) words
unfolding clap_on_literals
play_strict words =
    says_play strict_rows true false (refl, refl) (by_rest (IsApart takes_both (codes "play") strict_rows) (inr (refl, refl)) (λ more rest. inl refl))
    (λ rest. inl refl) (λ rest. play_strict_transcript rest) words

play_transcript : (words : List Text) → Says takes_both (codes "play") transcript_rows (asked_after_play false true words) words
unfolding clap_on_literals
play_transcript words =
    says_play transcript_rows false true (refl, refl) (by_rest (IsApart takes_both (codes "play") transcript_rows) (inr (refl, refl)) (λ more rest. inl refl))
    (λ rest. play_transcript_strict rest) (λ rest. inl refl) words

-- after `play`
play_words : (words : List Text) → Says takes_both (codes "play") [] (asked_after_play false false words) words
unfolding clap_on_literals
play_words words =
    says_play [] false false (refl, refl) (by_rest (IsApart takes_both (codes "play") []) (inr (refl, refl)) (λ more rest. inl refl))
    (λ rest. play_strict rest) (λ rest. play_transcript rest) words

-- the parse of these words leads to what they ask for
abbrev Asks : List Text → Type 0
Asks words = Comes (asked_of words) (has_two_hyphens words) (fault_of command_line words)

after_apply : (rest : List Text) → Asks (codes "apply" ∷ rest)
after_apply rest = subst (λ (kinds : Kinds). Comes (asked_after Apply rest) (has_two_hyphens rest) kinds) (sym (apply_fault rest)) (says_plain (codes "apply") Apply rest)

after_play : (rest : List Text) → Asks (codes "play" ∷ rest)
after_play rest = subst (λ (kinds : Kinds). Comes (asked_after_play false false rest) (has_two_hyphens rest) kinds) (sym (play_fault rest)) (play_words rest)

after_serve : (rest : List Text) → Asks (codes "serve" ∷ rest)
after_serve rest = subst (λ (kinds : Kinds). Comes (asked_after_serve false rest) (has_two_hyphens rest) kinds) (sym (serve_fault rest)) (serve_words rest)

after_check : (rest : List Text) → Asks (codes "check" ∷ rest)
after_check rest = subst (λ (kinds : Kinds). Comes (asked_after Check rest) (has_two_hyphens rest) kinds) (sym (check_word_fault rest)) (says_plain (codes "check") Check rest)

-- `--version` with words after it
after_version : (rest : List Text) → is_for_version (codes "--version" ∷ rest) ≡ false → Asks (codes "--version" ∷ rest)
unfolding clap_on_literals
after_version [] alone = absurd (true≢false alone)
after_version (more ∷ rest) alone = inl refl

after_separator : (rest : List Text) → Asks (codes "--" ∷ rest)
unfolding clap_on_literals
after_separator [] = inr (refl, refl)
after_separator (word ∷ rest) = inl refl

-- if a text differs from another, the other differs from it
turned_eq : (a b : Text) → bytes_eq a b ≡ false → bytes_eq b a ≡ false
turned_eq a b other = go (bytes_eq b a) refl
  where
    go : (t : Bool) → bytes_eq b a ≡ t → t ≡ false
    go false e = refl
    go true e = absurd (true≢false (sym ((bytes_eq-Decides a b).1 (sym ((bytes_eq-Decides b a).0 e))) ∙ other))

-- a word that does not name a task and is neither `--` nor `--version`
after_other : (word : Text) (rest : List Text) → bytes_eq word (codes "apply") ≡ false → bytes_eq word (codes "play") ≡ false
    → bytes_eq word (codes "serve") ≡ false → bytes_eq word (codes "check") ≡ false → bytes_eq word (codes "explain") ≡ false
    → bytes_eq word (codes "--version") ≡ false → bytes_eq word (codes "--") ≡ false → Asks (word ∷ rest)
unfolding clap_on_literals
after_other word rest no_apply no_play no_serve no_check no_explain no_version other =
    let unmet : subcommand_met (names_of app) idle word ≡ None =
    rw (
      turned_eq word (codes "apply") no_apply,
      turned_eq word (codes "play") no_play,
      turned_eq word (codes "serve") no_serve,
      turned_eq word (codes "check") no_check,
      turned_eq word (codes "explain") no_explain,
    ) refl in
    rw (no_apply, no_play, no_serve, no_check, no_explain, no_version)
    (by_turn (is_help word) (has_two_hyphens (word ∷ rest)) (turn_fault app.top (names_of app) (walk_from nothing_held) word) _ _
    (turn takes_none (codes "dsr") false [] (names_of app) word unmet other refl))

-- the words that `clap` reads
pub asked : (words : List Text) → is_for_explain words ≡ false → is_for_version words ≡ false → Asks words
unfolding clap_on_literals
asked [] no_explain apart = (refl, refl)
asked (word ∷ rest) no_explain apart =
    let after = λ (name : Text). Asks (name ∷ rest) in
    by_name after (codes "apply") word (after_apply rest) (λ no_apply.
    by_name after (codes "play") word (after_play rest) (λ no_play.
    by_name after (codes "serve") word (after_serve rest) (λ no_serve.
    by_name after (codes "check") word (after_check rest) (λ no_check.
    by_name (λ (name : Text). is_for_version (name ∷ rest) ≡ false → Asks (name ∷ rest)) (codes "--version") word (after_version rest)
    (λ no_version alone. by_name after (codes "--") word (after_separator rest)
    (after_other word rest no_apply no_play no_serve no_check no_explain no_version)) apart))))

-- ---- the task that was entered

-- a task that is asked for is the one that the parse entered
abbrev pub IsEntered : List Text → Asked → Type 0
IsEntered words (task named) = task named ≡ task (task_entered (subcommand_of command_line words))
IsEntered words other = Unit {0}

-- a word that asks for the help or for nothing known does not ask for a task
by_help : (words : List Text) (b : Bool) → IsEntered words (if b then help else unknown)
by_help words true = tt
by_help words false = tt

-- if words enter a task, they ask for it by themselves; with further words after them they ask for no task
plain_entered : (words : List Text) (named : Task) → IsEntered (words ++ []) (task named) → (rest : List Text) → IsEntered (words ++ rest) (asked_after named rest)
plain_entered words named alone [] = alone
plain_entered words named alone (word ∷ rest) = by_help (words ++ (word ∷ rest)) (is_help word)

apply_entered : (rest : List Text) → IsEntered (codes "apply" ∷ rest) (asked_after Apply rest)
unfolding clap_on_literals
apply_entered rest = plain_entered (codes "apply" ∷ []) Apply refl rest

check_entered : (rest : List Text) → IsEntered (codes "check" ∷ rest) (asked_after Check rest)
unfolding clap_on_literals
check_entered rest = plain_entered (codes "check" ∷ []) Check refl rest

-- if the words enter `serve`, also with the flag after them, further words ask for the task that they enter, or not for a task
serve_entered_by : (words : List Text) (transcript : Bool) → IsEntered (words ++ []) (task (Serve transcript))
    → ((rest : List Text) → IsEntered (words ++ codes "--transcript" ∷ rest) (asked_after_serve transcript (codes "--transcript" ∷ rest)))
    → (rest : List Text) → IsEntered (words ++ rest) (asked_after_serve transcript rest)
serve_entered_by words transcript alone given [] = alone
serve_entered_by words transcript alone given (word ∷ rest) =
    by_name (λ (w : Text). IsEntered (words ++ w ∷ rest) (asked_after_serve transcript (w ∷ rest))) (codes "--transcript") word (given rest)
    (λ other. rw other (by_help (words ++ word ∷ rest) (is_help word)))

serve_entered : (rest : List Text) → IsEntered (codes "serve" ∷ rest) (asked_after_serve false rest)
unfolding clap_on_literals
serve_entered rest =
    serve_entered_by (codes "serve" ∷ []) false refl
    (λ rest. serve_entered_by (codes "serve" ∷ codes "--transcript" ∷ []) true refl (λ more. tt) rest) rest

-- the same for `play` with its two flags
play_entered_by : (words : List Text) (strict transcript : Bool) → IsEntered (words ++ []) (task (Play strict transcript))
    → ((rest : List Text) → IsEntered (words ++ codes "--strict" ∷ rest) (asked_after_play strict transcript (codes "--strict" ∷ rest)))
    → ((rest : List Text) → IsEntered (words ++ codes "--transcript" ∷ rest) (asked_after_play strict transcript (codes "--transcript" ∷ rest)))
    → (rest : List Text) → IsEntered (words ++ rest) (asked_after_play strict transcript rest)
play_entered_by words strict transcript alone on_strict on_transcript [] = alone
play_entered_by words strict transcript alone on_strict on_transcript (word ∷ rest) =
    let after = λ (w : Text). IsEntered (words ++ w ∷ rest) (asked_after_play strict transcript (w ∷ rest)) in
    by_name after (codes "--strict") word (on_strict rest) (λ no_strict.
    by_name after (codes "--transcript") word (on_transcript rest) (λ no_transcript.
    rw (no_strict, no_transcript) (by_help (words ++ word ∷ rest) (is_help word))))

strict_entered : (rest : List Text) → IsEntered (codes "play" ∷ codes "--strict" ∷ rest) (asked_after_play true false rest)
unfolding clap_on_literals
strict_entered rest =
    play_entered_by (codes "play" ∷ codes "--strict" ∷ []) true false refl (λ more. tt)
    (λ rest. play_entered_by (codes "play" ∷ codes "--strict" ∷ codes "--transcript" ∷ []) true true refl (λ more. tt) (λ more. tt) rest) rest

transcript_entered : (rest : List Text) → IsEntered (codes "play" ∷ codes "--transcript" ∷ rest) (asked_after_play false true rest)
unfolding clap_on_literals
transcript_entered rest =
    play_entered_by (codes "play" ∷ codes "--transcript" ∷ []) false true refl
    (λ rest. play_entered_by (codes "play" ∷ codes "--transcript" ∷ codes "--strict" ∷ []) true true refl (λ more. tt) (λ more. tt) rest) (λ more. tt) rest

play_entered : (rest : List Text) → IsEntered (codes "play" ∷ rest) (asked_after_play false false rest)
unfolding clap_on_literals
play_entered rest = play_entered_by (codes "play" ∷ []) false false refl strict_entered transcript_entered rest

version_entered : (rest : List Text) → IsEntered (codes "--version" ∷ rest) (asked_of (codes "--version" ∷ rest))
version_entered [] = tt
version_entered (more ∷ rest) = tt

-- a word that does not name a task does not ask for another task than the parse enters
other_entered : (word : Text) (rest : List Text) → bytes_eq word (codes "apply") ≡ false → bytes_eq word (codes "play") ≡ false
    → bytes_eq word (codes "serve") ≡ false → bytes_eq word (codes "check") ≡ false → bytes_eq word (codes "explain") ≡ false
    → bytes_eq word (codes "--version") ≡ false → IsEntered (word ∷ rest) (asked_of (word ∷ rest))
other_entered word rest no_apply no_play no_serve no_check no_explain no_version =
    rw (no_apply, no_play, no_serve, no_check, no_explain, no_version) (by_help (word ∷ rest) (is_help word))

pub entered_as_asked : (words : List Text) → is_for_explain words ≡ false → IsEntered words (asked_of words)
unfolding clap_on_literals
entered_as_asked [] no_explain = refl
entered_as_asked (word ∷ rest) no_explain =
    let after = λ (name : Text). IsEntered (name ∷ rest) (asked_of (name ∷ rest)) in
    by_name after (codes "apply") word (apply_entered rest) (λ no_apply.
    by_name after (codes "play") word (play_entered rest) (λ no_play.
    by_name after (codes "serve") word (serve_entered rest) (λ no_serve.
    by_name after (codes "check") word (check_entered rest) (λ no_check.
    by_name after (codes "--version") word (version_entered rest) (other_entered word rest no_apply no_play no_serve no_check no_explain)))))
