-- How words are read without `clap`: the values of options, and calls for help.
use Rattle.std.proofs.Common.{is_some, take, ◌-◌, ◌≡◌, ◌≢◌, ◌⊎◌, inl, inr, ◌∙◌, ◌<◌, ◌^◌, ◌&&◌, ℕ, Bool, true, false, refl, sym, ap, subst, arith, List, [], ◌∷◌, Option, None, Some, codes, drop, get_or, length, map, nat_lt, ◌≤◌, true≢false}
use Rattle.std.specs.Bool.{Decides}
use Rattle.std.specs.Option.{option_and_then, option_map_or}
use Rattle.std.proofs.lemmas.Grind.{common_steps}
use Rattle.std.specs.Prelude.{◌==◌, if◌then◌else◌}
use Rattle.std.specs.Fmt.{decimal}
use Rattle.std.specs.Str.{bytes_eq}
use Rattle.std.specs.Str.Parse.{digits_value}
use Rattle.std.proofs.lemmas.Bool.Decides.{Decides-and, Decides-eqb, Decides-ltb}
use Rattle.std.proofs.lemmas.Fmt.{decimal_is_IsNumeral}
use Rattle.std.proofs.lemmas.Slice.Eq.{bytes_eq-Decides}
use Rattle.dsr_base.specs.Reads.{Reads}
use Rattle.dsr_names.specs.Actor.{IsNumbered, actor_text, client_text, replica_text}
use Rattle.dsr_names.specs.declared.actor.Actor.{Actor}
use Rattle.dsr_names.specs.declared.actor.Actor.TheVariants.{Client, Replica}
use Rattle.dsr_command.specs.Asked.{an_option, asked_after_explain, unknown}
use Rattle.dsr_command.specs.declared.narrowing.Narrowing.{Narrowing}
use Rattle.dsr_command.specs.Values.{actor_of, slot_of}
use Rattle.dsr_command.specs.Wishes.{first_of, is_short_help}

-- ---- values

-- the decimal of a number has this number as its value
value_of : (n : ℕ) → n < 2 ^ 64 → digits_value 10 (decimal n) ≡ n
value_of n small = (decimal_is_IsNumeral n small).1

-- what is read as a value is the candidate if this test passes, and nothing else, if no other value is possible
by_candidate : {X : Type 0} (is : X → Type 0) (text : X → List ℕ) (word : List ℕ) (r : Option X) (x : X) (b : Bool) → Reads is text word r
    → Decides b (is x × (word ≡ text x)) → ((y : X) → is y → word ≡ text y → x ≡ y) → r ≡ (if b then Some x else None)
by_candidate is text word r x true reads decides only = (reads x).1 (decides.0 refl)
by_candidate is text word None x false reads decides only = refl
by_candidate is text word (Some y) x false reads decides only =
    let h = (reads y).0 refl in
    absurd (true≢false (sym (decides.1 (subst is (sym (only y h.0 h.1)) h.0, h.1 ∙ ap text (sym (only y h.0 h.1))))))

-- the same for two candidates
by_candidates : {X : Type 0} (is : X → Type 0) (text : X → List ℕ) (word : List ℕ) (r : Option X) (x y : X) (b d : Bool) → Reads is text word r
    → Decides b (is x × (word ≡ text x)) → Decides d (is y × (word ≡ text y)) → ((z : X) → is z → word ≡ text z → (x ≡ z) ⊎ (y ≡ z))
    → r ≡ (if b then Some x else (if d then Some y else None))
by_candidates is text word r x y true d reads first second only = (reads x).1 (first.0 refl)
by_candidates is text word r x y false true reads first second only = (reads y).1 (second.0 refl)
by_candidates is text word None x y false false reads first second only = refl
by_candidates {X} is text word (Some z) x y false false reads first second only = go (only z h.0 h.1)
  where
    h : is z × (word ≡ text z)
    h = (reads z).0 refl

    candidate : (w : X) → w ≡ z → is w × (word ≡ text w)
    candidate w e = subst (λ (v : X). is v × (word ≡ text v)) (sym e) h

    go : (x ≡ z) ⊎ (y ≡ z) → Some z ≡ None
    go (inl e) = absurd (true≢false (sym (first.1 (candidate x e))))
    go (inr e) = absurd (true≢false (sym (second.1 (candidate y e))))

pub slot_read : (word : List ℕ) (r : Option ℕ) → Reads (λ n. n < 2 ^ 40) decimal word r → r ≡ slot_of word
slot_read word r reads =
    let n = digits_value 10 word in
    by_candidate (λ n. n < 2 ^ 40) decimal word r n (nat_lt n (2 ^ 40) && bytes_eq word (decimal n)) reads
    (Decides-and (nat_lt n (2 ^ 40)) (bytes_eq word (decimal n)) (Decides-ltb n (2 ^ 40)) (bytes_eq-Decides word (decimal n)))
    (λ y small is. ap (digits_value 10) is ∙ value_of y (omega (arith, small)))

-- the actor of a word is one of two, given by the digits after its letter
one_of_two : (word : List ℕ) (y : Actor) → IsNumbered y → word ≡ actor_text y
    → (Replica (digits_value 10 (drop 1 word)) ≡ y) ⊎ (Client (digits_value 10 (drop 1 word)) ≡ y)
one_of_two word (Replica m) small is =
    inl (ap Replica (ap (λ (w : List ℕ). digits_value 10 (drop 1 w)) is ∙ value_of m (omega (arith, small))))
one_of_two word (Client m) small is =
    inr (ap Client (ap (λ (w : List ℕ). digits_value 10 (drop 1 w)) is ∙ value_of m (omega (arith, small))))

pub actor_read : (word : List ℕ) (r : Option Actor) → Reads IsNumbered actor_text word r → r ≡ actor_of word
actor_read word r reads =
    let n = digits_value 10 (drop 1 word) in
    by_candidates IsNumbered actor_text word r (Replica n) (Client n) (nat_lt n 16 && bytes_eq word (replica_text n))
    (nat_lt n 32 && bytes_eq word (client_text n)) reads
    (Decides-and (nat_lt n 16) (bytes_eq word (replica_text n)) (Decides-ltb n 16) (bytes_eq-Decides word (replica_text n)))
    (Decides-and (nat_lt n 32) (bytes_eq word (client_text n)) (Decides-ltb n 32) (bytes_eq-Decides word (client_text n)))
    (one_of_two word)

-- ---- the first word

-- the first word of a list that is not empty
pub first_is : {X : Type 0} (text : X → List ℕ) (xs : List X) (x : X) → 1 ≤ length xs → x ≡ get_or xs 0 x → first_of (map text xs) ≡ Some (text x)
first_is text [] x some is = absurd (omega arith)
first_is text (y ∷ ys) x some is = ap (λ z. Some (text z)) (sym is)

-- the words after the first, in the form of the code's slice
abbrev pub rest_of : {X : Type 0} → List X → List X
rest_of xs = take (length xs - 1) (drop 1 xs)

rest_is : {X : Type 0} (y : X) (ys : List X) → rest_of (y ∷ ys) ≡ ys
rest_is y ys = grind (arith, common_steps)

rest_whole : {X : Type 0} (xs : List X) → rest_of xs ≡ drop 1 xs
rest_whole [] = refl
rest_whole (x ∷ xs) = rest_is x xs

-- dropping the first word commutes with taking texts
drop_map : {X : Type 0} (text : X → List ℕ) (xs : List X) → drop 1 (map text xs) ≡ map text (drop 1 xs)
drop_map text [] = refl
drop_map text (x ∷ xs) = refl

-- the words after `--slot`, if no slot was named before
after_slot : (so_far : Narrowing) (word : List ℕ) (rest : List (List ℕ)) (slot : Option ℕ) → word ≡ codes "--slot" → is_some so_far.slot ≡ false
    → slot ≡ option_and_then slot_of (first_of rest)
    → asked_after_explain an_option so_far (word ∷ rest)
    ≡ option_map_or (λ n. asked_after_explain an_option (record so_far { slot = Some n }) (drop 1 rest)) slot unknown
after_slot so_far word [] slot named none is = rw (named, none, is) refl
after_slot so_far word (value ∷ rest) slot named none is = rw (named, none, is) refl

-- the same for words as the code has them
pub slot_words : {X : Type 0} (text : X → List ℕ) (words : List X) (first : X) (word : List ℕ) (so_far : Narrowing) (slot : Option ℕ)
    → 1 ≤ length words → first ≡ get_or words 0 first → word ≡ text first → true ≡ bytes_eq word (codes "--slot") → is_some so_far.slot ≡ false
    → slot ≡ option_and_then slot_of (first_of (map text (rest_of words)))
    → asked_after_explain an_option so_far (map text words)
    ≡ option_map_or (λ n. asked_after_explain an_option (record so_far { slot = Some n }) (map text (rest_of (rest_of words))))
    slot unknown
slot_words text [] first word so_far slot some is spelled named none given = absurd (omega arith)
slot_words text (x ∷ xs) first word so_far slot some is spelled named none given =
    let named_so : text x ≡ codes "--slot" = ap text (sym is) ∙ sym spelled ∙ (bytes_eq-Decides word (codes "--slot")).0 (sym named) in
    let given_so : slot ≡ option_and_then slot_of (first_of (map text xs)) = given ∙ ap (λ l. option_and_then slot_of (first_of (map text l))) (rest_is x xs) in
    after_slot so_far (text x) (map text xs) slot named_so none given_so
    ∙ ap (λ l. option_map_or (λ n. asked_after_explain an_option (record so_far { slot = Some n }) l) slot unknown)
    (drop_map text xs ∙ ap (map text) (sym (rest_whole xs) ∙ ap rest_of (sym (rest_is x xs))))

-- the words after `--actor`, if no actor was named before
after_actor : (so_far : Narrowing) (word : List ℕ) (rest : List (List ℕ)) (actor : Option Actor) → word ≡ codes "--actor" → is_some so_far.actor ≡ false
    → actor ≡ option_and_then actor_of (first_of rest)
    → asked_after_explain an_option so_far (word ∷ rest)
    ≡ option_map_or (λ a. asked_after_explain an_option (record so_far { actor = Some a }) (drop 1 rest)) actor unknown
after_actor so_far word [] actor named none is = rw (named, none, is) refl
after_actor so_far word (value ∷ rest) actor named none is = rw (named, none, is) refl

-- the same for words as the code has them
pub actor_words : {X : Type 0} (text : X → List ℕ) (words : List X) (first : X) (word : List ℕ) (so_far : Narrowing) (actor : Option Actor)
    → 1 ≤ length words → first ≡ get_or words 0 first → word ≡ text first → true ≡ bytes_eq word (codes "--actor") → is_some so_far.actor ≡ false
    → actor ≡ option_and_then actor_of (first_of (map text (rest_of words)))
    → asked_after_explain an_option so_far (map text words)
    ≡ option_map_or (λ a. asked_after_explain an_option (record so_far { actor = Some a }) (map text (rest_of (rest_of words))))
    actor unknown
actor_words text [] first word so_far actor some is spelled named none given = absurd (omega arith)
actor_words text (x ∷ xs) first word so_far actor some is spelled named none given =
    let named_so : text x ≡ codes "--actor" = ap text (sym is) ∙ sym spelled ∙ (bytes_eq-Decides word (codes "--actor")).0 (sym named) in
    let given_so : actor ≡ option_and_then actor_of (first_of (map text xs)) = given ∙ ap (λ l. option_and_then actor_of (first_of (map text l))) (rest_is x xs) in
    after_actor so_far (text x) (map text xs) actor named_so none given_so
    ∙ ap (λ l. option_map_or (λ a. asked_after_explain an_option (record so_far { actor = Some a }) l) actor unknown)
    (drop_map text xs ∙ ap (map text) (sym (rest_whole xs) ∙ ap rest_of (sym (rest_is x xs))))

-- ---- calls for help

-- a text that is not a hyphen followed by a rest does not begin with a hyphen
pub no_hyphen : (word : List ℕ) → ((rest : List ℕ) → word ≢ 45 ∷ rest) → is_short_help word ≡ false
no_hyphen [] none = refl
no_hyphen (x ∷ xs) none = go (45 == x) refl
  where
    go : (b : Bool) → (45 == x) ≡ b → is_short_help (x ∷ xs) ≡ false
    go true e = absurd (none xs (ap (λ (y : ℕ). y ∷ xs) (sym ((Decides-eqb 45 x).0 e))))
    go false e = rw e refl
