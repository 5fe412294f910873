-- What the first item of a list, and the rest of it, say about all.
use Rattle.std.proofs.Common.{◌≡◌, ℕ, ◌-◌, ◌≤◌, List, [], ◌∷◌, Option, None, Some, length, map, ◌⊎◌, inl, inr, refl, ap, sym, ◌∙◌, subst, take, drop, arith}
use Rattle.std.specs.Prelude.{IfSome, IfNone, slice_index_or}
use Rattle.std.proofs.lemmas.List.{take_all}
use Rattle.std.proofs.lemmas.Option.{none-some}
use Rattle.dsr_base.specs.Member.{In, here, there}
use Rattle.dsr_desk.specs.Signature.{Signature}
use Rattle.dsr_chain.specs.Chain.{Chain}
use Rattle.dsr_envelope.specs.Envelope.{IsOn}
use Rattle.dsr_script.specs.Support.Carried.{IsOnOne}

-- a list is its first item and the rest
pub parts : {A : Type 0} → (xs : List A) (first : A) → 1 ≤ length xs → first ≡ slice_index_or xs 0 first
    → xs ≡ first ∷ take (length xs - 1) (drop 1 xs)
parts [] first some is = absurd (omega (arith, some))
parts (x ∷ rest) first some is =
    let whole : take (length (x ∷ rest) - 1) rest ≡ rest = take_all (length (x ∷ rest) - 1) rest (omega arith) in
    ap (λ y. y ∷ rest) (sym is) ∙ ap (λ ys. first ∷ ys) (sym whole)

pub some_weaker : {A : Type 0} → (o : Option A) (P Q : A → Type 0) → ((a : A) → P a → Q a) → IfSome o P → IfSome o Q
some_weaker None P Q f h = tt
some_weaker (Some a) P Q f h = f a h

pub none_weaker : {A : Type 0} → (o : Option A) (P Q : Type 0) → (P → Q) → IfNone o P → IfNone o Q
none_weaker None P Q f h = f h
none_weaker (Some a) P Q f h = tt

pub where_none : {A : Type 0} → (o : Option A) (P : Type 0) → o ≡ None → IfNone o P → P
where_none None P e h = h
where_none (Some a) P e h = absurd (none-some a (sym e))

-- what holds of the first and of each other holds of each
pub each_more : {A : Type 0} → (P : A → Type 0) (x : A) (xs : List A) → P x → ((a : A) → In a xs → P a) → (a : A) → In a (x ∷ xs) → P a
each_more P x xs first rest a (here e) = subst P e first
each_more P x xs first rest a (there inside) = rest a inside

-- the same of what is on chains
pub on_more : (P : Signature → Type 0) (x : Chain) (xs : List Chain) → ((s : Signature) → IsOn s x → P s) → ((s : Signature) → IsOnOne xs s → P s)
    → (s : Signature) → IsOnOne (x ∷ xs) s → P s
on_more P x xs first rest s on =
    each_more (λ chain. IsOn s chain → P s) x xs (first s) (λ chain inside is. rest s (chain, inside, is)) on.0 on.1 on.2
