-- Which choice an envelope shows: that of its last chain, and no other.
use Rattle.std.proofs.Common.{◌≡◌, ℕ, ◌-◌, ◌≤◌, List, [], ◌∷◌, Option, None, Some, length, refl, ap, sym, ◌∙◌, subst, arith}
use Rattle.std.specs.Prelude.{◌↔◌, IfSome, IsSome, slice_index_or}
use Rattle.std.proofs.lemmas.Bool.{false≢true}
use Rattle.dsr_names.specs.Shape.{Shape}
use Rattle.dsr_names.specs.declared.actor.Actor.{Actor}
use Rattle.dsr_chain.specs.Chain.{Chain}
use Rattle.dsr_chain.specs.declared.slot_value.SlotValue.{SlotValue}
use Rattle.dsr_envelope.specs.Pick.{IsClients, IsPick}
use Rattle.dsr_envelope.specs.declared.entry.Entry.{Entry}
use Rattle.dsr_envelope.specs.declared.envelope.Envelope.{Envelope}
use Rattle.dsr_envelope.specs.declared.pick.Pick.{Pick}
use Rattle.dsr_envelope.specs.declared.pick.Pick.TheVariants.{Plain, From}
use Rattle.dsr_replica.specs.Conduct.{envelope_to}
use Rattle.dsr_replica.specs.Shown.{choice_of, last_value, shown_choice}
use Rattle.dsr_replica.proofs.Lemmas.{choice_shown}
use Rattle.dsr_facts.specs.Fault.{choice_by, IsRead}

last_at : (value : SlotValue) (chain : Chain) (more : List Chain) (d : Chain)
    → last_value value (chain ∷ more) ≡ (slice_index_or (chain ∷ more) (length more) d).value
last_at value chain [] d = refl
last_at value chain (next ∷ more) d = last_at chain.value next more d

-- the last value is that of the chain at the last place
pub last_is : (value : SlotValue) (chains : List Chain) (last : Chain) → 1 ≤ length chains → last ≡ slice_index_or chains (length chains - 1) last
    → last_value value chains ≡ last.value
last_is value [] last some is = absurd (omega (arith, some))
last_is value (chain ∷ more) last some is =
    let place : length more ≡ length (chain ∷ more) - 1 = omega arith in
    last_at value chain more last ∙ ap (λ (c : Chain). c.value) (ap (λ i. slice_index_or (chain ∷ more) i last) place ∙ sym is)

-- if some choice gives the envelope, it is the one that was read off it
pub pick_is : (shape : Shape) (me : Actor) (log : List Entry) (q : ℕ) (x : Envelope) (ours : Pick) → (IsPick (shown_choice shape me q x) → ours ≡ shown_choice shape me q x)
    → (pick : Pick) → IsPick pick → envelope_to shape me log q pick ≡ Some x → pick ≡ ours
pick_is shape me log q x ours shown pick good e =
    let is = choice_shown shape me log q pick x good e in
    is ∙ sym (shown (subst IsPick is good))

-- so the envelope is what our choice gives
pub ours_gives : (shape : Shape) (me : Actor) (log : List Entry) (q : ℕ) (x : Envelope) (ours : Pick) → (IsPick (shown_choice shape me q x) → ours ≡ shown_choice shape me q x)
    → (pick : Pick) → IsPick pick → envelope_to shape me log q pick ≡ Some x → envelope_to shape me log q ours ≡ Some x
ours_gives shape me log q x ours shown pick good e = subst (λ p. envelope_to shape me log q p ≡ Some x) (pick_is shape me log q x ours shown pick good e) e

-- the choice of the clients that were read off an envelope is the one that it shows, or plain
pub read_off : (shape s : Shape) (me : Actor) (q : ℕ) (x : Envelope) (clients : Option (List ℕ)) (pick : Pick) → s ≡ shape → pick ≡ choice_by clients
    → (IsPick (shown_choice s me q x) → choice_by clients ≡ shown_choice s me q x) → ((IsPick (shown_choice s me q x) → ⊥) → choice_by clients ≡ Plain)
    → IsRead shape me q x pick × ((IsPick (shown_choice shape me q x) → ⊥) → pick ≡ Plain)
read_off shape s me q x clients pick same is shown plain =
    subst (λ s. (IsPick (shown_choice s me q x) → pick ≡ shown_choice s me q x) × ((IsPick (shown_choice s me q x) → ⊥) → pick ≡ Plain)) same
    (λ good. is ∙ shown good, λ bad. is ∙ plain bad)

-- the choice of these clients, as far as they can be chosen
pub choice_made : (clients xs : List ℕ) (o : Option (List ℕ)) → xs ≡ clients → IfSome o (λ list. list ≡ xs) → IsSome o ↔ IsClients xs
    → IsPick (choice_of clients) → choice_by o ≡ choice_of clients
choice_made [] xs None is some when good = refl
choice_made [] xs (Some list) is some when good = absurd (omega (arith, (when.0 refl).some, ap length is))
choice_made (client ∷ more) xs None is some when good = absurd (false≢true (when.1 (subst IsClients (sym is) good)))
choice_made (client ∷ more) xs (Some list) is some when good = ap From (some ∙ is)

pub none_made : (clients xs : List ℕ) (o : Option (List ℕ)) → xs ≡ clients → IsSome o ↔ IsClients xs → (IsPick (choice_of clients) → ⊥) → choice_by o ≡ Plain
none_made clients xs None is when bad = refl
none_made [] xs (Some list) is when bad = absurd (bad tt)
none_made (client ∷ more) xs (Some list) is when bad = absurd (bad (subst IsClients is (when.0 refl)))
