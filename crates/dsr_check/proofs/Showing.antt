-- Which choice an envelope shows: that of its last chain, and no other.
use Rattle.std.proofs.Common.{◌≡◌, ℕ, ◌-◌, ◌≤◌, List, [], ◌∷◌, Some, length, refl, ap, sym, ◌∙◌, subst, arith}
use Rattle.std.specs.Prelude.{slice_index_or}
use Rattle.dsr_names.specs.Shape.{Shape}
use Rattle.dsr_names.specs.declared.actor.Actor.{Actor}
use Rattle.dsr_chain.specs.Chain.{Chain}
use Rattle.dsr_chain.specs.declared.slot_value.SlotValue.{SlotValue}
use Rattle.dsr_envelope.specs.Pick.{IsPick}
use Rattle.dsr_envelope.specs.declared.entry.Entry.{Entry}
use Rattle.dsr_envelope.specs.declared.envelope.Envelope.{Envelope}
use Rattle.dsr_envelope.specs.declared.pick.Pick.{Pick}
use Rattle.dsr_replica.specs.Conduct.{envelope_to}
use Rattle.dsr_replica.specs.Shown.{last_value, shown_choice}
use Rattle.dsr_replica.proofs.Lemmas.{choice_shown}

last_at : (value : SlotValue) (chain : Chain) (more : List Chain) (d : Chain)
    → last_value value (chain ∷ more) ≡ (slice_index_or (chain ∷ more) (length more) d).value
last_at value chain [] d = refl
last_at value chain (next ∷ more) d = last_at chain.value next more d

-- the last value is that of the chain at the last place
pub last_is : (value : SlotValue) (chains : List Chain) (last : Chain) → 1 ≤ length chains → last ≡ slice_index_or chains (length chains - 1) last
    → last_value value chains ≡ last.value
last_is value [] last some is = absurd (omega (arith, some))
last_is value (chain ∷ more) last some is =
    let place : length more ≡ length (chain ∷ more) - 1 = omega arith in
    last_at value chain more last ∙ ap (λ (c : Chain). c.value) (ap (λ i. slice_index_or (chain ∷ more) i last) place ∙ sym is)

-- if some choice gives the envelope, it is the one that was read off it
pub pick_is : (shape : Shape) (me : Actor) (log : List Entry) (q : ℕ) (x : Envelope) (ours : Pick) → (IsPick (shown_choice shape me q x) → ours ≡ shown_choice shape me q x)
    → (pick : Pick) → IsPick pick → envelope_to shape me log q pick ≡ Some x → pick ≡ ours
pick_is shape me log q x ours shown pick good e =
    let is = choice_shown shape me log q pick x good e in
    is ∙ sym (shown (subst IsPick is good))

-- so the envelope is what our choice gives
pub ours_gives : (shape : Shape) (me : Actor) (log : List Entry) (q : ℕ) (x : Envelope) (ours : Pick) → (IsPick (shown_choice shape me q x) → ours ≡ shown_choice shape me q x)
    → (pick : Pick) → IsPick pick → envelope_to shape me log q pick ≡ Some x → envelope_to shape me log q ours ≡ Some x
ours_gives shape me log q x ours shown pick good e = subst (λ p. envelope_to shape me log q p ≡ Some x) (pick_is shape me log q x ours shown pick good e) e
