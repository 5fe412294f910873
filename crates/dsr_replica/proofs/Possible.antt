-- A post that is due can be made: the plain choice gives an envelope for it.
use Rattle.std.proofs.Common.{◌≡◌, ℕ, zero, suc, ◌<◌, nat_lt, List, None, Some, if◌then◌else◌, inl, inr, refl, ap, sym, ◌∙◌, subst, arith}
use Rattle.std.specs.Prelude.{IsSome}
use Rattle.std.proofs.lemmas.Bool.Decides.{Decides-eqb, nat_tests}
use Rattle.std.proofs.lemmas.Option.{slice_get_cases}
use Rattle.dsr_names.specs.Shape.{Shape}
use Rattle.dsr_names.specs.declared.actor.Actor.{Actor}
use Rattle.dsr_names.specs.declared.actor.Actor.TheVariants.{Replica}
use Rattle.dsr_chain.specs.declared.slot_value.SlotValue.TheVariants.{Idle}
use Rattle.dsr_envelope.specs.declared.envelope.Envelope.{Envelope}
use Rattle.dsr_envelope.specs.declared.entry.Entry.{Entry}
use Rattle.dsr_envelope.specs.declared.due.Due.TheVariants.{Post as PostTo}
use Rattle.dsr_envelope.specs.declared.pick.Pick.TheVariants.{Plain}
use Rattle.dsr_envelope.specs.Log.{posted_to, due, rounds}
use Rattle.dsr_replica.specs.Conduct.{envelope_with, chosen, is_due, envelope_to, IsLoyalLog}
use Rattle.dsr_replica.specs.Counts.{posts_at}
use Rattle.dsr_replica.proofs.Counting.{counts}

module _ (shape : Shape) (me : Actor) (log : List Entry) where
  -- what is chosen at a post that is due is its envelope
  due_gives : (q : ℕ) → due shape log ≡ PostTo q → (envelope : Envelope) → chosen shape me log q Plain ≡ Some envelope
      → envelope_to shape me log q Plain ≡ Some envelope
  due_gives q is envelope e =
      ap (λ b. if b then chosen shape me log q Plain else None) (ap (λ d. is_due d q) is ∙ (Decides-eqb q q).1 refl) ∙ e

  -- if the post to a later replica is due, replica 0 got one more post than there are closed rounds
  one_more : (t q : ℕ) → (if nat_lt 0 (suc q) then suc t else t) ≡ suc t
  one_more t q = grind (arith, nat_tests)

  pub plain_possible : 0 < shape.n → IsLoyalLog shape me log → (q : ℕ) → due shape log ≡ PostTo q → IsSome (envelope_to shape me log q Plain)
  plain_possible some loyal zero is =
      subst IsSome (sym (due_gives 0 is (envelope_with shape me log Idle) refl)) refl
  plain_possible some loyal (suc q) is = elim (slice_get_cases (posted_to (Replica 0) log) (rounds shape log)).1 [
    | inl there ↦ subst IsSome (sym (due_gives (suc q) is there.0 there.2)) refl
    | inr past ↦
        let count = (counts shape me some log loyal).posts 0 some ∙ (ap (λ d. posts_at d (rounds shape log) 0) is ∙ one_more (rounds shape log) q) in
        let most = past.0 in
        absurd (omega (arith, count, most))
  ]
