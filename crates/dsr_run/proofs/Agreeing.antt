-- Agreement and validity in a run: loyal replicas decide the same for each slot that they have closed, and what a loyal sender posted.
use Rattle.std.proofs.Common.{◌≡◌, ℕ, suc, ◌+◌, ◌<◌, ◌≤◌, Bool, true, false, List, ◌++◌, Option, None, Some, ◌⊎◌, inl, inr, refl, ap, sym, ◌∙◌, subst, arith}
use Rattle.std.specs.Prelude.{slice_get}
use Rattle.std.proofs.lemmas.Bool.{cases_lt, false≢true}
use Rattle.std.proofs.lemmas.List.Elements.{All-nil}
use Rattle.std.proofs.lemmas.Option.{none-some, same_Some}
use Rattle.dsr_base.specs.Growth.{Extends}
use Rattle.dsr_base.specs.Member.{In}
use Rattle.dsr_names.specs.Shape.{Shape, HasFewTraitors, is_traitor, IsLoyal, sender}
use Rattle.dsr_names.specs.declared.actor.Actor.TheVariants.{Replica}
use Rattle.dsr_rotation.specs.Calendar.{first_round, last_round, closed_slots}
use Rattle.dsr_rotation.proofs.Lemmas.{closed_below}
use Rattle.dsr_desk.specs.Signature.{Signature}
use Rattle.dsr_chain.specs.Chain.{Chain}
use Rattle.dsr_chain.specs.Proper.{IsAsked, sender_of}
use Rattle.dsr_chain.specs.declared.slot_value.SlotValue.{SlotValue}
use Rattle.dsr_chain.specs.declared.slot_value.SlotValue.TheVariants.{Idle}
use Rattle.dsr_slot.specs.Broadcast.{WasPosted, IsBroadcast, IsLinkOf, decided_by}
use Rattle.dsr_slot.specs.Conduct.{posted}
use Rattle.dsr_slot.specs.Decision.{decision}
use Rattle.dsr_slot.proofs.Lemmas.{agreement, validity}
use Rattle.dsr_envelope.specs.declared.envelope.Envelope.{Envelope}
use Rattle.dsr_envelope.specs.declared.entry.Entry.TheVariants.{Take}
use Rattle.dsr_replica.specs.Decided.{sent, slot_decided, decided_values}
use Rattle.dsr_envelope.specs.Log.{posted_to, taken_from, rounds}
use Rattle.dsr_replica.proofs.Lemmas.{lawful_posts, taken_entry, in_some, carried_for, values_same, values_grow}
use Rattle.dsr_base.proofs.MemberLemmas.{In-from_place}
use Rattle.dsr_run.specs.Run.{IsTraitor, HasPosted, IsRun}
use Rattle.dsr_run.specs.Step.{Step, log_of}
use Rattle.dsr_run.proofs.Family.{log, Loyal, given_by, loyal_log, loyal_gives, traitor_gives, rounds_near, kept_is}
use Rattle.dsr_run.proofs.Forging.{all_made}
use Rattle.dsr_run.proofs.Posts.{IsValue}
use Rattle.dsr_run.proofs.Signing.{IsSigned, link_signed}

module _ (shape : Shape) (run : List Step) (is : IsRun shape run) (slot : ℕ) where
  -- ---- the value

  -- there is a value that a loyal sender posted; if it posted none, or is a traitor, idle will do
  pub some_value : (value : SlotValue) × IsValue shape (log shape run is slot (sender shape slot)) slot value
  some_value = by_sender (is_traitor shape (sender shape slot)) refl
    where
      idle : (IsLoyal shape (sender_of shape slot) → (envelope : Envelope)
          → slice_get (posted_to (Replica 0) (log_of run (sender_of shape slot))) (first_round shape slot) ≡ Some envelope → ⊥)
          → (value : SlotValue) × IsValue shape (log_of run (sender_of shape slot)) slot value
      idle none = (Idle, record { asked = All-nil (IsAsked shape); is = λ loyal envelope e. absurd (none loyal envelope e) })

      by_post : is_traitor shape (sender shape slot) ≡ false → sender shape slot < shape.n → (o : Option Envelope)
          → slice_get (posted_to (Replica 0) (log_of run (sender_of shape slot))) (first_round shape slot) ≡ o
          → (value : SlotValue) × IsValue shape (log_of run (sender_of shape slot)) slot value
      by_post loyal inside None e = idle (λ l envelope f. none-some envelope (sym e ∙ f))
      by_post loyal inside (Some x) e =
          let h =
          lawful_posts shape (sender_of shape slot) (omega (arith, inside)) (log_of run (sender_of shape slot))
          (loyal_log shape run is slot (sender shape slot) (inside, loyal)) (first_round shape slot) x e in
          (h.value, record { asked = h.may.asked; is = λ l envelope f. same_Some envelope x (sym f ∙ e) ∙ h.is })

      by_sender : (b : Bool) → is_traitor shape (sender shape slot) ≡ b → (value : SlotValue) × IsValue shape (log_of run (sender_of shape slot)) slot value
      by_sender true traitor = idle (λ loyal envelope e. false≢true (sym loyal.1 ∙ traitor))
      by_sender false loyal = elim (cases_lt (sender shape slot) shape.n) [
        | inl inside ↦
            by_post loyal inside (slice_get (posted_to (Replica 0) (log_of run (sender_of shape slot))) (first_round shape slot)) refl
        | inr outside ↦ idle (λ l envelope e. let inside = l.0 in omega (arith, outside, inside))
      ]

  -- ---- the broadcast

  module _ (value : SlotValue) (its : IsValue shape (log shape run is slot (sender shape slot)) slot value) where
    -- what is in a loyal replica's part of the slot is in what it gave
    signed_given : (l : ℕ) → Loyal shape run is slot l → (s : Signature)
        → IsSigned shape (Replica l) (log shape run is slot l) slot value s → WasPosted shape (given_by shape run is slot value) l s
    signed_given l loyal s h = record {
      round = h.round;
      taker = h.taker;
      chain = h.chain;
      within = h.within;
      inside = h.inside;
      stands = subst (In h.chain) (sym (loyal_gives shape run is slot value h.round l h.taker loyal)) h.stands;
      signed = h.signed;
    }

    -- a link of the slot that a loyal replica signed, given by anybody, was posted by it in a round of the slot
    link_given : (r poster taker l : ℕ) (c : Chain) (s : Signature) → is_traitor shape poster ≡ true
        → In c (given_by shape run is slot value (suc r) poster taker) → In s c.signatures → Loyal shape run is slot l → s.signer ≡ Replica l
        → IsLinkOf slot s.statement → WasPosted shape (given_by shape run is slot value) l s
    link_given r poster taker l c s traitor h stands loyal signer link =
        let t = first_round shape slot + r in
        let from : In c (sent (log shape run is slot taker) t poster) = subst (In c) (traitor_gives shape run is slot value r poster taker traitor) h in
        let found = in_some t (slice_get (taken_from (Replica poster) (log shape run is slot taker)) t) c from in
        let entry =
        taken_entry (Replica poster) (log shape run is slot taker) found.0
        (In-from_place found.0 (taken_from (Replica poster) (log shape run is slot taker)) t found.1) in
        let made = all_made shape run is (Replica taker) (Take (Replica poster) found.0) entry s (carried_for t found.0 c s found.2 (inl stands)) in
        let by = not_traitor l loyal (subst (λ a. IsTraitor shape a ⊎ HasPosted (log_of run a) s) signer made) in
        signed_given l loyal s (link_signed shape (log shape run is slot) (loyal_log shape run is slot) slot value its l loyal s signer link by)
      where
        not_traitor : (l : ℕ) → Loyal shape run is slot l → (IsTraitor shape (Replica l) ⊎ HasPosted (log_of run (Replica l)) s)
            → HasPosted (log_of run (Replica l)) s
        not_traitor l loyal (inl traitor) = absurd (false≢true (sym loyal.1 ∙ traitor.1))
        not_traitor l loyal (inr posted) = posted

    -- if each loyal replica has closed the slot's first f rounds, the slot is a broadcast
    pub is_broadcast : ((p : ℕ) → Loyal shape run is slot p → last_round shape slot ≤ rounds shape (log shape run is slot p))
        → IsBroadcast shape slot value (given_by shape run is slot value)
    is_broadcast closed = record {
      asked = its.asked;
      loyal = λ r poster taker within loyal inside.
          let all = closed poster loyal in
          loyal_gives shape run is slot value r poster taker loyal
          ∙ ap (posted shape slot (Replica poster) value (suc r))
          (kept_is shape run is slot value its poster loyal r (omega (arith, within)) (omega (arith, within, all)));
      unforged = λ r poster taker l c s within inside traitor inside_too h stands loyal signer link.
          link_given r poster taker l c s traitor h stands loyal signer link;
    }

    -- what a loyal replica that has closed the slot decided is the broadcast's decision
    pub decided_is : (p : ℕ) → Loyal shape run is slot p → last_round shape slot < rounds shape (log shape run is slot p)
        → slot_decided shape (log shape run is slot p) slot ≡ decided_by shape slot (given_by shape run is slot value) p
    decided_is p loyal closed =
        ap decision (kept_is shape run is slot value its p loyal (suc shape.f) (omega arith) (omega (arith, closed)))

  -- if one loyal replica has closed the slot, the others have closed all its rounds, except perhaps the last
  pub all_near : (q : ℕ) → Loyal shape run is slot q → last_round shape slot < rounds shape (log shape run is slot q)
      → (p : ℕ) → Loyal shape run is slot p → last_round shape slot ≤ rounds shape (log shape run is slot p)
  all_near q loyal closed p loyal_too = let near = rounds_near shape run is slot p q loyal_too loyal in omega (arith, closed, near)

  -- two loyal replicas that have closed the slot decided the same for it
  pub same_decided : HasFewTraitors shape → (p q : ℕ) → Loyal shape run is slot p → Loyal shape run is slot q
      → last_round shape slot < rounds shape (log shape run is slot p) → last_round shape slot < rounds shape (log shape run is slot q)
      → slot_decided shape (log shape run is slot p) slot ≡ slot_decided shape (log shape run is slot q) slot
  same_decided few p q loyal loyal_too closed closed_too =
      let v = some_value in
      decided_is v.0 v.1 p loyal closed
      ∙ (agreement shape slot v.0 (given_by shape run is slot v.0) (is_broadcast v.0 v.1 (all_near p loyal closed)) few p q loyal loyal_too
      ∙ sym (decided_is v.0 v.1 q loyal_too closed_too))

  -- with a loyal sender, a loyal replica that has closed the slot decided the sender's value
  pub decided_value : IsLoyal shape (sender_of shape slot) → (p : ℕ) → Loyal shape run is slot p
      → last_round shape slot < rounds shape (log shape run is slot p) → (value : SlotValue)
      → IsValue shape (log shape run is slot (sender shape slot)) slot value → slot_decided shape (log shape run is slot p) slot ≡ value
  decided_value sends p loyal closed value its =
      decided_is value its p loyal closed
      ∙ validity shape slot value (given_by shape run is slot value) (is_broadcast value its (all_near p loyal closed)) sends p loyal

-- ---- all closed slots

module _ (shape : Shape) (few : HasFewTraitors shape) (run : List Step) (is : IsRun shape run) where
  -- if one of two loyal replicas has closed at least as many slots as the other, it has decided what the other has, and perhaps more after it
  pub decided_extends : (p q : ℕ) → IsLoyal shape (Replica p) → IsLoyal shape (Replica q)
      → closed_slots shape (rounds shape (log_of run (Replica q))) ≤ closed_slots shape (rounds shape (log_of run (Replica p)))
      → Extends (decided_values shape (log_of run (Replica p))) (decided_values shape (log_of run (Replica q)))
  decided_extends p q loyal loyal_too more =
      let mine = closed_slots shape (rounds shape (log_of run (Replica p))) in
      let theirs = closed_slots shape (rounds shape (log_of run (Replica q))) in
      let grown = values_grow (slot_decided shape (log_of run (Replica p))) theirs mine more in
      let same = values_same (slot_decided shape (log_of run (Replica p))) (slot_decided shape (log_of run (Replica q))) theirs
      (λ slot closed. same_decided shape run is slot few p q loyal loyal_too
      (closed_below shape slot (rounds shape (log_of run (Replica p))) (omega (arith, closed, more)))
      (closed_below shape slot (rounds shape (log_of run (Replica q))) closed)) in
      (grown.0, grown.1 ∙ ap (λ vs. grown.0 ++ vs) same)

  -- one of two loyal replicas' lists of decided values is a prefix of the other
  pub one_extends : (p q : ℕ) → IsLoyal shape (Replica p) → IsLoyal shape (Replica q)
      → Extends (decided_values shape (log_of run (Replica p))) (decided_values shape (log_of run (Replica q)))
      ⊎ Extends (decided_values shape (log_of run (Replica q))) (decided_values shape (log_of run (Replica p)))
  one_extends p q loyal loyal_too =
      let mine = closed_slots shape (rounds shape (log_of run (Replica p))) in
      let theirs = closed_slots shape (rounds shape (log_of run (Replica q))) in
      elim (cases_lt mine theirs) [
        | inl fewer ↦ inr (decided_extends q p loyal_too loyal (omega (arith, fewer)))
        | inr more ↦ inl (decided_extends p q loyal loyal_too more)
      ]
