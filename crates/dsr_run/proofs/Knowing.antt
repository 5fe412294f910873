-- How the known signatures of loyal actors' posts change with each step.
use Rattle.std.proofs.Common.{◌≡◌, ◌↔◌, Bool, true, false, List, ◌∷◌, ◌⊎◌, inl, inr, refl, ap, sym, ◌∙◌, subst}
use Rattle.dsr_base.specs.Member.{In, here}
use Rattle.dsr_names.specs.Shape.{Shape, is_traitor, IsActor, IsLoyal}
use Rattle.dsr_names.specs.declared.actor.Actor.{Actor}
use Rattle.dsr_names.specs.declared.actor.Actor.TheVariants.{Replica, Client}
use Rattle.dsr_desk.specs.Signature.{Signature}
use Rattle.dsr_envelope.specs.declared.envelope.Envelope.{Envelope}
use Rattle.dsr_envelope.specs.declared.entry.Entry.TheVariants.{Post, Take}
use Rattle.dsr_envelope.specs.Envelope.{Carries}
use Rattle.dsr_run.specs.Known.{KnowsPosts}
use Rattle.dsr_run.specs.Run.{HasPosted, IsMadeOrPosted, IsTraitor, IsRun}
use Rattle.dsr_run.specs.Step.{Step, log_of}
use Rattle.dsr_run.proofs.Boxes.{from_log, actors_within}
use Rattle.dsr_run.proofs.Forging.{has_posted_later, posted_made}
use Rattle.dsr_run.proofs.Logs.{log_cases}

-- after a loyal actor's post, what it carries is known too
pub known_posted : (shape : Shape) (older : List Step) (known new : List Signature) (a to : Actor) (x : Envelope)
    → KnowsPosts shape (log_of older) known → IsLoyal shape a → ((s : Signature) → In s new ↔ (In s known ⊎ Carries x s))
    → KnowsPosts shape (log_of ((a, Post to x) ∷ older)) new
known_posted shape older known new a to x knows loyal learned = record {
  from = λ s h. elim ((learned s).0 h) [
    | inl old ↦ let was = knows.from s old in (was.0, was.1, has_posted_later (a, Post to x) older was.0 s was.2)
    | inr carried ↦ (a, loyal, record { to = to; envelope = x; posted = now_in; carried = carried })
  ];
  all = λ s b honest h. (learned s).1 (by_entry s b honest h (from_log (a, Post to x) older b (Post h.to h.envelope) h.posted));
}
  where
    now_in : In (Post to x) (log_of ((a, Post to x) ∷ older) a)
    now_in = elim (log_cases (a, Post to x) older a) [
      | inl own ↦ subst (In (Post to x)) (sym own.1) (here refl)
      | inr other ↦ absurd (other.0 refl)
    ]

    same_envelope : (t u : Actor) (y z : Envelope) → Post t y ≡ Post u z → y ≡ z
    same_envelope t u y z e = cc

    by_entry : (s : Signature) (b : Actor) → IsLoyal shape b → (h : HasPosted (log_of ((a, Post to x) ∷ older) b) s)
        → ((a ≡ b) × (Post to x ≡ Post h.to h.envelope)) ⊎ In (Post h.to h.envelope) (log_of older b) → In s known ⊎ Carries x s
    by_entry s b honest h (inl now) = inr (subst (λ y. Carries y s) (sym (same_envelope to h.to x h.envelope now.1)) h.carried)
    by_entry s b honest h (inr old) = inl (knows.all s b honest (record { to = h.to; envelope = h.envelope; posted = old; carried = h.carried }))

-- a step that is not a loyal actor's post makes nothing known
pub known_still : (shape : Shape) (older : List Step) (known : List Signature) (step : Step) → KnowsPosts shape (log_of older) known
    → ((to : Actor) (x : Envelope) → step.1 ≡ Post to x → IsLoyal shape step.0 → ⊥) → KnowsPosts shape (log_of (step ∷ older)) known
known_still shape older known step knows silent = record {
  from = λ s h. let was = knows.from s h in (was.0, was.1, has_posted_later step older was.0 s was.2);
  all = λ s b honest h. by_entry s b honest h (from_log step older b (Post h.to h.envelope) h.posted);
}
  where
    by_entry : (s : Signature) (b : Actor) → IsLoyal shape b → (h : HasPosted (log_of (step ∷ older) b) s)
        → ((step.0 ≡ b) × (step.1 ≡ Post h.to h.envelope)) ⊎ In (Post h.to h.envelope) (log_of older b) → In s known
    by_entry s b honest h (inl now) = absurd (silent h.to h.envelope now.1 (subst (IsLoyal shape) (sym now.0) honest))
    by_entry s b honest h (inr old) = knows.all s b honest (record { to = h.to; envelope = h.envelope; posted = old; carried = h.carried })

-- so the known signatures decide whether a signature can be sent
module _ (shape : Shape) (run : List Step) (is : IsRun shape run) (known : List Signature) (knows : KnowsPosts shape (log_of run) known) where
  of_signer : (a : Actor) (s : Signature) → IsActor shape a → HasPosted (log_of run a) s → IsTraitor shape a ⊎ In s known
  of_signer (Client c) s inside posted = inr (knows.all s (Client c) inside posted)
  of_signer (Replica p) s inside posted = by_role (is_traitor shape p) refl
    where
      by_role : (b : Bool) → is_traitor shape p ≡ b → IsTraitor shape (Replica p) ⊎ In s known
      by_role true traitor = inl (inside, traitor)
      by_role false loyal = inr (knows.all s (Replica p) (inside, loyal) posted)

  pub known_where_made : (s : Signature) → IsMadeOrPosted shape (log_of run) s → IsTraitor shape s.signer ⊎ In s known
  known_where_made s (inl made) = inl made
  known_where_made s (inr posted) =
      of_signer s.signer s (actors_within shape run is s.signer (Post posted.to posted.envelope) posted.posted).0 posted

  pub made_where_known : (s : Signature) → IsTraitor shape s.signer ⊎ In s known → IsMadeOrPosted shape (log_of run) s
  made_where_known s (inl made) = inl made
  made_where_known s (inr h) = let from = knows.from s h in posted_made shape run is from.0 s from.2
