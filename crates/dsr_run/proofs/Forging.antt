-- No signature of a loyal actor is forged in a run: each signature in a step is by a traitor, or its signer has posted it.
use Rattle.std.proofs.Common.{◌≡◌, ℕ, ◌<◌, Bool, true, false, List, [], ◌∷◌, Option, None, Some, inl, inr, refl, ap, sym, ◌∙◌, subst, arith}
use Rattle.std.specs.Option.{option_map}
use Rattle.std.proofs.lemmas.Option.{none-some, same_Some}
use Rattle.dsr_base.specs.Member.{In, here}
use Rattle.dsr_names.specs.Shape.{Shape, is_traitor}
use Rattle.dsr_names.specs.declared.actor.Actor.{Actor}
use Rattle.dsr_names.specs.declared.actor.Actor.TheVariants.{Replica, Client}
use Rattle.dsr_desk.specs.Signature.{Signature}
use Rattle.dsr_chain.specs.declared.signed_request.SignedRequest.{SignedRequest}
use Rattle.dsr_envelope.specs.declared.envelope.Envelope.{Envelope}
use Rattle.dsr_envelope.specs.declared.envelope.Envelope.TheVariants.{Ask}
use Rattle.dsr_envelope.specs.declared.entry.Entry.{Entry}
use Rattle.dsr_envelope.specs.declared.entry.Entry.TheVariants.{Post, Take}
use Rattle.dsr_replica.specs.Conduct.{IsNext}
use Rattle.dsr_envelope.specs.Envelope.{Carries}
use Rattle.dsr_replica.specs.Posts.{WasTaken}
use Rattle.dsr_replica.proofs.Lemmas.{post_source}
use Rattle.dsr_client.specs.Conduct.{chosen_beside, next_number, IsClientLog, IsNext as IsNextOfClient}
use Rattle.dsr_client.specs.State.{outstanding}
use Rattle.dsr_client.proofs.Lemmas.{numbered}
use Rattle.dsr_run.specs.Run.{HasPosted, IsMadeOrPosted, KeepsConduct, IsRun, envelope_of}
use Rattle.dsr_run.specs.Step.{Step, log_of}
use Rattle.dsr_run.proofs.Boxes.{in_log, from_log, found_was_posted}
use Rattle.dsr_run.proofs.Logs.{log_cases, log_loyal, log_client}

-- what was posted stays posted
pub has_posted_later : (step : Step) (older : List Step) (a : Actor) (s : Signature) → HasPosted (log_of older a) s → HasPosted (log_of (step ∷ older) a) s
has_posted_later step older a s h =
    record { to = h.to; envelope = h.envelope; posted = in_log step older a (Post h.to h.envelope) h.posted; carried = h.carried }

made_later : (shape : Shape) (step : Step) (older : List Step) (s : Signature) → IsMadeOrPosted shape (log_of older) s
    → IsMadeOrPosted shape (log_of (step ∷ older)) s
made_later shape step older s (inl made) = inl made
made_later shape step older s (inr posted) = inr (has_posted_later step older s.signer s posted)

-- ---- clients

-- a client's signature is on each request that it asks for, and nobody's on the seen fronts that it posts
client_signs : (shape : Shape) (c : ℕ) (log : List Entry) → IsClientLog shape c log → (to : Actor) (envelope : Envelope)
    → IsNextOfClient shape c log (Post to envelope) → (s : Signature) → Carries envelope s → s.signer ≡ Client c
client_signs shape c log is (Client other) envelope next s carried = elim (subst (λ e. Carries e s) next.2 carried) [ ]
client_signs shape c log is (Replica q) envelope next s carried =
    let ask = asked (chosen_beside (outstanding shape log) c (next_number shape log) next.1.0) next.1.1 in
    let signed : ask.0.signature ≡ s = subst (λ e. Carries e s) (sym ask.1) carried in
    let later : IsClientLog shape c (Post (Replica q) (Ask ask.0) ∷ log) =
    (is, subst (λ e. IsNextOfClient shape c log (Post (Replica q) e)) (sym ask.1) next) in
    let own = ((numbered shape c (Post (Replica q) (Ask ask.0) ∷ log) later).posted q ask.0 (here refl)).0 in
    ap (λ z. z.signer) (sym signed) ∙ ap (λ (z : SignedRequest). z.signature.signer) (sym own.is)
  where
    asked : (o : Option SignedRequest) → option_map Ask o ≡ Some envelope → (ask : SignedRequest) × (Ask ask ≡ envelope)
    asked None e = absurd (none-some envelope e)
    asked (Some ask) e = (ask, same_Some (Ask ask) envelope e)

-- ---- all steps

module _ (shape : Shape) where
  -- each signature in an entry of these logs is by a traitor, or its signer has posted it
  abbrev pub AllMade : List Step → Type 0
  AllMade run = (a : Actor) (entry : Entry) → In entry (log_of run a) → (s : Signature) → Carries (envelope_of entry) s
      → IsMadeOrPosted shape (log_of run) s

  -- the step itself posts it
  posts_now : (a to : Actor) (x : Envelope) (older : List Step) (s : Signature) → Carries x s → s.signer ≡ a
      → IsMadeOrPosted shape (log_of ((a, Post to x) ∷ older)) s
  posts_now a to x older s carried own =
      let stands : In (Post to x) (log_of ((a, Post to x) ∷ older) a) = elim (log_cases (a, Post to x) older a) [
        | inl own ↦ subst (In (Post to x)) (sym own.1) (here refl)
        | inr other ↦ absurd (other.0 refl)
      ] in
      inr (subst (λ b. HasPosted (log_of ((a, Post to x) ∷ older) b) s) (sym own) (record { to = to; envelope = x; posted = stands; carried = carried }))

  loyal_post : (p : ℕ) (to : Actor) (x : Envelope) (older : List Step) → IsRun shape older → AllMade older → p < shape.n
      → is_traitor shape p ≡ false → IsNext shape (Replica p) (log_of older (Replica p)) (Post to x) → (s : Signature) → Carries x s
      → IsMadeOrPosted shape (log_of ((Replica p, Post to x) ∷ older)) s
  loyal_post p to x older is before inside loyal next s carried =
      elim (post_source shape (Replica p) (omega (arith, inside)) (log_of older (Replica p)) (log_loyal shape p loyal older is) to x next s carried) [
        | inl own ↦ posts_now (Replica p) to x older s carried own
        | inr taken ↦
            made_later shape (Replica p, Post to x) older s (before (Replica p) (Take taken.from taken.envelope) taken.taken s taken.carried)
      ]

  replica_post : (p : ℕ) (to : Actor) (x : Envelope) (older : List Step) → IsRun shape older → AllMade older → p < shape.n
      → (b : Bool) → is_traitor shape p ≡ b → KeepsConduct shape (log_of older) (Replica p) (Post to x) → (s : Signature) → Carries x s
      → IsMadeOrPosted shape (log_of ((Replica p, Post to x) ∷ older)) s
  replica_post p to x older is before inside true traitor keeps s carried =
      made_later shape (Replica p, Post to x) older s (keeps.1 traitor s carried)
  replica_post p to x older is before inside false loyal keeps s carried =
      loyal_post p to x older is before inside loyal (keeps.0 loyal).0 s carried

  now_made : (a : Actor) (entry : Entry) (older : List Step) → IsRun shape ((a, entry) ∷ older) → AllMade older
      → (s : Signature) → Carries (envelope_of entry) s → IsMadeOrPosted shape (log_of ((a, entry) ∷ older)) s
  now_made a (Take from x) older is before s carried =
      made_later shape (a, Take from x) older s (before from (Post a x) (found_was_posted shape a from x older is) s carried)
  now_made (Client c) (Post to x) older is before s carried =
      posts_now (Client c) to x older s carried
      (client_signs shape c (log_of older (Client c)) (log_client shape c older is.0) to x is.1.conduct s carried)
  now_made (Replica p) (Post to x) older is before s carried =
      replica_post p to x older is.0 before is.1.actor (is_traitor shape p) refl is.1.conduct s carried

  pub all_made : (run : List Step) → IsRun shape run → AllMade run
  all_made [] is a entry h s carried = elim h [ ]
  all_made (step ∷ older) is a entry h s carried = elim (from_log step older a entry h) [
    | inl new ↦ now_made step.0 step.1 older is (all_made older is.0) s (subst (λ z. Carries (envelope_of z) s) (sym new.1) carried)
    | inr old ↦ made_later shape step older s (all_made older is.0 a entry old s carried)
  ]

  -- so is each signature in a step of the run by then
  pub step_made : (step : Step) (older : List Step) → IsRun shape (step ∷ older) → (s : Signature) → Carries (envelope_of step.1) s
      → IsMadeOrPosted shape (log_of (step ∷ older)) s
  step_made step older is s carried = now_made step.0 step.1 older is (all_made older is.0) s carried

  -- so each signature that an actor took can be sent
  pub taken_made : (run : List Step) → IsRun shape run → (a : Actor) (s : Signature) → WasTaken (log_of run a) s
      → IsMadeOrPosted shape (log_of run) s
  taken_made run is a s h = all_made run is a (Take h.from h.envelope) h.taken s h.carried

  -- and so can each that any actor posted
  pub posted_made : (run : List Step) → IsRun shape run → (a : Actor) (s : Signature) → HasPosted (log_of run a) s
      → IsMadeOrPosted shape (log_of run) s
  posted_made run is a s h = all_made run is a (Post h.to h.envelope) h.posted s h.carried
