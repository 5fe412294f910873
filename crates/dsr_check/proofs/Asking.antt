-- What a client may ask next, and that a post accepts nothing.
use Rattle.std.proofs.Common.{◌≡◌, ℕ, ◌<◌, List, ◌∷◌, Option, None, Some, refl, ap, sym, ◌∙◌, subst}
use Rattle.std.specs.Option.{option_map}
use Rattle.std.proofs.lemmas.Option.{none-some, same_Some}
use Rattle.dsr_names.specs.Shape.{Shape}
use Rattle.dsr_names.specs.declared.actor.Actor.{Actor}
use Rattle.dsr_names.specs.declared.actor.Actor.TheVariants.{Replica, Client}
use Rattle.dsr_chain.specs.declared.signed_request.SignedRequest.{SignedRequest}
use Rattle.dsr_envelope.specs.declared.envelope.Envelope.{Envelope}
use Rattle.dsr_envelope.specs.declared.envelope.Envelope.TheVariants.{Empty, Round, Ask, Reply, Seen}
use Rattle.dsr_envelope.specs.declared.entry.Entry.{Entry}
use Rattle.dsr_envelope.specs.declared.entry.Entry.TheVariants.{Post}
use Rattle.dsr_envelope.specs.declared.pick.Pick.{Pick}
use Rattle.dsr_envelope.specs.declared.pick.Pick.TheVariants.{Plain, Begin}
use Rattle.dsr_client.specs.Conduct.{ask_of, ask_to, next_number, told_choice, IsNext}
use Rattle.dsr_client.specs.State.{State, accepted, asked_beside, outstanding, state_after}
use Rattle.dsr_client.proofs.Lemmas.{chosen_ask, choice_told, plain_ask, new_ask}

module _ (shape : Shape) (me : ℕ) (log : List Entry) where
  -- if a request is outstanding, it may be asked for again
  pub next_plain : (q : ℕ) (ask : SignedRequest) → q < shape.n → outstanding shape log ≡ Some ask → IsNext shape me log (Post (Replica q) (Ask ask))
  next_plain q ask inside some = (inside, (Plain, plain_ask shape me log ∙ ap (option_map Ask) some))

  asked_again : (o : Option SignedRequest) (pick : Pick) (ask current : SignedRequest) → pick ≡ told_choice o ask → o ≡ Some current → pick ≡ Plain
  asked_again None pick ask current told some = absurd (none-some current some)
  asked_again (Some other) pick ask current told some = told

  -- and nothing else
  pub next_again : (q : ℕ) (ask current : SignedRequest) → outstanding shape log ≡ Some current → IsNext shape me log (Post (Replica q) (Ask ask))
      → current ≡ ask
  next_again q ask current some next =
      let pick = next.1.0 in
      let plain = asked_again (outstanding shape log) pick ask current (choice_told shape me log pick ask next.1.1) some in
      let same = sym (ap (option_map Ask) some) ∙ (sym (plain_ask shape me log) ∙ subst (λ p. ask_to shape me log p ≡ Some (Ask ask)) plain next.1.1) in
      let envelopes : Ask current ≡ Ask ask = same_Some (Ask current) (Ask ask) same in
      cc

  begun_beside : (o : Option SignedRequest) (pick : Pick) (ask : SignedRequest) → pick ≡ told_choice o ask → o ≡ None → pick ≡ Begin ask.request.op
  begun_beside None pick ask told none = told
  begun_beside (Some other) pick ask told none = absurd (none-some other (sym none))

  -- if nothing is outstanding, the client's next request may be asked for
  pub next_begun : (q : ℕ) (ask : SignedRequest) → outstanding shape log ≡ None → IsNext shape me log (Post (Replica q) (Ask ask))
      → ask_of me (next_number shape log) ask.request.op ≡ ask
  next_begun q ask none next =
      let pick = next.1.0 in
      let begun = begun_beside (outstanding shape log) pick ask (choice_told shape me log pick ask next.1.1) none in
      let same = sym (new_ask shape me log none ask.request.op) ∙ subst (λ p. ask_to shape me log p ≡ Some (Ask ask)) begun next.1.1 in
      let envelopes : Ask (ask_of me (next_number shape log) ask.request.op) ≡ Ask ask =
      same_Some (Ask (ask_of me (next_number shape log) ask.request.op)) (Ask ask) same in
      cc

  -- nothing but an ask is posted to a replica
  pub next_asks : (q : ℕ) (x : Envelope) → IsNext shape me log (Post (Replica q) x) → (ask : SignedRequest) × (Ask ask ≡ x)
  next_asks q x next =
      let chosen = chosen_ask _ x next.1.1 in
      (chosen.0, chosen.2)

-- a post accepts nothing
asked_same : (o : Option SignedRequest) (ask : SignedRequest) (state : State) → (asked_beside o ask state).accepted ≡ state.accepted
asked_same None ask state = refl
asked_same (Some old) ask state = refl

pub post_accepts : (shape : Shape) (log : List Entry) (to : Actor) (x : Envelope) → accepted shape (Post to x ∷ log) ≡ accepted shape log
post_accepts shape log (Client d) x = refl
post_accepts shape log (Replica q) Empty = refl
post_accepts shape log (Replica q) (Round round chains) = refl
post_accepts shape log (Replica q) (Ask ask) = asked_same (outstanding shape log) ask (state_after shape log)
post_accepts shape log (Replica q) (Reply reply) = refl
post_accepts shape log (Replica q) (Seen front) = refl
