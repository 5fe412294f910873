-- The replies of a verdict are those that clients accepted, so they are right.
use Rattle.std.proofs.Common.{◌≡◌, inl, inr, ℕ, zero, suc, ◌<◌, List, [], ◌∷◌, map, reverse, sym, ◌∙◌, ap, subst, arith}
use Rattle.std.proofs.lemmas.List.{reverse-append, reverse-reverse}
use Rattle.dsr_base.specs.Member.{In, here, there}
use Rattle.dsr_base.proofs.MemberLemmas.{In-append_cases, In-one}
use Rattle.dsr_names.specs.Shape.{Shape, HasFewTraitors}
use Rattle.dsr_names.specs.declared.actor.Actor.TheVariants.{Client}
use Rattle.dsr_ledger.specs.declared.reply.Reply.{Reply}
use Rattle.dsr_history.specs.History.{IsReplyTo, IsLegal}
use Rattle.dsr_chain.specs.declared.signed_request.SignedRequest.{SignedRequest}
use Rattle.dsr_client.proofs.Lemmas.{numbered}
use Rattle.dsr_run.specs.History.{accepted_by, history}
use Rattle.dsr_run.specs.Right.{IsRightReply}
use Rattle.dsr_run.specs.Run.{IsRun}
use Rattle.dsr_run.specs.Step.{Step, Logs, log_of}
use Rattle.dsr_run.proofs.Lemmas.{all_right, log_client}
use Rattle.dsr_check.specs.Judged.{IsJudgedRight}
use Rattle.dsr_check.specs.Verdict.{Verdict, accepted_of, IsVerdict}

In-reverse : (r : Reply) (rs : List Reply) → In r (reverse rs) → In r rs
In-reverse r [] h = h
In-reverse r (s ∷ rs) h =
    elim (In-append_cases r (reverse rs) (s ∷ []) (subst (In r) (reverse-append (s ∷ []) rs) h)) [
      | inl later ↦ there (In-reverse r rs later)
      | inr last ↦ here (In-one r s last)
    ]

from_client : (client c : ℕ) (r : Reply) (rs : List Reply) → In {A = ℕ × Reply} (c, r) (map (λ reply. (client, reply)) rs) → (client ≡ c) × In r rs
from_client client c r [] h = elim h [ ]
from_client client c r (s ∷ rs) (here e) = (ap (λ (p : ℕ × Reply). p.0) e, here (ap (λ (p : ℕ × Reply). p.1) e))
from_client client c r (s ∷ rs) (there h) = let rest = from_client client c r rs h in (rest.0, there rest.1)

-- an entry of the list is a reply that its client accepted
was_accepted : (shape : Shape) (logs : Logs) (m c : ℕ) (r : Reply) → In {A = ℕ × Reply} (c, r) (accepted_of shape logs m) → (c < m) × In r (accepted_by shape logs c)
was_accepted shape logs zero c r h = elim h [ ]
was_accepted shape logs (suc client) c r h =
    elim (In-append_cases (c, r) (accepted_of shape logs client) (map (λ reply. (client, reply)) (reverse (accepted_by shape logs client))) h) [
      | inl earlier ↦ let rest = was_accepted shape logs client c r earlier in (omega (arith, rest.0), rest.1)
      | inr own ↦
          let found = from_client client c r (reverse (accepted_by shape logs client)) own in (
            omega (arith, found.0),
            subst (λ k. In r (accepted_by shape logs k)) found.0 (In-reverse r (accepted_by shape logs client) found.1),
          )
    ]

-- a right reply is one to a request of the client, since a client posts no other
replies_right : (shape : Shape) (run : List Step) → IsRun shape run → (c : ℕ) (r : Reply)
    → IsRightReply shape (history shape (log_of run)) (log_of run (Client c)) r → IsReplyTo (history shape (log_of run)) c r
replies_right shape run is c r right =
    let own = ((numbered shape c (log_of run (Client c)) (log_client shape c run is)).posted right.replica right.ask right.posted).0 in
    record {
      request = right.ask.request;
      stands = right.stands;
      client_is = sym (ap (λ (ask : SignedRequest). ask.request.client) own.is);
      number_is = right.number;
    }

pub judged_right : (shape : Shape) (run : List Step) (verdict : Verdict) → HasFewTraitors shape → IsRun shape run → IsVerdict shape run verdict
    → IsJudgedRight verdict.history verdict.accepted
judged_right shape run verdict few is of_run =
    let right = all_right shape few run is in
    let turned : reverse verdict.history ≡ history shape (log_of run) = ap reverse of_run.history ∙ reverse-reverse (history shape (log_of run)) in
    record {
      legal = subst IsLegal (sym turned) right.legal;
      replies = λ c r inside.
          let found = was_accepted shape (log_of run) shape.m c r (subst (In {A = ℕ × Reply} (c, r)) of_run.accepted inside) in
          subst (λ h. IsReplyTo h c r) (sym turned) (replies_right shape run is c r (right.replies c found.0 r found.1));
    }
