-- Each client invokes one request after another: when it first asks for a request, its earlier ones have their responses.
use Rattle.std.proofs.Common.{◌≡◌, ℕ, zero, suc, ◌<◌, ◌≤◌, List, [], ◌∷◌, ◌++◌, length, Option, None, Some, ◌⊎◌, inl, inr, refl, ap, sym, ◌∙◌, subst, append_assoc, arith}
use Rattle.std.specs.Option.{option_map}
use Rattle.std.proofs.lemmas.Bool.{cases_lt}
use Rattle.std.proofs.lemmas.Option.{same_Some}
use Rattle.dsr_base.specs.Growth.{Extends}
use Rattle.dsr_base.specs.Member.{In, here, there}
use Rattle.dsr_base.proofs.MemberLemmas.{In-append_right}
use Rattle.dsr_names.specs.Shape.{Shape}
use Rattle.dsr_names.specs.declared.actor.Actor.TheVariants.{Replica, Client}
use Rattle.dsr_request.specs.Request.{Request}
use Rattle.dsr_ledger.specs.declared.reply.Reply.{Reply}
use Rattle.dsr_chain.specs.declared.signed_request.SignedRequest.{SignedRequest}
use Rattle.dsr_envelope.specs.declared.envelope.Envelope.TheVariants.{Ask}
use Rattle.dsr_envelope.specs.declared.entry.Entry.{Entry}
use Rattle.dsr_envelope.specs.declared.entry.Entry.TheVariants.{Post}
use Rattle.dsr_envelope.specs.declared.pick.Pick.{Pick}
use Rattle.dsr_envelope.specs.declared.pick.Pick.TheVariants.{Plain, Begin}
use Rattle.dsr_client.specs.Accepted.{AreNumbered}
use Rattle.dsr_client.specs.Conduct.{ask_to, told_choice, IsClientLog, IsNext}
use Rattle.dsr_client.specs.State.{outstanding, accepted}
use Rattle.dsr_client.proofs.Lemmas.{accepted_numbered, accepted_posted, choice_told, next_unasked, numbered, operation_told, plain_ask, was_posted}
use Rattle.dsr_run.specs.Linearizable.{IsInvoked, HasResponse, Precedes}
use Rattle.dsr_run.specs.Run.{KeepsConduct, IsRun}
use Rattle.dsr_run.specs.Step.{Step, log_of}
use Rattle.dsr_run.proofs.Boxes.{from_log}
use Rattle.dsr_run.proofs.Logs.{log_client, logs_grew}

-- ---- a client's log

-- each number up to the count of accepted replies has its reply
numbered_reply : (replies : List Reply) → AreNumbered replies → (k : ℕ) → 0 < k → k ≤ length replies → (reply : Reply) × In reply replies × (reply.number ≡ k)
numbered_reply [] are k some most = absurd (omega (arith, some, most))
numbered_reply (w ∷ older) are k some most = elim (cases_lt (length older) k) [
  | inl last ↦ let number = are.0 in (w, here refl, omega (arith, number, last, most))
  | inr before ↦ let found = numbered_reply older are.1 k some before in (found.0, there found.1, found.2)
]

module _ (shape : Shape) (me : ℕ) where
  -- an ask is for what is outstanding, or begins the next request if nothing is
  asked_as : (log : List Entry) (pick : Pick) (ask : SignedRequest) → ask_to shape me log pick ≡ Some (Ask ask)
      → (outstanding shape log ≡ Some ask) ⊎ ((outstanding shape log ≡ None) × (ask.request.number ≡ suc (length (accepted shape log))))
  asked_as log pick ask e = by_outstanding (outstanding shape log) refl
    where
      same_ask : (a b : SignedRequest) → Ask a ≡ Ask b → a ≡ b
      same_ask a b is = cc

      by_outstanding : (o : Option SignedRequest) → outstanding shape log ≡ o
          → (outstanding shape log ≡ Some ask) ⊎ ((outstanding shape log ≡ None) × (ask.request.number ≡ suc (length (accepted shape log))))
      by_outstanding None none =
          let begins : pick ≡ Begin ask.request.op = subst (λ o. pick ≡ told_choice o ask) none (choice_told shape me log pick ask e) in
          let own = operation_told shape me log ask.request.op ask (ap (ask_to shape me log) (sym begins) ∙ e) in
          inr (none, ap (λ z. z.request.number) (sym own))
      by_outstanding (Some current) is =
          let plain : pick ≡ Plain = subst (λ o. pick ≡ told_choice o ask) is (choice_told shape me log pick ask e) in
          let again = sym (ap (ask_to shape me log) (sym plain) ∙ e) ∙ (plain_ask shape me log ∙ ap (option_map Ask) is) in
          inl (is ∙ ap Some (sym (same_ask ask current (same_Some (Ask ask) (Ask current) again))))

  -- numbers begin with 1
  asked_some : (log : List Entry) → IsClientLog shape me log → (q : ℕ) (ask : SignedRequest) → In (Post (Replica q) (Ask ask)) log → 0 < ask.request.number
  asked_some [] loyal q ask h = elim h [ ]
  asked_some (entry ∷ older) loyal q ask (there h) = asked_some older loyal.0 q ask h
  asked_some (entry ∷ older) loyal q ask (here e) =
      let next = subst (IsNext shape me older) e loyal.1 in
      elim (asked_as older next.1.0 ask next.1.1) [
        | inl again ↦ let number = ((numbered shape me older loyal.0).next ask again).0 in omega (arith, number)
        | inr begun ↦ let number = begun.1 in omega (arith, number)
      ]

-- ---- a run

module _ (shape : Shape) (run : List Step) (is : IsRun shape run) (first second : Request) (a : IsInvoked (log_of run) first)
    (same : first.client ≡ second.client) (less : first.number < second.number) where
  abbrev log : List Step → List Entry
  log r = log_of r (Client second.client)

  own : In (Post (Replica a.replica) (Ask a.ask)) (log run)
  own = subst (λ d. In (Post (Replica a.replica) (Ask a.ask)) (log_of run (Client d))) same a.posted

  some : 0 < first.number
  some = subst (λ k. 0 < k) (ap (λ z. z.number) a.is) (asked_some shape second.client (log run) (log_client shape second.client run is) a.replica a.ask own)

  -- if as many replies were accepted as its number says, the first request has its response
  responded : (r : List Step) → IsRun shape r → Extends run r → first.number ≤ length (accepted shape (log r)) → (reply : Reply) × HasResponse shape (log_of r) first reply
  responded r was past most =
      let found = numbered_reply (accepted shape (log r)) (accepted_numbered shape second.client (log r) (log_client shape second.client r was)) first.number some most in
      let asked = accepted_posted shape (log r) found.0 found.1 in
      let grown = logs_grew run r past (Client second.client) in
      let still : In (Post (Replica asked.1.replica) (Ask asked.0)) (log run) =
      subst (In (Post (Replica asked.1.replica) (Ask asked.0))) (sym grown.1) (In-append_right (Post (Replica asked.1.replica) (Ask asked.0)) grown.0 (log r) asked.1.posted) in
      let one = (numbered shape second.client (log run) (log_client shape second.client run is)).once asked.1.replica a.replica asked.0 a.ask still own
      (asked.2 ∙ (found.2 ∙ ap (λ z. z.number) (sym a.is))) in (
        found.0,
        record {
          invoked = record {
            replica = asked.1.replica;
            ask = asked.0;
            posted = subst (λ d. In (Post (Replica asked.1.replica) (Ask asked.0)) (log_of r (Client d))) (sym same) asked.1.posted;
            is = ap (λ z. z.request) one ∙ a.is;
          };
          accepted = subst (λ d. In found.0 (accepted shape (log_of r (Client d)))) (sym same) found.1;
          number = found.2;
        },
      )

  -- so it has when the second was first asked for
  pub turns : (r : List Step) → IsRun shape r → Extends run r → IsInvoked (log_of r) second → Precedes shape run first second
  turns [] was past h = elim h.posted [ ]
  turns (step ∷ older) was past h =
      let before : Extends run older = (past.0 ++ step ∷ [], past.1 ∙ sym (append_assoc past.0 (step ∷ []) older)) in
      elim (from_log step older (Client second.client) (Post (Replica h.replica) (Ask h.ask)) h.posted) [
        | inr old ↦ turns older was.0 before (record { replica = h.replica; ask = h.ask; posted = old; is = h.is })
        | inl new ↦
            let keeps = subst (λ z. KeepsConduct shape (log_of older) z step.1) new.0 was.1.conduct in
            let next = subst (KeepsConduct shape (log_of older) (Client second.client)) new.1 keeps in
            elim (asked_as shape second.client (log older) next.1.0 h.ask next.1.1) [
              | inl again ↦
                  let asked = was_posted shape (log older) h.ask again in
                  turns older was.0 before (record { replica = asked.replica; ask = h.ask; posted = asked.posted; is = h.is })
              | inr begun ↦
                  let number = ap (λ z. z.number) (sym h.is) ∙ begun.1 in
                  let found = responded older was.0 before (omega (arith, less, number)) in
                  record {
                    moment = older;
                    past = before;
                    reply = found.0;
                    response = found.1;
                    not_yet = λ i.
                        next_unasked shape second.client (log older) (log_client shape second.client older was.0) begun.0 i.replica i.ask i.posted
                        (ap (λ z. z.number) i.is ∙ number);
                  }
            ]
      ]
