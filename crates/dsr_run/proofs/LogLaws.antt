-- What holds for a run holds for its logs, whatever the order of its steps.
use Rattle.std.proofs.Common.{◌≡◌, ℕ, suc, ◌<◌, ◌≤◌, ◌^◌, List, [], ◌∷◌, ◌++◌, length, ◌⊎◌, inl, inr, ap, sym, ◌∙◌, subst, arith}
use Rattle.std.proofs.Common.{length-append}
use Rattle.dsr_base.specs.Growth.{Extends}
use Rattle.dsr_base.specs.Member.{In}
use Rattle.dsr_names.specs.Shape.{Shape, HasFewTraitors, IsLoyal}
use Rattle.dsr_names.specs.declared.actor.Actor.{Actor}
use Rattle.dsr_names.specs.declared.actor.Actor.TheVariants.{Replica, Client}
use Rattle.dsr_ledger.specs.declared.reply.Reply.{Reply as AReply}
use Rattle.dsr_desk.specs.Signature.{Signature}
use Rattle.dsr_envelope.specs.declared.envelope.Envelope.{Envelope}
use Rattle.dsr_envelope.specs.declared.envelope.Envelope.TheVariants.{Ask}
use Rattle.dsr_envelope.specs.declared.entry.Entry.TheVariants.{Post, Take}
use Rattle.dsr_envelope.specs.Log.{posted_to, taken_from}
use Rattle.dsr_replica.specs.Posts.{WasTaken}
use Rattle.dsr_run.specs.History.{accepted_by, decided_at, seen_by, history}
use Rattle.dsr_run.specs.Right.{IsRightReply}
use Rattle.dsr_run.specs.Run.{IsMadeOrPosted, IsRun, AreLogs}
use Rattle.dsr_run.specs.Step.{Step, Logs, log_of}
use Rattle.dsr_run.proofs.Agreeing.{one_extends}
use Rattle.dsr_run.proofs.Boxes.{IsBox, boxes, posted_cases, posted_still}
use Rattle.dsr_run.proofs.Forging.{taken_made}
use Rattle.dsr_run.proofs.Issuing.{fronts}
use Rattle.dsr_run.proofs.NextSteps.{run_logs}
use Rattle.dsr_run.proofs.Righting.{right_reply}
use Rattle.dsr_run.proofs.Within.{posted_within, history_within}

-- fewer than 2^40 envelopes are posted into a box
posts_below : (shape : Shape) (run : List Step) → IsRun shape run → (a b : Actor) → length (posted_to b (log_of run a)) < 2 ^ 40
posts_below shape [] is a b = omega arith
posts_below shape ((actor, Take from x) ∷ older) is a b =
    subst (λ l. length l < 2 ^ 40) (sym (posted_still actor from x older a b)) (posts_below shape older is.0 a b)
posts_below shape ((actor, Post to x) ∷ older) is a b = elim (posted_cases actor to x older a b) [
  | inl new ↦
      let low : suc (length (posted_to b (log_of older a))) < 2 ^ 40 =
      subst (λ q. suc (length (posted_to q (log_of older a))) < 2 ^ 40) new.1
      (subst (λ p. suc (length (posted_to to (log_of older p))) < 2 ^ 40) new.0 is.1.limits.1) in
      let count = ap length new.2 in
      omega (arith, low, count, length-append (posted_to b (log_of older a)) (x ∷ []))
  | inr same ↦ subst (λ l. length l < 2 ^ 40) (sym same) (posts_below shape older is.0 a b)
]

-- no client has seen more than the history has
pub seen_within : (shape : Shape) → HasFewTraitors shape → (run : List Step) → IsRun shape run → (c : ℕ)
    → seen_by shape (log_of run) c ≤ length (history shape (log_of run))
seen_within shape few run is c = (fronts shape few run is).had c

module _ (shape : Shape) (logs : Logs) (are : AreLogs shape logs) where
  abbrev AgreeOn : ℕ → ℕ → Logs → Type 0
  AgreeOn p q l = Extends (decided_at shape l p) (decided_at shape l q) ⊎ Extends (decided_at shape l q) (decided_at shape l p)

  pub logs_agree : HasFewTraitors shape → (p q : ℕ) → IsLoyal shape (Replica p) → IsLoyal shape (Replica q)
      → Extends (decided_at shape logs p) (decided_at shape logs q) ⊎ Extends (decided_at shape logs q) (decided_at shape logs p)
  logs_agree few p q loyal loyal_too =
      subst (AgreeOn p q) (run_logs shape logs are) (one_extends shape few are.run are.is p q loyal loyal_too)

  abbrev AnswerOn : ℕ → AReply → Logs → Type 0
  AnswerOn c reply l = In reply (accepted_by shape l c) → IsRightReply shape (history shape l) (l (Client c)) reply

  pub logs_answer : HasFewTraitors shape → (c : ℕ) (reply : AReply) → In reply (accepted_by shape logs c)
      → IsRightReply shape (history shape logs) (logs (Client c)) reply
  logs_answer few c reply =
      subst (AnswerOn c reply) (run_logs shape logs are) (λ h. right_reply shape few are.run are.is c reply h)

  abbrev BoxOn : Actor → Actor → Logs → Type 0
  BoxOn a b l = IsBox (posted_to b (l a)) (taken_from a (l b))

  pub logs_box : (a b : Actor) → IsBox (posted_to b (logs a)) (taken_from a (logs b))
  logs_box a b = subst (BoxOn a b) (run_logs shape logs are) (boxes shape are.run are.is a b)

  abbrev UnforgedOn : Actor → Signature → Logs → Type 0
  UnforgedOn a s l = WasTaken (l a) s → IsMadeOrPosted shape l s

  pub logs_unforged : (a : Actor) (s : Signature) → WasTaken (logs a) s → IsMadeOrPosted shape logs s
  logs_unforged a s = subst (UnforgedOn a s) (run_logs shape logs are) (λ taken. taken_made shape are.run are.is a s taken)

  pub logs_posts : (a b : Actor) → length (posted_to b (logs a)) < 2 ^ 40
  logs_posts a b = subst (λ l. length (posted_to b (l a)) < 2 ^ 40) (run_logs shape logs are) (posts_below shape are.run are.is a b)

  pub logs_seen : HasFewTraitors shape → (c : ℕ) → seen_by shape logs c ≤ length (history shape logs)
  logs_seen few c = subst (λ l. seen_by shape l c ≤ length (history shape l)) (run_logs shape logs are) (seen_within shape few are.run are.is c)

  pub logs_few : length (history shape logs) ≤ 2 ^ 39
  logs_few = subst (λ l. length (history shape l) ≤ 2 ^ 39) (run_logs shape logs are) (history_within shape are.run are.is)

  pub logs_numbers : HasFewTraitors shape → (c : ℕ) (reply : AReply) → In reply (accepted_by shape logs c) → reply.number < 2 ^ 40
  logs_numbers few c reply h =
      let right = logs_answer few c reply h in
      let fits = posted_within shape are.run are.is (Client c) (Replica right.replica) (Ask right.ask)
      (subst (In (Post (Replica right.replica) (Ask right.ask))) (sym (are.each (Client c))) right.posted) in
      subst (λ k. k < 2 ^ 40) right.number fits.request.small_number
