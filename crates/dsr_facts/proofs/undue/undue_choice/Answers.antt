use Rattle.std.proofs.Common.{◌≡◌, true, false, sym, subst, ◌∙◌, arith}
use Rattle.std.specs.Prelude.{IsSome}
use Rattle.dsr_names.specs.Shape.{sender}
use Rattle.dsr_names.specs.Support.ActorEquality.{actor_eq}
use Rattle.dsr_names.specs.declared.actor.Actor.TheVariants.{Replica}
use Rattle.dsr_replica.specs.Held.{all_held}
use Rattle.dsr_facts.specs.Undue.{IsFirstUnheld}
use Rattle.dsr_facts.proofs.UndueLemmas.{by_another, unheld_by, held_by}
use Rattle.dsr_facts.proofs.undue.undue_choice.Goals as goal

pub returns-then-not-is_replica-clause-some : goal.returns-then-not-is_replica-clause-some
returns-then-not-is_replica-clause-some c log stands here =
    let r = c.args.replica.now in
    let is = subst (λ s. c.sender-sender.result ≡ sender s c.args.round) c.shape.ensures c.sender-sender.ensures.same in
    let apart = subst (λ a. actor_eq a (Replica c.sender-sender.result) ≡ false) (sym c.requires.me) (sym c.is_replica.ensures ∙ c.if-not-is_replica.true) in
    by_another r.shape r.me log c.args.to c.args.clients.now c.args.round c.sender-sender.result here (omega arith) (c.requires.round log stands) is apart

pub returns-in-Some-clause-some : goal.returns-in-Some-clause-some
returns-in-Some-clause-some c log stands here =
    let r = c.args.replica.now in
    let is = subst (λ s. c.sender-sender.result ≡ sender s c.args.round) c.shape.ensures c.sender-sender.ensures.same in
    let own = subst (λ a. actor_eq a (Replica c.sender-sender.result) ≡ true) (sym c.requires.me) (sym c.is_replica.ensures ∙ c.if-not-is_replica.false) in
    unheld_by r.shape r.me log c.args.to c.args.clients.now c.args.round c.sender-sender.result here (omega arith) (c.requires.round log stands) is
    c.in-Some.client own (subst (λ xs. IsFirstUnheld r.shape log xs c.in-Some.client) c.as_slice.ensures.same (c.in-Some.ensures.some log stands))

pub returns-in-None-clause-none : goal.returns-in-None-clause-none
returns-in-None-clause-none c log stands here =
    let r = c.args.replica.now in
    let is = subst (λ s. c.sender-sender.result ≡ sender s c.args.round) c.shape.ensures c.sender-sender.ensures.same in
    let own = subst (λ a. actor_eq a (Replica c.sender-sender.result) ≡ true) (sym c.requires.me) (sym c.is_replica.ensures ∙ c.if-not-is_replica.false) in
    held_by r.shape r.me log c.args.to c.args.clients.now c.args.round c.sender-sender.result here (omega arith) (c.requires.round log stands) is own
    (subst (λ xs. IsSome (all_held r.shape log xs)) c.as_slice.ensures.same (c.in-None.ensures.none log stands))
