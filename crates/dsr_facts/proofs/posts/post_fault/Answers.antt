use Rattle.std.proofs.Common.{◌≡◌, ◌∙◌, None, Some, ap, sym, subst}
use Rattle.std.proofs.lemmas.Result.{IfOk-from_err}
use Rattle.dsr_names.specs.Shape.{IsAllowed}
use Rattle.dsr_names.specs.declared.actor.Actor.TheVariants.{Replica}
use Rattle.dsr_node.specs.Conduct.{HasSpelledOp}
use Rattle.dsr_play.specs.declared.event.Event.TheVariants.{Post}
use Rattle.dsr_replica.specs.Conduct.{envelope_to}
use Rattle.dsr_run.specs.Step.{log_of}
use Rattle.dsr_world.specs.Event.{refusal_of}
use Rattle.dsr_facts.proofs.PostLemmas.{post_may, spelled_choice}
use Rattle.dsr_facts.proofs.Showing.{read_off}
use Rattle.dsr_facts.proofs.UndueLemmas.{where_none}
use Rattle.dsr_facts.proofs.posts.post_fault.Goals as goal
use Rattle.dsr_facts.proofs.posts.post_fault.Goals.{In-Ok}

pub returns-in_err-clients-clause-some : goal.returns-in_err-clients-clause-some
returns-in_err-clients-clause-some c = IfOk-from_err c.from_residual.result _ c.from_residual.ensures.0

pub returns-in_err-clients-clause-none : goal.returns-in_err-clients-clause-none
returns-in_err-clients-clause-none c = IfOk-from_err c.from_residual.result _ c.from_residual.ensures.0

pub returns-in-Some-clause-some : goal.returns-in-Some-clause-some
returns-in-Some-clause-some c =
    let w = c.args.stage.now in
    let read = read_off w.shape c.shape-2.result.now (Replica c.args.from) c.args.to c.args.found.now c.in_ok-clients.clients c.pick_of.result c.shape-2.ensures
    c.pick_of.ensures c.in_ok-clients.ensures.shown c.in_ok-clients.ensures.plain in
    record { pick = c.pick_of.result; read = read.0; plain = read.1; why = c.in-Some.ensures.some }

-- nothing refuses the post, and by it the replica gives this envelope
wanted : (c : In-Ok) → (refusal_of c.args.stage.now.shape (log_of c.args.stage.now.run) (Post (Replica c.args.from) (Replica c.args.to) c.pick_of-2.result) ≡ None)
    × (envelope_to c.args.stage.now.shape (Replica c.args.from) (log_of c.args.stage.now.run (Replica c.args.from)) c.args.to c.pick_of-2.result ≡ Some c.in-Ok.wanted)
wanted c =
    let w = c.args.stage.now in
    let p = c.args.from in
    let q = c.args.to in
    let pick = c.pick_of-2.result in
    let r = c.loyal_of.result.now in
    let log = log_of w.run (Replica p) in
    let before = where_none c.post_cause.result (refusal_of w.shape (log_of w.run) (Post (Replica p) (Replica q) c.pick_of.result) ≡ None) c.in_default.is
    c.post_cause.ensures.none in (
      subst (λ k. refusal_of w.shape (log_of w.run) (Post (Replica p) (Replica q) k) ≡ None) (c.pick_of.ensures ∙ sym c.pick_of-2.ensures) before,
      subst (λ m. envelope_to w.shape m log q pick ≡ Some c.in-Ok.wanted) c.loyal_of.ensures.me
          (subst (λ s. envelope_to s r.me log q pick ≡ Some c.in-Ok.wanted) c.loyal_of.ensures.shape_is (c.in-Ok.ensures.given log c.loyal_of.ensures.stands)),
    )

pub returns-in-Some-how_differs-clause-some : goal.returns-in-Some-how_differs-clause-some
returns-in-Some-how_differs-clause-some c =
    let w = c.args.stage.now in
    let read = read_off w.shape c.shape-2.result.now (Replica c.args.from) c.args.to c.args.found.now c.in_ok-clients.clients c.pick_of-2.result c.shape-2.ensures
    c.pick_of-2.ensures c.in_ok-clients.ensures.shown c.in_ok-clients.ensures.plain in
    let is = wanted (goal.at.returns-in-Some-how_differs-clause-some c).In-Ok in
    record { pick = c.pick_of-2.result; read = read.0; plain = read.1; why = (is.0, is.1, c.in-Some-how_differs.ensures.some) }

pub returns-in-None-clause-none : goal.returns-in-None-clause-none
returns-in-None-clause-none c =
    let w = c.args.stage.now in
    let pick = c.pick_of-2.result in
    let is = wanted (goal.at.returns-in-None-clause-none c).In-Ok in
    let same = where_none c.how_differs.result (c.in-Ok.wanted ≡ c.args.found.now) c.in-None.is c.how_differs.ensures.none in
    let spelled = subst HasSpelledOp (sym c.pick_of-2.ensures) (spelled_choice c.in_ok-clients.clients) in
    post_may w.shape w.run (subst IsAllowed c.shape.ensures c.n-n.ensures.allowed) c.steps_are_a_run.ensures c.args.from c.args.to pick c.args.found.now
    c.in-Ok.ensures.pick spelled is.0 (is.1 ∙ ap Some same)
