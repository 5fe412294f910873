use Rattle.std.proofs.Common.{◌≡◌, ◌∙◌, refl, sym, subst}
use Rattle.dsr_names.specs.declared.actor.Actor.TheVariants.{Replica}
use Rattle.dsr_envelope.specs.Pick.{IsPick}
use Rattle.dsr_envelope.specs.declared.pick.Pick.TheVariants.{Plain}
use Rattle.dsr_replica.specs.Shown.{choice_of}
use Rattle.dsr_run.specs.Step.{log_of}
use Rattle.dsr_lines.specs.Begun.{clients_begun, ComesTwice}
use Rattle.dsr_lines.proofs.BegunLemmas.{twice_no_pick}
use Rattle.dsr_lines.proofs.JudgedLemmas.{round_event}
use Rattle.dsr_lines.proofs.judged.judge_round.Goals as goal

pub returns-in-Some-clause-judged : goal.returns-in-Some-clause-judged
returns-in-Some-clause-judged c =
    let w = c.args.stage.now in
    let p = c.args.from in
    let q = c.args.to in
    let x = c.args.found in
    let clients = c.in_ok-clients.clients.items in
    let client = c.in-Some.client in
    let are = subst (λ s. clients ≡ clients_begun s (Replica p) q x) c.shape.ensures c.in_ok-clients.ensures.clients in
    let twice = subst (ComesTwice client) c.as_slice.ensures.value c.in-Some.ensures.some in
    c.judge_twice.ensures.judged x
    (round_event w.shape (log_of w.run) p q x clients Plain c.requires are (λ good. absurd (twice_no_pick client clients twice good)) (λ bad. refl))
    (c.requires, subst (ComesTwice client) are twice)

pub returns-in-None-clause-judged : goal.returns-in-None-clause-judged
returns-in-None-clause-judged c =
    let w = c.args.stage.now in
    let p = c.args.from in
    let q = c.args.to in
    let x = c.args.found in
    let clients = c.in_ok-clients.clients.items in
    let pick = c.choice_of-pick.result in
    let are = subst (λ s. clients ≡ clients_begun s (Replica p) q x) c.shape.ensures c.in_ok-clients.ensures.clients in
    let seen = c.as_slice-in-None.ensures.value in
    let made = subst (λ l. IsPick (choice_of l) → pick ≡ choice_of l) seen c.choice_of-pick.ensures.made in
    let plain = subst (λ l. (IsPick (choice_of l) → ⊥) → pick ≡ Plain) seen c.choice_of-pick.ensures.plain in
    c.judge_pick.ensures.judged (round_event w.shape (log_of w.run) p q x clients pick c.requires are made plain)
    (λ d twice. c.in-None.ensures.none d (subst (ComesTwice d) (sym are ∙ sym c.as_slice.ensures.value) twice.1))
