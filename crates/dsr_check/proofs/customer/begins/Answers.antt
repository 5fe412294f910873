use Rattle.std.proofs.Common.{◌∷◌, ◌∙◌, suc, Some, ap, sym, subst}
use Rattle.dsr_names.specs.declared.actor.Actor.TheVariants.{Replica}
use Rattle.dsr_envelope.specs.declared.envelope.Envelope.TheVariants.{Ask}
use Rattle.dsr_envelope.specs.declared.entry.Entry.TheVariants.{Post}
use Rattle.dsr_envelope.specs.declared.pick.Pick.TheVariants.{Begin}
use Rattle.dsr_client.specs.Client.{StandsFor}
use Rattle.dsr_client.specs.Conduct.{ask_of}
use Rattle.dsr_check.proofs.customer.begins.Goals as goal

pub returns-clause-begins : goal.returns-clause-begins
returns-clause-begins c log stands inside =
    let same = c.same.ensures.0 c.if-not-same.false in
    let again = ap (ask_of c.args.client.now.me (suc c.args.client.now.accepted)) (c.op-2.ensures.same ∙ sym c.op.ensures.same) in
    let given = c.in-Some.ensures.stands log stands in
    let posted = c.in-Ok.ensures.stands log c.args.to stands in (
      (inside, (Begin c.op.result, given ∙ ap (λ a. Some (Ask a)) same)),
      subst (λ a. StandsFor c.begin.new.self (Post (Replica c.args.to) (Ask a) ∷ log)) (again ∙ (sym c.in-Some.ensures.ask ∙ same)) posted,
    )
