use Rattle.std.proofs.Common.{ap, sym, ◌∙◌}
use Rattle.dsr_envelope.specs.declared.envelope.Envelope.TheVariants.{Seen}
use Rattle.dsr_envelope.specs.declared.entry.Entry.TheVariants.{Post}
use Rattle.dsr_client.specs.State.{seen}
use Rattle.dsr_boxes.specs.Pass.{Pass, with_entry}
use Rattle.dsr_mail.proofs.Clearing.{Tells, telling}
use Rattle.dsr_mail.proofs.loyal.Loyal.try_tell.Goals.{After-seen}
use Rattle.dsr_mail.proofs.loyal.Loyal.try_tell.Goals as goal

tells : (c : After-seen) → Tells c.self.inside.seat c.self.inside.node c.args.to.now c.seen.result
tells c = telling _ _ _ _ (rw c.self.view_is (sym c.tell_refusal.ensures ∙ c.in_default.is)) c.self.invariant c.seen.ensures

pub post-requires-clause-conduct : goal.post-requires-clause-conduct
post-requires-clause-conduct c = (tells (goal.at.post-requires-clause-conduct c).After-seen).may

pub invariant_of-self-2 : goal.invariant_of-self-2
invariant_of-self-2 c = rw c.in-Ok.ensures.posted (tells (goal.at.invariant_of-self-2 c).After-seen).after

pub returns-clause-ok : goal.returns-clause-ok
returns-clause-ok c =
    let front = (tells (goal.at.returns-clause-ok c).After-seen).front_is in
    c.in-Ok.ensures.posted ∙ (ap (λ f. with_entry c.self.inside.seat (Post c.args.to.now (Seen f))) front
    ∙ ap (λ (s : Pass). with_entry s (Post c.args.to.now (Seen (seen s.shape s.log)))) c.self.view_is)
