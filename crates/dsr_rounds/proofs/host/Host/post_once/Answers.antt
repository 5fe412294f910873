use Rattle.std.proofs.Common.{◌∙◌, ap, sym, refl}
use Rattle.dsr_names.specs.Shape.{Shape}
use Rattle.dsr_rounds.proofs.Scripts.{no_answers, plant_posts}
use Rattle.dsr_rounds.proofs.host.Host.post_once.Goals as goal

pub returns-clause-kept : goal.returns-clause-kept
returns-clause-kept g c =
    plant_posts c.args.script.now c.args.round c.args.self.now.mail.now.shape.n c.args.client c.replica.result c.in-Some.draft.now c.args.seat.now
    c.try_plant.new.seat c.in_ok-_planting._planting (ap (λ (s : Shape). s.n) (sym c.requires.mail.1)) c.replica.ensures.same
    c.in-Some.ensures c.in_ok-_planting.ensures.tried
