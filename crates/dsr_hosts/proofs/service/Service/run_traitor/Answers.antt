use Rattle.dsr_hosts.proofs.Backs.{again_of, planned_all, traitor_ending}
use Rattle.dsr_hosts.proofs.service.Service.run_traitor.Goals as goal

pub returns : goal.returns
returns g c =
    let host = c.args.self.now.host in
    let new = c.run_traitor-done.new.seat in
    let ran = c.run_traitor-done.ensures in
    record {
      same = again_of host.mail.now c.args.seat new c.actor-actor.result c.requires.0 ran.log c.actor-actor.ensures.same c.actor-actor.ensures.inside;
      ends = traitor_ending (g.G.Gate.may_refuse host.gate.now) c.args.self.now.script.now host.stop.now new c.run_traitor-done.result c.err.result
          c.err.ensures.value ran.end;
      posted = planned_all c.args.self.now.script.now new c.args.seat c.requires.1 ran.follows;
    }
