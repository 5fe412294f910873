use Rattle.dsr_hosts.proofs.Backs.{again_of, owed_all, eager_all, replica_ending}
use Rattle.dsr_hosts.proofs.service.Service.run_replica.Goals as goal

pub returns : goal.returns
returns g c =
    let host = c.args.self.now.host in
    let new = c.run_replica-done.new.seat in
    let ran = c.run_replica-done.ensures in
    record {
      same = again_of host.mail.now c.args.seat new c.actor-actor.result c.requires.0 ran.log c.actor-actor.ensures.same c.actor-actor.ensures.inside;
      ends = replica_ending (g.G.Gate.may_refuse host.gate.now) c.args.self.now.script.now host.stop.now new c.run_replica-done.result c.err.result
          c.err.ensures.value ran.end;
      posted = (owed_all new c.args.seat c.requires.1 ran.answers, eager_all new c.args.seat c.requires.1 ran.log.shape ran.log.actor ran.eager);
    }
