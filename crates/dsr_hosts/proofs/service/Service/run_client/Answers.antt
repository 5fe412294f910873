use Rattle.dsr_hosts.proofs.Backs.{again_of, client_ending}
use Rattle.dsr_hosts.proofs.service.Service.run_client.Goals as goal

pub returns : goal.returns
returns g c =
    let host = c.args.self.now.host in
    let new = c.make_all-done.new.seat in
    let ran = c.make_all-done.ensures in
    record {
      same = again_of host.mail.now c.args.seat new c.actor-actor.result c.requires.0 ran.log c.actor-actor.ensures.same c.actor-actor.ensures.inside;
      ends = client_ending (g.G.Gate.may_refuse host.gate.now) c.args.self.now.script.now new c.make_all-done.result c.err.result
          c.err.ensures.value ran.served ran.unserved ran.end;
      posted = tt;
    }
