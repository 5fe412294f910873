use Rattle.dsr_hosts.proofs.Backs.{back_of}
use Rattle.dsr_hosts.proofs.threads.finish.Goals as goal

pub see_all_end-over-requires : goal.see_all_end-over-requires
see_all_end-over-requires g c =
    (back_of c.args.service.now.host.mail.now c.args.was.value c.in-Ended.back.seat (c.requires.ended c.in-Ended.back c.in-Ended.is).same).0

pub returns : goal.returns
returns g c = c.requires.ended c.in-Ended.back c.in-Ended.is
