use Rattle.dsr_script.proofs.AskLemmas.{no_ask, reads_ask}
use Rattle.dsr_script.proofs.said.SaidRequest.read.Goals as goal

pub returns-in-None-clause-read : goal.returns-in-None-clause-read
returns-in-None-clause-read c = no_ask c.args.bytes.now c.in-None.ensures.absent

pub returns-in_ok-brief-in-Some-clause-read : goal.returns-in_ok-brief-in-Some-clause-read
returns-in_ok-brief-in-Some-clause-read c =
    reads_ask c.args.bytes.now c.in-Some.request.now c.in-Some.brief.now c.in-Some.ensures.found c.in-Some.ensures.first c.read-in-Some.result
    c.in_ok-brief-in-Some.brief c.of_parts.result c.read-in-Some.ensures c.in_ok-brief-in-Some.ensures.read c.of_parts.ensures
