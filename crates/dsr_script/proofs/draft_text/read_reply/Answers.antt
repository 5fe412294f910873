use Rattle.dsr_script.proofs.EnvelopeLemmas.{no_space, one_space, reads_reply}
use Rattle.dsr_script.proofs.draft_text.read_reply.Goals as goal

pub returns-in-None : goal.returns-in-None
returns-in-None c = no_space c.args.bytes.now c.in-None.ensures.absent

pub returns-in-None-split_once : goal.returns-in-None-split_once
returns-in-None-split_once c =
    one_space c.args.bytes.now c.in-Some.number.now c.in-Some.rest.now c.in-Some.ensures.found c.in-Some.ensures.first c.in-None-split_once.ensures.absent

pub returns-in-Some-split_once : goal.returns-in-Some-split_once
returns-in-Some-split_once c =
    reads_reply c.args.bytes.now c.in-Some.number.now c.in-Some.rest.now c.in-Some-split_once.place.now c.in-Some-split_once.answer.now
    c.in-Some.ensures.found c.in-Some.ensures.first c.in-Some-split_once.ensures.found c.in-Some-split_once.ensures.first
    c.read_number.result c.read_num.result c.read.result c.reply_of_parts.result c.read_number.ensures c.read_num.ensures c.read.ensures
    c.reply_of_parts.ensures
