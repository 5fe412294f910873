use Rattle.std.proofs.Common.{refl}
use Rattle.dsr_client.proofs.Fronts.{seen_above, seen_grows, seen_told, seen_accepted, seen_moves}
use Rattle.dsr_client.proofs.laws.seen_fronts_only_grow.Goals as goal

pub returns-clause-start : goal.returns-clause-start
returns-clause-start c shape = refl

pub returns-clause-grows : goal.returns-clause-grows
returns-clause-grows c shape entry log = seen_grows shape entry log

pub returns-clause-above : goal.returns-clause-above
returns-clause-above c shape log reply inside = seen_above shape log reply inside

pub returns-clause-replicas : goal.returns-clause-replicas
returns-clause-replicas c p front shape log = refl

pub returns-clause-clients : goal.returns-clause-clients
returns-clause-clients c k envelope shape log = refl

pub returns-clause-told : goal.returns-clause-told
returns-clause-told c k front shape log = seen_told k front shape log

pub returns-clause-accepted : goal.returns-clause-accepted
returns-clause-accepted c shape entry log reply accepts = seen_accepted shape entry log reply accepts

pub returns-clause-moves : goal.returns-clause-moves
returns-clause-moves c shape entry log = seen_moves shape entry log
