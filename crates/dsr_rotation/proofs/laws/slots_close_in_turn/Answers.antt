use Rattle.dsr_rotation.proofs.Closing.{closed_slots_count, closed_below, closed_above, closed_stays, begins_at, begin_in_order}
use Rattle.dsr_rotation.proofs.laws.slots_close_in_turn.Goals as goal

pub returns-clause-counted : goal.returns-clause-counted
returns-clause-counted c shape t = closed_slots_count shape t

pub returns-clause-closed : goal.returns-clause-closed
returns-clause-closed c shape slot t = (closed_below shape slot t, closed_above shape slot t)

pub returns-clause-stays : goal.returns-clause-stays
returns-clause-stays c shape t later = closed_stays shape t later

pub returns-clause-begins : goal.returns-clause-begins
returns-clause-begins c shape slot = begins_at shape slot

pub returns-clause-in_order : goal.returns-clause-in_order
returns-clause-in_order c shape slot later = begin_in_order shape slot later
