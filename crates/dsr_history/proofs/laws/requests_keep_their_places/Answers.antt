use Rattle.dsr_history.proofs.LastReplies.{reply_last, reply_some, reply_none}
use Rattle.dsr_history.proofs.Standing.{In-acted, In-stands, stands_answered, stands_later, stood_before, stands_once, reply_stands}
use Rattle.dsr_history.proofs.laws.requests_keep_their_places.Goals as goal

pub returns-clause-from_values : goal.returns-clause-from_values
returns-clause-from_values c values request h = In-acted request values h

pub returns-clause-somewhere : goal.returns-clause-somewhere
returns-clause-somewhere c history request h = In-stands request history h

pub returns-clause-answered : goal.returns-clause-answered
returns-clause-answered c = stands_answered

pub returns-clause-stays : goal.returns-clause-stays
returns-clause-stays c = stands_later

pub returns-clause-stood : goal.returns-clause-stood
returns-clause-stood c = stood_before

pub returns-clause-once : goal.returns-clause-once
returns-clause-once c = stands_once

pub returns-clause-replies : goal.returns-clause-replies
returns-clause-replies c = reply_stands

pub returns-clause-last : goal.returns-clause-last
returns-clause-last c = reply_last

pub returns-clause-replied : goal.returns-clause-replied
returns-clause-replied c history request legal inside = let h = reply_some history legal request inside in (h.reply, h.is, h.most)

pub returns-clause-unreplied : goal.returns-clause-unreplied
returns-clause-unreplied c = reply_none
