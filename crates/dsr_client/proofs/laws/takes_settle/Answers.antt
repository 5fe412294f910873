use Rattle.dsr_client.proofs.Counted.{accept_cases, take_quiet, ask_begins, post_none}
use Rattle.dsr_client.proofs.laws.takes_settle.Goals as goal

pub returns-clause-settles : goal.returns-clause-settles
returns-clause-settles c shape entry log = accept_cases shape entry log

pub returns-clause-quiet : goal.returns-clause-quiet
returns-clause-quiet c shape from envelope log none = take_quiet shape from envelope log none

pub returns-clause-begins : goal.returns-clause-begins
returns-clause-begins c shape q ask log none = ask_begins shape q ask log none

pub returns-clause-posts : goal.returns-clause-posts
returns-clause-posts c shape to envelope log = post_none shape to envelope log
