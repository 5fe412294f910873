use Rattle.dsr_replica.proofs.Later.{read_later, kept_later, decided_later, history_later}
use Rattle.dsr_replica.proofs.laws.closed_rounds_stay.Goals as goal

pub returns-clause-kept : goal.returns-clause-kept
returns-clause-kept c shape me later log some loyal grown slot closed = kept_later shape me some later log loyal grown slot closed

pub returns-clause-decided : goal.returns-clause-decided
returns-clause-decided c shape me later log some loyal grown = decided_later shape me some later log loyal grown

pub returns-clause-history : goal.returns-clause-history
returns-clause-history c shape me later log some loyal grown = history_later shape me some later log loyal grown

pub returns-clause-read : goal.returns-clause-read
returns-clause-read c shape me later log some loyal grown round closed = read_later shape me some later log loyal grown round closed
