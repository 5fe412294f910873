-- What the fields of a proposal hold (this project).
use Rattle.std.specs.Prelude.{◌≤◌, length, vec_capacity}
use Rattle.dsr_replica.specs.declared.proposal.Proposal.TheInside.{Inside}

-- the value has at most 8 requests, and there is room for 8
pub record IsProposalFields (a : Inside) : Type 0 where
  pub few : length a.asks.items ≤ 8
  pub room : 8 ≤ vec_capacity a.asks
