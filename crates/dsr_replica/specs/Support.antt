-- How a replica is stored in its parts. No public contract cites this: it serves `impl Model` and private
-- contracts.
pub mod Asks
pub mod Decisions
pub mod DecisionsFields
pub mod Flights
pub mod FlightsFields
pub mod ProposalFields
pub mod ReplicaFields
