-- What `==` decides for actors, why the tokens of actors can be joined, how a list of replicas is a set, and what follows the
-- words of a refusal. These serve `==`, `impl Token`, private contracts, and tests that definitions branch on.
pub mod ActorEquality
pub mod ActorToken
pub mod RefusalText
pub mod ReplicaSets
