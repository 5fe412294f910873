-- What the crates above use of chains: what the tests decide, how a proper chain begins and grows, on which links its
-- signatures are, that its content determines its value, that a long one has a loyal signer, and that none of it depends
-- on who is a traitor.
pub use Rattle.dsr_chain.proofs.ProperDecides.{same_content-Decides, has_signed-Decides, is_signer-Decides, asked-Decides, all_asked-Decides, is_proper-Decides}
pub use Rattle.dsr_chain.proofs.Sameness.{slot_value_eq-Decides}
pub use Rattle.dsr_chain.proofs.ChainLaws.{signer_in, signature_of, signers_count, started_proper, extended_proper, own_place, other_place, own_before, link_parts, StandsOnLink, link_at, first_link, same_asked_value, same_value, HasLoyalSigner, some_loyal}
pub use Rattle.dsr_chain.proofs.Blindness.{sender_blind, is_proper_blind, proper_blind, asked_blind}
pub use Rattle.dsr_chain.proofs.Contents.{requests_of_content, no_requests}
pub use Rattle.dsr_chain.proofs.FaultLemmas.{without_fault}
