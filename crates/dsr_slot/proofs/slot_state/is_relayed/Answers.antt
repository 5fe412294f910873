use Rattle.dsr_chain.specs.ProperTest.{is_signer}
use Rattle.dsr_chain.proofs.Lemmas.{is_signer-Decides}
use Rattle.dsr_slot.proofs.KeepLemmas.{same_test, relays_unsigned}
use Rattle.dsr_slot.proofs.slot_state.is_relayed.Goals as goal

pub returns-then-kept-round : goal.returns-then-kept-round
returns-then-kept-round c =
    let me = c.args.replica in
    let chain = c.args.kept.now.chain in
    relays_unsigned me c.args.round c.args.kept.now c.has_signer.result c.if-kept-round.true
    (same_test c.has_signer.result (is_signer me chain) (is_signer-Decides me chain) c.has_signer.ensures)
