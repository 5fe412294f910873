use Rattle.std.proofs.Common.{◌≡◌, ◌++◌, ap, map, subst, sym}
use Rattle.std.specs.Option.{option_map}
use Rattle.std.specs.Prelude.{slice_get, string_bytes}
use Rattle.dsr_run.specs.Step.{log_of}
use Rattle.dsr_reasons.specs.Reason.{actor_of, other_of}
use Rattle.dsr_explain.specs.Lines.{note_line, or_empty}
use Rattle.dsr_explain.specs.declared.chain_texts.ChainText.{ChainText}
use Rattle.dsr_explain.proofs.NoteLemmas.{same_line}
use Rattle.dsr_explain.proofs.lines.write_note.Goals as goal

pub returns-in-Chain : goal.returns-in-Chain
returns-in-Chain c =
    let stage = c.args.stage.now in
    let event = c.args.event.now in
    let chains = c.args.chains.now in
    let texts = map (λ (text : ChainText). string_bytes text.shown) c.args.texts.now in
    let text = option_map (λ t. string_bytes t.now.shown) c.text_at-text.result in
    let place = c.in-Chain.place in
    let old = c.args.out.now in
    let new = c.write_chain.new.out in
    let same =
    same_line c.args.as_data c.shape.result.now stage.shape c.actor_of-at.result (actor_of event) (option_map (λ x. x.now) c.chain_at-chain.result)
    (slice_get chains place) (or_empty text) (or_empty (slice_get texts place)) c.in-Chain.slot c.in-Chain.fate c.shape.ensures c.actor_of-at.ensures
    c.chain_at-chain.ensures (ap or_empty c.text_at-text.ensures) in
    subst (λ n. new ≡ old ++ note_line c.args.as_data stage.shape (log_of stage.run) (actor_of event) (other_of event) chains texts n)
    (sym c.in-Chain.is) (subst (λ t. new ≡ old ++ t) same c.write_chain.ensures)
