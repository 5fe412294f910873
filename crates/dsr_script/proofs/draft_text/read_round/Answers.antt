use Rattle.std.proofs.Common.{◌++◌, codes, [], Some, sym, subst}
use Rattle.std.specs.Option.{option_map}
use Rattle.dsr_base.specs.Reads.{Reads}
use Rattle.dsr_script.specs.EnvelopeText.{envelope_text, IsSpelledEnvelope}
use Rattle.dsr_script.specs.Support.SpelledText.{pair_of}
use Rattle.dsr_script.proofs.EnvelopeLemmas.{reads_round, reads_round_alone, reads_round_with}
use Rattle.dsr_script.proofs.draft_text.read_round.Goals as goal

pub returns-in-None-clause-read : goal.returns-in-None-clause-read
returns-in-None-clause-read c =
    subst (Reads IsSpelledEnvelope envelope_text (codes "round " ++ c.args.bytes.now)) (sym c.round_of_parts.ensures)
    (rw c.new.ensures.items (reads_round c.args.bytes.now (pair_of c.read_num.result (Some []))
    (reads_round_alone c.args.bytes.now c.in-None.ensures.absent c.read_num.result c.read_num.ensures)))

pub returns-in_ok-chains-in-Some-clause-read : goal.returns-in_ok-chains-in-Some-clause-read
returns-in_ok-chains-in-Some-clause-read c =
    let chains = option_map (λ list. list.items) c.in_ok-chains-in-Some.chains in
    subst (Reads IsSpelledEnvelope envelope_text (codes "round " ++ c.args.bytes.now)) (sym c.round_of_parts-in-Some.ensures)
    (reads_round c.args.bytes.now (pair_of c.read_num-in-Some.result chains)
    (reads_round_with c.args.bytes.now c.in-Some.round.now c.in-Some.chains.now c.in-Some.ensures.found c.in-Some.ensures.first
    c.read_num-in-Some.result chains c.read_num-in-Some.ensures c.in_ok-chains-in-Some.ensures.read))
