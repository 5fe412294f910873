use Rattle.std.specs.Prelude.{string_bytes}
use Rattle.dsr_explain.specs.declared.chain_texts.ChainText.{ChainText}
use Rattle.dsr_explain.proofs.LentLemmas.{part_at}
use Rattle.dsr_explain.proofs.lines.text_at.Goals as goal

pub returns : goal.returns
returns c = part_at (λ (text : ChainText). string_bytes text.shown) c.args.texts.now c.args.place c.get.result c.get.ensures.lookup.1 c.get.ensures.lookup.3
