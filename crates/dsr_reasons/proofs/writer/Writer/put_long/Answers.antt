use Rattle.std.proofs.Common.{◌∙◌, refl, sym}
use Rattle.std.specs.Prelude.{string_bytes}
use Rattle.std.specs.Result.{is_ok}
use Rattle.std.specs.Fmt.{decimal}
use Rattle.dsr_reasons.specs.declared.writer.Piece.TheVariants.{Number}
use Rattle.dsr_reasons.proofs.WriterLemmas.{put_more, whole_more}
use Rattle.dsr_reasons.proofs.writer.Writer.put_long.Goals as goal

pub invariant_of-self : goal.invariant_of-self
invariant_of-self c = λ whole.
    let was = c.remember.ensures whole in
    whole_more c.self.inside.pieces.items c.and-self-inside.result.items (Number c.args.number) c.push_str.new.self (string_bytes c.self.inside.text)
    (string_bytes c.push_str.new.self) c.format.result.now (is_ok c.push_str.result) c.and-self-inside.ensures (sym c.format.ensures.text)
    (c.self.invariant was.0) c.push_str.ensures.bytes (sym c.is_ok-is_put.ensures.value ∙ was.1)

pub returns : goal.returns
returns c =
    put_more c.self.inside.pieces.items c.and-self-inside.result.items (Number c.args.number) c.push_str.new.self c.args.self.now (decimal c.args.number)
    c.and-self-inside.ensures c.self.view_is refl
