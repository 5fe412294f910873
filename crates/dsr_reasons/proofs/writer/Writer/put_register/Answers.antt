use Rattle.std.proofs.Common.{◌∙◌, refl, sym}
use Rattle.std.specs.Prelude.{string_bytes}
use Rattle.std.specs.Result.{is_ok}
use Rattle.dsr_reasons.specs.declared.writer.Piece.TheVariants.{Register}
use Rattle.dsr_reasons.proofs.WriterLemmas.{put_more, whole_more}
use Rattle.dsr_reasons.proofs.writer.Writer.put_register.Goals as goal

pub invariant_of-self : goal.invariant_of-self
invariant_of-self c = λ whole.
    let was = c.remember.ensures whole in
    whole_more c.self.inside.pieces.items c.and-self-inside.result.items (Register c.args.name.now) c.push_str.new.self (string_bytes c.self.inside.text)
    (string_bytes c.push_str.new.self) c.as_str.result.now (is_ok c.push_str.result) c.and-self-inside.ensures (sym c.as_str.ensures)
    (c.self.invariant was.0) c.push_str.ensures.bytes (sym c.is_ok-is_put.ensures.value ∙ was.1)

pub returns : goal.returns
returns c =
    put_more c.self.inside.pieces.items c.and-self-inside.result.items (Register c.args.name.now) c.push_str.new.self c.args.self.now c.args.name.now
    c.and-self-inside.ensures c.self.view_is refl
