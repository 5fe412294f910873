use Rattle.std.proofs.Common.{◌∙◌, ◌∷◌, [], refl, sym}
use Rattle.std.specs.Prelude.{string_bytes}
use Rattle.std.specs.Result.{is_ok}
use Rattle.dsr_reasons.specs.declared.writer.Piece.TheVariants.{Char}
use Rattle.dsr_reasons.proofs.WriterLemmas.{put_more, whole_more}
use Rattle.dsr_reasons.proofs.writer.Writer.put_char.Goals as goal

pub invariant_of-self : goal.invariant_of-self
invariant_of-self c = λ whole.
    let was = c.remember.ensures whole in
    whole_more c.self.inside.pieces.items c.and-self-inside.result.items (Char c.args.character) c.push.new.self (string_bytes c.self.inside.text)
    (string_bytes c.push.new.self) _ (is_ok c.push.result) c.and-self-inside.ensures (sym (c.push.ensures.ascii c.requires))
    (c.self.invariant was.0) c.push.ensures.bytes (sym c.is_ok-is_put.ensures.value ∙ was.1)

pub returns : goal.returns
returns c =
    put_more c.self.inside.pieces.items c.and-self-inside.result.items (Char c.args.character) c.push.new.self c.args.self.now (c.args.character ∷ [])
    c.and-self-inside.ensures c.self.view_is refl
