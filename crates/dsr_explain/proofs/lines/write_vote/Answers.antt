use Rattle.std.proofs.Common.{append_assoc, inl, inr, refl}
use Rattle.std.proofs.lemmas.Bool.{cases_Bool}
use Rattle.dsr_explain.proofs.lines.write_vote.Goals as goal

pub returns : goal.returns
returns c =
    elim (cases_Bool c.args.as_data) [
      | inl e ↦ simp (append_assoc, e, c.put_one.ensures, c.put_numbered.ensures, c.one_of.ensures, c.put_number.ensures, c.put_reply.ensures) refl
      | inr e ↦ simp (append_assoc, e, c.put_one.ensures, c.put_numbered.ensures, c.one_of.ensures, c.put_number.ensures, c.put_reply.ensures) refl
    ]
