use Rattle.std.proofs.Common.{◌≡◌, ◌++◌, subst}
use Rattle.dsr_reasons.specs.Reason.{other_of, reason_line}
use Rattle.dsr_reasons.proofs.why.write_why.Goals as goal

pub returns : goal.returns
returns c =
    let cause = c.in-Some.cause in
    let out = c.args.out.now in
    let new = c.write_line.new.out in
    record {
      cause = cause;
      holds = c.in-Some.ensures.some;
      told = subst (λ a. new ≡ out ++ reason_line c.args.as_data a (other_of c.args.event.now) cause) c.actor_of.ensures
          (subst (λ b. new ≡ out ++ reason_line c.args.as_data c.actor_of.result b cause) c.other_of.ensures c.write_line.ensures);
    }
