use Rattle.std.proofs.Common.{◌≡◌, rules}
use Rattle.dsr_script.proofs.SameLemmas.{same_asks}
use Rattle.dsr_script.proofs.same.SaidRequestSame.same.Goals as goal

pub returns-then-eq : goal.returns-then-eq
returns-then-eq c =
    let x = c.args.self.now in
    let y = c.args.other.now in
    let request : x.request ≡ y.request = search rules in
    let both = same_asks x y c.brief.result.now c.brief-then-eq.result.now c.brief.ensures c.brief-then-eq.ensures in
    (λ h. both.0 (request, c.same.ensures.0 h), λ e. c.same.ensures.1 (both.1 e).1)
