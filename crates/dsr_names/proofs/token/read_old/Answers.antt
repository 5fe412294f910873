use Rattle.std.proofs.Common.{◌≡◌, codes, rules}
use Rattle.std.proofs.lemmas.Slice.Eq.{bytes_eq-Decides}
use Rattle.dsr_names.proofs.OldLemmas.{reads_none}
use Rattle.dsr_names.proofs.token.read_old.Goals as goal

pub returns-then-eq : goal.returns-then-eq
returns-then-eq c =
    let same : c.args.bytes.now ≡ codes "none" =
    (bytes_eq-Decides c.args.bytes.now (codes "none")).0 (search (rules, c.eq.ensures, c.if-eq.true)) in
    reads_none c.args.bytes.now same
