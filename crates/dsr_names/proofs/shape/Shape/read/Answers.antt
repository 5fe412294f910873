use Rattle.std.proofs.Common.{refl}
use Rattle.dsr_names.specs.Shape.{shape_of}
use Rattle.dsr_names.proofs.ReplicaSets.{fields_text}
use Rattle.dsr_names.proofs.shape.Shape.read.Goals as goal

-- the shape of the four fields that were read
pub returns-clause-spelled : goal.returns-clause-spelled
returns-clause-spelled c = record {
  shape = shape_of c.in_ok-n.n c.in_ok-f.f c.in_ok-m.m c.in_ok-traitors.traitors;
  spelled =
      record {
        n_is_number = c.in_ok-n.ensures.spelled.0;
        f_is_number = c.in_ok-f.ensures.spelled.0;
        m_is_number = c.in_ok-m.ensures.spelled.0;
        replicas_exist = ((c.in_ok-traitors.ensures c.in_ok-traitors.traitors).0 refl).0;
      };
  text =
      fields_text c.in_ok-n.n c.in_ok-f.f c.in_ok-m.m c.in_ok-traitors.traitors
      c.args.bytes.now c.in_ok-n.rest.now c.in_ok-f.rest.now c.in_ok-m.rest.now
      c.in_ok-n.ensures.spelled.1 c.in_ok-f.ensures.spelled.1 c.in_ok-m.ensures.spelled.1 ((c.in_ok-traitors.ensures c.in_ok-traitors.traitors).0 refl).1;
  verdict = c.within_limits.ensures;
}
