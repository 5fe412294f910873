use Rattle.std.proofs.Common.{arith, refl, subst, sym}
use Rattle.std.specs.Result.{IsOk}
use Rattle.dsr_names.proofs.input.RefSliceU8Source.TheImpl.Goals as goal

-- bytes in memory are steady
pub give-tells : goal.give-tells
give-tells g c =
    record {
      bound = c.ensures.bound;
      bytes = c.ensures.bytes;
      steady = λ _. subst (λ r. IsOk r) (sym c.ensures.count) refl;
      stays = λ _. tt;
      counted = omega arith;
    }
