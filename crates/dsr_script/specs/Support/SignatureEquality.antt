-- `==` of signatures is an equivalence.
pub use Rattle.dsr_desk.specs.Support.SignatureEquality.{signature_eq, signature_eq-Decides}
use Rattle.std.specs.Cmp.{IsEquivalence, IsPartialEquivalence, both_ways, partial_equiv_from_equiv}
use Rattle.std.proofs.Common.{refl, sym, ap}

pub signature_eq-equiv : IsEquivalence signature_eq
signature_eq-equiv = record {
  refl = λ x. (signature_eq-Decides x x).1 refl;
  symm = λ x y. both_ways (signature_eq x y) (signature_eq y x)
      (λ h. (signature_eq-Decides y x).1 (sym ((signature_eq-Decides x y).0 h)))
      (λ h. (signature_eq-Decides x y).1 (sym ((signature_eq-Decides y x).0 h)));
  congr = λ x y z h. ap (λ s. signature_eq s z) ((signature_eq-Decides x y).0 h);
}

pub signature_eq-per : IsPartialEquivalence signature_eq
signature_eq-per = partial_equiv_from_equiv signature_eq-equiv
