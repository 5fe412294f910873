-- What a signature says, and how it finds the signature in a set.
use Rattle.std.specs.Prelude.{◌≡◌, Bool, true}
use Rattle.std.specs.Cmp.{IsEquivalence, IsPartialEquivalence, partial_equiv_from_equiv}
use Rattle.std.specs.Hash as fed
use Rattle.std.specs.Ordering.{on}
use Rattle.dsr_desk.specs.Signature.{Signature, signed}
use Rattle.dsr_script.specs.declared.said.Said.{Said}
use Rattle.dsr_script.specs.Support.SignatureEquality.{signature_eq, signature_eq-equiv}
use Rattle.dsr_script.specs.Support.SignatureHash.{signature_fed, signature_fed_alike}

-- the signature that says this
abbrev pub said_of : Said → Signature
said_of said = signed said.signer said.statement.now

-- whether `==` holds: whether both say the same
abbrev pub said_eq : Said → Said → Bool
said_eq = on said_of signature_eq

pub said_eq-equiv : IsEquivalence said_eq
said_eq-equiv = record {
  refl = λ a. signature_eq-equiv.refl (said_of a);
  symm = λ a b. signature_eq-equiv.symm (said_of a) (said_of b);
  congr = λ a b c. signature_eq-equiv.congr (said_of a) (said_of b) (said_of c);
}

pub said_eq-per : IsPartialEquivalence said_eq
said_eq-per = partial_equiv_from_equiv said_eq-equiv

-- what is hashed
abbrev pub said_fed : Said → fed.HashWrites
said_fed said = signature_fed (said_of said)

-- equal ones are hashed alike
pub said_fed_alike : (a b : Said) → said_eq a b ≡ true → said_fed a ≡ said_fed b
said_fed_alike a b = signature_fed_alike (said_of a) (said_of b)

-- whether it says what a signature says
abbrev pub says : Said → Signature → Bool
says said = signature_eq (said_of said)
