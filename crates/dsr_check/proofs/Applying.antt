-- What an operation on a table of registers leaves, and what it answers.
use Rattle.std.proofs.Common.{◌≡◌, ℕ, Bool, true, false, cond, List, ◌∷◌, length, nat_le, Option, refl, sym, ◌∙◌, ap}
use Rattle.std.specs.Str.{bytes_eq}
use Rattle.std.proofs.lemmas.Slice.Eq.{bytes_eq-Decides}
use Rattle.dsr_request.specs.Register.{register_of}
use Rattle.dsr_request.specs.declared.op.Op.{Op}
use Rattle.dsr_register.specs.Table.{held_in, StandsFor}
use Rattle.dsr_register.specs.Values.{answer_after, answer_on, left_by}
use Rattle.dsr_check.specs.Support.Table.{IsInOrder}
use Rattle.dsr_register.proofs.ValueLemmas.{stands_after, answer_stands}
use Rattle.dsr_check.proofs.TableLemmas.{Registers, distinct_in_order}

-- a table in which the register holds what it is to hold stays as it is
pub stays : (table : Registers) (name : List ℕ) (held left : Option ℕ) → held ≡ held_in table name → left ≡ held → (q : List ℕ)
    → held_in table q ≡ cond (bytes_eq name q) left (held_in table q)
stays table name held left is same q = by (bytes_eq name q) refl
  where
    by : (b : Bool) → b ≡ bytes_eq name q → held_in table q ≡ cond b left (held_in table q)
    by true e = ap (held_in table) (sym ((bytes_eq-Decides name q).0 (sym e))) ∙ sym is ∙ sym same
    by false e = refl

-- one more operation: its register holds what the operation leaves, and the others what they held
pub applied : (old new : Registers) (op : Op) (ops : List Op) (name : List ℕ) (held left : Option ℕ) (full : Bool) → IsInOrder old
    → name ≡ register_of op → held ≡ held_in old name → full ≡ nat_le 1024 (length old) → left ≡ left_by op held full
    → ((q : List ℕ) → held_in new q ≡ cond (bytes_eq name q) left (held_in old q)) → StandsFor old ops → StandsFor new (op ∷ ops)
applied old new op ops name held left full order named is filled leaves change stands =
    stands_after old new op ops (distinct_in_order old order) stands (λ q. change q ∙ by q (bytes_eq name q) refl ∙ ap (λ n. cond (bytes_eq n q) (then q) (held_in old q)) named)
  where
    then : List ℕ → Option ℕ
    then q = left_by op (held_in old q) (nat_le 1024 (length old))

    by : (q : List ℕ) (b : Bool) → b ≡ bytes_eq name q → cond b left (held_in old q) ≡ cond b (then q) (held_in old q)
    by q true e =
        leaves ∙ ap (left_by op held) filled
        ∙ ap (λ h. left_by op h (nat_le 1024 (length old))) (is ∙ ap (held_in old) ((bytes_eq-Decides name q).0 (sym e)))
    by q false e = refl

-- and its answer
pub answered : (old : Registers) (op : Op) (ops : List Op) (name : List ℕ) (held : Option ℕ) (full : Bool) → IsInOrder old
    → name ≡ register_of op → held ≡ held_in old name → full ≡ nat_le 1024 (length old) → StandsFor old ops → answer_on op held full ≡ answer_after ops op
answered old op ops name held full order named is filled stands =
    ap (answer_on op held) filled
    ∙ ap (λ h. answer_on op h (nat_le 1024 (length old))) (is ∙ ap (held_in old) named)
    ∙ answer_stands old op ops (distinct_in_order old order) stands
