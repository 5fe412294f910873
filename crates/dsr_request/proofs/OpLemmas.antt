-- The parts of an operation's text are those that a cut at its separators gives.
use Rattle.std.proofs.Common.{false, ap₂, ◌≡◌, ℕ, ◌<◌, ◌^◌, ◌↔◌, ◌⊎◌, inl, inr, List, ◌∷◌, ◌++◌, codes, Option, Some, refl, sym, ◌∙◌, ap, subst}
use Rattle.std.proofs.lemmas.Option.{same_Some}
use Rattle.std.specs.Fmt.{decimal}
use Rattle.dsr_base.specs.Split.{IsAbsent}
use Rattle.dsr_names.specs.Token.{IsOld, old_text}
use Rattle.dsr_request.specs.NameText.{IsName, is_name_byte}
use Rattle.dsr_request.specs.OpText.{IsOp, op_text, verb_of, operands_text}
use Rattle.dsr_request.specs.declared.op.Op.{Op}
use Rattle.dsr_request.specs.declared.op.Op.TheVariants.{Read, Write, Swap, Remove}
use Rattle.dsr_request.specs.Support.Texts.{name_without, old_without, verb_without}
use Rattle.dsr_request.proofs.Words.{other_word}
use Rattle.dsr_base.proofs.Marks.{one_cut, not_absent}

-- the two separators
abbrev IsSeparator : ℕ → Type 0
IsSeparator separator = (separator ≡ 32) ⊎ (separator ≡ 58)

-- neither separator is a byte that names have
is_no_name_byte : (separator : ℕ) → IsSeparator separator → is_name_byte separator ≡ false
is_no_name_byte separator (inl at) = ap is_name_byte at
is_no_name_byte separator (inr at) = ap is_name_byte at

-- an operation whose operands are cut into these two is a write of them
pub record IsWriteOf (first second : List ℕ) (op : Op) : Type 0 where
  pub value : ℕ
  pub is_write : op ≡ Write first value
  pub on_name : IsName first
  pub is_small : value < 2 ^ 64
  pub second_is : second ≡ decimal value

-- the operands are those of this write
abbrev pub SpellsWrite : ℕ → List ℕ → Op → Type 0
SpellsWrite separator operands op = IsOp op × (verb_of op ≡ codes "write") × (operands ≡ operands_text separator op)

pub write_of : (separator : ℕ) (operands first second : List ℕ) → IsSeparator separator
    → operands ≡ first ++ separator ∷ second → IsAbsent separator first
    → (op : Op) → SpellsWrite separator operands op → IsWriteOf first second op
write_of separator operands first second s cut whole (Read name) h = absurd (other_word (codes "read") (codes "write") refl h.1)
write_of separator operands first second s cut whole (Write name value) h =
    let both = one_cut separator first second name (decimal value) whole (name_without separator name (is_no_name_byte separator s) h.0.0) (sym cut ∙ h.2) in
    let same : first ≡ name = both.0 in
    record {
      value = value;
      is_write = ap (λ n. Write n value) (sym same);
      on_name = subst IsName (sym same) h.0.0;
      is_small = h.0.1;
      second_is = both.1;
    }
write_of separator operands first second s cut whole (Swap name from to) h = absurd (other_word (codes "swap") (codes "write") refl h.1)
write_of separator operands first second s cut whole (Remove name) h = absurd (other_word (codes "remove") (codes "write") refl h.1)

-- operands without a separator are those of no write
pub no_write : (separator : ℕ) (operands : List ℕ) → IsAbsent separator operands → (op : Op) → SpellsWrite separator operands op → ⊥
no_write separator operands whole (Read name) h = other_word (codes "read") (codes "write") refl h.1
no_write separator operands whole (Write name value) h =
    not_absent separator name (decimal value) (subst (IsAbsent separator) h.2 whole)
no_write separator operands whole (Swap name from to) h = other_word (codes "swap") (codes "write") refl h.1
no_write separator operands whole (Remove name) h = other_word (codes "remove") (codes "write") refl h.1

-- what reads the name and the number reads the write
pub write_by_parts : (separator : ℕ) (operands first second : List ℕ) → IsSeparator separator
    → operands ≡ first ++ separator ∷ second → IsAbsent separator first
    → (name : List ℕ) → ((n : List ℕ) → (Some name ≡ Some n) ↔ (IsName n × (first ≡ n)))
    → (value : ℕ) → ((v : ℕ) → (Some value ≡ Some v) ↔ ((v < 2 ^ 64) × (second ≡ decimal v)))
    → (op : Op) → (Some (Write name value) ≡ Some op) ↔ SpellsWrite separator operands op
write_by_parts separator operands first second s cut whole name names value values op = (
  (λ e.
      let same : Write name value ≡ op = same_Some (Write name value) op e in
      let n = (names name).0 refl in
      let v = (values value).0 refl in
      let first_is : first ≡ name = n.1 in
      let second_is : second ≡ decimal value = v.1 in
      let text : operands ≡ name ++ separator ∷ decimal value = cc in
      subst (SpellsWrite separator operands) same ((n.0, v.0), refl, text)),
  (λ h.
      let w = write_of separator operands first second s cut whole op h in
      let n : Some name ≡ Some first = (names first).1 (w.on_name, refl) in
      let v : Some value ≡ Some w.value = (values w.value).1 (w.is_small, w.second_is) in
      ap Some (ap₂ Write (same_Some name first n) (same_Some value w.value v) ∙ sym w.is_write)),
)

-- an operation whose operands are cut into these two is a swap on the first
pub record IsSwapOf (separator : ℕ) (first rest : List ℕ) (op : Op) : Type 0 where
  pub from : Option ℕ
  pub to : ℕ
  pub is_swap : op ≡ Swap first from to
  pub on_name : IsName first
  pub is_old : IsOld from
  pub is_small : to < 2 ^ 64
  pub rest_is : rest ≡ old_text from ++ separator ∷ decimal to

-- the operands are those of this swap
abbrev pub SpellsSwap : ℕ → List ℕ → Op → Type 0
SpellsSwap separator operands op = IsOp op × (verb_of op ≡ codes "swap") × (operands ≡ operands_text separator op)

pub swap_of : (separator : ℕ) (operands first rest : List ℕ) → IsSeparator separator
    → operands ≡ first ++ separator ∷ rest → IsAbsent separator first
    → (op : Op) → SpellsSwap separator operands op → IsSwapOf separator first rest op
swap_of separator operands first rest s cut whole (Read name) h = absurd (other_word (codes "read") (codes "swap") refl h.1)
swap_of separator operands first rest s cut whole (Write name value) h = absurd (other_word (codes "write") (codes "swap") refl h.1)
swap_of separator operands first rest s cut whole (Swap name from to) h =
    let both = one_cut separator first rest name (old_text from ++ separator ∷ decimal to) whole (name_without separator name (is_no_name_byte separator s) h.0.0) (sym cut ∙ h.2) in
    let same : first ≡ name = both.0 in
    record {
      from = from;
      to = to;
      is_swap = ap (λ n. Swap n from to) (sym same);
      on_name = subst IsName (sym same) h.0.0;
      is_old = h.0.1;
      is_small = h.0.2;
      rest_is = both.1;
    }
swap_of separator operands first rest s cut whole (Remove name) h = absurd (other_word (codes "remove") (codes "swap") refl h.1)

-- operands without a separator are those of no swap
pub no_swap : (separator : ℕ) (operands : List ℕ) → IsAbsent separator operands → (op : Op) → SpellsSwap separator operands op → ⊥
no_swap separator operands whole (Read name) h = other_word (codes "read") (codes "swap") refl h.1
no_swap separator operands whole (Write name value) h = other_word (codes "write") (codes "swap") refl h.1
no_swap separator operands whole (Swap name from to) h =
    not_absent separator name (old_text from ++ separator ∷ decimal to) (subst (IsAbsent separator) h.2 whole)
no_swap separator operands whole (Remove name) h = other_word (codes "remove") (codes "swap") refl h.1

-- the two values of a swap, if the rest is cut once more
pub values_of : (separator : ℕ) (first rest second third : List ℕ) → IsSeparator separator
    → rest ≡ second ++ separator ∷ third → IsAbsent separator second
    → (op : Op) → (w : IsSwapOf separator first rest op) → (second ≡ old_text w.from) × (third ≡ decimal w.to)
values_of separator first rest second third s cut whole op w =
    one_cut separator second third (old_text w.from) (decimal w.to) whole (old_without separator w.from (is_no_name_byte separator s) w.is_old) (sym cut ∙ w.rest_is)

-- what reads the name and the two values reads the swap
pub swap_by_parts : (separator : ℕ) (operands first rest second third : List ℕ) → IsSeparator separator
    → operands ≡ first ++ separator ∷ rest → IsAbsent separator first
    → rest ≡ second ++ separator ∷ third → IsAbsent separator second
    → (name : List ℕ) → ((n : List ℕ) → (Some name ≡ Some n) ↔ (IsName n × (first ≡ n)))
    → (from : Option ℕ) → ((old : Option ℕ) → (Some from ≡ Some old) ↔ (IsOld old × (second ≡ old_text old)))
    → (to : ℕ) → ((v : ℕ) → (Some to ≡ Some v) ↔ ((v < 2 ^ 64) × (third ≡ decimal v)))
    → (op : Op) → (Some (Swap name from to) ≡ Some op) ↔ SpellsSwap separator operands op
swap_by_parts separator operands first rest second third s cut whole cut_rest whole_rest name names from olds to values op = (
  (λ e.
      let same : Swap name from to ≡ op = same_Some (Swap name from to) op e in
      let n = (names name).0 refl in
      let o = (olds from).0 refl in
      let v = (values to).0 refl in
      let first_is : first ≡ name = n.1 in
      let second_is : second ≡ old_text from = o.1 in
      let third_is : third ≡ decimal to = v.1 in
      let text : operands ≡ name ++ separator ∷ (old_text from ++ separator ∷ decimal to) = cc in
      subst (SpellsSwap separator operands) same ((n.0, o.0, v.0), refl, text)),
  (λ h.
      let w = swap_of separator operands first rest s cut whole op h in
      let both = values_of separator first rest second third s cut_rest whole_rest op w in
      let n : name ≡ first = same_Some name first ((names first).1 (w.on_name, refl)) in
      let o : from ≡ w.from = same_Some from w.from ((olds w.from).1 (w.is_old, both.0)) in
      let v : to ≡ w.to = same_Some to w.to ((values w.to).1 (w.is_small, both.1)) in
      let swapped : Swap name from to ≡ Swap first w.from w.to = cc in
      ap Some (swapped ∙ sym w.is_swap)),
)

-- a text without a separator is that of no operation
pub no_op : (separator : ℕ) (bytes : List ℕ) (op : Op) → IsAbsent separator bytes → bytes ≡ op_text separator op → ⊥
no_op separator bytes op whole e =
    not_absent separator (verb_of op) (operands_text separator op) (subst (IsAbsent separator) e whole)

-- what reads the word and the operands reads the text
pub op_of_parts : (separator : ℕ) (bytes verb operands : List ℕ) (r : Option Op) (op : Op) → IsSeparator separator
    → bytes ≡ verb ++ separator ∷ operands → IsAbsent separator verb
    → (r ≡ Some op) ↔ (IsOp op × (verb ≡ verb_of op) × (operands ≡ operands_text separator op))
    → (r ≡ Some op) ↔ (IsOp op × (bytes ≡ op_text separator op))
op_of_parts separator bytes verb operands r op s cut whole parts = (
  (λ e.
      let both = parts.0 e in
      let first : verb ≡ verb_of op = both.1 in
      let rest : operands ≡ operands_text separator op = both.2 in
      (both.0, cc)),
  (λ h.
      let same : verb ++ separator ∷ operands ≡ op_text separator op = sym cut ∙ h.1 in
      let both = one_cut separator verb operands (verb_of op) (operands_text separator op) whole (verb_without separator op (is_no_name_byte separator s)) same in
      parts.1 (h.0, both.0, both.1)),
)
