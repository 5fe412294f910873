-- The texts of operations and answers consist of bytes that names may have, and of separators.
use Rattle.std.proofs.Common.{All, ◌≡◌, ℕ, ◌+◌, ◌%◌, ◌<◌, ◌^◌, List, [], ◌∷◌, ◌++◌, codes, Option, None, Some, IsTrue, false, sym, ◌∙◌, ap, arith, rules}
use Rattle.std.proofs.lemmas.Bool.{false≢true}
use Rattle.std.proofs.lemmas.Bool.Decides.{nat_tests}
use Rattle.std.proofs.lemmas.Fmt.{decimal_by_steps}
use Rattle.std.proofs.lemmas.List.Elements.{All-weaker, All-append, All-push, All-cons, All-nil}
use Rattle.std.specs.Fmt.{decimal}
use Rattle.dsr_base.specs.Split.{IsAbsent}
use Rattle.dsr_names.specs.Token.{IsOld, old_text}
use Rattle.dsr_request.specs.AnswerText.{IsAnswer, answer_text}
use Rattle.dsr_request.specs.NameText.{IsName, is_name_byte}
use Rattle.dsr_request.specs.OpText.{IsOp, op_text, verb_of, operands_text}
use Rattle.dsr_request.specs.declared.answer.Answer.{Answer}
use Rattle.dsr_request.specs.declared.answer.Answer.TheVariants.{Held, Written, Swapped, Kept, Full, Removed}
use Rattle.dsr_request.specs.declared.op.Op.{Op}
use Rattle.dsr_request.specs.declared.op.Op.TheVariants.{Read, Write, Swap, Remove}

abbrev IsNameByte : ℕ → Type 0
IsNameByte b = IsTrue (is_name_byte b)

digit_is_name_byte : (d : ℕ) → d < 10 → IsNameByte (48 + d)
digit_is_name_byte d small = grind (arith, nat_tests)

decimal_name_bytes : (n : ℕ) → n < 2 ^ 64 → All IsNameByte (decimal n)
decimal_name_bytes n small =
    decimal_by_steps (λ k ds. All IsNameByte ds)
    (λ k below. All-cons IsNameByte (48 + k) [] (digit_is_name_byte k below) (All-nil IsNameByte))
    (λ k ds above so_far. All-push IsNameByte ds (48 + k % 10) so_far (digit_is_name_byte (k % 10) (omega arith)))
    n small

-- a byte that no name may have does not occur among bytes that names may have
without : (byte : ℕ) (bytes : List ℕ) → is_name_byte byte ≡ false → All IsNameByte bytes → IsAbsent byte bytes
without byte bytes other h =
    All-weaker IsNameByte (λ b. b ≡ byte → ⊥) (λ b allowed e. false≢true (sym other ∙ (ap is_name_byte (sym e) ∙ allowed))) bytes h

-- such a byte is in no name
pub name_without : (byte : ℕ) (name : List ℕ) → is_name_byte byte ≡ false → IsName name → IsAbsent byte name
name_without byte name other h = without byte name other h.allowed

-- such a byte is in no number
pub decimal_without : (byte n : ℕ) → is_name_byte byte ≡ false → n < 2 ^ 64 → IsAbsent byte (decimal n)
decimal_without byte n other small = without byte (decimal n) other (decimal_name_bytes n small)

-- such a byte is in nothing that a register holds
pub old_without : (byte : ℕ) (old : Option ℕ) → is_name_byte byte ≡ false → IsOld old → IsAbsent byte (old_text old)
old_without byte None other h = without byte (codes "none") other (search rules)
old_without byte (Some n) other h = decimal_without byte n other h

-- such a byte is in no word of an operation
pub verb_without : (byte : ℕ) (op : Op) → is_name_byte byte ≡ false → IsAbsent byte (verb_of op)
verb_without byte (Read name) other = without byte (codes "read") other (search rules)
verb_without byte (Write name value) other = without byte (codes "write") other (search rules)
verb_without byte (Swap name from to) other = without byte (codes "swap") other (search rules)
verb_without byte (Remove name) other = without byte (codes "remove") other (search rules)

two_without : (byte separator : ℕ) (first second : List ℕ) → (separator ≡ byte → ⊥) → IsAbsent byte first → IsAbsent byte second
    → IsAbsent byte (first ++ separator ∷ second)
two_without byte separator first second apart p q =
    All-append (λ b. b ≡ byte → ⊥) first (separator ∷ second) p (All-cons (λ b. b ≡ byte → ⊥) separator second apart q)

operands_without : (byte separator : ℕ) (op : Op) → is_name_byte byte ≡ false → (separator ≡ byte → ⊥) → IsOp op → IsAbsent byte (operands_text separator op)
operands_without byte separator (Read name) other apart h = name_without byte name other h
operands_without byte separator (Write name value) other apart h =
    two_without byte separator name (decimal value) apart (name_without byte name other h.0) (decimal_without byte value other h.1)
operands_without byte separator (Swap name from to) other apart h =
    two_without byte separator name (old_text from ++ separator ∷ decimal to) apart (name_without byte name other h.0)
    (two_without byte separator (old_text from) (decimal to) apart (old_without byte from other h.1) (decimal_without byte to other h.2))
operands_without byte separator (Remove name) other apart h = name_without byte name other h

-- such a byte is in no operation, unless it separates the parts
pub op_without : (byte separator : ℕ) (op : Op) → is_name_byte byte ≡ false → (separator ≡ byte → ⊥) → IsOp op → IsAbsent byte (op_text separator op)
op_without byte separator op other apart h =
    two_without byte separator (verb_of op) (operands_text separator op) apart (verb_without byte op other) (operands_without byte separator op other apart h)

-- such a byte is in no answer, unless it is a space
pub answer_without : (byte : ℕ) (a : Answer) → is_name_byte byte ≡ false → (32 ≡ byte → ⊥) → IsAnswer a → IsAbsent byte (answer_text a)
answer_without byte (Held old) other apart h =
    two_without byte 32 (codes "held") (old_text old) apart (without byte (codes "held") other (search rules)) (old_without byte old other h)
answer_without byte Written other apart h = without byte (codes "written") other (search rules)
answer_without byte Swapped other apart h = without byte (codes "swapped") other (search rules)
answer_without byte (Kept old) other apart h =
    two_without byte 32 (codes "kept") (old_text old) apart (without byte (codes "kept") other (search rules)) (old_without byte old other h)
answer_without byte Full other apart h = without byte (codes "full") other (search rules)
answer_without byte (Removed old) other apart h =
    two_without byte 32 (codes "removed") (old_text old) apart (without byte (codes "removed") other (search rules)) (old_without byte old other h)
