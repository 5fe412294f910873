-- A name that was written over blanks.
use Rattle.std.proofs.Common.{◌≡◌, ℕ, List, ◌++◌, length, drop, replicate, ap, sym, ◌∙◌, subst, ◌<◌, IsTrue, IsUtf8, arith}
use Rattle.std.proofs.lemmas.Bool.Decides.{nat_tests}
use Rattle.std.proofs.lemmas.Str.{IsUtf8-from_ascii}
use Rattle.std.proofs.lemmas.Str.Ascii.{IsAscii-from_all}
use Rattle.std.proofs.lemmas.List.{take_at}
use Rattle.std.proofs.lemmas.List.Elements.{All-weaker}
use Rattle.dsr_base.proofs.Padding.{items_over_blanks}
use Rattle.dsr_request.specs.NameText.{IsName, is_name_byte}
use Rattle.dsr_request.specs.Support.Name.{IsNameFields}

pub written_name : (bytes written : List ℕ) → IsName bytes → written ≡ bytes
    → IsNameFields (record { bytes = written ++ drop (length bytes) (replicate 32 0); len = length bytes })
written_name bytes written h e =
    record {
      name = subst IsName (sym (take_at written (drop (length bytes) (replicate 32 0)) (length bytes) (ap length e) ∙ e)) h;
      places = items_over_blanks 32 (length bytes) 0 written (ap length e) h.few;
    }

byte_is_ascii : (b : ℕ) → IsTrue (is_name_byte b) → b < 128
byte_is_ascii b h = grind (arith, nat_tests)

-- a name is text
pub name_is_text : (bytes : List ℕ) → IsName bytes → IsUtf8 bytes
name_is_text bytes h =
    IsUtf8-from_ascii bytes (IsAscii-from_all bytes (All-weaker (λ b. IsTrue (is_name_byte b)) (λ b. b < 128) byte_is_ascii bytes h.allowed))
