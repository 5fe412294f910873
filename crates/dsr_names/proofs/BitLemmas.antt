-- Counting bits from the lowest on.
use Rattle.std.proofs.Common.{◌≡◌, ◌≢◌, ℕ, ◌+◌, ◌/◌, ◌^◌, true, false, eqb, bit_and, sym, ◌∙◌, ap, add-one, add-zero, eq-eqb}
use Rattle.std.proofs.lemmas.Bool.{ne_eqb}
use Rattle.std.proofs.lemmas.Nat.Bits.{shr_and_one}
use Rattle.std.specs.Int.{bit_at}
use Rattle.dsr_base.specs.Bits.{is_bit_set, count_below}

-- a set bit counts
pub count_set : (bits i count : ℕ) → bit_and (bits / 2 ^ i) 1 ≡ 1 → count ≡ count_below (is_bit_set bits) i → count + 1 ≡ count_below (is_bit_set bits) (i + 1)
count_set bits i count one so_far =
    let set : eqb (bit_at bits i) 1 ≡ true = eq-eqb (bit_at bits i) 1 (sym (shr_and_one bits i) ∙ one) in
    rw (add-one i, set) (ap (λ k. k + 1) so_far)

-- another does not
pub count_clear : (bits i count : ℕ) → bit_and (bits / 2 ^ i) 1 ≢ 1 → count ≡ count_below (is_bit_set bits) i → count ≡ count_below (is_bit_set bits) (i + 1)
count_clear bits i count other so_far =
    let clear : eqb (bit_at bits i) 1 ≡ false = ne_eqb (bit_at bits i) 1 (λ e. other (shr_and_one bits i ∙ e)) in
    rw (add-one i, clear, add-zero) so_far
