-- The rule in plain terms, and that each step keeps it.
use Rattle.std.proofs.Common.{◌≡◌, ℕ, zero, suc, List, [], inl, inr, refl, sym, subst, arith}
use Rattle.std.specs.Prelude.{Option, slice_index, slice_set}
use mathlib.Core.Option.{some}
use mathlib.Core.Option as maybe
use lib.ListN.{get_elem?}
use Rattle.atomic_table.proofs.Lists.{set_again}
use Rattle.dsr_names.specs.Shape.{Shape}
use Rattle.dsr_envelope.specs.declared.envelope.Envelope.{Envelope}
use Rattle.dsr_envelope.specs.Log.{posted_to, taken_from}
use Rattle.dsr_run.specs.Step.{log_of}
use Rattle.dsr_boxes.specs.declared.view.View.{View}
use Rattle.dsr_boxes.specs.Box.{IsBox, HasOne}
use Rattle.dsr_boxes.specs.Moves.{IsMoment, GoesOn}
use Rattle.dsr_boxes.specs.Place.{word_of}
use Rattle.dsr_boxes.specs.Rule.{Table, Agrees, Kept}
use Rattle.dsr_boxes.specs.View.{sitting, keeping}
use Rattle.dsr_boxes.proofs.BoxSteps.{set_same}

pub box_plainly : (word : ℕ) (posted taken : List Envelope) (home : maybe.Option (maybe.Option (Option Envelope))) → Agrees word posted taken home → IsBox word posted taken
box_plainly zero posted taken home agrees = inl (refl, agrees.0)
box_plainly (suc zero) posted taken home agrees = inr (inl (refl, agrees))
box_plainly (suc (suc zero)) posted taken home agrees = inr (inr (inl (refl, (agrees.0, agrees.1))))
box_plainly (suc (suc (suc zero))) posted taken home agrees = inr (inr (inr (refl, agrees)))
box_plainly (suc (suc (suc (suc more)))) posted taken home agrees = absurd agrees

pub plainly : (shape : Shape) (table : Table) → (kept : Kept shape table) → IsMoment shape table (log_of kept.run)
plainly shape table kept = record {
  are = record { run = kept.run; is = kept.is; each = λ a. refl };
  own = λ i me log doing there. (kept.stand i (sitting shape me log doing) there).1;
  shared = λ i logs there. kept.stand i (keeping shape logs) there;
  boxes = λ a b in_a in_b.
      box_plainly (slice_index table.words (word_of shape a b)) (posted_to b (log_of kept.run a)) (taken_from a (log_of kept.run b)) _ (kept.boxes a b in_a in_b);
}

-- what changes nothing adds nothing
pub missed : (shape : Shape) (table : Table) (kept : Kept shape table) (i id : ℕ) (v : View) → get_elem? table.views id ≡ some v
    → GoesOn shape table kept (record { words = slice_set table.words i (slice_index table.words i); homes = table.homes; views = slice_set table.views id v }) []
missed shape table kept i id v there =
    subst (λ ws. GoesOn shape table kept (record { words = ws; homes = table.homes; views = slice_set table.views id v }) []) (sym (set_same table.words i))
    (subst (λ vs. GoesOn shape table kept (record { words = table.words; homes = table.homes; views = vs }) []) (sym (set_again table.views id v there)) (kept, refl))

-- ---- a box by its word

pub unless_full : (word : ℕ) (posted taken : List Envelope) → IsBox word posted taken → ¬ (word ≡ 2) → posted ≡ taken
unless_full word posted taken (inl none) other = none.1
unless_full word posted taken (inr (inl one)) other = one.1
unless_full word posted taken (inr (inr (inl two))) other = absurd (other two.0)
unless_full word posted taken (inr (inr (inr three))) other = three.1

pub full_box : (word : ℕ) (posted taken : List Envelope) → IsBox word posted taken → word ≡ 2 → HasOne posted taken
full_box word posted taken (inl none) e = absurd (let a = none.0 in omega (arith, a, e))
full_box word posted taken (inr (inl one)) e = absurd (let a = one.0 in omega (arith, a, e))
full_box word posted taken (inr (inr (inl two))) e = two.1
full_box word posted taken (inr (inr (inr three))) e = absurd (let a = three.0 in omega (arith, a, e))

pub few_words : (word : ℕ) (posted taken : List Envelope) → IsBox word posted taken → ¬ (word ≡ 0) → ¬ (word ≡ 1) → ¬ (word ≡ 2) → ¬ (word ≡ 3) → ⊥
few_words word posted taken (inl none) a b c d = a none.0
few_words word posted taken (inr (inl one)) a b c d = b one.0
few_words word posted taken (inr (inr (inl two))) a b c d = c two.0
few_words word posted taken (inr (inr (inr three))) a b c d = d three.0
