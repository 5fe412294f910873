-- All passes are parted from the first token, the highest place first.
use Rattle.std.proofs.Common.{◌≡◌, ℕ, zero, suc, ◌-◌, ◌<◌, ◌≤◌, List, [], ◌∷◌, ◌++◌, append_assoc, append-nil, ap, sym, ◌∙◌, arith}
use Rattle.std.specs.Prelude.{replicate, reverse}
use Rattle.std.proofs.lemmas.List.{reverse-append, reverse-reverse}
use Rattle.atomic_table.specs.Seated.{TableId}
use Rattle.dsr_names.specs.Places.{size, actor_at}
use Rattle.dsr_boxes.specs.Pass.{SharedBoxes, Pass, new_pass, new_passes}
use Rattle.dsr_boxes.specs.View.{Holding, keeping}

-- the token is of all actors below `left`, and the passes of the others were parted from it
pub record IsDealt (boxes : SharedBoxes) (id : TableId) (me : Holding) (left : ℕ) (passes : List Pass) : Type 0 where
  pub id_is : id ≡ boxes.id
  pub me_is : me ≡ (keeping boxes.shape (replicate left []), [])
  pub parted : passes ++ reverse (new_passes boxes left) ≡ reverse (new_passes boxes (size boxes.shape))
  pub low : left ≤ size boxes.shape

pub positive : (left : ℕ) → 0 < left → left ≡ suc (left - 1)
positive left some = omega (arith, some)

module _ (boxes : SharedBoxes) (id : TableId) where
  pub dealt_none : (me : Holding) (left : ℕ) (passes : List Pass) → id ≡ boxes.id → me ≡ (keeping boxes.shape (replicate (size boxes.shape) []), [])
      → left ≡ size boxes.shape → passes ≡ [] → IsDealt boxes id me left passes
  dealt_none me left passes id_is me_is left_is none = record {
    id_is = id_is;
    me_is = me_is ∙ ap (λ n. (keeping boxes.shape (replicate n []), [])) (sym left_is);
    parted = ap (λ l. l ++ reverse (new_passes boxes left)) none ∙ ap (λ n. reverse (new_passes boxes n)) left_is;
    low = omega (arith, left_is);
  }

  -- the next place is one of the token's
  pub next_held : (me : Holding) (left place : ℕ) (passes : List Pass) → left ≡ suc place → IsDealt boxes id me left passes
      → me ≡ (keeping boxes.shape ([] ∷ replicate place []), [])
  next_held me left place passes e is = is.me_is ∙ ap (λ n. (keeping boxes.shape (replicate n []), [])) e

  -- its pass is parted too
  pub dealt_more : (me after : Holding) (next : TableId) (left place : ℕ) (passes more : List Pass) (pass : Pass) → left ≡ suc place → IsDealt boxes id me left passes
      → next ≡ id → after ≡ (keeping boxes.shape (replicate place []), []) → pass ≡ new_pass boxes (actor_at boxes.shape place)
      → more ≡ passes ++ pass ∷ [] → IsDealt boxes next after place more
  dealt_more me after next left place passes more pass e is same rest new put = record {
    id_is = same ∙ is.id_is;
    me_is = rest;
    parted =
        ap (λ l. l ++ reverse (new_passes boxes place)) (put ∙ ap (λ p. passes ++ p ∷ []) new)
        ∙ (append_assoc passes (new_pass boxes (actor_at boxes.shape place) ∷ []) (reverse (new_passes boxes place))
        ∙ (ap (λ l. passes ++ l) (sym (reverse-append (new_passes boxes place) (new_pass boxes (actor_at boxes.shape place) ∷ [])))
        ∙ (ap (λ n. passes ++ reverse (new_passes boxes n)) (sym e) ∙ is.parted)));
    low = let low = is.low in omega (arith, low, e);
  }

  -- all are parted
  pub dealt_all : (me : Holding) (left : ℕ) (passes : List Pass) → left ≤ 0 → IsDealt boxes id me left passes
      → reverse passes ≡ new_passes boxes (size boxes.shape)
  dealt_all me (suc left) passes none is = absurd (omega (arith, none))
  dealt_all me zero passes none is =
      ap reverse (sym (append-nil passes) ∙ is.parted) ∙ reverse-reverse (new_passes boxes (size boxes.shape))
