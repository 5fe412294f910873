-- A chain is kept if its fate says so.
use Rattle.std.proofs.Common.{◌≡◌, ◌↔◌, ℕ, true, false, List, [], Option, length, ap, sym, ◌∙◌, subst, arith}
use Rattle.std.specs.Prelude.{IsTrue}
use Rattle.dsr_names.specs.Shape.{Shape}
use Rattle.dsr_request.specs.Request.{Request}
use Rattle.dsr_chain.specs.Chain.{Chain}
use Rattle.dsr_chain.specs.Content.{content}
use Rattle.dsr_chain.proofs.Lemmas.{without_fault}
use Rattle.dsr_slot.specs.Fate.{IsFate, IsKeptSo}
use Rattle.dsr_slot.specs.Keeping.{is_kept, is_news}
use Rattle.dsr_slot.specs.Kept.{HasContent}
use Rattle.dsr_slot.specs.declared.kept.Kept.{Kept}
use Rattle.dsr_slot.specs.declared.fate.Fate.{Fate}
use Rattle.dsr_slot.specs.declared.fate.Fate.TheVariants.{First, Second, NotNew, OneTooMany, Improper}
use Rattle.dsr_slot.proofs.Keeps.{IsNews, is_news-Decides, is_kept-Decides}

none_in_none : (wanted : Option (List Request)) (kept : List Kept) → kept ≡ [] → HasContent wanted kept → ⊥
none_in_none wanted kept empty h = elim (subst (λ ks. HasContent wanted ks) empty h).1 [ ]

not_kept : (wanted : Option (List Request)) (kept : List Kept) → is_kept wanted kept ≡ false → HasContent wanted kept → ⊥
not_kept wanted kept unkept h = let e : true ≡ false = sym ((is_kept-Decides wanted kept).1 h) ∙ unkept in cc

module _ (shape : Shape) (slot round : ℕ) (kept : List Kept) (chain : Chain) where
  news : IsNews shape slot round kept chain → IsTrue (is_news shape slot round kept chain)
  news h = (is_news-Decides shape slot round kept chain).1 h

  is_new : IsTrue (is_news shape slot round kept chain) → IsNews shape slot round kept chain
  is_new t = (is_news-Decides shape slot round kept chain).0 t

  pub kept_by_fate : (fate : Fate) → IsFate shape slot round kept chain fate → IsTrue (is_news shape slot round kept chain) ↔ IsKeptSo fate
  kept_by_fate First h = (
    λ _. tt,
    λ _. news (record { proper = h.0; fresh = none_in_none (content chain.value) kept h.1; room = omega (arith, ap length h.1) }),
  )
  kept_by_fate Second h = (
    λ _. tt,
    λ _. news (record { proper = h.0; fresh = not_kept (content chain.value) kept h.1.0; room = omega (arith, h.1.1) }),
  )
  kept_by_fate NotNew h = (
    λ t. (is_new t).fresh ((is_kept-Decides (content chain.value) kept).0 h.1),
    λ k. absurd k,
  )
  kept_by_fate OneTooMany h = (
    λ t. omega (arith, (is_new t).room, h.1.1),
    λ k. absurd k,
  )
  kept_by_fate (Improper fault) h = (
    λ t. without_fault shape slot round chain (is_new t).proper fault h.holds,
    λ k. absurd k,
  )
