-- What becomes of a chain that is read in a round of a slot, and why (this project).
use Rattle.std.specs.Prelude.{◌≡◌, ℕ, true, false, List, [], Option, length}
use Rattle.dsr_names.specs.Shape.{Shape}
use Rattle.dsr_request.specs.Request.{Request}
use Rattle.dsr_chain.specs.Chain.{Chain}
use Rattle.dsr_chain.specs.Content.{content}
use Rattle.dsr_chain.specs.Faults.{IsFirstFault}
use Rattle.dsr_chain.specs.Proper.{IsProper}
use Rattle.dsr_slot.specs.declared.kept.Kept.{Kept}
use Rattle.dsr_slot.specs.declared.fate.Fate.{Fate}
use Rattle.dsr_slot.specs.declared.fate.Fate.TheVariants.{First, Second, NotNew, OneTooMany, Improper}
use Rattle.dsr_slot.specs.Keeping.{is_kept}

-- what becomes of a proper chain with this content beside those that are kept: it is kept if its content is not and
-- they are fewer than two
abbrev pub IsFateBeside : List Kept → Option (List Request) → Fate → Type 0
IsFateBeside kept wanted First = kept ≡ []
IsFateBeside kept wanted Second = (is_kept wanted kept ≡ false) × (length kept ≡ 1)
IsFateBeside kept wanted NotNew = is_kept wanted kept ≡ true
IsFateBeside kept wanted OneTooMany = (is_kept wanted kept ≡ false) × (length kept ≡ 2)
IsFateBeside kept wanted (Improper fault) = ⊥

-- what becomes of a chain that is read in this round of the slot beside those that are kept: its first fault if it is
-- not proper, else what becomes of a proper one
abbrev pub IsFate : Shape → ℕ → ℕ → List Kept → Chain → Fate → Type 0
IsFate shape slot round kept chain First = IsProper shape slot round chain × IsFateBeside kept (content chain.value) First
IsFate shape slot round kept chain Second = IsProper shape slot round chain × IsFateBeside kept (content chain.value) Second
IsFate shape slot round kept chain NotNew = IsProper shape slot round chain × IsFateBeside kept (content chain.value) NotNew
IsFate shape slot round kept chain OneTooMany = IsProper shape slot round chain × IsFateBeside kept (content chain.value) OneTooMany
IsFate shape slot round kept chain (Improper fault) = IsFirstFault shape slot round chain fault

-- a chain with this fate is kept
abbrev pub IsKeptSo : Fate → Type 0
IsKeptSo First = Unit {0}
IsKeptSo Second = Unit {0}
IsKeptSo NotNew = ⊥
IsKeptSo OneTooMany = ⊥
IsKeptSo (Improper fault) = ⊥
