-- Lemmas that tie a slot's state to all the chains that were read in its rounds, over plain variables.
use Rattle.std.proofs.Common.{◌≡◌, ℕ, suc, ◌+◌, List, [], ◌∷◌, sym, ap, ◌∙◌, subst, add-one, arith}
use Rattle.std.proofs.lemmas.List.Sums.{fold-append}
use Rattle.dsr_names.specs.Shape.{Shape}
use Rattle.dsr_chain.specs.Chain.{Chain}
use Rattle.dsr_slot.specs.declared.kept.Kept.{Kept}
use Rattle.dsr_slot.specs.Keeping.{keep_one, keep, kept_after}
use Rattle.dsr_slot.specs.Decision.{decision, decided}
use Rattle.dsr_slot.specs.SlotState.{SlotState, StandsFor, HasRead, IsOneChainMore, with_chain, with_round}
use Rattle.dsr_slot.proofs.Deciding.{after_same}

reads_on : (shape : Shape) (slot closed round : ℕ) (kept : List Kept) (chains : List Chain) (read : ℕ → List Chain)
    → round ≡ suc closed → read round ≡ chains → kept ≡ kept_after shape slot read closed
    → keep shape slot round kept chains ≡ kept_after shape slot read round
reads_on shape slot closed round kept chains read next here stands =
    let given : read (suc closed) ≡ chains = rw next at here in
    rw (next, stands, ← given)

-- a state that represents what was read does so after one more round
pub stands_on : (before after : SlotState) (round : ℕ) (chains : List Chain) (read : ℕ → List Chain)
    → after ≡ with_round before round chains → round ≡ before.closed + 1 → read round ≡ chains → StandsFor before read → StandsFor after read
stands_on before after round chains read is next here stands =
    subst (λ (s : SlotState). StandsFor s read) (sym is)
    (reads_on before.shape before.slot before.closed round before.kept chains read (next ∙ add-one before.closed) here stands)

-- what is kept with one more chain, if that is read last
one_more_kept : (shape : Shape) (slot closed : ℕ) (chain : Chain) (earlier later : ℕ → List Chain)
    → IsOneChainMore earlier later (suc closed) chain
    → keep_one shape slot (suc closed) (kept_after shape slot earlier (suc closed)) chain ≡ kept_after shape slot later (suc closed)
one_more_kept shape slot closed chain earlier later more =
    let step = keep_one shape slot (suc closed) in
    let before = kept_after shape slot earlier closed in
    let same : before ≡ kept_after shape slot later closed =
    sym (after_same shape slot later earlier closed (λ round some within. more.before round some (omega (arith, within)))) in
    sym (fold-append step before (earlier (suc closed)) (chain ∷ []))
    ∙ (ap (keep shape slot (suc closed) before) (sym more.last) ∙ ap (λ kept. keep shape slot (suc closed) kept (later (suc closed))) same)

-- a state that reads one more chain has read the earlier chains and that one
pub reads_one : (before after : SlotState) (chain : Chain) (earlier later : ℕ → List Chain) → after ≡ with_chain before chain
    → IsOneChainMore earlier later (suc before.closed) chain → HasRead before earlier → HasRead after later
reads_one before after chain earlier later is more stands =
    subst (λ (s : SlotState). HasRead s later) (sym is)
    (ap (λ kept. keep_one before.shape before.slot (suc before.closed) kept chain) stands
    ∙ one_more_kept before.shape before.slot before.closed chain earlier later more)

-- what is decided over the kept chains once round f+1 is closed
pub decides_what_stands : (state : SlotState) (read : ℕ → List Chain) → StandsFor state read → state.closed ≡ state.shape.f + 1
    → decision state.kept ≡ decided state.shape state.slot read
decides_what_stands state read stands last =
    ap decision (stands ∙ ap (kept_after state.shape state.slot read) (last ∙ add-one state.shape.f))
