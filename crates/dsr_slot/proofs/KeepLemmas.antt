-- Lemmas about what a replica keeps and relays for a slot, over plain variables.
use Rattle.std.proofs.Common.{◌≡◌, ℕ, suc, ◌+◌, add-one, Bool, true, false, ◌&&◌, ◌||◌, not, List, [], ◌∷◌, ◌++◌, Option, Some, None, refl, sym, ◌∙◌, ap}
use Rattle.std.specs.Prelude.{◌↔◌, IsTrue, if◌then◌else◌}
use Rattle.std.specs.Bool.{Decides}
use Rattle.std.specs.Option.{option_to_list, is_some}
use Rattle.std.proofs.lemmas.Bool.{false≢true}
use Rattle.std.proofs.lemmas.Bool.Decides.{same_from_decides, Decides-eqb}
use Rattle.dsr_names.specs.Shape.{Shape}
use Rattle.dsr_request.specs.Request.{Request}
use Rattle.dsr_names.specs.declared.actor.Actor.{Actor}
use Rattle.dsr_chain.specs.Content.{content}
use Rattle.dsr_chain.specs.ProperTest.{is_proper, same_content, is_signer}
use Rattle.dsr_chain.specs.Chain.{Chain}
use Rattle.dsr_chain.proofs.Lemmas.{same_content-Decides}
use Rattle.dsr_slot.specs.declared.kept.Kept.{Kept}
use Rattle.dsr_slot.specs.Keeping.{keep_one, kept_in, content_of, is_kept, is_news}
use Rattle.dsr_slot.specs.Conduct.{is_relayed}

-- two tests of the same fact give the same
pub same_test : (r t : Bool) {P : Type 0} → Decides t P → (IsTrue r ↔ P) → r ≡ t
same_test r t decides tells = same_from_decides r t tells decides

-- ---- what is news beside one kept chain, and beside two

other_is_news : (proper same : Bool) → same ≡ false → proper ≡ (proper && (not (same || false) && true))
other_is_news true true e = e
other_is_news true false e = refl
other_is_news false same e = refl

same_is_none : (proper same : Bool) → same ≡ true → not same ≡ (proper && (not (same || false) && true))
same_is_none true true e = refl
same_is_none false true e = refl
same_is_none true false e = refl
same_is_none false false e = sym e

third_is_none : (proper known : Bool) → (proper && (not known && false)) ≡ false
third_is_none true true = refl
third_is_none true false = refl
third_is_none false known = refl

-- beside a chain with another content it is news exactly if it is proper
pub news_beside_other : (shape : Shape) (slot round : ℕ) (k : Kept) (chain : Chain) (proper same : Bool)
    → proper ≡ is_proper shape slot round chain → (IsTrue same ↔ (content_of k ≡ content chain.value)) → same ≡ false
    → proper ≡ is_news shape slot round (k ∷ []) chain
news_beside_other shape slot round k chain proper same is tells differs =
    let test = same_content (content_of k) (content chain.value) in
    let e = same_test same test (same_content-Decides (content_of k) (content chain.value)) tells in
    is ∙ other_is_news (is_proper shape slot round chain) test (sym e ∙ differs)

-- beside a chain with its content nothing is news
pub no_news_beside_same : (shape : Shape) (slot round : ℕ) (k : Kept) (chain : Chain) (same : Bool)
    → (IsTrue same ↔ (content_of k ≡ content chain.value)) → same ≡ true → not same ≡ is_news shape slot round (k ∷ []) chain
no_news_beside_same shape slot round k chain same tells agrees =
    let test = same_content (content_of k) (content chain.value) in
    let e = same_test same test (same_content-Decides (content_of k) (content chain.value)) tells in
    ap not e ∙ same_is_none (is_proper shape slot round chain) test (sym e ∙ agrees)

-- beside two chains nothing is news
pub no_news_beside_two : (shape : Shape) (slot round : ℕ) (k l : Kept) (chain : Chain) → is_news shape slot round (k ∷ l ∷ []) chain ≡ false
no_news_beside_two shape slot round k l chain =
    third_is_none (is_proper shape slot round chain) (is_kept (content chain.value) (k ∷ l ∷ []))

-- ---- whether a content is kept

or_false : (b : Bool) → b ≡ (b || false)
or_false true = refl
or_false false = refl

-- by a test of the one chain's content
pub kept_alone : (k : Kept) (chain : Chain) (same : Bool) → (IsTrue same ↔ (content_of k ≡ content chain.value))
    → same ≡ is_kept (content chain.value) (k ∷ [])
kept_alone k chain same tells =
    same_test same (same_content (content_of k) (content chain.value)) (same_content-Decides (content_of k) (content chain.value)) tells
    ∙ or_false (same_content (content_of k) (content chain.value))

or_one : (b c : Bool) → (b || (c || false)) ≡ ((b || false) || (c || false))
or_one true c = refl
or_one false c = refl

-- at one place or at the other
pub kept_at_either : (wanted : Option (List Request)) (first second : Option Kept)
    → is_kept wanted (option_to_list first ++ option_to_list second) ≡ (is_kept wanted (option_to_list first) || is_kept wanted (option_to_list second))
kept_at_either wanted None second = refl
kept_at_either wanted (Some k) None = or_false (is_kept wanted (k ∷ []))
kept_at_either wanted (Some k) (Some l) = or_one (same_content (content_of k) wanted) (same_content (content_of l) wanted)

-- ---- what is kept

keep_news : (shape : Shape) (slot round : ℕ) (kept : List Kept) (chain : Chain) → is_news shape slot round kept chain ≡ true
    → kept ++ kept_in round chain ∷ [] ≡ keep_one shape slot round kept chain
keep_news shape slot round kept chain news = sym (ap (λ b. if b then kept ++ kept_in round chain ∷ [] else kept) news)

-- news goes to the second field if the first is taken
pub news_comes_second : (shape : Shape) (slot round : ℕ) (first second : Option Kept) (chain : Chain)
    → is_news shape slot round (option_to_list first ++ option_to_list second) chain ≡ true → is_some first ≡ true
    → option_to_list first ++ kept_in round chain ∷ [] ≡ keep_one shape slot round (option_to_list first ++ option_to_list second) chain
news_comes_second shape slot round None second chain news taken = absurd (false≢true taken)
news_comes_second shape slot round (Some k) None chain news taken = keep_news shape slot round (k ∷ []) chain news
news_comes_second shape slot round (Some k) (Some l) chain news taken =
    absurd (false≢true (sym (no_news_beside_two shape slot round k l chain) ∙ news))

-- ---- what is relayed

-- what was kept in the round before and is not signed yet is relayed
pub relays_unsigned : (me : Actor) (round : ℕ) (k : Kept) (signs : Bool) → k.round + 1 ≡ round → signs ≡ is_signer me k.chain
    → not signs ≡ is_relayed me round k
relays_unsigned me round k signs next is =
    let e = (Decides-eqb (suc k.round) round).1 (sym (add-one k.round) ∙ next) in
    ap not is ∙ sym (ap (λ b. b && not (is_signer me k.chain)) e)
