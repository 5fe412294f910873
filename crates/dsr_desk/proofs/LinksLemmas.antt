-- Signatures in turn: who signed them, what one more adds, and on which link each is.
use Rattle.std.proofs.Common.{◌≡◌, ℕ, zero, suc, List, [], ◌∷◌, ◌++◌, Option, Some, length, take, map, get_or, ◌+◌, ◌<◌, ◌≤◌, refl, ap, sym, ◌∙◌, arith}
use Rattle.std.specs.Prelude.{slice_get}
use Rattle.std.proofs.Math.Seq.{take-suc}
use Rattle.std.proofs.lemmas.Option.{none-some, same_Some}
use Rattle.std.proofs.lemmas.List.{append-nil, append_assoc, take_all}
use Rattle.dsr_names.specs.declared.actor.Actor.{Actor}
use Rattle.dsr_request.specs.Request.{Request}
use Rattle.dsr_desk.specs.Signature.{Signature, signed}
use Rattle.dsr_desk.specs.declared.statement.Statement.TheVariants.{Link}
use Rattle.dsr_desk.specs.Links.{signed_after}

-- their signers are those who signed
pub signers_signed : (slot : ℕ) (content : Option (List Request)) (before signers : List Actor)
    → map (λ s. s.signer) (signed_after slot content before signers) ≡ signers
signers_signed slot content before [] = refl
signers_signed slot content before (a ∷ more) = ap (λ rest. a ∷ rest) (signers_signed slot content (before ++ a ∷ []) more)

-- one more is at the end, on the link after all of them
pub signed_push : (slot : ℕ) (content : Option (List Request)) (before signers : List Actor) (a : Actor)
    → signed_after slot content before (signers ++ a ∷ []) ≡ signed_after slot content before signers ++ signed a (Link slot content (before ++ signers)) ∷ []
signed_push slot content before [] a = ap (λ b. signed a (Link slot content b) ∷ []) (sym (append-nil before))
signed_push slot content before (x ∷ more) a =
    ap (λ rest. signed x (Link slot content before) ∷ rest)
    (signed_push slot content (before ++ x ∷ []) more a
    ∙ ap (λ b. signed_after slot content (before ++ x ∷ []) more ++ signed a (Link slot content b) ∷ []) (append_assoc before (x ∷ []) more))

-- the signature at a place is its signer's, on the link after those before
pub signed_at : (slot : ℕ) (content : Option (List Request)) (before signers : List Actor) (place : ℕ) (a : Actor) → slice_get signers place ≡ Some a
    → slice_get (signed_after slot content before signers) place ≡ Some (signed a (Link slot content (before ++ take place signers)))
signed_at slot content before [] place a is = absurd (none-some a is)
signed_at slot content before (x ∷ more) zero a is =
    ap Some (ap (λ y. signed y (Link slot content before)) (same_Some x a is) ∙ ap (λ b. signed a (Link slot content b)) (sym (append-nil before)))
signed_at slot content before (x ∷ more) (suc place) a is =
    signed_at slot content (before ++ x ∷ []) more place a is
    ∙ ap (λ b. Some (signed a (Link slot content b))) (append_assoc before (x ∷ []) (take place more))

-- the first k + 1 of a list are links, if the first k are, and the one after them is on the link that follows
pub links_more : (slot : ℕ) (content : Option (List Request)) (signatures : List Signature) (before after : List Actor) (k : ℕ) (s : Signature)
    → after ≡ before ++ s.signer ∷ [] → s ≡ get_or signatures k s → k < length signatures → s.statement ≡ Link slot content before
    → signed_after slot content [] before ≡ take k signatures → signed_after slot content [] after ≡ take (k + 1) signatures
links_more slot content signatures before after k s after_is s_is inside on are =
    let one : k + 1 ≡ suc k = omega arith in
    let next : take (k + 1) signatures ≡ take k signatures ++ get_or signatures k s ∷ [] =
    ap (λ n. take n signatures) one ∙ take-suc signatures k s inside in
    let last : signed s.signer (Link slot content before) ≡ get_or signatures k s = ap (signed s.signer) (sym on) ∙ s_is in
    ap (signed_after slot content []) after_is
    ∙ (signed_push slot content [] before s.signer
    ∙ (ap (λ xs. xs ++ signed s.signer (Link slot content before) ∷ []) are ∙ (ap (λ t. take k signatures ++ t ∷ []) last ∙ sym next)))

-- a signature made on the link after the signers before a place is the one at that place
pub made_at : (slot : ℕ) (content other : Option (List Request)) (signers before : List Actor) (k place : ℕ) (a : Actor) (s : Signature)
    → before ≡ take k (take place signers) → length (take place signers) ≤ k → slice_get signers place ≡ Some a → other ≡ content
    → s ≡ signed a (Link slot other before) → slice_get (signed_after slot content [] signers) place ≡ Some s
made_at slot content other signers before k place a s before_is all a_is same is =
    let whole : before ≡ take place signers = before_is ∙ take_all k (take place signers) all in
    let on : signed a (Link slot content (take place signers)) ≡ s = sym (is ∙ (ap (λ c. signed a (Link slot c before)) same ∙ ap (λ b. signed a (Link slot content b)) whole)) in
    signed_at slot content [] signers place a a_is ∙ ap Some on

-- each of them is on the link after the signers of those before it
pub stands_on : (slot : ℕ) (content : Option (List Request)) (before signers : List Actor) (place : ℕ) (s : Signature)
    → slice_get (signed_after slot content before signers) place ≡ Some s
    → s.statement ≡ Link slot content (before ++ map (λ t. t.signer) (take place (signed_after slot content before signers)))
stands_on slot content before [] place s is = absurd (none-some s is)
stands_on slot content before (a ∷ more) zero s is =
    ap (λ t. t.statement) (sym (same_Some (signed a (Link slot content before)) s is)) ∙ ap (Link slot content) (sym (append-nil before))
stands_on slot content before (a ∷ more) (suc place) s is =
    stands_on slot content (before ++ a ∷ []) more place s is
    ∙ ap (Link slot content) (append_assoc before (a ∷ []) (map (λ t. t.signer) (take place (signed_after slot content (before ++ a ∷ []) more))))
