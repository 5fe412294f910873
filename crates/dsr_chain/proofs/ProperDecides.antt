-- What the tests of a chain decide: each is true exactly if its fact holds.
use Rattle.std.proofs.Common.{◌≡◌, ◌≢◌, ℕ, zero, suc, Bool, not, ◌&&◌, ◌||◌, ◌==◌, nat_lt, List, [], ◌∷◌, ◌++◌, Some, None, Option, length, take, get_or, ◌⊎◌, inl, inr, refl, ap, sym, ◌∙◌, subst, arith, append_assoc, append-nil}
use Rattle.std.specs.Prelude.{All, AllPairs, Any, slice_get}
use Rattle.std.specs.Bool.{Decides}
use Rattle.std.specs.List.{list_all, list_any}
use Rattle.std.proofs.lemmas.Bool.Decides.{Decides-and, Decides-or, Decides-not, Decides-like, Decides-eqb, Decides-ltb, Decides-by_and}
use Rattle.std.proofs.lemmas.List.{get_or_default}
use Rattle.std.proofs.lemmas.Option.{same_Some, none-some}
use Rattle.dsr_names.specs.Shape.{Shape}
use Rattle.dsr_names.specs.declared.actor.Actor.{Actor}
use Rattle.dsr_names.specs.declared.actor.Actor.TheVariants.{Replica, Client}
use Rattle.dsr_request.specs.Request.{Request}
use Rattle.dsr_request.specs.Support.RequestEquality.{requests_eq, requests_eq-Decides}
use Rattle.dsr_desk.specs.Signature.{Signature, signed}
use Rattle.dsr_names.specs.Support.ActorEquality.{actor_eq, actor_eq-Decides}
use Rattle.dsr_desk.specs.Support.StatementEquality.{statement_eq, statement_eq-Decides}
use Rattle.dsr_desk.specs.Support.SignatureEquality.{signature_eq, signature_eq-Decides}
use Rattle.dsr_desk.specs.declared.statement.Statement.TheVariants.{Ask}
use Rattle.dsr_chain.specs.Content.{signed_in}
use Rattle.dsr_chain.specs.Chain.{Chain, signers_of, link_after}
use Rattle.dsr_chain.specs.Proper.{IsReplica, IsAsked, IsProper, sender_of}
use Rattle.dsr_chain.specs.ProperTest.{same_content, has_signed, is_signer, begins_with, is_replica, are_distinct, links_fit, is_asked, is_proper}
use Rattle.dsr_chain.specs.declared.signed_request.SignedRequest.{SignedRequest}
use Rattle.dsr_chain.specs.declared.slot_value.SlotValue.{SlotValue}

-- ---- what holds for some element

pub none_in_nil : {X : Type 0} (P : X → Type 0) → Any P [] → ⊥
none_in_nil P (k, x, inside, is, p) = omega (arith, inside)

pub at_head : {X : Type 0} (P : X → Type 0) (x : X) (xs : List X) → P x → Any P (x ∷ xs)
at_head P x xs p = (0, x, omega arith, refl, p)

pub in_rest : {X : Type 0} (P : X → Type 0) (x : X) (xs : List X) → Any P xs → Any P (x ∷ xs)
in_rest P x xs (k, y, inside, is, p) = (suc k, y, omega (arith, inside), is, p)

pub head_or_rest : {X : Type 0} (P : X → Type 0) (x : X) (xs : List X) → Any P (x ∷ xs) → P x ⊎ Any P xs
head_or_rest P x xs (zero, y, inside, is, p) = inl (subst P (sym is) p)
head_or_rest P x xs (suc k, y, inside, is, p) = inr (k, y, omega (arith, inside), is, p)

-- a test of some item decides whether one has the property, if the test of an item decides that
any-Decides : {X : Type 0} (p : X → Bool) (P : X → Type 0) → ((x : X) → Decides (p x) (P x)) → (xs : List X) → Decides (list_any p xs) (Any P xs)
any-Decides p P each [] = (λ e. cc, λ h. absurd (none_in_nil P h))
any-Decides p P each (x ∷ xs) =
    Decides-like (p x || list_any p xs) (λ e. elim e [ inl h ↦ at_head P x xs h | inr t ↦ in_rest P x xs t ]) (head_or_rest P x xs)
    (Decides-or (p x) (list_any p xs) (each x) (any-Decides p P each xs))

-- ---- contents and signers

pub same_content-Decides : (a b : Option (List Request)) → Decides (same_content a b) (a ≡ b)
same_content-Decides None None = (λ e. refl, λ e. refl)
same_content-Decides None (Some b) = (λ e. cc, λ e. cc)
same_content-Decides (Some a) None = (λ e. cc, λ e. cc)
same_content-Decides (Some a) (Some b) = Decides-like (requests_eq a b) (λ e. cc) (λ e. cc) (requests_eq-Decides a b)

pub has_signed-Decides : (a : Actor) (signatures : List Signature) → Decides (has_signed a signatures) (Any (λ s. s.signer ≡ a) signatures)
has_signed-Decides a signatures =
    any-Decides (λ s. actor_eq s.signer a) (λ s. s.signer ≡ a) (λ s. actor_eq-Decides s.signer a) signatures

pub is_signer-Decides : (a : Actor) (chain : Chain) → Decides (is_signer a chain) (Any (λ s. s.signer ≡ a) chain.signatures)
is_signer-Decides a chain = has_signed-Decides a chain.signatures

begins-Decides : (a : Actor) (signers : List Actor) → Decides (begins_with a signers) (slice_get signers 0 ≡ Some a)
begins-Decides a [] = (λ e. cc, λ e. cc)
begins-Decides a (b ∷ rest) = Decides-like (actor_eq b a) (λ e. ap Some e) (λ e. same_Some b a e) (actor_eq-Decides b a)

replica-Decides : (shape : Shape) (a : Actor) → Decides (is_replica shape a) (IsReplica shape a)
replica-Decides shape (Replica r) = Decides-ltb r shape.n
replica-Decides shape (Client c) = (λ e. cc, λ h. absurd h)

replicas-Decides : (shape : Shape) (signers : List Actor) → Decides (list_all (is_replica shape) signers) (All (IsReplica shape) signers)
replicas-Decides shape signers =
    Decides-by_and (is_replica shape) (IsReplica shape) (list_all (is_replica shape)) (replica-Decides shape) refl (λ _ _. refl) signers

-- ---- distinct signers

among-Decides : (a : Actor) (signers : List Actor) → Decides (list_any (λ b. actor_eq b a) signers) (Any (λ b. b ≡ a) signers)
among-Decides a signers = any-Decides (λ b. actor_eq b a) (λ b. b ≡ a) (λ b. actor_eq-Decides b a) signers

distinct_more : (a : Actor) (signers : List Actor) → ¬ Any (λ b. b ≡ a) signers → AllPairs (λ x y. x ≢ y) signers → AllPairs (λ x y. x ≢ y) (a ∷ signers)
distinct_more a signers fresh rest zero zero d apart inside = absurd (omega (arith, apart))
distinct_more a signers fresh rest (suc i) zero d apart inside = absurd (omega (arith, apart))
distinct_more a signers fresh rest zero (suc j) d apart inside =
    λ e. fresh (j, get_or signers j d, omega (arith, inside), get_or_default signers j (get_or signers j d) d (omega (arith, inside)), sym e)
distinct_more a signers fresh rest (suc i) (suc j) d apart inside = rest i j d (omega (arith, apart)) (omega (arith, inside))

distinct_first : (a : Actor) (signers : List Actor) → AllPairs (λ x y. x ≢ y) (a ∷ signers) → ¬ Any (λ b. b ≡ a) signers
distinct_first a signers pairs (k, b, inside, is, same) =
    pairs 0 (suc k) b (omega arith) (omega (arith, inside)) (sym (is ∙ same))

distinct_rest : (a : Actor) (signers : List Actor) → AllPairs (λ x y. x ≢ y) (a ∷ signers) → AllPairs (λ x y. x ≢ y) signers
distinct_rest a signers pairs i j d apart inside = pairs (suc i) (suc j) d (omega (arith, apart)) (omega (arith, inside))

distinct-Decides : (signers : List Actor) → Decides (are_distinct signers) (AllPairs (λ x y. x ≢ y) signers)
distinct-Decides [] = (λ e i j d apart inside. absurd (omega (arith, inside)), λ h. refl)
distinct-Decides (a ∷ rest) =
    let among = list_any (λ b. actor_eq b a) rest in
    Decides-like (not among && are_distinct rest) (λ e. distinct_more a rest e.0 e.1)
    (λ h. (distinct_first a rest h, distinct_rest a rest h))
    (Decides-and (not among) (are_distinct rest) (Decides-not among (among-Decides a rest)) (distinct-Decides rest))

-- ---- fitting links

-- each of the signatures is on the link after those signers and the ones before it
pub record AreFitting (slot : ℕ) (value : SlotValue) (signatures : List Signature) (before : List Actor) : Type 0 where
  pub fits : (place : ℕ) (s : Signature) → slice_get signatures place ≡ Some s → s.statement ≡ link_after slot value (before ++ signers_of (take place signatures))

fits_at : (slot : ℕ) (value : SlotValue) (t : Signature) (rest : List Signature) (before : List Actor) → t.statement ≡ link_after slot value before
    → AreFitting slot value rest (before ++ t.signer ∷ []) → (place : ℕ) (s : Signature) → slice_get (t ∷ rest) place ≡ Some s
    → s.statement ≡ link_after slot value (before ++ signers_of (take place (t ∷ rest)))
fits_at slot value t rest before first later zero s stands =
    sym (ap (λ x. x.statement) (same_Some t s stands)) ∙ (first ∙ ap (link_after slot value) (sym (append-nil before)))
fits_at slot value t rest before first later (suc place) s stands =
    later.fits place s stands ∙ ap (link_after slot value) (append_assoc before (t.signer ∷ []) (signers_of (take place rest)))

fitting_parts : (slot : ℕ) (value : SlotValue) (t : Signature) (rest : List Signature) (before : List Actor) → AreFitting slot value (t ∷ rest) before
    → (t.statement ≡ link_after slot value before) × AreFitting slot value rest (before ++ t.signer ∷ [])
fitting_parts slot value t rest before h = (
  h.fits 0 t refl ∙ ap (link_after slot value) (append-nil before),
  record {
    fits = λ place s stands.
        h.fits (suc place) s stands ∙ ap (link_after slot value) (sym (append_assoc before (t.signer ∷ []) (signers_of (take place rest))));
  },
)

links-Decides : (slot : ℕ) (value : SlotValue) (signatures : List Signature) (before : List Actor)
    → Decides (links_fit slot value signatures before) (AreFitting slot value signatures before)
links-Decides slot value [] before = (λ e. record { fits = λ place s stands. absurd (none-some s stands) }, λ h. refl)
links-Decides slot value (t ∷ rest) before =
    Decides-like (statement_eq t.statement (link_after slot value before) && links_fit slot value rest (before ++ t.signer ∷ []))
    (λ e. record { fits = fits_at slot value t rest before e.0 e.1 }) (fitting_parts slot value t rest before)
    (Decides-and (statement_eq t.statement (link_after slot value before)) (links_fit slot value rest (before ++ t.signer ∷ []))
    (statement_eq-Decides t.statement (link_after slot value before)) (links-Decides slot value rest (before ++ t.signer ∷ [])))

-- ---- asked requests

pub asked-Decides : (shape : Shape) (s : SignedRequest) → Decides (is_asked shape s) (IsAsked shape s)
asked-Decides shape s =
    let own = signed (Client s.request.client) (Ask s.request) in
    Decides-like (is_asked shape s) (λ e. record { client = e.0; signature = e.1 }) (λ h. (h.client, h.signature))
    (Decides-and (nat_lt s.request.client shape.m) (signature_eq s.signature own) (Decides-ltb s.request.client shape.m) (signature_eq-Decides s.signature own))

pub all_asked-Decides : (shape : Shape) (requests : List SignedRequest) → Decides (list_all (is_asked shape) requests) (All (IsAsked shape) requests)
all_asked-Decides shape requests =
    Decides-by_and (is_asked shape) (IsAsked shape) (list_all (is_asked shape)) (asked-Decides shape) refl (λ _ _. refl) requests

-- ---- the whole chain

seven : {A B C D E F G : Type 0} (a b c d e f g : Bool) → Decides a A → Decides b B → Decides c C → Decides d D → Decides e E → Decides f F → Decides g G
    → Decides (a && (b && (c && (d && (e && (f && g)))))) (A × (B × (C × (D × (E × (F × G))))))
seven a b c d e f g da db dc dd de df dg =
    Decides-and a (b && (c && (d && (e && (f && g))))) da
    (Decides-and b (c && (d && (e && (f && g)))) db
    (Decides-and c (d && (e && (f && g))) dc
    (Decides-and d (e && (f && g)) dd (Decides-and e (f && g) de (Decides-and f g df dg)))))

-- the test is true exactly for proper chains
pub is_proper-Decides : (shape : Shape) (slot round : ℕ) (chain : Chain) → Decides (is_proper shape slot round chain) (IsProper shape slot round chain)
is_proper-Decides shape slot round chain =
    let signers = signers_of chain.signatures in
    Decides-like (is_proper shape slot round chain)
    (λ e. record {
      of_slot = e.0;
      count = e.1.0;
      sender_first = e.1.1.0;
      replicas = e.1.1.1.0;
      distinct = e.1.1.1.1.0;
      fitting = e.1.1.1.1.1.0.fits;
      asked = e.1.1.1.1.1.1;
    })
    (λ h. (h.of_slot, (h.count, (h.sender_first, (h.replicas, (h.distinct, (record { fits = h.fitting }, h.asked)))))))
    (seven (chain.slot == slot) (length chain.signatures == round) (begins_with (sender_of shape slot) signers) (list_all (is_replica shape) signers)
    (are_distinct signers) (links_fit chain.slot chain.value chain.signatures []) (list_all (is_asked shape) (signed_in chain.value))
    (Decides-eqb chain.slot slot) (Decides-eqb (length chain.signatures) round) (begins-Decides (sender_of shape slot) signers)
    (replicas-Decides shape signers) (distinct-Decides signers) (links-Decides chain.slot chain.value chain.signatures [])
    (all_asked-Decides shape (signed_in chain.value)))
