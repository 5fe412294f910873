-- How a world is opened, node by node.
use Rattle.std.proofs.Common.{◌≡◌, ◌≢◌, ◌↔◌, ℕ, suc, ◌+◌, ◌<◌, ◌≤◌, true, false, List, [], ◌∷◌, ◌++◌, Option, None, Some, length, ◌⊎◌, inl, inr, refl, ap, sym, ◌∙◌, subst, arith}
use Rattle.std.specs.List.{Contains}
use Rattle.std.specs.Prelude.{Any, IfSome, IsSome}
use Rattle.std.specs.Option.{option_to_list}
use Rattle.std.proofs.lemmas.Bool.{cases_lt, false≢true}
use Rattle.std.proofs.lemmas.List.{append-nil, get_or_append_left, get_or_push, length_push}
use Rattle.std.proofs.lemmas.List.Elements.{Contains-append_left, Contains-push, Contains-push_cases}
use Rattle.dsr_base.specs.Boxes.{AreSquare, empty_box, box_at}
use Rattle.dsr_base.specs.Member.{In}
use Rattle.dsr_base.specs.declared.boxes.MailBox.{MailBox}
use Rattle.dsr_names.specs.Places.{place_of}
use Rattle.dsr_names.specs.Shape.{Shape, is_traitor, IsActor}
use Rattle.dsr_names.specs.declared.actor.Actor.{Actor}
use Rattle.dsr_names.specs.declared.actor.Actor.TheVariants.{Replica, Client}
use Rattle.dsr_names.proofs.PlaceLemmas.{same_place, place_below}
use Rattle.dsr_desk.specs.Keys.{Keys, is_taken}
use Rattle.dsr_desk.specs.Signature.{Signature}
use Rattle.dsr_envelope.specs.declared.envelope.Envelope.{Envelope}
use Rattle.dsr_node.specs.Node.{Plays}
use Rattle.dsr_node.specs.declared.node.Node.{Node}
use Rattle.dsr_run.specs.Run.{IsTraitor}
use Rattle.dsr_world.specs.Support.StageFields.{AreParts, AreOpened, IsTraitorBelow, AreKeysBelow}

-- ---- nodes

pub none_opened : (shape : Shape) → AreOpened shape 0 []
none_opened shape = record { count = refl; each = λ who inside below d. absurd (omega arith) }

-- one more node
pub one_opened : (shape : Shape) (k : ℕ) (nodes : List Node) (who : Actor) (x : Node) → AreOpened shape k nodes → IsActor shape who
    → place_of shape who ≡ k → Plays shape who [] x → AreOpened shape (suc k) (nodes ++ x ∷ [])
one_opened shape k nodes who x are actor at plays =
    let count = are.count in
    let more = length_push nodes x in
    record {
      count = omega arith;
      each = λ other inside below d. elim (cases_lt (place_of shape other) k) [
        | inl earlier ↦
            let within : place_of shape other < length nodes = omega arith in
            rw (get_or_append_left nodes (x ∷ []) d (place_of shape other) within) (are.each other inside earlier d)
        | inr late ↦
            let last : length nodes ≡ place_of shape other = omega arith in
            let same = same_place shape who other actor inside (at ∙ (sym count ∙ last)) in
            rw (get_or_push nodes x d (place_of shape other) last, ← same) plays
      ];
    }

-- ---- keys

-- some key is this actor's
found : (keys : List Actor) (a : Actor) → Any (λ h. h ≡ a) keys → Contains keys a
found keys a h = (h.0, h.2, rw h.4 at h.3)

shown : (keys : List Actor) (a : Actor) → Contains keys a → Any (λ h. h ≡ a) keys
shown keys a h = (h.0, a, h.1, h.2, refl)

below_more : (shape : Shape) (k : ℕ) (a : Actor) → IsTraitorBelow shape k a → IsTraitorBelow shape (suc k) a
below_more shape k (Replica p) h = let below = h.0 in (omega arith, h.1)
below_more shape k (Client c) h = h

below_cases : (shape : Shape) (k : ℕ) (a : Actor) → IsTraitorBelow shape (suc k) a → IsTraitorBelow shape k a ⊎ ((Replica k ≡ a) × (is_traitor shape k ≡ true))
below_cases shape k (Client c) h = inl h
below_cases shape k (Replica p) h = elim (cases_lt p k) [
  | inl earlier ↦ inl (earlier, h.1)
  | inr late ↦ let same : k ≡ p = omega arith in inr (ap Replica same, rw same h.1)
]

pub no_keys : (shape : Shape) → AreKeysBelow shape 0 []
no_keys shape (Replica p) = (λ h. absurd (omega arith), λ h. absurd (omega arith))
no_keys shape (Client c) = (λ h. absurd (omega arith), λ h. absurd h)

-- one more replica: it adds its key exactly if it is a traitor
pub more_keys : (shape : Shape) (k : ℕ) (keys : List Actor) (o : Option Actor) → AreKeysBelow shape k keys → IfSome o (λ key. key ≡ Replica k)
    → IsSome o ↔ (is_traitor shape k ≡ true) → AreKeysBelow shape (suc k) (keys ++ option_to_list o)
more_keys shape k keys None are is when a = rw (append-nil keys) (
  λ h. below_more shape k a ((are a).0 h),
  λ h. elim (below_cases shape k a h) [ inl old ↦ (are a).1 old | inr new ↦ absurd (false≢true (when.1 new.1)) ],
)
more_keys shape k keys (Some key) are is when a = (
  λ h. elim (Contains-push_cases keys key a (found (keys ++ key ∷ []) a h)) [
    | inl old ↦ below_more shape k a ((are a).0 (shown keys a old))
    | inr new ↦ let same = sym new ∙ is in rw same (omega arith, when.0 refl)
  ],
  λ h. shown (keys ++ key ∷ []) a (elim (below_cases shape k a h) [
    | inl old ↦ Contains-append_left keys (key ∷ []) a (found keys a ((are a).1 old))
    | inr new ↦ let same = is ∙ new.0 in rw (← same) (Contains-push keys key)
  ]),
)

-- ---- the world

pub opened : (shape : Shape) (nodes : List Node) (rows : List (List (MailBox Envelope))) (keys : List Actor) (known : List Signature)
    → AreOpened shape (shape.n + shape.m) nodes → AreKeysBelow shape shape.n keys → AreSquare (shape.n + shape.m) rows
    → ((from to : ℕ) → box_at rows from to ≡ empty_box) → known ≡ [] → AreParts shape [] nodes rows keys known
opened shape nodes rows keys known are held square empty none = record {
  is_run = tt;
  played = record { count = are.count; each = λ who inside d. are.each who inside (place_below shape who inside) d };
  boxes = record {
    square = square;
    each = λ from to actor other. rw (empty (place_of shape from) (place_of shape to)) (record { count = refl; holds = refl });
  };
  held = traitors;
  knows = λ p traitor. record { from = λ s h. elim (subst (In s) none h) [ ]; all = λ s a loyal h. elim h.posted [ ] };
}
  where
    traitors : (a : Actor) → Any (λ holder. holder ≡ a) keys ↔ IsTraitor shape a
    traitors (Replica p) = held (Replica p)
    traitors (Client c) = held (Client c)

-- ---- keys that are not taken yet

module _ (k : ℕ) (older newer : Keys) where
  -- when a replica's key was taken, those of later replicas and of all clients were not
  pub later_replicas : ((other : Actor) → other ≢ Replica k → is_taken newer other ≡ is_taken older other)
      → ((q : ℕ) → k ≤ q → is_taken older (Replica q) ≡ false) → (q : ℕ) → k + 1 ≤ q → is_taken newer (Replica q) ≡ false
  later_replicas others untaken q above = others (Replica q) (λ e. let same : q ≡ k = cc in omega arith) ∙ untaken q (omega arith)

  pub all_clients : ((other : Actor) → other ≢ Replica k → is_taken newer other ≡ is_taken older other)
      → ((c : ℕ) → is_taken older (Client c) ≡ false) → (c : ℕ) → is_taken newer (Client c) ≡ false
  all_clients others untaken c = others (Client c) (λ e. cc) ∙ untaken c

  -- when a client's key was taken, those of later clients were not
  pub later_clients : ((other : Actor) → other ≢ Client k → is_taken newer other ≡ is_taken older other)
      → ((c : ℕ) → k ≤ c → is_taken older (Client c) ≡ false) → (c : ℕ) → k + 1 ≤ c → is_taken newer (Client c) ≡ false
  later_clients others untaken c above = others (Client c) (λ e. let same : c ≡ k = cc in omega arith) ∙ untaken c (omega arith)
