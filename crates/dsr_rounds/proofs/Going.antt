-- How seats go on, and which refusals of a try end a host.
use Rattle.std.proofs.Common.{◌≡◌, ◌≢◌, ℕ, ◌||◌, not, inl, inr, Bool, true, false, [], ◌∷◌, ◌++◌, Option, None, Some, if◌then◌else◌, refl, ap, sym, ◌∙◌, subst, arith}
use Rattle.std.specs.Prelude.{Result, Ok, Err, IsSome, IfOk, IfErr, OnOk, OnErr}
use Rattle.std.specs.Option.{is_none}
use Rattle.std.proofs.lemmas.Bool.{true≢false, false≢true}
use Rattle.std.proofs.lemmas.Bool.Decides.{nat_tests}
use Rattle.std.proofs.lemmas.List.{append_assoc}
use Rattle.std.proofs.lemmas.Option.{none-some}
use Rattle.dsr_names.specs.Shape.{Shape, IsActor, IsLoyal}
use Rattle.dsr_names.specs.declared.actor.Actor.{Actor}
use Rattle.dsr_names.specs.declared.actor.Actor.TheVariants.{Replica, Client}
use Rattle.dsr_names.specs.declared.refusal.Refusal.{Refusal}
use Rattle.dsr_names.specs.declared.refusal.Refusal.TheVariants.{NoActor, WrongRole, NotDue, Exhausted, BoxFull, BoxEmpty}
use Rattle.dsr_envelope.specs.declared.envelope.Envelope.{Envelope}
use Rattle.dsr_envelope.specs.declared.entry.Entry.{Entry}
use Rattle.dsr_envelope.specs.declared.entry.Entry.TheVariants.{Post}
use Rattle.dsr_envelope.specs.declared.pick.Pick.{Pick}
use Rattle.dsr_node.specs.Conduct.{post_of, is_exhausted, is_undue, is_actor, is_traitor_of, are_clients, is_own_client}
use Rattle.dsr_boxes.specs.Pass.{SharedBoxes, Pass, IsPassOf, with_entry}
use Rattle.dsr_mail.specs.Refusals.{IsRefusedBy, is_spent, post_refused, take_refused, plant_refused}
use Rattle.dsr_calls.specs.Calls.{GoesOn}
use Rattle.dsr_rounds.specs.Eagerness.{HasPosted}
use Rattle.dsr_rounds.specs.Ends.{HostRefusal, HostEnd, IsTried}
use Rattle.dsr_rounds.specs.declared.end.End.{End}
use Rattle.dsr_rounds.specs.declared.end.End.TheVariants.{Told, Fault}
use Rattle.dsr_calls.specs.Limits.{IsExhausted}

-- ---- seats go on

pub goes_same : (later earlier : Pass) → later ≡ earlier → GoesOn later earlier
goes_same later earlier e = subst (λ (s : Pass). GoesOn s earlier) (sym e) (record { id = refl; shape = refl; actor = refl; log = ([], refl) })

pub goes_entry : (later earlier : Pass) (entry : Entry) → later ≡ with_entry earlier entry → GoesOn later earlier
goes_entry later earlier entry e =
    subst (λ (s : Pass). GoesOn s earlier) (sym e) (record { id = refl; shape = refl; actor = refl; log = (entry ∷ [], refl) })

pub goes_further : (last later earlier : Pass) → GoesOn last later → GoesOn later earlier → GoesOn last earlier
goes_further last later earlier more was = record {
  id = more.id ∙ was.id;
  shape = more.shape ∙ was.shape;
  actor = more.actor ∙ was.actor;
  log = (more.log.0 ++ was.log.0, more.log.1 ∙ (ap (λ l. more.log.0 ++ l) was.log.1 ∙ sym (append_assoc more.log.0 was.log.0 earlier.log)));
}

pub goes_at : (mail : SharedBoxes) (later earlier : Pass) → GoesOn later earlier → IsPassOf mail earlier → IsPassOf mail later
goes_at mail later earlier goes at = (goes.id ∙ at.0, goes.shape ∙ at.1)

-- ---- refusals

some_is : {A : Type 0} (o : Option A) → IsSome o → is_none o ≡ false
some_is None h = absurd (false≢true h)
some_is (Some x) h = refl

some_same : {A : Type 0} (x y : A) → Some x ≡ Some y → x ≡ y
some_same x y e = cc

-- a test that refuses only by a limit
only_limit : (a b n x : Bool) (e : Refusal) → a ≡ true → b ≡ false → n ≡ false
    → (if not a then Some NoActor else if b then Some WrongRole else if n then Some NotDue else if x then Some Exhausted else None) ≡ Some e
    → (x ≡ true) × (Exhausted ≡ e)
only_limit true false false true e is role due by = (refl, some_same Exhausted e by)
only_limit true false false false e is role due by = absurd (none-some e by)
only_limit true false true x e is role due by = absurd (true≢false due)
only_limit true true n x e is role due by = absurd (true≢false role)
only_limit false b n x e is role due by = absurd (false≢true is)

none_refuses : (a b n : Bool) (e : Refusal) → a ≡ true → b ≡ false → n ≡ false
    → (if not a then Some NoActor else if b then Some WrongRole else if n then Some NotDue else None) ≡ Some e → ⊥
none_refuses true false false e is role due by = none-some e by
none_refuses true false true e is role due by = absurd (true≢false due)
none_refuses true true n e is role due by = absurd (true≢false role)
none_refuses false b n e is role due by = absurd (false≢true is)

plant_limit : (a x : Bool) (e : Refusal) → a ≡ true → (if not a then Some NoActor else if x then Some Exhausted else None) ≡ Some e
    → (x ≡ true) × (Exhausted ≡ e)
plant_limit true true e is by = (refl, some_same Exhausted e by)
plant_limit true false e is by = absurd (none-some e by)
plant_limit false x e is by = absurd (false≢true is)

actor_test : (shape : Shape) (a : Actor) → IsActor shape a → is_actor shape a ≡ true
actor_test shape (Replica p) inside = grind (arith, nat_tests)
actor_test shape (Client c) inside = grind (arith, nat_tests)

module _ (may : Actor → Type 0) (seat : Pass) (to : Actor) (pick : Pick) where
  by_given : (o : Option Envelope) → o ≡ post_of seat.shape seat.log seat.actor to pick → IsSome o
      → post_refused seat.shape seat.actor seat.log to pick ≡ Some Exhausted → IsExhausted seat
  by_given None e given past = absurd (false≢true given)
  by_given (Some x) e given past = record { to = to; pick = pick; envelope = x; due = sym e; past = past }

  -- a refused post of a loyal actor ends its host by a limit or because memory ran out
  pub post_ends : (e : Refusal) → is_traitor_of seat.shape seat.actor ≡ false → IsActor seat.shape to → are_clients seat.actor to ≡ false
      → IsSome (post_of seat.shape seat.log seat.actor to pick)
      → IsRefusedBy (post_refused seat.shape seat.actor seat.log to pick) BoxFull e → e ≢ BoxFull → HostRefusal may seat e
  post_ends e loyal inside role given by other = elim by [
    | inl own ↦
        let limit = only_limit (is_actor seat.shape to) (are_clients seat.actor to) (is_none (post_of seat.shape seat.log seat.actor to pick))
        (is_exhausted seat.shape seat.log seat.actor to pick || is_spent seat.log to) e (actor_test seat.shape to inside) role
        (some_is (post_of seat.shape seat.log seat.actor to pick) given) own in
        subst (HostRefusal may seat) limit.1 (inl (
          loyal,
          by_given (post_of seat.shape seat.log seat.actor to pick) refl given
              (own ∙ ap Some (sym limit.1)),
        ))
    | inr rest ↦ elim rest.1 [
      | inl box ↦ absurd (other box)
      | inr memory ↦ subst (HostRefusal may seat) (sym memory) tt
    ]
  ]

-- a refused take ends a host because memory ran out
pub take_ends : (may : Actor → Type 0) (seat : Pass) (from : Actor) (e : Refusal) → IsActor seat.shape from → is_own_client seat.actor from ≡ false
    → is_undue seat.shape seat.log seat.actor from ≡ false
    → IsRefusedBy (take_refused seat.shape seat.actor seat.log from) BoxEmpty e → e ≢ BoxEmpty → HostRefusal may seat e
take_ends may seat from e inside role due by other = elim by [
  | inl own ↦ absurd (none_refuses (is_actor seat.shape from) (is_own_client seat.actor from) (is_undue seat.shape seat.log seat.actor from) e
      (actor_test seat.shape from inside) role due own)
  | inr rest ↦ elim rest.1 [
    | inl box ↦ absurd (other box)
    | inr memory ↦ subst (HostRefusal may seat) (sym memory) tt
  ]
]

-- a refused post of a traitor ends its host by a limit or because memory ran out
pub plant_ends : (may : Actor → Type 0) (seat : Pass) (to : Actor) (e : Refusal) → is_traitor_of seat.shape seat.actor ≡ true → IsActor seat.shape to
    → IsRefusedBy (plant_refused seat.shape seat.log to) BoxFull e → e ≢ BoxFull → HostRefusal may seat e
plant_ends may seat to e traitor inside by other = elim by [
  | inl own ↦
      let limit = plant_limit (is_actor seat.shape to) (is_spent seat.log to) e (actor_test seat.shape to inside) own in
      subst (HostRefusal may seat) limit.1 (inr (traitor, record { to = to; past = own ∙ ap Some (sym limit.1) }))
  | inr rest ↦ elim rest.1 [
    | inl box ↦ absurd (other box)
    | inr memory ↦ subst (HostRefusal may seat) (sym memory) tt
  ]
]

-- ---- the same, by what a seat reports about its actor

loyal_is : (shape : Shape) (a : Actor) → IsLoyal shape a → is_traitor_of shape a ≡ false
loyal_is shape (Replica p) loyal = loyal.1
loyal_is shape (Client c) loyal = refl

pub replica_post_ends : (may : Actor → Type 0) (seat later : Pass) (to : Actor) (pick : Pick) (e : Refusal) (me : ℕ) → later ≡ seat → seat.actor ≡ Replica me
    → IsLoyal seat.shape seat.actor → IsActor seat.shape to → IsSome (post_of seat.shape seat.log seat.actor to pick)
    → IsRefusedBy (post_refused seat.shape seat.actor seat.log to pick) BoxFull e → e ≢ BoxFull → HostRefusal may later e
replica_post_ends may seat later to pick e me same is loyal inside given by other =
    subst (λ s. HostRefusal may s e) (sym same)
    (post_ends may seat to pick e (loyal_is seat.shape seat.actor loyal) inside (ap (λ a. are_clients a to) is) given by other)

-- ---- what a post shows

-- the result of a successful post
abbrev was_posted : Result (Unit {0}) Refusal
was_posted = Ok tt

ok_err : (e : Refusal) → was_posted ≡ Err e → ⊥
ok_err e same = cc

not_past : (a b n x s : Bool) → ((e : Refusal)
    → (if not a then Some NoActor else if b then Some WrongRole else if n then Some NotDue else if x || s then Some Exhausted else None) ≡ Some e
    → was_posted ≡ Err e) → x ≡ false
not_past a b n false s h = refl
not_past false b n true s h = absurd (ok_err NoActor (h NoActor refl))
not_past true true n true s h = absurd (ok_err WrongRole (h WrongRole refl))
not_past true false true true s h = absurd (ok_err NotDue (h NotDue refl))
not_past true false false true s h = absurd (ok_err Exhausted (h Exhausted refl))

-- a successful post is below the limit of rounds
pub has_posted : (tried : Result (Unit {0}) Refusal) (old new : Pass) (to : Actor) (pick : Pick)
    → OnOk tried ((x : Envelope) × (post_of old.shape old.log old.actor to pick ≡ Some x) × (new ≡ with_entry old (Post to x)))
    → ((e : Refusal) → post_refused old.shape old.actor old.log to pick ≡ Some e → tried ≡ Err e) → OnOk tried (HasPosted old new to pick)
has_posted (Ok tt) old new to pick made refused = (
  made.0,
  made.1,
  made.2,
  not_past (is_actor old.shape to) (are_clients old.actor to) (is_none (post_of old.shape old.log old.actor to pick))
      (is_exhausted old.shape old.log old.actor to pick) (is_spent old.log to) refused,
)
has_posted (Err e) old new to pick made refused = tt

-- ---- tries

-- what holds however a try comes out
pub on_ok : {A : Type 0} (result : Result Bool End) → A → OnOk result A
on_ok (Ok made) h = h
on_ok (Err end) h = tt

module _ (tried : Result (Unit {0}) Refusal) where
  pub if_tried : {Made Kept : Type 0} (result : Result Bool End) (P : Bool → Type 0) → IsTried tried result → OnOk tried Made → OnErr tried Kept
      → (Made → P true) → (Kept → P false) → IfOk result P
  if_tried {Made} {Kept} (Ok true) P is ok err with_made with_kept = with_made (subst (λ t. OnOk t Made) is ok)
  if_tried {Made} {Kept} (Ok false) P is ok err with_made with_kept = with_kept (elim is [
    | inl full ↦ subst (λ t. OnErr t Kept) full err
    | inr empty ↦ subst (λ t. OnErr t Kept) empty err
  ])
  if_tried {Made} {Kept} (Err Told) P is ok err with_made with_kept = elim is [ ]
  if_tried {Made} {Kept} (Err (Fault e)) P is ok err with_made with_kept = tt

  pub err_tried : (result : Result Bool End) (Kept : Type 0) → IsTried tried result → OnErr tried Kept → OnErr result Kept
  err_tried (Ok true) Kept is err = tt
  err_tried (Ok false) Kept is err = tt
  err_tried (Err Told) Kept is err = elim is [ ]
  err_tried (Err (Fault e)) Kept is err = subst (λ t. OnErr t Kept) is.0 err

  pub end_tried : {Kept : Type 0} (result : Result Bool End) (may : Actor → Type 0) (serves : Bool) (seat : Pass) (P : Refusal → Type 0) → IsTried tried result → OnErr tried Kept → IfErr tried P
      → ((e : Refusal) → Kept → P e → e ≢ BoxFull → e ≢ BoxEmpty → HostRefusal may seat e) → IfErr result (HostEnd may serves seat)
  end_tried {Kept} (Ok true) may serves seat P is err by ends = tt
  end_tried {Kept} (Ok false) may serves seat P is err by ends = tt
  end_tried {Kept} (Err Told) may serves seat P is err by ends = elim is [ ]
  end_tried {Kept} (Err (Fault e)) may serves seat P is err by ends = ends e (subst (λ t. OnErr t Kept) is.0 err) (subst (λ t. IfErr t P) is.0 by) is.1 is.2
