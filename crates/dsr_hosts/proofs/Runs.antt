-- How the seats that came back become one more.
use Rattle.std.proofs.Common.{◌≡◌, ℕ, suc, ◌≤◌, ◌||◌, not, Bool, true, false, if◌then◌else◌, ◌++◌, List, [], ◌∷◌, Option, None, Some, ◌⊎◌, inl, inr, refl, sym, subst, ap, ap₂, ◌∙◌, length, arith}
use Rattle.std.specs.Prelude.{All, IfSome, is_none, nat_le, map}
use Rattle.std.proofs.lemmas.Bool.{and_cases, and_parts, false≢true, true≢false}
use Rattle.std.proofs.lemmas.Option.{none-some}
use Rattle.std.proofs.lemmas.List.{map-append, length-append, length-map}
use Rattle.std.proofs.lemmas.List.Elements.{All-append, All-cons, All-head, All-nil, All-tail}
use Rattle.dsr_base.specs.Member.{In, here}
use Rattle.dsr_base.proofs.MemberLemmas.{In-append_left, In-append_right, In-append_cases}
use Rattle.dsr_names.specs.declared.actor.Actor.{Actor}
use Rattle.dsr_script.specs.Script.{Script}
use Rattle.dsr_boxes.specs.Pass.{SharedBoxes, Pass}
use Rattle.dsr_mail.specs.declared.seats.Seats.{Seats}
use Rattle.dsr_rounds.specs.declared.end.End.{End}
use Rattle.dsr_rounds.specs.declared.end.End.TheVariants.{Told, Fault}
use Rattle.dsr_hosts.specs.declared.any_seat.AnySeat.{AnySeat}
use Rattle.dsr_hosts.specs.declared.any_seat.AnySeat.TheVariants.{Loyal, Traitor, OfClient}
use Rattle.dsr_hosts.specs.declared.ends.Ends.{Ends}
use Rattle.dsr_hosts.specs.declared.ends.Fault.{Fault as AFault}
use Rattle.dsr_hosts.specs.declared.ran.Ran.{Ran}
use Rattle.dsr_hosts.specs.Hosted.{IsServed, IsEnding, HasPostedOwed, WasAlwaysEager, HasPostedPlanned, HasPostedWell}
use Rattle.dsr_hosts.specs.Ranks.{first_with, ends_with}
use Rattle.dsr_hosts.specs.Returns.{WasRefused, AreSomeUnserved, HaveRun}
use Rattle.dsr_hosts.specs.Seats.{pass_of, is_of_client, IsNewSeat, IsSeatOf, IsAgain, IsBack, HasLast, HasRoomFor, SameRoom, AreNew, AreNone, AreAgain, all_of}

-- what holds of one holds of each in a list of that one
pub All-one : {X : Type 0} (P : X → Type 0) (x : X) → P x → All P (x ∷ [])
All-one P x p = All-cons P x [] p (All-nil P)

-- what holds of all and of one more
pub All-more : {X : Type 0} (P : X → Type 0) (xs ys : List X) (x : X) → All P xs → P x → ys ≡ xs ++ x ∷ [] → All P ys
All-more P xs ys x all p is = subst (All P) (sym is) (All-append P xs (x ∷ []) all (All-one P x p))

abbrev actor_of : Pass → Actor
actor_of seat = seat.actor

-- one seat more that is that of the same actor
again_more : (mail : SharedBoxes) (olds news xs ys : List Pass) (seat again : Pass) → AreAgain mail olds news → IsAgain mail seat again
    → xs ≡ olds ++ seat ∷ [] → ys ≡ news ++ again ∷ [] → AreAgain mail xs ys
again_more mail olds news xs ys seat again are is xs_are ys_are = (
  All-more (IsSeatOf mail) news ys again are.0 is.0 ys_are,
  ap (map actor_of) ys_are ∙ (map-append actor_of news (again ∷ [])
      ∙ (ap₂ (λ l a. l ++ a ∷ []) are.1 is.1
      ∙ (sym (map-append actor_of olds (seat ∷ [])) ∙ sym (ap (map actor_of) xs_are)))),
)

again_same : (mail : SharedBoxes) (olds news xs ys : List Pass) → AreAgain mail olds news → xs ≡ olds → ys ≡ news → AreAgain mail xs ys
again_same mail olds news xs ys are xs_are ys_are =
    subst (λ l. AreAgain mail l ys) (sym xs_are) (subst (AreAgain mail olds) (sym ys_are) are)

-- whoever was refused among the seats before is among those after, and so is one more
refused_on : (may : Actor → Type 0) (script : Script) (again : AnySeat) (end : Option End) (olds news : List Pass) (first old : Option AFault)
    → ((x : Pass) → In x olds → In x news) → In (pass_of again) news → IsEnding may script again end
    → IfSome old (λ fault. WasRefused may script olds fault.refusal)
    → IfSome first (λ fault. (old ≡ Some fault) ⊎ (end ≡ Some (Fault fault.refusal)))
    → IfSome first (λ fault. WasRefused may script news fault.refusal)
refused_on may script again end olds news None old on in_news ends before from = tt
refused_on may script again end olds news (Some fault) old on in_news ends before (inl is) =
    let was = subst (λ o. IfSome o (λ fault. WasRefused may script olds fault.refusal)) is before in
    (was.0, on was.0 was.1, was.2)
refused_on may script again end olds news (Some fault) old on in_news ends before (inr is) =
    (pass_of again, in_news, subst (IsEnding may script again) is ends)

-- ---- by the ends that came before, and the one more

-- the fault of the least rank is one of those before, or the one more
first_from : (old : Option AFault) (rank : ℕ) (end : Option End)
    → IfSome (first_with old rank end) (λ fault. (old ≡ Some fault) ⊎ (end ≡ Some (Fault fault.refusal)))
first_from None rank None = tt
first_from (Some f) rank None = inl refl
first_from None rank (Some Told) = tt
first_from (Some f) rank (Some Told) = inl refl
first_from None rank (Some (Fault e)) = inr refl
first_from (Some f) rank (Some (Fault e)) = either (nat_le f.rank rank)
  where
    new : AFault
    new = record { rank = rank; refusal = e }

    either : (b : Bool) → (Some f ≡ Some (if b then f else new)) ⊎ (Some (Fault e) ≡ Some (Fault (if b then f else new).refusal))
    either true = inl refl
    either false = inr refl

pub first_after : (ran after : Ends) (rank : ℕ) (is_client : Bool) (end : Option End) → after ≡ ends_with ran rank is_client end
    → IfSome after.first (λ fault. (ran.first ≡ Some fault) ⊎ (end ≡ Some (Fault fault.refusal)))
first_after ran after rank is_client end is =
    subst (λ (o : Ends). IfSome o.first (λ fault. (ran.first ≡ Some fault) ⊎ (end ≡ Some (Fault fault.refusal)))) (sym is)
    (first_from ran.first rank end)

-- all are served only if all before are
pub served_after : (ran after : Ends) (rank : ℕ) (is_client : Bool) (end : Option End) → after ≡ ends_with ran rank is_client end
    → after.served ≡ true → ran.served ≡ true
served_after ran after rank is_client end is served =
    (and_parts ran.served (not is_client || is_none end) (sym (ap (λ (o : Ends). o.served) is) ∙ served)).0

work_done : (is_client : Bool) (end : Option End) → (not is_client || is_none end) ≡ true → is_client ≡ true → end ≡ None
work_done true None test client = refl
work_done true (Some end) test client = absurd (false≢true test)
work_done false end test client = absurd (false≢true client)

pub done_after : (ran after : Ends) (rank : ℕ) (is_client : Bool) (end : Option End) → after ≡ ends_with ran rank is_client end
    → after.served ≡ true → is_client ≡ true → end ≡ None
done_after ran after rank is_client end is served client =
    work_done is_client end (and_parts ran.served (not is_client || is_none end) (sym (ap (λ (o : Ends). o.served) is) ∙ served)).1 client

-- if nothing was refused and not all are served, some client is not: one of those before, or the one more
left_from : (may : Actor → Type 0) (script : Script) (again : AnySeat) (end : Option End) (olds news : List Pass) (old : Option AFault) (served : Bool)
    (rank : ℕ) → ((x : Pass) → In x olds → In x news) → (is_of_client again ≡ true → In (pass_of again) news) → IsEnding may script again end
    → (old ≡ None → served ≡ false → AreSomeUnserved script olds) → first_with old rank end ≡ None
    → (served ≡ false) ⊎ ((not (is_of_client again) || is_none end) ≡ false) → AreSomeUnserved script news
left_from may script again end olds news old served rank on in_news ends before none (inl less) = was end none
  where
    was : (o : Option End) → first_with old rank o ≡ None → AreSomeUnserved script news
    was None none = let found = before none less in (found.0, on found.0 found.1, found.2)
    was (Some Told) none = let found = before none less in (found.0, on found.0 found.1, found.2)
    was (Some (Fault e)) none = absurd (none-some _ (sym none))
left_from may script (Loyal seat) end olds news old served rank on in_news ends before none (inr test) = absurd (true≢false test)
left_from may script (Traitor seat) end olds news old served rank on in_news ends before none (inr test) = absurd (true≢false test)
left_from may script (OfClient seat) None olds news old served rank on in_news ends before none (inr test) = absurd (true≢false test)
left_from may script (OfClient seat) (Some Told) olds news old served rank on in_news ends before none (inr test) = (seat, in_news refl, ends)
left_from may script (OfClient seat) (Some (Fault e)) olds news old served rank on in_news ends before none (inr test) =
    absurd (none-some _ (sym none))

left_after : (may : Actor → Type 0) (script : Script) (again : AnySeat) (end : Option End) (olds news : List Pass) (ran after : Ends) (rank : ℕ)
    → after ≡ ends_with ran rank (is_of_client again) end
    → ((x : Pass) → In x olds → In x news) → (is_of_client again ≡ true → In (pass_of again) news) → IsEnding may script again end
    → (ran.first ≡ None → ran.served ≡ false → AreSomeUnserved script olds)
    → after.first ≡ None → after.served ≡ false → AreSomeUnserved script news
left_after may script again end olds news ran after rank is on in_news ends before none less =
    left_from may script again end olds news ran.first ran.served rank on in_news ends before
    (sym (ap (λ (o : Ends). o.first) is) ∙ none)
    (and_cases ran.served (not (is_of_client again) || is_none end) (sym (ap (λ (o : Ends). o.served) is) ∙ less))

-- ---- the seats

room_on : (all others ran after : Seats) → SameRoom all others → SameRoom others ran → SameRoom ran after → SameRoom all after
room_on all others ran after first second third = record {
  replicas = third.replicas ∙ (second.replicas ∙ first.replicas);
  traitors = third.traitors ∙ (second.traitors ∙ first.traitors);
  clients = third.clients ∙ (second.clients ∙ first.clients);
}

-- something in one of three lists is in all of them joined
in_first : (x : Pass) (a b c : List Pass) → In x a → In x (a ++ (b ++ c))
in_first x a b c h = In-append_left x a (b ++ c) h

in_second : (x : Pass) (a b c : List Pass) → In x b → In x (a ++ (b ++ c))
in_second x a b c h = In-append_right x a (b ++ c) (In-append_left x b c h)

in_third : (x : Pass) (a b c : List Pass) → In x c → In x (a ++ (b ++ c))
in_third x a b c h = In-append_right x a (b ++ c) (In-append_right x b c h)

in_longer : (a b c d e f : List Pass) → ((x : Pass) → In x a → In x d) → ((x : Pass) → In x b → In x e) → ((x : Pass) → In x c → In x f)
    → (x : Pass) → In x (a ++ (b ++ c)) → In x (d ++ (e ++ f))
in_longer a b c d e f first second third x h = elim (In-append_cases x a (b ++ c) h) [
  | inl one ↦ in_first x d e f (first x one)
  | inr more ↦ elim (In-append_cases x b c more) [
    | inl two ↦ in_second x d e f (second x two)
    | inr three ↦ in_third x d e f (third x three)
  ]
]

in_more : (xs ys : List Pass) (more : Pass) → ys ≡ xs ++ more ∷ [] → (x : Pass) → In x xs → In x ys
in_more xs ys more is x h = subst (In x) (sym is) (In-append_left x xs (more ∷ []) h)

in_same : (xs ys : List Pass) → ys ≡ xs → (x : Pass) → In x xs → In x ys
in_same xs ys is x h = subst (In x) (sym is) h

in_last : (xs ys : List Pass) (last : Pass) → ys ≡ xs ++ last ∷ [] → In last ys
in_last xs ys last is = subst (In last) (sym is) (In-append_right last xs (last ∷ []) (here refl))

-- if all hosts but one have run, and then that one, all have run
pub come_on : (may : Actor → Type 0) (mail : SharedBoxes) (script : Script) (all others : Seats) (ran after : Ran)
    (seat again : AnySeat) (end : Option End)
    → HasLast all seat others → SameRoom all others → HaveRun may mail script others ran → IsBack mail seat again → IsEnding may script again end
    → HasPostedWell script again → HasLast after.seats again ran.seats → SameRoom ran.seats after.seats
    → (rank : ℕ) → after.ends ≡ ends_with ran.ends rank (is_of_client again) end
    → HaveRun may mail script all after
come_on may mail script all others ran after (Loyal seat) (Loyal again) end last room run same ends posted last' room' rank is = record {
  replicas = again_more mail others.replicas.items ran.seats.replicas.items _ _ seat again run.replicas same last.0 last'.0;
  traitors = again_same mail others.traitors.items ran.seats.traitors.items _ _ run.traitors last.1 last'.1;
  clients = again_same mail others.clients.items ran.seats.clients.items _ _ run.clients last.2 last'.2;
  room = room_on all others ran.seats after.seats room run.room room';
  served = λ yes. subst (All (IsServed script)) (sym last'.2) (run.served (served_after ran.ends after.ends rank false end is yes));
  unserved = left_after may script (Loyal again) end ran.seats.clients.items after.seats.clients.items ran.ends after.ends rank is (in_same _ _ last'.2)
      (λ no. absurd (false≢true no)) ends run.unserved;
  refused = refused_on may script (Loyal again) end (all_of ran.seats) (all_of after.seats) after.ends.first ran.ends.first
      (in_longer ran.seats.replicas.items ran.seats.traitors.items ran.seats.clients.items after.seats.replicas.items after.seats.traitors.items after.seats.clients.items
      (in_more _ _ again last'.0) (in_same _ _ last'.1) (in_same _ _ last'.2))
      (in_first again after.seats.replicas.items after.seats.traitors.items after.seats.clients.items (in_last _ _ again last'.0)) ends run.refused (first_after ran.ends after.ends rank false end is);
  owed = All-more HasPostedOwed ran.seats.replicas.items _ again run.owed posted.0 last'.0;
  eager = All-more WasAlwaysEager ran.seats.replicas.items _ again run.eager posted.1 last'.0;
  planned = subst (All (HasPostedPlanned script)) (sym last'.1) run.planned;
}
come_on may mail script all others ran after (Loyal seat) (Traitor again) end last room run same ends posted last' room' rank is = absurd same
come_on may mail script all others ran after (Loyal seat) (OfClient again) end last room run same ends posted last' room' rank is = absurd same
come_on may mail script all others ran after (Traitor seat) (Loyal again) end last room run same ends posted last' room' rank is = absurd same
come_on may mail script all others ran after (Traitor seat) (Traitor again) end last room run same ends posted last' room' rank is = record {
  replicas = again_same mail others.replicas.items ran.seats.replicas.items _ _ run.replicas last.1 last'.1;
  traitors = again_more mail others.traitors.items ran.seats.traitors.items _ _ seat again run.traitors same last.0 last'.0;
  clients = again_same mail others.clients.items ran.seats.clients.items _ _ run.clients last.2 last'.2;
  room = room_on all others ran.seats after.seats room run.room room';
  served = λ yes. subst (All (IsServed script)) (sym last'.2) (run.served (served_after ran.ends after.ends rank false end is yes));
  unserved = left_after may script (Traitor again) end ran.seats.clients.items after.seats.clients.items ran.ends after.ends rank is (in_same _ _ last'.2)
      (λ no. absurd (false≢true no)) ends run.unserved;
  refused = refused_on may script (Traitor again) end (all_of ran.seats) (all_of after.seats) after.ends.first ran.ends.first
      (in_longer ran.seats.replicas.items ran.seats.traitors.items ran.seats.clients.items after.seats.replicas.items after.seats.traitors.items after.seats.clients.items
      (in_same _ _ last'.1) (in_more _ _ again last'.0) (in_same _ _ last'.2))
      (in_second again after.seats.replicas.items after.seats.traitors.items after.seats.clients.items (in_last _ _ again last'.0)) ends run.refused (first_after ran.ends after.ends rank false end is);
  owed = subst (All HasPostedOwed) (sym last'.1) run.owed;
  eager = subst (All WasAlwaysEager) (sym last'.1) run.eager;
  planned = All-more (HasPostedPlanned script) ran.seats.traitors.items _ again run.planned posted last'.0;
}
come_on may mail script all others ran after (Traitor seat) (OfClient again) end last room run same ends posted last' room' rank is = absurd same
come_on may mail script all others ran after (OfClient seat) (Loyal again) end last room run same ends posted last' room' rank is = absurd same
come_on may mail script all others ran after (OfClient seat) (Traitor again) end last room run same ends posted last' room' rank is = absurd same
come_on may mail script all others ran after (OfClient seat) (OfClient again) end last room run same ends posted last' room' rank is = record {
  replicas = again_same mail others.replicas.items ran.seats.replicas.items _ _ run.replicas last.1 last'.1;
  traitors = again_same mail others.traitors.items ran.seats.traitors.items _ _ run.traitors last.2 last'.2;
  clients = again_more mail others.clients.items ran.seats.clients.items _ _ seat again run.clients same last.0 last'.0;
  room = room_on all others ran.seats after.seats room run.room room';
  served = λ yes. All-more (IsServed script) ran.seats.clients.items _ again (run.served (served_after ran.ends after.ends rank true end is yes))
      (subst (IsEnding may script (OfClient again)) (done_after ran.ends after.ends rank true end is yes refl) ends) last'.0;
  unserved = left_after may script (OfClient again) end ran.seats.clients.items after.seats.clients.items ran.ends after.ends rank is (in_more _ _ again last'.0)
      (λ yes. in_last _ _ again last'.0) ends run.unserved;
  refused = refused_on may script (OfClient again) end (all_of ran.seats) (all_of after.seats) after.ends.first ran.ends.first
      (in_longer ran.seats.replicas.items ran.seats.traitors.items ran.seats.clients.items after.seats.replicas.items after.seats.traitors.items after.seats.clients.items
      (in_same _ _ last'.1) (in_same _ _ last'.2) (in_more _ _ again last'.0))
      (in_third again after.seats.replicas.items after.seats.traitors.items after.seats.clients.items (in_last _ _ again last'.0)) ends run.refused (first_after ran.ends after.ends rank true end is);
  owed = subst (All HasPostedOwed) (sym last'.1) run.owed;
  eager = subst (All WasAlwaysEager) (sym last'.1) run.eager;
  planned = subst (All (HasPostedPlanned script)) (sym last'.2) run.planned;
}

-- as many seats came back as there were
same_length : (xs ys : List Pass) → map actor_of ys ≡ map actor_of xs → length ys ≡ length xs
same_length xs ys same = sym (length-map ys actor_of) ∙ (ap length same ∙ length-map xs actor_of)

-- so there is room for the one that was taken out
room_of_one : (len cap len' cap' count : ℕ) → len ≤ cap → len ≡ suc count → len' ≡ count → cap' ≡ cap → suc len' ≤ cap'
room_of_one len cap len' cap' count fits one same room = omega (arith, fits, one, same, room)

more_length : (xs ys : List Pass) (x : Pass) → ys ≡ xs ++ x ∷ [] → length ys ≡ suc (length xs)
more_length xs ys x is = let e = ap length is ∙ length-append xs (x ∷ []) in omega (arith, e)

pub room_left : (may : Actor → Type 0) (mail : SharedBoxes) (script : Script) (all others : Seats) (ran : Ran) (seat again : AnySeat)
    → HasLast all seat others → SameRoom all others → HaveRun may mail script others ran → IsBack mail seat again → HasRoomFor ran.seats again
room_left may mail script all others ran (Loyal seat) (Loyal again) last room run same =
    room_of_one _ _ _ _ (length others.replicas.items) all.replicas.ok.1 (all.replicas.ok.0 ∙ more_length _ _ seat last.0)
    (ran.seats.replicas.ok.0 ∙ same_length _ _ run.replicas.1) (run.room.replicas ∙ room.replicas)
room_left may mail script all others ran (Loyal seat) (Traitor again) last room run same = absurd same
room_left may mail script all others ran (Loyal seat) (OfClient again) last room run same = absurd same
room_left may mail script all others ran (Traitor seat) (Loyal again) last room run same = absurd same
room_left may mail script all others ran (Traitor seat) (Traitor again) last room run same =
    room_of_one _ _ _ _ (length others.traitors.items) all.traitors.ok.1 (all.traitors.ok.0 ∙ more_length _ _ seat last.0)
    (ran.seats.traitors.ok.0 ∙ same_length _ _ run.traitors.1) (run.room.traitors ∙ room.traitors)
room_left may mail script all others ran (Traitor seat) (OfClient again) last room run same = absurd same
room_left may mail script all others ran (OfClient seat) (Loyal again) last room run same = absurd same
room_left may mail script all others ran (OfClient seat) (Traitor again) last room run same = absurd same
room_left may mail script all others ran (OfClient seat) (OfClient again) last room run same =
    room_of_one _ _ _ _ (length others.clients.items) all.clients.ok.1 (all.clients.ok.0 ∙ more_length _ _ seat last.0)
    (ran.seats.clients.ok.0 ∙ same_length _ _ run.clients.1) (run.room.clients ∙ room.clients)

-- what holds of all holds of those before the last, and of the last
all_before : {X : Type 0} (P : X → Type 0) (xs : List X) (x : X) → All P (xs ++ x ∷ []) → All P xs × P x
all_before P [] x all = (All-nil P, All-head P x [] all)
all_before P (y ∷ xs) x all =
    let later = all_before P xs x (All-tail P y (xs ++ x ∷ []) all) in
    (All-cons P y xs (All-head P y (xs ++ x ∷ []) all) later.0, later.1)

-- new seats without the last are new, and so is the last
less_new : (mail : SharedBoxes) (xs ys : List Pass) (x : Pass) → All (IsNewSeat mail) ys → ys ≡ xs ++ x ∷ [] → All (IsNewSeat mail) xs × IsNewSeat mail x
less_new mail xs ys x all is = all_before (IsNewSeat mail) xs x (subst (All (IsNewSeat mail)) is all)

pub still_new : (mail : SharedBoxes) (all others : Seats) (seat : AnySeat) → AreNew mail all → HasLast all seat others → AreNew mail others × IsNewSeat mail (pass_of seat)
still_new mail all others (Loyal seat) new last =
    let less = less_new mail others.replicas.items _ seat new.replicas last.0 in
    (record { replicas = less.0; traitors = subst (All (IsNewSeat mail)) last.1 new.traitors; clients = subst (All (IsNewSeat mail)) last.2 new.clients }, less.1)
still_new mail all others (Traitor seat) new last =
    let less = less_new mail others.traitors.items _ seat new.traitors last.0 in
    (record { replicas = subst (All (IsNewSeat mail)) last.1 new.replicas; traitors = less.0; clients = subst (All (IsNewSeat mail)) last.2 new.clients }, less.1)
still_new mail all others (OfClient seat) new last =
    let less = less_new mail others.clients.items _ seat new.clients last.0 in
    (record { replicas = subst (All (IsNewSeat mail)) last.1 new.replicas; traitors = subst (All (IsNewSeat mail)) last.2 new.traitors; clients = less.0 }, less.1)

-- from no seats nothing comes back
again_none : (mail : SharedBoxes) (xs ys : List Pass) → xs ≡ [] → ys ≡ [] → AreAgain mail xs ys
again_none mail xs ys no_xs no_ys = again_same mail [] [] xs ys (All-nil (IsSeatOf mail), refl) no_xs no_ys

pub none_run : (may : Actor → Type 0) (mail : SharedBoxes) (script : Script) (all none : Seats) (ends : Ends) → AreNone all none → SameRoom all none
    → ends.first ≡ None → ends.served ≡ true → HaveRun may mail script all (record { seats = none; ends = ends })
none_run may mail script all none ends are room first served = record {
  replicas = again_none mail _ _ are.replicas.0 are.replicas.1;
  traitors = again_none mail _ _ are.traitors.0 are.traitors.1;
  clients = again_none mail _ _ are.clients.0 are.clients.1;
  room = room;
  served = λ is. subst (All (IsServed script)) (sym are.clients.1) (All-nil (IsServed script));
  unserved = λ no less. absurd (true≢false (sym served ∙ less));
  refused = subst (λ o. IfSome o (λ fault. WasRefused may script (all_of none) fault.refusal)) (sym first) tt;
  owed = subst (All HasPostedOwed) (sym are.replicas.1) (All-nil HasPostedOwed);
  eager = subst (All WasAlwaysEager) (sym are.replicas.1) (All-nil WasAlwaysEager);
  planned = subst (All (HasPostedPlanned script)) (sym are.traitors.1) (All-nil (HasPostedPlanned script));
}
